-- Tails of a run, and what bytes added behind it leave.
use Rattle.std.proofs.Common.{◌≡◌, ℕ, zero, suc, ◌+◌, ◌≤◌, Bool, true, ◌⊎◌, List, [], ◌∷◌, ◌++◌, length, take, drop, inl, inr, arith}
use Rattle.std.proofs.lemmas.List.{take-append-drop, length-append, length-drop, get_or-drop, drop-append-le}
use Rattle.framing.specs.Laws.{Lawful, Run, Bytes}
use Rattle.framing.specs.declared.verdict.Verdict.{Verdict}
use Rattle.framing.specs.declared.verdict.Verdict.TheVariants.{Sound, Unfit}
use Rattle.receiver.specs.Promise.{SoundAt}

-- from an equation between different constructors, which cc turns into this one
pub never : {X : Type 0} → ◌≡◌ {A = ℕ} 0 1 → X
never e = absurd (omega arith)

pub bytes_drop : (k : ℕ) (xs : List ℕ) → Bytes xs → Bytes (drop k xs)
bytes_drop k xs b i = rw (get_or-drop k xs i 0) (b (k + i))

pub bytes_front : (xs ys : List ℕ) → Bytes (xs ++ ys) → Bytes xs
bytes_front [] ys b k = omega arith
bytes_front (x ∷ xs) ys b zero = b zero
bytes_front (x ∷ xs) ys b (suc k) = bytes_front xs ys (λ j. b (suc j)) k

pub bytes_take : (n : ℕ) (xs : List ℕ) → Bytes xs → Bytes (take n xs)
bytes_take n xs b = bytes_front (take n xs) (drop n xs) (rw take-append-drop b)

pub bytes_append : (xs ys : List ℕ) → Bytes xs → Bytes ys → Bytes (xs ++ ys)
bytes_append [] ys h g k = g k
bytes_append (x ∷ xs) ys h g zero = h zero
bytes_append (x ∷ xs) ys h g (suc k) = bytes_append xs ys (λ j. h (suc j)) g k

pub run_drop : (k : ℕ) (xs : List ℕ) → Run xs → Run (drop k xs)
run_drop k xs r = (bytes_drop k xs r.0, rw (length-drop k xs) (omega (arith, r.1)))

pub run_front : (xs ys : List ℕ) → Run (xs ++ ys) → Run xs
run_front xs ys r = (bytes_front xs ys r.0, omega (arith, length-append xs ys, r.1))

-- no frame starts here, whatever is still taken
abbrev pub Clear : (List ℕ → Verdict) → Bool → List ℕ → Type 0
Clear judged ended xs = (judged xs ≡ Unfit) ⊎ ((ended ≡ true) × ((n : ℕ) → judged xs ≡ Sound n → ⊥))

module _ {J : List ℕ → Verdict} {L : ℕ} (law : Lawful J L) where
  pub sound_more : (xs more : List ℕ) (at n : ℕ) → Run (xs ++ more) → SoundAt J xs at n → SoundAt J (xs ++ more) at n
  sound_more xs more at n r s =
      let le : at ≤ length xs = omega (arith, s.0) in
      let e = drop-append-le at xs more le in
      (omega (arith, length-append xs more, s.0), rw e (law.sound_stays (drop at xs) more n (rw e at (run_drop at (xs ++ more) r)) s.1))

  pub unfit_more : (xs more : List ℕ) (at : ℕ) → at ≤ length xs → Run (xs ++ more) → J (drop at xs) ≡ Unfit → J (drop at (xs ++ more)) ≡ Unfit
  unfit_more xs more at le r u =
      let e = drop-append-le at xs more le in
      rw e (law.unfit_stays (drop at xs) more (rw e at (run_drop at (xs ++ more) r)) u)

  pub clear_unsound : (ended : Bool) (xs : List ℕ) (n : ℕ) → Clear J ended xs → J xs ≡ Sound n → ⊥
  clear_unsound ended xs n (inl u) s = cc
  clear_unsound ended xs n (inr p) s = p.1 n s
