-- Where ensembles can start: at two bytes 7F in a row.
use Rattle.std.proofs.Common.{◌≡◌, ℕ, zero, suc, ◌+◌, ◌-◌, ◌<◌, ◌≤◌, Bool, true, false, cond, ◌&&◌, eqb, ltb, ◌⊎◌, List, [], ◌∷◌, length, get_or, take, drop, sym, ap, ◌∙◌, subst, inl, inr, arith}
use Rattle.std.proofs.lemmas.List.{length-take-le, get_or-drop, get_or-take}
use Rattle.std.proofs.lemmas.Bool.{eq-eqb, ltb-true, and_parts}
use Rattle.framing.specs.Laws.{Bytes}
use Rattle.pd0.specs.Ensembles.{IsEnsemble}
use Rattle.pd0.specs.Layout.{mark, size_of}
use Rattle.pd0.specs.Questions.{longest_size}
use Rattle.pd0.specs.Verdicts.{judged_run}
use Rattle.pd0.specs.Sounds.{exactly_ensembles}
use Rattle.receiver.specs.Promise.{SoundAt, NoneInside, Agree}

-- each element is a byte, as a test
abbrev pub all_bytes : List ℕ → Bool
all_bytes [] = true
all_bytes (x ∷ xs) = ltb x 256 && all_bytes xs

pub bytes_from : (xs : List ℕ) → all_bytes xs ≡ true → Bytes xs
bytes_from [] t k = omega arith
bytes_from (x ∷ xs) t zero = ltb-true x 256 (and_parts _ _ t).0
bytes_from (x ∷ xs) t (suc k) = bytes_from xs (and_parts _ _ t).1 k

-- what follows the joints is the same
pub agree_from : (xs ys : List ℕ) (j k : ℕ) → drop j xs ≡ drop k ys → Agree xs j ys k
agree_from xs ys j k e d h g = sym (get_or-drop j xs d 0) ∙ ap (λ zs. get_or zs d 0) e ∙ get_or-drop k ys d 0

-- the places of two marks in a row, counted from i on
abbrev pub marks_from : ℕ → List ℕ → List ℕ
marks_from i [] = []
marks_from i (x ∷ xs) = cond (eqb x mark && eqb (get_or xs 0 0) mark) (i ∷ marks_from (i + 1) xs) (marks_from (i + 1) xs)

abbrev pub OneOf : ℕ → List ℕ → Type 0
OneOf n [] = ⊥
OneOf n (m ∷ ms) = (n ≡ m) ⊎ OneOf n ms

all_marks : (i : ℕ) (xs : List ℕ) (s : ℕ) → get_or xs s 0 ≡ mark → get_or xs (suc s) 0 ≡ mark → OneOf (i + s) (marks_from i xs)
all_marks i [] s a b = absurd (omega arith)
all_marks i (x ∷ xs) zero a b = rw (eq-eqb x mark a, eq-eqb (get_or xs 0 0) mark b) (inl (omega arith))
all_marks i (x ∷ xs) (suc s) a b = by (eqb x mark && eqb (get_or xs 0 0) mark) (subst (λ n. OneOf n (marks_from (i + 1) xs)) (omega arith) (all_marks (i + 1) xs s a b))
  where
    by : (t : Bool) → OneOf (i + suc s) (marks_from (i + 1) xs) → OneOf (i + suc s) (cond t (i ∷ marks_from (i + 1) xs) (marks_from (i + 1) xs))
    by true later = inr later
    by false later = later

-- a sound frame starts at two marks, and is no longer than the longest
record Starts (xs : List ℕ) (s n : ℕ) : Type 0 where
  first : get_or xs s 0 ≡ mark
  second : get_or xs (suc s) 0 ≡ mark
  size : n ≤ longest_size

sound_starts : (xs : List ℕ) (s n : ℕ) → SoundAt judged_run xs s n → Starts xs s n
sound_starts xs s n p = record {
  first = at 0 s (omega arith) (omega (arith, long)) ∙ e.marked.0;
  second = at 1 (suc s) (omega arith) (omega (arith, long)) ∙ e.marked.1;
  size = omega (arith, long, e.size);
}
  where
    q : (n ≤ length (drop s xs)) × IsEnsemble (take n (drop s xs))
    q = (exactly_ensembles (drop s xs) n).0 p.1

    e : IsEnsemble (take n (drop s xs))
    e = q.1

    long : n ≡ size_of (take n (drop s xs)) + 2
    long = sym (length-take-le n (drop s xs) q.0) ∙ e.whole

    at : (i k : ℕ) → k ≡ s + i → i < n → get_or xs k 0 ≡ get_or (take n (drop s xs)) i 0
    at i k same h = ap (λ m. get_or xs m 0) same ∙ sym (get_or-take n (drop s xs) i 0 h ∙ get_or-drop s xs i 0)

-- Behind the joint there are two marks in a row at two places alone, as far apart as the longest is long.
pub none_inside : (xs : List ℕ) (j : ℕ) → marks_from j (drop j xs) ≡ j ∷ (j + longest_size) ∷ [] → NoneInside judged_run xs j
none_inside xs j two s n t m hs ht a b (lt, gt) = by (place s hs (sound_starts xs s n a)) (place t ht (sound_starts xs t m b))
  where
    place : (s : ℕ) {n : ℕ} → j ≤ s → Starts xs s n → OneOf s (j ∷ (j + longest_size) ∷ [])
    place s h p =
        let i = s - j in
        let e : j + i ≡ s = omega arith in
        let f : j + suc i ≡ suc s = omega arith in
        subst (λ k. OneOf k (j ∷ (j + longest_size) ∷ [])) e (subst (OneOf (j + i)) two
        (all_marks j (drop j xs) i (get_or-drop j xs i 0 ∙ ap (λ k. get_or xs k 0) e ∙ p.first) (get_or-drop j xs (suc i) 0 ∙ ap (λ k. get_or xs k 0) f ∙ p.second)))

    by : OneOf s (j ∷ (j + longest_size) ∷ []) → OneOf t (j ∷ (j + longest_size) ∷ []) → ⊥
    by (inl p) (inl q) = omega arith
    by (inl p) (inr (inl q)) = omega (arith, (sound_starts xs s n a).size)
    by (inl p) (inr (inr q)) = q
    by (inr (inl p)) (inl q) = omega arith
    by (inr (inl p)) (inr (inl q)) = omega arith
    by (inr (inl p)) (inr (inr q)) = q
    by (inr (inr p)) q = p
