-- A lawful framing behind a stamp is lawful.
use Rattle.std.specs.Prelude.{◌≡◌, ℕ, ◌+◌, ◌-◌, ◌^◌, ◌<◌, ◌≤◌, Bool, true, false, List, ◌++◌, length, drop, refl}
use Rattle.std.proofs.Common.{sym, ◌∙◌, arith}
use Rattle.std.proofs.lemmas.Bool.{le-ltb, false≢true}
use Rattle.std.proofs.lemmas.Bool.Decides.{nat_tests}
use Rattle.std.proofs.lemmas.List.{get_or_append_left, drop-append-le, length-append, length-drop, get_or-drop}
use Rattle.framing.specs.Laws.{Lawful, Run}
use Rattle.framing.specs.Stamped.{stamped_by, stamped, is_stamp, with_stamp}
use Rattle.framing.specs.declared.verdict.Verdict.{Verdict}
use Rattle.framing.specs.declared.verdict.Verdict.TheVariants.{Sound, Short, Unfit}

-- what follows nine bytes of a run is a run
behind : (xs : List ℕ) → Run xs → Run (drop 9 xs)
behind xs r = ((λ k. rw get_or-drop (r.0 (9 + k))), rw length-drop (omega (arith, r.1)))

sound_behind :
    (len : ℕ) (s : Bool) (v : Verdict) (n : ℕ) → stamped_by len s v ≡ Sound n
    → (9 ≤ len) × (s ≡ true) × ((k : ℕ) × (v ≡ Sound k) × (n ≡ with_stamp k))
sound_behind len true (Sound k) n e = (grind (arith, nat_tests), refl, (k, refl, grind (arith, nat_tests)))
sound_behind len true (Short k) n e = absurd (grind (arith, nat_tests))
sound_behind len true Unfit n e = absurd (grind (arith, nat_tests))
sound_behind len false v n e = absurd (grind (arith, nat_tests))

short_behind :
    (len : ℕ) (s : Bool) (v : Verdict) (m : ℕ) → stamped_by len s v ≡ Short m → ((k : ℕ) → v ≡ Short k → (len - 9 < k) × (k < 2 ^ 64))
    → (len < 2 ^ 63) → len < m
short_behind len true (Sound k) m e h l = grind (arith, nat_tests)
short_behind len true (Short k) m e h l = let w = h k refl in grind (arith, nat_tests)
short_behind len true Unfit m e h l = grind (arith, nat_tests)
short_behind len false v m e h l = grind (arith, nat_tests)

short_below :
    (len : ℕ) (s : Bool) (v : Verdict) (m a : ℕ) → stamped_by len s v ≡ Short m → ((k : ℕ) → v ≡ Short k → k ≤ a) → m ≤ with_stamp a
short_below len true (Sound k) m a e h = grind (arith, nat_tests)
short_below len true (Short k) m a e h = let w = h k refl in grind (arith, nat_tests)
short_below len true Unfit m a e h = grind (arith, nat_tests)
short_below len false v m a e h = grind (arith, nat_tests)

unfit_behind :
    (len : ℕ) (s : Bool) (v : Verdict) → stamped_by len s v ≡ Unfit → (9 ≤ len) × (s ≡ true → v ≡ Unfit)
unfit_behind len true (Sound k) e = absurd (grind (arith, nat_tests))
unfit_behind len true (Short k) e = absurd (grind (arith, nat_tests))
unfit_behind len true Unfit e = (grind (arith, nat_tests), λ _. refl)
unfit_behind len false v e = (grind (arith, nat_tests), λ t. absurd (false≢true t))

same :
    (l l' : ℕ) (s : Bool) (v v' : Verdict) → 9 ≤ l → l ≤ l' → (s ≡ true → v' ≡ v) → stamped_by l' s v' ≡ stamped_by l s v
same l l' true v v' a b e = rw (e refl, le-ltb l 9 a, le-ltb l' 9 (omega arith))
same l l' false v v' a b e = rw (le-ltb l 9 a, le-ltb l' 9 (omega arith))

-- a stamp is seen in its first nine bytes
stamp_stays : (xs more : List ℕ) → 9 ≤ length xs → is_stamp (xs ++ more) ≡ is_stamp xs
unfolding is_stamp
stamp_stays xs more h =
    rw (
      get_or_append_left xs more 0 0 (omega arith),
      get_or_append_left xs more 0 1 (omega arith),
      get_or_append_left xs more 0 2 (omega arith),
      get_or_append_left xs more 0 3 (omega arith),
      get_or_append_left xs more 0 4 (omega arith),
    )

module _ {F : List ℕ → Verdict} {a : ℕ} (la : Lawful F a) where
  size : (xs : List ℕ) (n : ℕ) → Run xs → stamped F xs ≡ Sound n → (1 ≤ n) × (n ≤ length xs) × (n ≤ with_stamp a)
  size xs n r e =
      let p = sound_behind (length xs) (is_stamp xs) (F (drop 9 xs)) n e in
      let s = la.size (drop 9 xs) p.2.0 (behind xs r) p.2.1 in
      let l = length-drop 9 xs in
      (omega (arith, p.2.2), omega (arith, p.2.2, p.0), omega (arith, p.2.2))

  waiting : (xs : List ℕ) (m : ℕ) → Run xs → stamped F xs ≡ Short m → (length xs < m) × (m ≤ with_stamp a)
  waiting xs m r e =
      let w : (k : ℕ) → F (drop 9 xs) ≡ Short k → (length (drop 9 xs) < k) × (k ≤ a) = λ k f. la.waiting (drop 9 xs) k (behind xs r) f in
      let l = length-drop 9 xs in (
        short_behind (length xs) (is_stamp xs) (F (drop 9 xs)) m e (λ k f. (omega (arith, (w k f).0), omega (arith, (w k f).1, la.range.1))) r.1,
        short_below (length xs) (is_stamp xs) (F (drop 9 xs)) m a e (λ k f. (w k f).1),
      )

  -- a verdict on more bytes is the same where the stamp is there and the verdict behind it is the same
  stays :
      (xs more : List ℕ) → Run (xs ++ more) → 9 ≤ length xs
      → (is_stamp xs ≡ true → Run (drop 9 xs ++ more) → F (drop 9 xs ++ more) ≡ F (drop 9 xs)) → stamped F (xs ++ more) ≡ stamped F xs
  stays xs more r h e =
      let l = length-append xs more in
      let b : Run (drop 9 xs ++ more) = rw (drop-append-le 9 xs more h) at (behind (xs ++ more) r) in
      rw (stamp_stays xs more h, drop-append-le 9 xs more h)
      (same (length xs) (length (xs ++ more)) (is_stamp xs) (F (drop 9 xs)) (F (drop 9 xs ++ more)) h (omega arith) (λ t. e t b))

  sound_stays : (xs more : List ℕ) (n : ℕ) → Run (xs ++ more) → stamped F xs ≡ Sound n → stamped F (xs ++ more) ≡ Sound n
  sound_stays xs more n r e =
      let p = sound_behind (length xs) (is_stamp xs) (F (drop 9 xs)) n e in
      let f = p.2.1 in
      stays xs more r p.0 (λ t b. la.sound_stays (drop 9 xs) more p.2.0 b f ∙ sym f) ∙ e

  unfit_stays : (xs more : List ℕ) → Run (xs ++ more) → stamped F xs ≡ Unfit → stamped F (xs ++ more) ≡ Unfit
  unfit_stays xs more r e =
      let p = unfit_behind (length xs) (is_stamp xs) (F (drop 9 xs)) e in
      stays xs more r p.0 (λ t b. la.unfit_stays (drop 9 xs) more b (p.1 t) ∙ sym (p.1 t)) ∙ e

  pub stamped_lawful : Lawful (stamped F) (with_stamp a)
  stamped_lawful =
      record {
        range = let p = la.range in omega arith;
        size = size;
        waiting = waiting;
        sound_stays = sound_stays;
        unfit_stays = unfit_stays;
      }
