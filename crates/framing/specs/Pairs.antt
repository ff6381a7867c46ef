-- A pair of lawful framings is lawful.
use Rattle.std.specs.Prelude.{◌≡◌, ℕ, ◌<◌, ◌≤◌, max, List, ◌++◌, length, ◌≢◌, refl}
use Rattle.std.proofs.Common.{arith}
use Rattle.framing.specs.Laws.{Lawful, Run}
use Rattle.framing.specs.Pair.{either}
use Rattle.framing.specs.declared.verdict.Verdict.{Verdict}
use Rattle.framing.specs.declared.verdict.Verdict.TheVariants.{Sound, Short, Unfit}

module _ {A B : List ℕ → Verdict} {a b : ℕ} (la : Lawful A a) (lb : Lawful B b) where
  size : (xs : List ℕ) (n : ℕ) → Run xs → (v : Verdict) → A xs ≡ v → either v (B xs) ≡ Sound n → (1 ≤ n) × (n ≤ length xs) × (n ≤ max a b)
  size xs n r (Sound k) e h = let s = la.size xs k r e in let q : k ≡ n = cc in omega arith
  size xs n r (Short k) e h = let z : ◌≡◌ {A = ℕ} 0 1 = cc in omega arith
  size xs n r Unfit e h = let s = lb.size xs n r h in omega arith

  waiting : (xs : List ℕ) (n : ℕ) → Run xs → (v : Verdict) → A xs ≡ v → either v (B xs) ≡ Short n → (length xs < n) × (n ≤ max a b)
  waiting xs n r (Sound k) e h = let z : ◌≡◌ {A = ℕ} 0 1 = cc in omega arith
  waiting xs n r (Short k) e h = let s = la.waiting xs k r e in let q : k ≡ n = cc in omega arith
  waiting xs n r Unfit e h = let s = lb.waiting xs n r h in omega arith

  -- what is not short stays
  stays :
      (xs more : List ℕ) → Run (xs ++ more) → (v w : Verdict) → A xs ≡ v → B xs ≡ w → ((n : ℕ) → either v w ≢ Short n)
      → either (A (xs ++ more)) (B (xs ++ more)) ≡ either v w
  stays xs more r (Sound k) w e f told = rw (la.sound_stays xs more k r e)
  stays xs more r (Short k) w e f told = absurd (told k refl)
  stays xs more r Unfit (Sound k) e f told = rw (la.unfit_stays xs more r e, lb.sound_stays xs more k r f)
  stays xs more r Unfit (Short k) e f told = absurd (told k refl)
  stays xs more r Unfit Unfit e f told = rw (la.unfit_stays xs more r e, lb.unfit_stays xs more r f)

  pub pair_lawful : Lawful (λ xs. either (A xs) (B xs)) (max a b)
  pair_lawful =
      record {
        range = let p = la.range in let q = lb.range in omega arith;
        size = λ xs n r h. size xs n r (A xs) refl h;
        waiting = λ xs n r h. waiting xs n r (A xs) refl h;
        sound_stays = λ xs more n r h. let s = stays xs more r (A xs) (B xs) refl refl (λ k e. let z : ◌≡◌ {A = ℕ} 0 1 = cc in omega arith) in cc;
        unfit_stays = λ xs more r h. let s = stays xs more r (A xs) (B xs) refl refl (λ k e. let z : ◌≡◌ {A = ℕ} 0 1 = cc in omega arith) in cc;
      }
