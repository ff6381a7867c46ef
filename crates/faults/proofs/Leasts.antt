-- Looking for the first of several.
use Rattle.std.proofs.Common.{◌≡◌, ℕ, zero, suc, ◌<◌, Bool, true, false, cond, is_some, Some, None, Option, refl, ⊎_elim, arith}
use Rattle.std.proofs.lemmas.Bool.{cases_eq, both_ways}
use Rattle.faults.specs.Least.{least, or_else, IsLeast}

-- none before it, and it passes
pub least_found : (p : ℕ → Bool) (n i : ℕ) → least p i ≡ None → p i ≡ true → i < n → least p n ≡ Some i
least_found p zero i e t h = absurd (omega arith)
least_found p (suc n) i e t h =
    ⊎_elim
    (λ (s : i ≡ n). let m : least p n ≡ None = rw s at e in let t' : p n ≡ true = rw s at t in rw (m, t', s))
    (λ (d : i ≡ n → ⊥). let m : least p n ≡ Some i = least_found p n i e t (omega (arith, d)) in rw m)
    (cases_eq i n)

-- below the number there is none
none_step :
    (p : ℕ → Bool) (n k : ℕ) (o : Option ℕ) (b : Bool) → p n ≡ b → or_else o (cond b (Some n) None) ≡ None
    → (o ≡ None → k < n → p k ≡ false) → k < suc n → p k ≡ false
none_step p n k (Some x) b t e ih h = absurd (let z : ◌≡◌ {A = ℕ} 0 1 = cc in omega arith)
none_step p n k None true t e ih h = absurd (let z : ◌≡◌ {A = ℕ} 0 1 = cc in omega arith)
none_step p n k None false t e ih h =
    ⊎_elim (λ (s : k ≡ n). rw s t) (λ (d : k ≡ n → ⊥). ih refl (omega (arith, d))) (cases_eq k n)

pub least_none : (p : ℕ → Bool) (n k : ℕ) → least p n ≡ None → k < n → p k ≡ false
least_none p zero k e h = absurd (omega arith)
least_none p (suc n) k e h = none_step p n k (least p n) (p n) refl e (least_none p n k) h

-- where each is false there is none
pub none_least : (p : ℕ → Bool) (n : ℕ) → ((k : ℕ) → k < n → p k ≡ false) → least p n ≡ None
none_least p zero h = refl
none_least p (suc n) h = rw (none_least p n (λ k l. h k (omega arith)), h n (omega arith))

-- what is found is below the bound, and passes
some_step :
    (p : ℕ → Bool) (n i : ℕ) (o : Option ℕ) (b : Bool) → p n ≡ b → or_else o (cond b (Some n) None) ≡ Some i
    → (o ≡ Some i → (i < n) × (p i ≡ true)) → (i < suc n) × (p i ≡ true)
some_step p n i (Some x) b t e ih = let q : Some x ≡ Some i = e in let h = ih q in (omega (arith, h.0), h.1)
some_step p n i None true t e ih = let q : n ≡ i = cc in (omega arith, rw (← q) t)
some_step p n i None false t e ih = absurd (let z : ◌≡◌ {A = ℕ} 0 1 = cc in omega arith)

pub least_some : (p : ℕ → Bool) (n i : ℕ) → least p n ≡ Some i → (i < n) × (p i ≡ true)
least_some p zero i e = absurd (let z : ◌≡◌ {A = ℕ} 0 1 = cc in omega arith)
least_some p (suc n) i e = some_step p n i (least p n) (p n) refl e (least_some p n i)

-- where one below passes, there is a first
pub any : (p : ℕ → Bool) (n j : ℕ) → j < n → p j ≡ true → (o : Option ℕ) → least p n ≡ o → is_some o ≡ true
any p n j l t None e = absurd (both_ways (p j) (least_none p n j e l) t)
any p n j l t (Some i) e = refl

-- nothing below what is found passes
before_step :
    (p : ℕ → Bool) (n i k : ℕ) (o : Option ℕ) (b : Bool) → least p n ≡ o → p n ≡ b → or_else o (cond b (Some n) None) ≡ Some i
    → (o ≡ Some i → k < i → p k ≡ false) → k < i → p k ≡ false
before_step p n i k (Some x) b l t e ih h = ih e h
before_step p n i k None true l t e ih h = let q : n ≡ i = cc in least_none p n k l (omega arith)
before_step p n i k None false l t e ih h = absurd (let z : ◌≡◌ {A = ℕ} 0 1 = cc in omega arith)

least_before : (p : ℕ → Bool) (n i k : ℕ) → least p n ≡ Some i → k < i → p k ≡ false
least_before p zero i k e h = absurd (let z : ◌≡◌ {A = ℕ} 0 1 = cc in omega arith)
least_before p (suc n) i k e h = before_step p n i k (least p n) (p n) refl refl e (least_before p n i k) h

by_found : (p : ℕ → Bool) (n : ℕ) (o : Option ℕ) → least p n ≡ o → IsLeast p n o
by_found p n None e = λ k h. least_none p n k e h
by_found p n (Some i) e = let f = least_some p n i e in (f.0, f.1, λ k h. least_before p n i k e h)

-- `least` finds the first
pub is_least : (p : ℕ → Bool) (n : ℕ) → IsLeast p n (least p n)
is_least p n = by_found p n (least p n) refl
