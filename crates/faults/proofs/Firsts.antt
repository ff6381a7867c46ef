-- What `find` and `any` over the numbers below n give, where the closure tests p of each.
use Rattle.std.proofs.Common.{◌≡◌, ℕ, ◌<◌, ◌≤◌, Bool, true, false, get_or, is_some, Some, None, Option, sym, ap, refl, subst, arith}
use Rattle.std.proofs.iter.Yields.{nat_range_steps}
use Rattle.std.proofs.lemmas.Iterator.{YieldsList-from_range, cases_from_any, first_from_Range}
use Rattle.std.proofs.lemmas.List.FromFn.{length-range_with_len, get_or-range_with_len}
use Rattle.std.specs.Bool.{MatchBool}
use Rattle.std.specs.Fn.{Called, CalledAt}
use Rattle.std.specs.Iterator.{ChecksAny, FindsItem}
use Rattle.std.specs.List.{range_with_len, AllWithin, HoldsAt}
use Rattle.std.specs.Option.{MatchOption}
use Rattle.std.specs.declared.ops.Range.{Range}
use Rattle.faults.proofs.Leasts.{least_found, none_least, any}
use Rattle.faults.specs.Least.{least}
use denote.Param.Members.{Mut}
use denote.Ref.{Bor}

-- the first of which p holds
first_is :
    (p : ℕ → Bool) (n : ℕ) (r : Option ℕ)
    → MatchOption r ((k : ℕ) → 0 ≤ k → k < n → p k ≡ false) (λ i. (0 ≤ i) × (i < n) × (p i ≡ true) × ((k : ℕ) → 0 ≤ k → k < i → p k ≡ false))
    → r ≡ least p n
first_is p n None f = sym (none_least p n (λ k l. f k (omega arith) l))
first_is p n (Some i) f =
    sym (least_found p n i (none_least p i (λ k l. f.3 k (omega arith) l)) f.2 f.1)

pub least_by_find :
    {F : Type 0} {g : Mut F (Bor ℕ × Unit {0}) Bool} (p : ℕ → Bool) (n : ℕ) (u : Range ℕ) (f : F) (r : Option ℕ)
    → FindsItem nat_range_steps g (record { start = 0; end = n }) f r u
    → ((k : ℕ) (b : Bool) (q : F) → CalledAt g f k b q → (q ≡ f) × (b ≡ p k))
    → r ≡ least p n
least_by_find p n u f r ran test =
    first_is p n r
    (first_from_Range (record { start = 0; end = n }) u f r (λ k. p k ≡ true) (λ k. p k ≡ false) ran
    (λ k q c. sym (test k true q c).1) (λ k q c. let t = test k false q c in (t.0, sym t.1)))

number_at : (n k : ℕ) → k < n → get_or (range_with_len 0 n) k 0 ≡ k
number_at n k l = let e = get_or-range_with_len 0 n k 0 l in omega arith

below : (P : ℕ → Type 0) (n : ℕ) → AllWithin P (range_with_len 0 n) 0 n → (k : ℕ) → k < n → P k
below P n h k l = subst P (number_at n k l) (h k 0 (omega arith) l)

some_is :
    (p : ℕ → Bool) (n : ℕ) (b : Bool)
    → MatchBool b ((k : ℕ) × (k < n) × HoldsAt (λ i. p i ≡ true) (range_with_len 0 n) k) (AllWithin (λ i. p i ≡ false) (range_with_len 0 n) 0 n)
    → b ≡ is_some (least p n)
some_is p n true h =
    sym (any p n h.0 h.1 (subst (λ i. p i ≡ true) (number_at n h.0 h.1) (h.2 0)) (least p n) refl)
some_is p n false h = sym (ap is_some (none_least p n (below (λ i. p i ≡ false) n h)))

pub some_by_any :
    {F : Type 0} {g : Mut F (ℕ × Unit {0}) Bool} (p : ℕ → Bool) (n : ℕ) (u : Range ℕ) (f : F) (b : Bool)
    → ChecksAny nat_range_steps g (record { start = 0; end = n }) f b u
    → ((k : ℕ) (r : Bool) (q : F) → Called g f (k, tt) r q → (q ≡ f) × (r ≡ p k))
    → b ≡ is_some (least p n)
some_by_any p n u f b ran test =
    some_is p n b
    (subst (λ m. MatchBool b ((k : ℕ) × (k < m) × HoldsAt (λ i. p i ≡ true) (range_with_len 0 n) k) (AllWithin (λ i. p i ≡ false) (range_with_len 0 n) 0 m))
    (length-range_with_len 0 n)
    (cases_from_any u f b (λ k. p k ≡ true) (λ k. p k ≡ false) ran
    (YieldsList-from_range 0 n n refl (omega arith)) (λ k q c. sym (test k true q c).1) (λ k q c. let t = test k false q c in (t.0, sym t.1))))
