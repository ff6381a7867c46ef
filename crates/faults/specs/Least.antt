-- The first of several, by number.
use Rattle.std.specs.Prelude.{◌≡◌, ℕ, zero, suc, ◌<◌, Bool, true, false, cond, Some, None, Option}

-- the first, or else the other
abbrev pub or_else : {X : Type 0} → Option X → Option X → Option X
or_else None o = o
or_else (Some x) o = Some x

-- the least number below n of which p holds
abbrev pub least : (ℕ → Bool) → ℕ → Option ℕ
least p zero = None
least p (suc n) = or_else (least p n) (cond (p n) (Some n) None)

-- What is found is the first: none where p holds of no number below n, else one of which p holds and of no smaller one.
abbrev pub IsLeast : (ℕ → Bool) → ℕ → Option ℕ → Type 0
IsLeast p n None = (k : ℕ) → k < n → p k ≡ false
IsLeast p n (Some i) = (i < n) × (p i ≡ true) × ((k : ℕ) → k < i → p k ≡ false)

-- P of what is found
abbrev pub Found : {X : Type 0} → Option X → (X → Type 0) → Type 0
Found None P = Unit {0}
Found (Some x) P = P x
