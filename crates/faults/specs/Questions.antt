-- Questions asked in order, each with a fault for no: the first no decides.
use Rattle.std.specs.Prelude.{◌≡◌, ℕ, ◌<◌, ◌≤◌, Bool, true, false, List, [], ◌∷◌, length, take, Some, None, Ok, Err, Option, Result, slice_index_or}
use Rattle.faults.specs.Least.{or_else}

-- no fault where the answer is yes
abbrev pub ask : {F : Type 0} → Bool → F → Option F
ask true f = None
ask false f = Some f

-- no fault where nothing breaks a rule; else that of what is first to break it
abbrev pub ask_each : {F : Type 0} → Option ℕ → (ℕ → F) → Option F
ask_each None f = None
ask_each (Some k) f = Some (f k)

-- the fault of the first question that is answered by no
abbrev pub first_fault : {F : Type 0} → List (Option F) → Option F
first_fault [] = None
first_fault (o ∷ os) = or_else o (first_fault os)

-- the answer where no question was answered by no; else the fault
abbrev pub answered : {F X : Type 0} → Option F → X → Result X F
answered None x = Ok x
answered (Some f) x = Err f

-- whether every question was answered by yes
abbrev pub all_yes : {F : Type 0} → Option F → Bool
all_yes None = true
all_yes (Some f) = false

-- the fault f of one question, where none before it is answered by no
abbrev pub FirstNo : {F : Type 0} → List (Option F) → F → Type 0
FirstNo os f =
    (i : ℕ) × (i < length os) × (slice_index_or os i None ≡ Some f) × ((k : ℕ) → k < i → slice_index_or os k None ≡ None)

-- every question is answered by yes
abbrev pub EachYes : {F : Type 0} → List (Option F) → Type 0
EachYes os = (k : ℕ) → k < length os → slice_index_or os k None ≡ None

-- A result by questions in order: a refusal is by the first question that is answered by no, and with no refusal every
-- question is answered by yes.
abbrev pub InOrder : {F X : Type 0} → List (Option F) → Result X F → Type 0
InOrder os (Ok x) = EachYes os
InOrder os (Err f) = FirstNo os f

-- An answer F on bytes that are more than any right ones: each beginning that is still too long has the same answer.
abbrev pub DecidedBeyond : {R : Type 0} → ℕ → (List ℕ → R) → List ℕ → Type 0
DecidedBeyond longest F bs = (m : ℕ) → longest < m → m ≤ length bs → F (take m bs) ≡ F bs
