-- The three laws of a framing.
use Rattle.std.specs.Prelude.{◌≡◌, ℕ, ◌^◌, ◌<◌, ◌≤◌, List, ◌++◌, length, slice_index}
use Rattle.framing.specs.declared.verdict.Verdict.{Verdict}
use Rattle.framing.specs.declared.verdict.Verdict.TheVariants.{Sound, Short, Unfit}

-- each element is a byte; past the end slice_index gives 0
abbrev pub Bytes : List ℕ → Type 0
Bytes xs = (k : ℕ) → slice_index xs k < 256

-- a run that the laws speak of: bytes, fewer than 2 ^ 63
abbrev pub Run : List ℕ → Type 0
Run xs = Bytes xs × (length xs < 2 ^ 63)

pub record Lawful (judged : List ℕ → Verdict) (reach : ℕ) : Type 0 where
  -- the longest is a number from 1 that code can tell
  pub range : (1 ≤ reach) × (reach < 2 ^ 64)
  -- size: a sound frame has at least one byte, and no more than are present, or than the longest
  pub size : (xs : List ℕ) (n : ℕ) → Run xs → judged xs ≡ Sound n → (1 ≤ n) × (n ≤ length xs) × (n ≤ reach)
  -- waiting: what is wanted is more than is present, and no more than the longest
  pub waiting : (xs : List ℕ) (m : ℕ) → Run xs → judged xs ≡ Short m → (length xs < m) × (m ≤ reach)
  -- staying: bytes added behind change neither a sound nor an unfit
  pub sound_stays : (xs more : List ℕ) (n : ℕ) → Run (xs ++ more) → judged xs ≡ Sound n → judged (xs ++ more) ≡ Sound n
  pub unfit_stays : (xs more : List ℕ) → Run (xs ++ more) → judged xs ≡ Unfit → judged (xs ++ more) ≡ Unfit
