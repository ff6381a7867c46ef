-- Frames whose first bytes are a header that tells how long they are.
use Rattle.std.specs.Prelude.{◌≡◌, ℕ, ◌^◌, ◌<◌, ◌≤◌, Bool, true, cond, List, ◌++◌, length, take, Some, None, Option, nat_lt}
use Rattle.framing.specs.declared.verdict.Verdict.{Verdict}
use Rattle.framing.specs.declared.verdict.Verdict.TheVariants.{Sound, Short, Unfit}

-- The verdict on a run of `present` bytes: a header of `header` bytes has to be there; where it is `fit`, the `size` bytes
-- that it tells have to be there; and these are a `whole` frame or not.
abbrev pub headed_by : ℕ → ℕ → Bool → ℕ → Bool → Verdict
headed_by header present fit size whole =
    cond (nat_lt present header) (Short header)
    (cond fit (cond (nat_lt present size) (Short size) (cond whole (Sound size) Unfit)) Unfit)

-- the same by the run: no byte behind the told size is looked at
abbrev pub headed : ℕ → (List ℕ → Bool) → (List ℕ → ℕ) → (List ℕ → Bool) → List ℕ → Verdict
headed header fit size whole run = headed_by header (length run) (fit run) (size run) (whole (take (size run) run))

-- the size that a fit header tells, and none where the header is not fit
abbrev pub told_by : (List ℕ → Bool) → (List ℕ → ℕ) → List ℕ → Option ℕ
told_by fit size run = cond (fit run) (Some (size run)) None

-- Sound exactly where a frame stands: the verdict on a run is sound n just where its first n bytes are a frame.
abbrev pub SoundExactly : (List ℕ → Verdict) → (List ℕ → Type 0) → List ℕ → Type 0
SoundExactly judged IsFrame run =
    (n : ℕ)
    → (judged run ≡ Sound n → (n ≤ length run) × IsFrame (take n run))
    × (n ≤ length run → IsFrame (take n run) → judged run ≡ Sound n)

-- The laws of a format by a header, of which no frame passes `reach` bytes.
pub record HeadedLaws
    (header reach : ℕ) (fit : List ℕ → Bool) (size : List ℕ → ℕ) (whole : List ℕ → Bool) (IsFrame : List ℕ → Type 0) : Type 0 where
  -- a header has a byte or more, and the longest is a number that code can tell
  pub range : (1 ≤ header) × (header ≤ reach) × (reach < 2 ^ 64)
  -- a fit header tells a size from 1 up to the longest
  pub sized : (xs : List ℕ) → header ≤ length xs → fit xs ≡ true → (1 ≤ size xs) × (size xs ≤ reach)
  -- a header is seen in its own bytes
  pub seen : (xs more : List ℕ) → header ≤ length xs → (fit (xs ++ more) ≡ fit xs) × (size (xs ++ more) ≡ size xs)
  -- what is whole is a frame; and a frame is whole, has its header, and tells its own size
  pub frames : (ys : List ℕ) → whole ys ≡ true → IsFrame ys
  pub wholes : (ys : List ℕ) → IsFrame ys → (whole ys ≡ true) × (header ≤ length ys) × (fit ys ≡ true) × (size ys ≡ length ys)
