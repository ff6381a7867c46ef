-- What is known of an ensemble's bytes, beside what `Headed` says, once the questions up to the table of offsets are
-- answered by yes.
use Rattle.std.specs.Prelude.{◌≡◌, ℕ, ◌+◌, ◌<◌, ◌≤◌, List}
use Rattle.pd0.specs.Layout.{table_end, offset}

-- d sections in n counted bytes: behind the table of offsets, two bytes and more apart, and before the reserved bytes
pub record Tabled (bs : List ℕ) (d n : ℕ) : Type 0 where
  pub first : offset bs 0 ≡ table_end d
  pub apart : (k : ℕ) → k + 1 < d → offset bs k + 2 ≤ offset bs (k + 1)
  pub behind : (k : ℕ) → k < d → table_end d ≤ offset bs k
  pub inside : (k : ℕ) → k < d → offset bs k + 4 ≤ n
