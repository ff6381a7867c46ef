-- What an ensemble's bytes keep beside their checksum, for d sections in n counted bytes.
use Rattle.std.specs.Prelude.{◌≡◌, ℕ, ◌+◌, ◌<◌, ◌≤◌, List, length, slice_index}
use Rattle.pd0.specs.declared.kind.Kind.TheVariants.{FixedLeader, VariableLeader, Unnamed}
use Rattle.pd0.specs.Kinds.{kind_of, least_size, leader_size}
use Rattle.pd0.specs.Layout.{mark, table_end, size_of, count_of, offset, ident, ending, cells_of}
use Rattle.pd0.specs.Questions.{most_counted, most_sections, most_cells}

-- a right header tells both numbers, and the counted bytes and the checksum are all there is
pub record Headed (bs : List ℕ) (d n : ℕ) : Type 0 where
  pub marked : (slice_index bs 0 ≡ mark) × (slice_index bs 1 ≡ mark)
  pub count : d ≡ count_of bs
  pub size : n ≡ size_of bs
  pub some : 2 ≤ d
  pub few : d ≤ most_sections
  pub room : table_end d + 2 ≤ n
  pub short : n ≤ most_counted
  pub whole : length bs ≡ n + 2

-- the Fixed Leader follows the table of offsets and has its least size, the Variable Leader is next, and the number of cells
-- is in range
pub record Led (bs : List ℕ) (d n : ℕ) : Type 0 where
  pub first : offset bs 0 ≡ table_end d
  pub second : (offset bs 0 + leader_size ≤ offset bs 1) × (offset bs 1 + 2 ≤ n)
  pub leaders : (kind_of (ident bs 0) ≡ FixedLeader) × (kind_of (ident bs 1) ≡ VariableLeader)
  pub cells : (1 ≤ cells_of bs) × (cells_of bs ≤ most_cells)

pub record Sectioned (bs : List ℕ) (d n : ℕ) : Type 0 where
  pub led : Led bs d n
  -- each section has its least size, and ends before the reserved bytes
  pub room : (k : ℕ) → k < d → offset bs k + least_size (kind_of (ident bs k)) (cells_of bs) ≤ ending bs d n k
  pub inside : (k : ℕ) → k < d → ending bs d n k + 2 ≤ n
  -- of two sections with one identification neither has a name
  pub once : (j k : ℕ) → j < k → k < d → ident bs j ≡ ident bs k → kind_of (ident bs k) ≡ Unnamed
