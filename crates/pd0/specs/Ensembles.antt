-- What an ensemble is, with no order of questions and no search for the first wrong thing, and the laws of opening one.
use Rattle.std.specs.Prelude.{◌≡◌, ℕ, ◌+◌, ◌-◌, ◌<◌, ◌≤◌, Bool, List, length, take, Ok, slice_index}
use Rattle.faults.specs.Least.{least, IsLeast}
use Rattle.faults.specs.Questions.{InOrder, DecidedBeyond}
use Rattle.framing.specs.Stored.{word, checksum_from}
use Rattle.pd0.specs.declared.kind.Kind.TheVariants.{FixedLeader, VariableLeader, Unnamed}
use Rattle.pd0.specs.Kinds.{kind_of, least_size}
use Rattle.pd0.specs.Layout.{mark, table_end, size_of, count_of, offset, ident, section_size, cells_of}
use Rattle.pd0.specs.Questions.{questions, opened, longest_size, most_counted, most_sections, most_cells}

pub record IsEnsemble (bs : List ℕ) : Type 0 where
  -- the header
  pub marked : (slice_index bs 0 ≡ mark) × (slice_index bs 1 ≡ mark)
  pub sections : (2 ≤ count_of bs) × (count_of bs ≤ most_sections)
  pub size : (table_end (count_of bs) + 2 ≤ size_of bs) × (size_of bs ≤ most_counted)
  -- the counted bytes and their checksum are all there is
  pub whole : length bs ≡ size_of bs + 2
  pub sum : checksum_from 0 (take (size_of bs) bs) ≡ word bs (size_of bs)
  -- sections follow the table of offsets, two bytes and more apart, and end before the reserved bytes
  pub first : offset bs 0 ≡ table_end (count_of bs)
  pub apart : (k : ℕ) → k + 1 < count_of bs → offset bs k + 2 ≤ offset bs (k + 1)
  pub last : offset bs (count_of bs - 1) + 4 ≤ size_of bs
  -- the two leaders come first, and of two sections with one identification neither has a name
  pub leaders : (kind_of (ident bs 0) ≡ FixedLeader) × (kind_of (ident bs 1) ≡ VariableLeader)
  pub once : (j k : ℕ) → j < k → k < count_of bs → ident bs j ≡ ident bs k → kind_of (ident bs k) ≡ Unnamed
  -- the number of cells, and room for them
  pub cells : (1 ≤ cells_of bs) × (cells_of bs ≤ most_cells)
  pub sizes : (k : ℕ) → k < count_of bs → least_size (kind_of (ident bs k)) (cells_of bs) ≤ section_size bs (count_of bs) (size_of bs) k

-- The laws of opening bytes bs, above the list of questions.
pub record OpeningLaws (bs : List ℕ) : Type 0 where
  -- exactly the ensembles open
  pub opens : opened bs ≡ Ok tt → IsEnsemble bs
  pub ensembles : IsEnsemble bs → opened bs ≡ Ok tt
  -- the first question that is answered by no decides
  pub order : InOrder (questions bs) (opened bs)
  -- "the first wrong one" of a question over offsets or sections is the first
  pub firsts : (p : ℕ → Bool) (n : ℕ) → IsLeast p n (least p n)
  -- of more bytes than any ensemble has, no more than the longest and one are looked at
  pub beyond : DecidedBeyond longest_size opened bs
