-- The questions of opening an ensemble, in their order, and what the answers come to.
use Rattle.std.specs.Prelude.{ℕ, ◌+◌, ◌-◌, Bool, cond, not, ◌&&◌, ◌||◌, List, [], ◌∷◌, ◌++◌, map, length, take, is_some, Some, None, Option, Result, ◌==◌, nat_le, nat_lt, slice_index}
use Rattle.faults.specs.declared.frame.FrameFault.{FrameFault}
use Rattle.faults.specs.declared.frame.FrameFault.TheVariants.{NoHeader, Mark, SectionCount, Size, Length, Checksum, OffsetTable, SectionOrder}
use Rattle.faults.specs.declared.section.SectionFault.{SectionFault}
use Rattle.faults.specs.declared.section.SectionFault.TheVariants.{InFrame, Leader, TooShort}
use Rattle.faults.specs.Least.{least}
use Rattle.faults.specs.Places.{byte_at}
use Rattle.faults.specs.Questions.{ask, ask_each, first_fault, answered}
use Rattle.framing.specs.Stored.{word, checksum_from}
use Rattle.pd0.specs.declared.header.Header.{Header}
use Rattle.pd0.specs.Kinds.{kind_of, least_size, is_named, fixed_leader_id, variable_leader_id, leader_size}
use Rattle.pd0.specs.Layout.{mark, header_size, table_end, size_of, count_of, offset, ident, section_size, cells_of}

-- the most counted bytes of an ensemble
abbrev pub most_counted : ℕ
most_counted = 4094

-- the bytes of the longest ensemble, its checksum among them
abbrev pub longest_size : ℕ
longest_size = most_counted + 2

-- the most cells
abbrev pub most_cells : ℕ
most_cells = 128

-- the most sections
abbrev pub most_sections : ℕ
most_sections = 16

-- what the header says
abbrev pub header_of : List ℕ → Header
header_of bs = record { count = count_of bs; size = size_of bs }

-- Offset k breaks the table of d offsets in n counted bytes: the first follows the table, each later one is at least 2
-- above the one before, and the last leaves room for an identification and the reserved bytes.
abbrev pub wrong_offset : List ℕ → ℕ → ℕ → ℕ → Bool
wrong_offset bs d n k =
    cond (k == 0) (not (offset bs 0 == table_end d)) (nat_lt (offset bs k) (offset bs (k - 1) + 2))
    || (k + 1 == d && nat_lt n (offset bs k + 4))

abbrev pub has_ident : List ℕ → ℕ → ℕ → Bool
has_ident bs id j = ident bs j == id

-- section k breaks the order: the Fixed Leader, the Variable Leader, and no named kind twice
abbrev pub wrong_order : List ℕ → ℕ → Bool
wrong_order bs k =
    cond (k == 0) (not (ident bs k == fixed_leader_id))
    (cond (k == 1) (not (ident bs k == variable_leader_id))
    (is_named (kind_of (ident bs k)) && is_some (least (has_ident bs (ident bs k)) k)))

-- section k has fewer bytes than its kind needs
abbrev pub wrong_size : List ℕ → ℕ → ℕ → ℕ → Bool
wrong_size bs d n k = nat_lt (section_size bs d n k) (least_size (kind_of (ident bs k)) (cells_of bs))

-- is there a header; do both of its first bytes have the mark; is the number of sections in range; are the counted bytes
-- enough for the table of offsets and the reserved bytes, and not too many
abbrev pub head_questions : List ℕ → List (Option FrameFault)
head_questions bs =
    ask (nat_le header_size (length bs)) NoHeader
    ∷ ask (slice_index bs 0 == mark) (Mark (byte_at 0))
    ∷ ask (slice_index bs 1 == mark) (Mark (byte_at 1))
    ∷ ask (nat_le 2 (count_of bs) && nat_le (count_of bs) most_sections) (SectionCount (byte_at 5))
    ∷ ask (nat_le (table_end (count_of bs) + 2) (size_of bs) && nat_le (size_of bs) most_counted) (Size (byte_at 2))
    ∷ []

-- for d sections in n counted bytes: are these and the checksum all there is; does the checksum agree; is every offset right
abbrev pub table_questions : List ℕ → ℕ → ℕ → List (Option FrameFault)
table_questions bs d n =
    ask (length bs == n + 2) Length
    ∷ ask (checksum_from 0 (take n bs) == word bs n) (Checksum (byte_at n))
    ∷ ask_each (least (wrong_offset bs d n) d) (λ k. OffsetTable (byte_at (table_end k)))
    ∷ []

-- is every kind in its place
abbrev pub order_questions : List ℕ → ℕ → List (Option FrameFault)
order_questions bs d = ask_each (least (wrong_order bs) d) (λ k. SectionOrder (byte_at (offset bs k))) ∷ []

-- has the Fixed Leader its least size, and is the number of cells in range; has every other section its least size
abbrev pub section_questions : List ℕ → ℕ → ℕ → List (Option SectionFault)
section_questions bs d n =
    ask (nat_le leader_size (section_size bs d n 0) && (nat_le 1 (cells_of bs) && nat_le (cells_of bs) most_cells)) (Leader (byte_at (offset bs 0)))
    ∷ ask_each (least (wrong_size bs d n) d) (λ k. TooShort (byte_at (offset bs k)))
    ∷ []

-- what is asked up to the table of offsets
abbrev pub to_table : List ℕ → List (Option FrameFault)
to_table bs = head_questions bs ++ table_questions bs (count_of bs) (size_of bs)

-- what is asked of the frame
abbrev pub frame_questions : List ℕ → List (Option FrameFault)
frame_questions bs = to_table bs ++ order_questions bs (count_of bs)

-- a fault of the frame, as one of the layer above
abbrev pub in_frame : Option FrameFault → Option SectionFault
in_frame None = None
in_frame (Some f) = Some (InFrame f)

-- all questions of an ensemble, in their order
unfoldable pub questions : List ℕ → List (Option SectionFault)
questions bs = map in_frame (frame_questions bs) ++ section_questions bs (count_of bs) (size_of bs)

-- opening fills a place, or refuses with the fault of the first question that is answered by no
abbrev pub opened : List ℕ → Result (Unit {0}) SectionFault
opened bs = answered (first_fault (questions bs)) tt
