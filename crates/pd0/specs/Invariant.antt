-- What the type of a place for an ensemble keeps, each for the bytes bs and the number d of sections. `Bare` is of a place
-- that holds no section; the others say nothing of one. `Opens` holds all the rest in itself; the facts that readers of
-- sections use stand apart as well, since a fact of the type is at hand without an argument.
use Rattle.std.specs.Prelude.{◌≡◌, ℕ, ◌+◌, ◌<◌, ◌≤◌, true, List, length}
use Rattle.faults.specs.Questions.{all_yes, first_fault}
use Rattle.pd0.specs.Kinds.{kind_of, least_size, leader_size}
use Rattle.pd0.specs.Layout.{table_end, offset, ident, section_size, cells_of, size_of}
use Rattle.pd0.specs.Questions.{questions, most_cells}

-- a place that holds no section holds no byte
abbrev pub Bare : List ℕ → ℕ → Type 0
Bare bs d = d ≡ 0 → length bs ≡ 0

-- every question is answered by yes
abbrev pub Opens : List ℕ → ℕ → Type 0
Opens bs d = 0 < d → all_yes (first_fault (questions bs)) ≡ true

-- the counted bytes and the checksum are all there is
abbrev pub Whole : List ℕ → ℕ → Type 0
Whole bs d = 0 < d → length bs ≡ size_of bs + 2

-- sections stand behind the table of offsets
abbrev pub Behind : List ℕ → ℕ → Type 0
Behind bs d = (k : ℕ) → k < d → table_end d ≤ offset bs k

-- ascending, each at least 2 above the one before, so that no two share a byte
abbrev pub Apart : List ℕ → ℕ → Type 0
Apart bs d = (k : ℕ) → k + 1 < d → offset bs k + 2 ≤ offset bs (k + 1)

-- inside the counted bytes, with room for an identification and the reserved bytes
abbrev pub Inside : List ℕ → ℕ → Type 0
Inside bs d = (k : ℕ) → k < d → offset bs k + 4 ≤ size_of bs

-- the Fixed Leader is there, with a right number of cells
abbrev pub Celled : List ℕ → ℕ → Type 0
Celled bs d = 0 < d → (1 ≤ cells_of bs) × (cells_of bs ≤ most_cells) × (offset bs 0 + leader_size + 2 ≤ size_of bs)

-- each section has its least size
abbrev pub Filled : List ℕ → ℕ → Type 0
Filled bs d = (k : ℕ) → k < d → least_size (kind_of (ident bs k)) (cells_of bs) ≤ section_size bs d (size_of bs) k
