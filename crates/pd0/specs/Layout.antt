-- Where things stand in the bytes of an ensemble. Sections are counted from 0 here.
use Rattle.std.specs.Prelude.{ℕ, ◌+◌, ◌-◌, ◌*◌, cond, List, [], ◌∷◌, ◌==◌, slice_index}
use Rattle.std.specs.List.{between}
use Rattle.framing.specs.Stored.{word}

-- bytes 1 and 2 each
abbrev pub mark : ℕ
mark = 0x7f

-- the bytes before the table of offsets
abbrev pub header_size : ℕ
header_size = 6

-- where a table of d offsets of 16 bits ends
abbrev pub table_end : ℕ → ℕ
table_end d = header_size + 2 * d

-- bytes 3 and 4: all bytes before the checksum
abbrev pub size_of : List ℕ → ℕ
size_of bs = word bs 2

-- byte 5 has no meaning
abbrev pub spare_of : List ℕ → ℕ
spare_of bs = slice_index bs 4

-- byte 6: the number of sections
abbrev pub count_of : List ℕ → ℕ
count_of bs = slice_index bs 5

-- from byte 7 on, 16 bits for each section: where it begins
abbrev pub offset : List ℕ → ℕ → ℕ
offset bs k = word bs (table_end k)

-- a section begins with its identification
abbrev pub ident : List ℕ → ℕ → ℕ
ident bs k = word bs (offset bs k)

-- the offset behind section k, of d in n counted bytes: where the next begins; two reserved bytes follow the last
abbrev pub ending : List ℕ → ℕ → ℕ → ℕ → ℕ
ending bs d n k = cond (k + 1 == d) (n - 2) (offset bs (k + 1))

abbrev pub section_size : List ℕ → ℕ → ℕ → ℕ → ℕ
section_size bs d n k = ending bs d n k - offset bs k

-- the bytes of section k
abbrev pub part : List ℕ → ℕ → ℕ → ℕ → List ℕ
part bs d n k = between (offset bs k) (ending bs d n k) bs

-- byte 10 of the Fixed Leader, which is section 0: the number of cells
abbrev pub cells_of : List ℕ → ℕ
cells_of bs = slice_index bs (offset bs 0 + 9)

-- the two reserved bytes, the last that are counted
abbrev pub reserved_of : List ℕ → List ℕ
reserved_of bs = slice_index bs (size_of bs - 2) ∷ slice_index bs (size_of bs - 1) ∷ []
