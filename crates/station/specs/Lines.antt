-- The line of text that stands for an ensemble, and the writing of a text into a buffer.
use Rattle.std.specs.Prelude.{ℕ, ◌+◌, ◌*◌, cond, List, [], ◌∷◌, ◌++◌, length, drop, Ok, Err, decimal, Result, nat_le, slice_index}
use Rattle.faults.specs.declared.section.SectionFault.{SectionFault}
use Rattle.faults.specs.declared.section.SectionFault.TheVariants.{Space}
use Rattle.framing.specs.Stored.{word}
use Rattle.pd0.specs.Layout.{count_of, size_of, part}

-- the Variable Leader is an ensemble's second section
abbrev pub variable_leader : List ℕ → List ℕ
variable_leader bs = part bs (count_of bs) (size_of bs) 1

-- the ensemble's number: 16 bits from byte 3 of the Variable Leader on, and above these 8 bits, byte 12
abbrev pub ensemble_number : List ℕ → ℕ
ensemble_number bs = word (variable_leader bs) 2 + 65536 * slice_index (variable_leader bs) 11

abbrev pub blank : ℕ
blank = 32

abbrev pub line_feed : ℕ
line_feed = 10

-- a number in decimal, and the byte that follows it
abbrev pub column : ℕ → ℕ → List ℕ
column n behind = decimal n ++ behind ∷ []

-- the most digits of a number of 64 bits
abbrev pub most_digits : ℕ
most_digits = 20

-- number, length in bytes and number of sections of an ensemble, in one line
abbrev pub line_text : List ℕ → List ℕ
line_text bs = column (ensemble_number bs) blank ++ (column (length bs) blank ++ column (count_of bs) line_feed)

-- A text is written to the front of a buffer, and what the buffer holds behind it is kept.
abbrev pub written : List ℕ → List ℕ → List ℕ
written text out = text ++ drop (length text) out

-- The answer of a call that writes a text and asks for nothing but space: the bytes written, or a refusal.
abbrev pub spaced : List ℕ → List ℕ → Result ℕ SectionFault
spaced text out = cond (nat_le (length text) (length out)) (Ok (length text)) (Err Space)

-- What the buffer holds after such a call: a refusal leaves it as it was.
abbrev pub spaced_buffer : List ℕ → List ℕ → List ℕ
spaced_buffer text out = cond (nat_le (length text) (length out)) (written text out) out
