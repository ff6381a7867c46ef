-- An Aquadopp structure, and the questions of opening one.
use Rattle.std.specs.Prelude.{◌≡◌, ℕ, ◌-◌, ◌*◌, Bool, true, ◌&&◌, ◌||◌, List, [], ◌∷◌, ◌++◌, length, take, Ok, Option, Result, ◌==◌, nat_le, slice_index, slice_index_or}
use Rattle.faults.specs.declared.frame.FrameFault.{FrameFault}
use Rattle.faults.specs.declared.frame.FrameFault.TheVariants.{NoStructure, Sync, StructureSize, StructureLength, StructureChecksum}
use Rattle.faults.specs.Questions.{ask, first_fault, answered, InOrder, DecidedBeyond}
use Rattle.framing.specs.Stored.{word, checksum_from}

-- byte 2 is the id
abbrev pub id_of : List ℕ → ℕ
id_of bs = slice_index bs 1

-- bytes 3 and 4 are the size in 16-bit words
abbrev pub words_of : List ℕ → ℕ
words_of bs = word bs 2

-- the size in bytes
abbrev pub size_told : List ℕ → ℕ
size_told bs = 2 * words_of bs

-- ids 01 and 80 have 21 words, id 06 has 18, and there is no other
abbrev pub agrees : ℕ → ℕ → Bool
agrees id words = (id == 0x01 && words == 21) || ((id == 0x80 && words == 21) || (id == 0x06 && words == 18))

-- the bytes of the longest structure
abbrev pub longest_size : ℕ
longest_size = 42

-- every structure begins with this byte
abbrev pub sync : ℕ
sync = 0xa5

-- the checksum of the bytes before it: B58C and their sum, modulo 65,536
abbrev pub structure_sum : List ℕ → ℕ
structure_sum = checksum_from 0xb58c

-- the last two bytes hold the checksum of all before them
unfoldable pub is_sealed : List ℕ → Bool
is_sealed bs = structure_sum (take (length bs - 2) bs) == word bs (length bs - 2)

-- what is asked of the head
abbrev pub head_questions : List ℕ → List (Option FrameFault)
head_questions bs =
    ask (nat_le 4 (length bs)) NoStructure
    ∷ ask (slice_index bs 0 == sync) Sync
    ∷ ask (agrees (id_of bs) (words_of bs)) StructureSize
    ∷ []

-- what is asked of the whole
abbrev pub whole_questions : List ℕ → List (Option FrameFault)
whole_questions bs =
    ask (length bs == size_told bs) StructureLength
    ∷ ask (is_sealed bs) StructureChecksum
    ∷ []

-- the size in words that a right head tells
abbrev pub head_told : List ℕ → Result ℕ FrameFault
head_told bs = answered (first_fault (head_questions bs)) (words_of bs)

abbrev pub questions : List ℕ → List (Option FrameFault)
questions bs = head_questions bs ++ whole_questions bs

-- opening answers the id
abbrev pub opened : List ℕ → Result ℕ FrameFault
opened bs = answered (first_fault (questions bs)) (id_of bs)

-- What a structure is, with no order of questions.
pub record IsStructure (bs : List ℕ) : Type 0 where
  pub first : slice_index_or bs 0 0 ≡ sync
  pub size : agrees (id_of bs) (words_of bs) ≡ true
  pub whole : length bs ≡ size_told bs
  pub sum : structure_sum (take (length bs - 2) bs) ≡ word bs (length bs - 2)

-- The laws of opening bytes bs, above the list of questions.
pub record OpeningLaws (bs : List ℕ) : Type 0 where
  -- exactly the structures open
  pub opens : opened bs ≡ Ok (id_of bs) → IsStructure bs
  pub structures : IsStructure bs → opened bs ≡ Ok (id_of bs)
  -- the first question that is answered by no decides
  pub order : InOrder (questions bs) (opened bs)
  -- of more bytes than any structure has, no more than the longest and one are looked at
  pub beyond : DecidedBeyond longest_size opened bs
