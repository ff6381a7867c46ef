-- Receivers over the same PD0 ensembles: the bytes of their lines, and their records.
use Rattle.std.specs.Prelude.{ℕ, List, [], ◌∷◌, ◌++◌, drop, replicate, Ok, Err}
use Rattle.faults.specs.declared.line.LineFault.TheVariants.{Ended, NoFrame}
use Rattle.pd0.specs.Questions.{longest_size}
use Rattle.receiver.specs.declared.answer.Answer.TheVariants.{Wanting, Frame, Over}
use Rattle.receiver.specs.State.{capacity}
use Rattle.receiver.specs.Rule.{feeds, finds, passes, ends}
use Rattle.receiver.specs.Record.{Record}

-- the header of a longest ensemble: 4,094 counted bytes, two sections
abbrev pub header : List ℕ
header = 0x7f ∷ 0x7f ∷ 0xfe ∷ 0x0f ∷ 0 ∷ 2 ∷ []

-- A longest ensemble: the offsets 10 and 62; the Fixed Leader, with one cell; the Variable Leader, much longer than it has to
-- be; and the checksum. All other bytes are 0.
abbrev pub ensemble : List ℕ
ensemble =
    header ++ (10 ∷ 0 ∷ 62 ∷ 0 ∷ (replicate 9 0 ++ (1 ∷ (replicate 42 0 ++ (0x80 ∷ (replicate 4031 0 ++ (0xd6 ∷ 0x02 ∷ [])))))))

-- what is left of an ensemble that was cut off: a header, which claims 4,096 bytes
abbrev pub false_start : List ℕ
false_start = header

abbrev pub first_line : List ℕ
first_line = ensemble ++ ensemble

-- what the false start claims reaches far behind the joint
abbrev pub second_line : List ℕ
second_line = false_start ++ (ensemble ++ ensemble)

-- 200 bytes that are an ensemble of 202 bytes together with the first two behind them, as an ensemble's mark happens to be the
-- right checksum
abbrev pub overlap : List ℕ
overlap =
    0x7f ∷ 0x7f ∷ 200 ∷ 0 ∷ 0 ∷ 2 ∷ 10 ∷ 0 ∷ 62 ∷ 0 ∷ (replicate 9 0 ++ (1 ∷ (replicate 42 0 ++ (0x80 ∷ 0 ∷ (replicate 125 255 ++ (107 ∷ replicate 10 0))))))

abbrev pub third_line : List ℕ
third_line = overlap ++ (ensemble ++ ensemble)

-- behind the joints the lines are equal
abbrev pub first_joint : ℕ
first_joint = 0

abbrev pub second_joint : ℕ
second_joint = 6

abbrev pub third_joint : ℕ
third_joint = 200

-- A receiver's calls on a line, the newest first: a pass with no frame found, which is refused; a feed of all, of which as
-- many bytes are taken as can be held; a find, which drops the false bytes; a pass; a feed of the rest; a find; a pass; and
-- a find that wants more.
abbrev pub line_calls : List ℕ → ℕ → ℕ → Record
line_calls line noise rest =
    finds (record { answer = Wanting 1; dropped = 0 })
    ∷ passes (Ok longest_size)
    ∷ finds (record { answer = Frame longest_size; dropped = 0 })
    ∷ feeds (drop capacity line) (Ok rest)
    ∷ passes (Ok longest_size)
    ∷ finds (record { answer = Frame longest_size; dropped = noise })
    ∷ feeds line (Ok capacity)
    ∷ passes (Err NoFrame)
    ∷ []

abbrev pub first_record : Record
first_record = line_calls first_line 0 3840

abbrev pub second_record : Record
second_record = line_calls second_line 6 3846

-- The third receiver finds a frame across the joint, and passes it. So it drops the rest of the first ensemble behind the
-- joint, before it finds the second.
abbrev pub third_record : Record
third_record =
    finds (record { answer = Wanting 1; dropped = 0 })
    ∷ passes (Ok longest_size)
    ∷ finds (record { answer = Frame longest_size; dropped = 0 })
    ∷ feeds (drop capacity third_line) (Ok 4040)
    ∷ finds (record { answer = Wanting longest_size; dropped = 4094 })
    ∷ passes (Ok 202)
    ∷ finds (record { answer = Frame 202; dropped = 0 })
    ∷ feeds third_line (Ok capacity)
    ∷ passes (Err NoFrame)
    ∷ []

-- the first receiver, ended: a feed is refused then, and find says that it is over
abbrev pub ended_record : Record
ended_record = finds (record { answer = Over; dropped = 0 }) ∷ feeds ensemble (Err Ended) ∷ ends ∷ first_record
