-- PD0 ensembles as a framing.
use Rattle.std.specs.Prelude.{ℕ, ◌+◌, Bool, List}
use Rattle.faults.specs.Questions.{first_fault, all_yes}
use Rattle.framing.specs.Headed.{headed}
use Rattle.framing.specs.declared.verdict.Verdict.{Verdict}
use Rattle.pd0.specs.Layout.{header_size, size_of}
use Rattle.pd0.specs.Questions.{head_questions, questions}

-- the questions of the header alone are answered by yes
unfoldable pub fit : List ℕ → Bool
fit bs = all_yes (first_fault (head_questions bs))

-- the counted bytes and the checksum
abbrev pub whole_size : List ℕ → ℕ
whole_size bs = size_of bs + 2

-- the bytes are an ensemble, no more and no fewer
unfoldable pub whole : List ℕ → Bool
whole bs = all_yes (first_fault (questions bs))

-- the header tells the size
abbrev pub judged_run : List ℕ → Verdict
judged_run = headed header_size fit whole_size whole
