-- Aquadopp structures as a framing.
use Rattle.std.specs.Prelude.{ℕ, Bool, List}
use Rattle.faults.specs.Questions.{first_fault, all_yes}
use Rattle.framing.specs.Headed.{headed}
use Rattle.framing.specs.declared.verdict.Verdict.{Verdict}
use Rattle.aquadopp.specs.Structures.{head_questions, questions, size_told}

-- the head is right
unfoldable pub fit : List ℕ → Bool
fit bs = all_yes (first_fault (head_questions bs))

-- the bytes are a structure, no more and no fewer
unfoldable pub whole : List ℕ → Bool
whole bs = all_yes (first_fault (questions bs))

-- four bytes tell the size
abbrev pub judged_run : List ℕ → Verdict
judged_run = headed 4 fit size_told whole
