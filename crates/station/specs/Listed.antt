-- The call that writes the line of a receiver's found frame: what it asks, in order, and what it comes to.
use Rattle.std.specs.Prelude.{◌≡◌, ℕ, cond, List, [], ◌∷◌, ◌++◌, map, length, take, is_some, Some, None, IfOk, Option, Result, nat_le, ◌≤◌}
use Rattle.faults.specs.Questions.{ask, first_fault, answered, all_yes}
use Rattle.faults.specs.declared.line.LineFault.{LineFault}
use Rattle.faults.specs.declared.line.LineFault.TheVariants.{InSection, NoFrame}
use Rattle.faults.specs.declared.section.SectionFault.{SectionFault}
use Rattle.faults.specs.declared.section.SectionFault.TheVariants.{Space}
use Rattle.pd0.specs.Ensembles.{IsEnsemble}
use Rattle.pd0.specs.Questions.{questions}
use Rattle.receiver.specs.State.{State, length_of}
use Rattle.station.specs.Lines.{line_text, written}

-- of a frame's bytes: the questions of opening an ensemble, and then whether the buffer has space for the line
abbrev pub frame_questions : List ℕ → List ℕ → List (Option SectionFault)
frame_questions bs out = questions bs ++ ask (nat_le (length (line_text bs)) (length out)) Space ∷ []

-- a fault below, as one of the line
abbrev pub in_section : Option SectionFault → Option LineFault
in_section None = None
in_section (Some f) = Some (InSection f)

-- the found frame, no byte where none is found
abbrev pub found_bytes : State → List ℕ
found_bytes s = take (length_of s.found) s.held

-- of a receiver: whether a frame is found, and then what is asked of that
abbrev pub line_questions : State → List ℕ → List (Option LineFault)
line_questions s out = ask (is_some s.found) NoFrame ∷ map in_section (frame_questions (found_bytes s) out)

-- the bytes written, or the fault of the first question that is answered by no
abbrev pub frame_lined : List ℕ → List ℕ → Result ℕ SectionFault
frame_lined bs out = answered (first_fault (frame_questions bs out)) (length (line_text bs))

abbrev pub lined : State → List ℕ → Result ℕ LineFault
lined s out = answered (first_fault (line_questions s out)) (length (line_text (found_bytes s)))

-- the line to the front of the buffer, where every question is answered by yes; else the buffer as it was
abbrev pub frame_buffer : List ℕ → List ℕ → List ℕ
frame_buffer bs out = cond (all_yes (first_fault (frame_questions bs out))) (written (line_text bs) out) out

abbrev pub lined_buffer : State → List ℕ → List ℕ
lined_buffer s out = cond (all_yes (first_fault (line_questions s out))) (written (line_text (found_bytes s)) out) out

-- What a call that writes the line of a receiver's found frame comes to: its answer, what the buffer holds then, and that no
-- more is written than the buffer has.
pub record IsLined (s : State) (old : List ℕ) (answer : Result ℕ LineFault) (new : List ℕ) : Type 0 where
  pub value : answer ≡ lined s old
  pub buffer : new ≡ lined_buffer s old
  pub bound : IfOk answer (λ n. n ≤ length old)

-- the found frame, where there is one, is an ensemble
abbrev pub FoundEnsemble : State → Type 0
FoundEnsemble s = (n : ℕ) → s.found ≡ Some n → IsEnsemble (take n s.held)
