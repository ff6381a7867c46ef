-- What values of the code stand for.
use Rattle.std.specs.Prelude.{ℕ, List, Ok, Err, Result, slice_range}
use Rattle.std.specs.Borrow.{Bor}
use Rattle.faults.specs.declared.line.LineFault.{LineFault}
use Rattle.receiver.specs.State.{State}
use Rattle.receiver.specs.declared.receiver.Receiver.{Receiver}

-- a receiver: all that the calls go by
abbrev pub view : Receiver → State
view r = record { held = slice_range r.bytes r.start r.end; found = r.found; ended = r.ended }

-- frame's answer, with the bytes that it shows
abbrev pub shown : Result (Bor (List ℕ)) LineFault → Result (List ℕ) LineFault
shown (Ok r) = Ok r.now
shown (Err f) = Err f
