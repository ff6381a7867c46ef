-- At most how many ensembles can still be found, without another byte.
use Rattle.std.specs.Prelude.{ℕ, ◌+◌, length, Some, None, Option}
use Rattle.receiver.specs.State.{State}

-- a frame that is found already is one
abbrev pub found_one : Option ℕ → ℕ
found_one None = 0
found_one (Some n) = 1

-- an ensemble has a byte or more
abbrev pub left : State → ℕ
left s = length s.held + found_one s.found
