-- The two ways to name a byte of a run.
use Rattle.std.specs.Prelude.{ℕ, ◌+◌}
use Rattle.faults.specs.declared.place.ByteNumber.{ByteNumber}
use Rattle.faults.specs.declared.place.Offset.{Offset}

abbrev pub byte_number : ℕ → ByteNumber
byte_number n = record { 0 = n }

-- offsets count from 0, byte numbers from 1: this is the one step between them
abbrev pub byte_at : ℕ → ByteNumber
byte_at offset = byte_number (offset + 1)

abbrev pub numbered : Offset → ByteNumber
numbered o = byte_at o.0

-- the place of a fault whose rule names no byte
abbrev pub nowhere : ByteNumber
nowhere = byte_number 0
