-- What a receiver holds.
use Rattle.std.specs.Prelude.{ℕ, ◌*◌, Bool, false, List, [], Some, None, Option}

-- the most bytes that are held at a time
abbrev pub capacity : ℕ
capacity = 4352

-- The buffer of the code has twice as many places, so that the held bytes are seldom moved.
abbrev pub room : ℕ
room = 2 * capacity

pub record State : Type 0 where
  -- the bytes that were taken and neither passed nor dropped yet, the oldest first
  pub held : List ℕ
  -- the length of the found frame, which stands at the front of the held bytes, where one is found
  pub found : Option ℕ
  -- no more bytes are taken
  pub ended : Bool

-- a new receiver
abbrev pub fresh : State
fresh = record { held = []; found = None; ended = false }

-- the length of a found frame, 0 where there is none
abbrev pub length_of : Option ℕ → ℕ
length_of None = 0
length_of (Some n) = n
