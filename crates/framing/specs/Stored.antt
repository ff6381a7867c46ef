-- Numbers as they are stored in bytes, and the sum that seals a frame.
use Rattle.std.specs.Prelude.{ℕ, ◌+◌, ◌-◌, ◌*◌, ◌%◌, Bool, ◌&&◌, List, length, take, sum, ◌==◌, nat_le, slice_index}

-- the 16-bit number at offset i, low byte first; a byte past the end counts as 0
abbrev pub word : List ℕ → ℕ → ℕ
word bs i = slice_index bs i + slice_index bs (i + 1) * 256

-- a 16-bit checksum: a start and all bytes, modulo 65,536
abbrev pub checksum_from : ℕ → List ℕ → ℕ
checksum_from start bs = (start + sum bs) % 65536

-- the last two bytes hold the checksum of all before them; fewer than two bytes hold none
abbrev pub sealed_from : ℕ → List ℕ → Bool
sealed_from start bs = nat_le 2 (length bs) && checksum_from start (take (length bs - 2) bs) == word bs (length bs - 2)
