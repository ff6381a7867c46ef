-- A framing below a stamp.
use Rattle.std.specs.Prelude.{ℕ, ◌+◌, ◌-◌, ◌^◌, min, Bool, cond, ◌&&◌, List, length, drop, ◌==◌, nat_lt, slice_index}
use Rattle.framing.specs.declared.verdict.Verdict.{Verdict}
use Rattle.framing.specs.declared.verdict.Verdict.TheVariants.{Sound, Short, Unfit}
use Rattle.framing.specs.Stored.{word}

-- the largest number that code can tell
abbrev pub most : ℕ
most = 2 ^ 64 - 1

-- a stamp has nine bytes: the mark 4C 4F 47, a 16-bit version and 32 bits of seconds
abbrev pub stamp_size : ℕ
stamp_size = 9

-- the one version there is
abbrev pub stamp_version : ℕ
stamp_version = 1

-- a number of bytes and the stamp's, or the largest number where that would pass it
abbrev pub with_stamp : ℕ → ℕ
with_stamp n = min (n + stamp_size) most

-- the mark and the version are right; the seconds may be any
unfoldable pub is_stamp : List ℕ → Bool
is_stamp run =
    (slice_index run 0 == 0x4c) && (slice_index run 1 == 0x4f && (slice_index run 2 == 0x47 && word run 3 == stamp_version))

-- the verdict on what follows a stamp, as one on the stamp and what follows
abbrev pub behind_stamp : Verdict → Verdict
behind_stamp (Sound n) = Sound (with_stamp n)
behind_stamp (Short m) = Short (with_stamp m)
behind_stamp Unfit = Unfit

-- the verdict on a run of `present` bytes that begins with a stamp or not, by the verdict on what follows a stamp's bytes
abbrev pub stamped_by : ℕ → Bool → Verdict → Verdict
stamped_by present stamp behind = cond (nat_lt present stamp_size) (Short stamp_size) (cond stamp (behind_stamp behind) Unfit)

abbrev pub stamped : (List ℕ → Verdict) → List ℕ → Verdict
stamped below run = stamped_by (length run) (is_stamp run) (below (drop stamp_size run))
