-- The kinds of sections.
use Rattle.std.specs.Prelude.{ℕ, ◌+◌, ◌*◌, Bool, true, false, cond, List, codes, ◌==◌}
use Rattle.pd0.specs.declared.kind.Kind.{Kind}
use Rattle.pd0.specs.declared.kind.Kind.TheVariants.{FixedLeader, VariableLeader, Velocity, Correlation, Echo, PercentGood, Status, BottomTrack, Unnamed}

-- the identifications of the two leaders
abbrev pub fixed_leader_id : ℕ
fixed_leader_id = 0x0000

abbrev pub variable_leader_id : ℕ
variable_leader_id = 0x0080

-- the fewest bytes of a Fixed Leader
abbrev pub leader_size : ℕ
leader_size = 52

-- by the identification, a 16-bit number, low byte first: the bytes 80 00 are 0x0080, and 00 01 are 0x0100
abbrev pub kind_of : ℕ → Kind
kind_of id =
    cond (id == fixed_leader_id) FixedLeader
    (cond (id == variable_leader_id) VariableLeader
    (cond (id == 0x0100) Velocity
    (cond (id == 0x0200) Correlation
    (cond (id == 0x0300) Echo
    (cond (id == 0x0400) PercentGood
    (cond (id == 0x0500) Status
    (cond (id == 0x0600) BottomTrack
    Unnamed)))))))

-- the fewest bytes of a section, with c cells; its identification counts
abbrev pub least_size : Kind → ℕ → ℕ
least_size FixedLeader c = leader_size
least_size VariableLeader c = 65
least_size Velocity c = 2 + 8 * c
least_size Correlation c = 2 + 4 * c
least_size Echo c = 2 + 4 * c
least_size PercentGood c = 2 + 4 * c
least_size Status c = 2 + 4 * c
least_size BottomTrack c = 81
least_size Unnamed c = 2

abbrev pub is_named : Kind → Bool
is_named FixedLeader = true
is_named VariableLeader = true
is_named Velocity = true
is_named Correlation = true
is_named Echo = true
is_named PercentGood = true
is_named Status = true
is_named BottomTrack = true
is_named Unnamed = false

-- how many kinds there are, and a number below that for each
abbrev pub kinds : ℕ
kinds = 9

abbrev pub kind_number : Kind → ℕ
kind_number FixedLeader = 0
kind_number VariableLeader = 1
kind_number Velocity = 2
kind_number Correlation = 3
kind_number Echo = 4
kind_number PercentGood = 5
kind_number Status = 6
kind_number BottomTrack = 7
kind_number Unnamed = 8

-- the name that is printed
abbrev pub kind_name : Kind → List ℕ
kind_name FixedLeader = codes "Fixed Leader"
kind_name VariableLeader = codes "Variable Leader"
kind_name Velocity = codes "Velocity"
kind_name Correlation = codes "Correlation"
kind_name Echo = codes "Echo"
kind_name PercentGood = codes "Percent-Good"
kind_name Status = codes "Status"
kind_name BottomTrack = codes "Bottom Track"
kind_name Unnamed = codes "unnamed"
