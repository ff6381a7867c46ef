-- Sections as they are handed out.
use Rattle.std.specs.Prelude.{◌≡◌, ℕ, ◌-◌, ◌<◌, ◌≤◌, List, Some, None, Option}
use Rattle.pd0.specs.declared.kind.Kind.{Kind}
use Rattle.pd0.specs.declared.kind.Kind.TheVariants.{FixedLeader, VariableLeader, Velocity, Correlation, Echo, PercentGood, Status, BottomTrack, Unnamed}
use Rattle.pd0.specs.declared.section.Section.{Section}
use Rattle.pd0.specs.declared.section.Section.TheVariants as section
use Rattle.pd0.specs.Kinds.{kind_of}
use Rattle.faults.specs.declared.place.ByteNumber.{ByteNumber}
use Rattle.faults.specs.Places.{byte_at}
use Rattle.pd0.specs.Layout.{count_of, size_of, offset, ident, part}

-- for each case its kind
abbrev pub section_kind : Section → Kind
section_kind (section.FixedLeader b) = FixedLeader
section_kind (section.VariableLeader b) = VariableLeader
section_kind (section.Velocity b) = Velocity
section_kind (section.Correlation b) = Correlation
section_kind (section.Echo b) = Echo
section_kind (section.PercentGood b) = PercentGood
section_kind (section.Status b) = Status
section_kind (section.BottomTrack b) = BottomTrack
section_kind (section.Unnamed b) = Unnamed

-- and its bytes
abbrev pub section_bytes : Section → List ℕ
section_bytes (section.FixedLeader b) = b.now
section_bytes (section.VariableLeader b) = b.now
section_bytes (section.Velocity b) = b.now
section_bytes (section.Correlation b) = b.now
section_bytes (section.Echo b) = b.now
section_bytes (section.PercentGood b) = b.now
section_bytes (section.Status b) = b.now
section_bytes (section.BottomTrack b) = b.now
section_bytes (section.Unnamed b) = b.now

-- What an ensemble has under a number from 1: none for 0 or above the count, else the section there, by the kind that its
-- identification names and with its own bytes.
abbrev pub SectionAt : List ℕ → ℕ → Option Section → Type 0
SectionAt bs number None = 0 < number → count_of bs < number
SectionAt bs number (Some s) =
    (0 < number) × (number ≤ count_of bs) × (section_kind s ≡ kind_of (ident bs (number - 1)))
    × (section_bytes s ≡ part bs (count_of bs) (size_of bs) (number - 1))

-- The byte number where the section of a number from 1 begins, which is its offset + 1; none where there is no section.
abbrev pub FirstByteAt : List ℕ → ℕ → Option ByteNumber → Type 0
FirstByteAt bs number None = 0 < number → count_of bs < number
FirstByteAt bs number (Some b) = (0 < number) × (number ≤ count_of bs) × (b ≡ byte_at (offset bs (number - 1)))
