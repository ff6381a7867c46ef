-- The numbered refusals: for each case of a fault its number, its layer and its place.
use Rattle.std.specs.Prelude.{ℕ}
use Rattle.faults.specs.declared.frame.FrameFault.{FrameFault}
use Rattle.faults.specs.declared.frame.FrameFault.TheVariants.{NoHeader, Mark, SectionCount, Size, Length, Checksum, OffsetTable, SectionOrder, EntryOutside, NoStructure, Sync, StructureSize, StructureLength, StructureChecksum}
use Rattle.faults.specs.declared.layer.Layer.{Layer}
use Rattle.faults.specs.declared.layer.Layer.TheVariants.{Frame, Section, Line}
use Rattle.faults.specs.declared.line.LineFault.{LineFault}
use Rattle.faults.specs.declared.line.LineFault.TheVariants.{InSection, Ended, NoFrame}
use Rattle.faults.specs.declared.place.ByteNumber.{ByteNumber}
use Rattle.faults.specs.declared.section.SectionFault.{SectionFault}
use Rattle.faults.specs.declared.section.SectionFault.TheVariants.{InFrame, Leader, TooShort, Absent, Space, Clock, Field, Value}
use Rattle.faults.specs.Places.{byte_at, nowhere}

-- what a caller is told of a refusal
pub record Told : Type 0 where
  pub number : ℕ
  pub layer : Layer
  pub place : ByteNumber

abbrev told : ℕ → Layer → ByteNumber → Told
told n l p = record { number = n; layer = l; place = p }

-- the table of the frame's refusals
abbrev pub frame_told : FrameFault → Told
frame_told NoHeader = told 1 Frame nowhere
frame_told (Mark p) = told 2 Frame p
frame_told (SectionCount p) = told 3 Frame p
frame_told (Size p) = told 4 Frame p
frame_told Length = told 5 Frame (byte_at 2)
frame_told (Checksum p) = told 6 Frame p
frame_told (OffsetTable p) = told 7 Frame p
frame_told (SectionOrder p) = told 8 Frame p
frame_told EntryOutside = told 13 Frame nowhere
frame_told NoStructure = told 15 Frame nowhere
frame_told Sync = told 16 Frame nowhere
frame_told StructureSize = told 17 Frame nowhere
frame_told StructureLength = told 18 Frame nowhere
frame_told StructureChecksum = told 19 Frame nowhere

-- the table of the section's refusals; one of the frame below is told as it was there
abbrev pub section_told : SectionFault → Told
section_told (InFrame f) = frame_told f
section_told (Leader p) = told 9 Section p
section_told (TooShort p) = told 10 Section p
section_told Absent = told 11 Section nowhere
section_told Space = told 12 Section nowhere
section_told Clock = told 14 Section nowhere
section_told Field = told 20 Section nowhere
section_told Value = told 21 Section nowhere

-- the table of the line's refusals; one of a section below is told as it was there
abbrev pub line_told : LineFault → Told
line_told (InSection f) = section_told f
line_told Ended = told 22 Line nowhere
line_told NoFrame = told 23 Line nowhere
