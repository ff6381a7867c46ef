-- What faults and layers print.
use Rattle.std.specs.Prelude.{ℕ, List, codes}
use Rattle.faults.specs.declared.frame.FrameFault.{FrameFault}
use Rattle.faults.specs.declared.frame.FrameFault.TheVariants.{NoHeader, Mark, SectionCount, Size, Length, Checksum, OffsetTable, SectionOrder, EntryOutside, NoStructure, Sync, StructureSize, StructureLength, StructureChecksum}
use Rattle.faults.specs.declared.layer.Layer.{Layer}
use Rattle.faults.specs.declared.layer.Layer.TheVariants.{Frame, Section, Line}
use Rattle.faults.specs.declared.line.LineFault.{LineFault}
use Rattle.faults.specs.declared.line.LineFault.TheVariants.{InSection, Ended, NoFrame}
use Rattle.faults.specs.declared.section.SectionFault.{SectionFault}
use Rattle.faults.specs.declared.section.SectionFault.TheVariants.{InFrame, Leader, TooShort, Absent, Space, Clock, Field, Value}

abbrev pub layer_word : Layer → List ℕ
layer_word Frame = codes "frame"
layer_word Section = codes "section"
layer_word Line = codes "line"

abbrev pub frame_sentence : FrameFault → List ℕ
frame_sentence NoHeader = codes "there are too few bytes for a PD0 header"
frame_sentence (Mark p) = codes "a PD0 ensemble begins with two bytes 7F, and this byte is another"
frame_sentence (SectionCount p) = codes "the number of sections is out of range"
frame_sentence (Size p) = codes "the number of counted bytes is out of range"
frame_sentence Length = codes "there are fewer or more bytes than the header says"
frame_sentence (Checksum p) = codes "the checksum does not agree with the bytes before it"
frame_sentence (OffsetTable p) = codes "this offset is not where a section can begin"
frame_sentence (SectionOrder p) = codes "this section is not of a kind that can stand here"
frame_sentence EntryOutside = codes "an entry does not lie inside the body"
frame_sentence NoStructure = codes "there are too few bytes for the head of an Aquadopp structure"
frame_sentence Sync = codes "an Aquadopp structure begins with A5, and this is another byte"
frame_sentence StructureSize = codes "no Aquadopp structure has this id and this size"
frame_sentence StructureLength = codes "there are fewer or more bytes than the structure says"
frame_sentence StructureChecksum = codes "the structure's checksum does not agree with the bytes before it"

abbrev pub section_sentence : SectionFault → List ℕ
section_sentence (InFrame f) = frame_sentence f
section_sentence (Leader p) = codes "the Fixed Leader is too short, or its number of cells is out of range"
section_sentence (TooShort p) = codes "this section has fewer bytes than its kind needs"
section_sentence Absent = codes "there is no section of this kind"
section_sentence Space = codes "there is too little space"
section_sentence Clock = codes "the clock shows no real date and time"
section_sentence Field = codes "no field of this section starts at this byte and lies in it whole"
section_sentence Value = codes "the value does not fit the field"

abbrev pub line_sentence : LineFault → List ℕ
line_sentence (InSection f) = section_sentence f
line_sentence Ended = codes "the receiver has ended and takes no more bytes"
line_sentence NoFrame = codes "the receiver has found no frame"
