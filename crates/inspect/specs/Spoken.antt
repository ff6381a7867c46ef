-- Which of two refusals is printed.
use Rattle.std.specs.Prelude.{ℕ, cond, ◌&&◌, List, length, ◌==◌, nat_lt, slice_index}
use Rattle.aquadopp.specs.Structures.{sync}
use Rattle.faults.specs.declared.frame.FrameFault.{FrameFault}
use Rattle.faults.specs.declared.section.SectionFault.{SectionFault}
use Rattle.faults.specs.declared.section.SectionFault.TheVariants.{InFrame}

-- the structure's where there is a first byte and it is the sync byte, and else the ensemble's
abbrev pub spoken : List ℕ → SectionFault → FrameFault → SectionFault
spoken bs ensemble structure = cond (nat_lt 0 (length bs) && slice_index bs 0 == sync) (InFrame structure) ensemble
