-- Two framings as one.
use Rattle.framing.specs.declared.verdict.Verdict.{Verdict}
use Rattle.framing.specs.declared.verdict.Verdict.TheVariants.{Sound, Short, Unfit}

-- the first verdict, or the second where the first is unfit
abbrev pub either : Verdict → Verdict → Verdict
either (Sound n) w = Sound n
either (Short m) w = Short m
either Unfit w = w
