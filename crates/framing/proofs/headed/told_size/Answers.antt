use Rattle.std.proofs.Common.{ap}
use Rattle.framing.specs.Headers.{exactly_by}
use Rattle.framing.proofs.headed.told_size.Goals as goal

pub returns-clause-by_header : goal.returns-clause-by_header
returns-clause-by_header g c = ap (λ j. j c.args.run.now) g.met.H.Headed.by_header

pub returns-clause-exactly : goal.returns-clause-exactly
returns-clause-exactly g c = let h = g.met.H.Headed in exactly_by h.laws h.by_header c.args.run.now
