use Rattle.receiver.specs.View.{view}
use Rattle.station.proofs.Lines.{new_ensemble}
use Rattle.station.proofs.line.find_ensemble.Goals as goal

pub returns-clause-known : goal.returns-clause-known
returns-clause-known c = new_ensemble (view c.args.receiver.now) (view c.find.new.self) _ c.find.ensures.first
