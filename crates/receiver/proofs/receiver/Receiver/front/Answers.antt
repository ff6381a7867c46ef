use Rattle.std.proofs.Common.{arith}
use Rattle.std.proofs.lemmas.Grind.{common_steps}
use Rattle.receiver.specs.View.{view}
use Rattle.receiver.proofs.Steps.{shows_found}
use Rattle.receiver.proofs.receiver.Receiver.front.Goals as goal

pub returns-clause-leads : goal.returns-clause-leads
returns-clause-leads c = shows_found (view c.args.self.now) _ (grind (arith, common_steps))
