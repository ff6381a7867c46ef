use Rattle.std.proofs.Common.{rules}
use Rattle.pd0.specs.Questions.{wrong_order}
use Rattle.faults.proofs.Firsts.{least_by_find}
use Rattle.pd0.proofs.table.Table.wrong_order.Goals as goal

pub returns-clause-value : goal.returns-clause-value
returns-clause-value c =
    least_by_find (wrong_order c.args.self.now.claim.bytes.now) _ _ _ c.find.result c.find.ensures.ran
    (λ k b q e. search rules)
