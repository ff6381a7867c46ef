use Rattle.std.proofs.Common.{rules}
use Rattle.pd0.specs.Questions.{wrong_size}
use Rattle.faults.proofs.Firsts.{least_by_find}
use Rattle.pd0.proofs.table.Table.wrong_size.Goals as goal

pub returns-clause-value : goal.returns-clause-value
returns-clause-value c =
    least_by_find (wrong_size c.args.self.now.claim.bytes.now c.args.self.now.claim.count c.args.self.now.claim.size) _ _ _ c.find.result c.find.ensures.ran
    (λ k b q e. search rules)
