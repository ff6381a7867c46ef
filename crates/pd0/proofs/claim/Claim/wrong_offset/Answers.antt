use Rattle.std.proofs.Common.{rules}
use Rattle.pd0.specs.Questions.{wrong_offset}
use Rattle.faults.proofs.Firsts.{least_by_find}
use Rattle.pd0.proofs.claim.Claim.wrong_offset.Goals as goal

pub returns-clause-value : goal.returns-clause-value
returns-clause-value c =
    least_by_find (wrong_offset c.args.self.now.bytes.now c.args.self.now.count c.args.self.now.size) _ _ _ c.find.result c.find.ensures.ran
    (λ k b q e. search rules)
