use Rattle.std.proofs.Common.{rules}
use Rattle.pd0.specs.Questions.{has_ident}
use Rattle.faults.proofs.Firsts.{some_by_any}
use Rattle.pd0.proofs.table.Table.is_repeated.Goals as goal

pub returns : goal.returns
returns c =
    some_by_any (has_ident c.args.self.now.claim.bytes.now c.args.id) _ _ _ c.any.result c.any.ensures.ran
    (λ k b q e. search rules)
