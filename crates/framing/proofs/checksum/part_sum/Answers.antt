use Rattle.std.proofs.Common.{rules, refl, ◌∙◌}
use Rattle.std.proofs.lemmas.Iterator.{YieldsList-from_slice}
use Rattle.std.proofs.lemmas.Iterator.Consumers.{fold_from_yields_List}
use Rattle.framing.proofs.Sums.{wrapped, wrapped_sum}
use Rattle.framing.proofs.checksum.part_sum.Goals as goal

pub returns : goal.returns
returns c =
    fold_from_yields_List _ wrapped 0 c.fold.result c.fold.ensures.ran (YieldsList-from_slice c.args.bytes.now (cc))
    (λ a x b q k. search rules)
    ∙ wrapped_sum c.args.bytes.now 0 0 refl
