use Rattle.std.proofs.Common.{rules, length, ◌/◌, refl}
use Rattle.std.proofs.lemmas.Iterator.{YieldsList-from_slice}
use Rattle.std.proofs.lemmas.Iterator.Consumers.{fold_from_yields_List}
use Rattle.framing.proofs.Sums.{blocked, blocked_sum}
use Rattle.framing.proofs.checksum.wrapping_sum.Goals as goal

pub returns : goal.returns
returns c =
    let f = fold_from_yields_List _ blocked 0 c.fold.result c.fold.ensures.ran (YieldsList-from_slice c.as_chunks.result.0.now (cc))
    (λ a x b q k. search rules) in
    let s = blocked_sum 64 (length c.args.bytes.now / 64) c.args.bytes.now 0 0 refl in
    search (rules, f, s)
