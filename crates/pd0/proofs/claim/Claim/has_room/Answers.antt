use Rattle.std.proofs.Common.{rules}
use Rattle.pd0.proofs.Walks.{refuted, met_before, walked_more}
use Rattle.pd0.proofs.claim.Claim.has_room.Goals as goal

pub returns-then-met-number : goal.returns-then-met-number
returns-then-met-number c = search (rules, refuted, met_before)

pub loop-k-preserved : goal.loop-k-preserved
loop-k-preserved c =
    simp (c.number-number.ensures, c.is_named.ensures)
    (walked_more _ _ _ c.loop-k.k c.loop-k.met c.loop-k.invariant c.from-kind.result (search rules) (search rules)
    c.loop-k-test.true (search rules) (search rules))
