use Rattle.std.proofs.Common.{rules}
use Rattle.pd0.proofs.Places.{sized, headed_place, tabled_place}
use Rattle.pd0.proofs.ensemble.Ensemble.table.Goals as goal

pub invariant_of-claim : goal.invariant_of-claim
invariant_of-claim c = search (rules, sized, headed_place)

pub invariant_of-result : goal.invariant_of-result
invariant_of-result c = search (rules, sized, tabled_place)
