use Rattle.witness.proofs.Holding.{both_met, over_met, overlap_costs, both_enough, over_enough}
use Rattle.witness.proofs.distance.Goals as goal

pub returns-clause-both : goal.returns-clause-both
returns-clause-both c = both_met c.keeps_laws.ensures

pub returns-clause-over : goal.returns-clause-over
returns-clause-over c = over_met c.keeps_laws.ensures

pub returns-clause-costs : goal.returns-clause-costs
returns-clause-costs c = overlap_costs

pub returns-clause-enough : goal.returns-clause-enough
returns-clause-enough c = (both_enough, over_enough)
