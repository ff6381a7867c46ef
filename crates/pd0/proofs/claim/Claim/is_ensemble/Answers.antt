use Rattle.std.proofs.Common.{rules}
use Rattle.pd0.proofs.Wholes.{wrong_sections, by_checksum}
use Rattle.pd0.proofs.claim.Claim.is_ensemble.Goals as goal

pub returns-then-has_sections : goal.returns-then-has_sections
returns-then-has_sections c = search (rules, by_checksum)

pub returns-else-has_sections : goal.returns-else-has_sections
returns-else-has_sections c = search (rules, wrong_sections)
