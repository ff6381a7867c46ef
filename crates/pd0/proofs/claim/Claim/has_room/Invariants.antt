use Rattle.pd0.proofs.Walks.{Walked}
use Rattle.pd0.proofs.claim.Claim.has_room.Given as goal

abbrev pub invariant-loop-k : goal.invariant-loop-k
invariant-loop-k l = Walked l.self.bytes.now l.self.count l.self.size l.k l.met
