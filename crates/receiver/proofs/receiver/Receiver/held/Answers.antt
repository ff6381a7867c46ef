use Rattle.std.proofs.Common.{◌-◌, drop, rules}
use Rattle.framing.specs.Laws.{Bytes}
use Rattle.receiver.proofs.Tails.{bytes_drop, bytes_take}
use Rattle.receiver.proofs.receiver.Receiver.held.Goals as goal

pub returns-clause-octets : goal.returns-clause-octets
returns-clause-octets c =
    let r = c.args.self.now in
    let octets : Bytes r.bytes = λ k. search rules in
    bytes_take (r.end - r.start) (drop r.start r.bytes) (bytes_drop r.start r.bytes octets)
