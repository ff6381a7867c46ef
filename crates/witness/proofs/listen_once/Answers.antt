use Rattle.std.proofs.Common.{◌∷◌, arith}
use Rattle.receiver.specs.Rule.{feeds, finds}
use Rattle.witness.proofs.Rounds.{fed_more, found_more, passed_more}
use Rattle.witness.proofs.listen_once.Goals as goal

pub returns-clause-promise : goal.returns-clause-promise
returns-clause-promise g c small es l few =
    let J = g.F.Framing.judged c.args.framing.now in
    let L = g.F.Framing.reach c.args.framing.now in
    let law = g.met.F.Framing.lawful c.args.framing.now in
    let bs = c.args.bytes.now in
    let x = c.feed.result in
    let r = c.find.result in
    let fs = feeds bs x ∷ es in
    let gs = finds r ∷ fs in
    let fed = c.feed.ensures.leads.promise J L law small es l (omega (arith, (fed_more es bs x).1)) in
    let found = c.find.ensures.promise small fs fed.led (omega (arith, found_more fs r, fed.led.run.1)) in
    c.pass.ensures.leads.promise J L law small gs found.led (omega (arith, passed_more gs c.pass.result, found.led.run.1))
