use Rattle.std.proofs.Common.{◌≡◌, ◌-◌, [], ◌∷◌, length, take, drop, ap, ◌∙◌, subst, arith}
use Rattle.std.specs.Result.{result_unwrap_or}
use Rattle.std.proofs.lemmas.List.{length-drop, take_rest}
use Rattle.receiver.specs.Rule.{finds}
use Rattle.receiver.specs.View.{view}
use Rattle.receiver.specs.Promise.{Promise}
use Rattle.witness.specs.Session.{with_round}
use Rattle.witness.proofs.Rounds.{found_more, round_more}
use Rattle.witness.proofs.listen.Goals as goal

pub returns : goal.returns
returns g c small =
    let J = g.F.Framing.judged c.args.framing.now in
    let L = g.F.Framing.reach c.args.framing.now in
    let law = g.met.F.Framing.lawful c.args.framing.now in
    let bs = c.args.bytes.now in
    let n = c.unwrap_or.result in
    let zs = take (length bs - n) (drop n bs) in
    let rest : zs ≡ drop (result_unwrap_or c.listen_once-first.result.fed 0) bs = take_rest bs n ∙ ap (λ k. drop k bs) c.unwrap_or.ensures in
    let p = c.listen_once-first.result in
    let q = c.listen_once-second.result in
    let r = c.find-last.result in
    let es = with_round bs p [] in
    let fs = with_round zs q es in
    let long = ap length rest ∙ length-drop (result_unwrap_or p.fed 0) bs in
    let new = c.new-receiver.ensures.promise J L law small in
    let one = c.listen_once-first.ensures.promise small [] new.led (omega arith) in
    let two = c.listen_once-second.ensures.promise small es one.led (omega (arith, round_more [] bs p, c.listen_once-first.ensures.bound, long)) in
    let all = c.find-last.ensures.promise small fs two.led (omega (arith, found_more fs r, two.led.run.1)) in
    subst (λ ys. Promise J L (finds r ∷ with_round ys q es) (view c.find-last.new.self)) rest all
