use Rattle.std.proofs.Common.{◌≡◌, length, drop, sym, refl, ap, ◌∙◌, ⊎_elim, arith, rules}
use Rattle.std.proofs.lemmas.List.Edits.{length-between}
use Rattle.framing.specs.Laws.{Run}
use Rattle.receiver.specs.declared.receiver.find.Turn.TheVariants.{Drop}
use Rattle.receiver.specs.State.{length_of, room}
use Rattle.receiver.specs.Rule.{turn_of}
use Rattle.receiver.specs.View.{view}
use Rattle.receiver.proofs.Buffer.{drop-slice_range}
use Rattle.receiver.proofs.Promises.{find_leads}
use Rattle.receiver.proofs.Finding.{kept_sound, dropped_one, at_keep, at_wait, at_over, at_drop}
use Rattle.receiver.proofs.receiver.Receiver.search.Goals as goal

-- a kept frame lies within the held bytes
pub invariant_of-self-clause-whole : goal.invariant_of-self-clause-whole
invariant_of-self-clause-whole g c =
    let s = c.loop-n.self in
    let J = g.F.Framing.judged c.args.framing.now in
    let n = c.in-Keep.n in
    let full : length s.bytes ≡ room = search rules in
    let long = length-between s.bytes s.start s.end (omega arith) in
    let run : Run (view s).held = (c.decide.ensures.octets, omega arith) in
    ⊎_elim (λ q. omega (arith, s.whole, ap length_of q))
    (λ q. omega (arith, (g.met.F.Framing.lawful c.args.framing.now).size (view s).held n run q, long))
    (kept_sound J s.found s.ended (view s).held n (search rules))

pub returns-in-Keep-clause-leads : goal.returns-in-Keep-clause-leads
returns-in-Keep-clause-leads g c =
    let J = g.F.Framing.judged c.args.framing.now in
    find_leads (g.met.F.Framing.lawful c.args.framing.now) _ _ _ (at_keep J (view c.args.self.now) (view c.loop-n.self) _ c.loop-n.invariant.ahead c.in-Keep.n (search rules))

pub returns-in-Wait-clause-leads : goal.returns-in-Wait-clause-leads
returns-in-Wait-clause-leads g c =
    let J = g.F.Framing.judged c.args.framing.now in
    find_leads (g.met.F.Framing.lawful c.args.framing.now) _ _ _ (at_wait J (view c.args.self.now) (view c.loop-n.self) _ c.loop-n.invariant.ahead c.in-Wait.m (search rules))

pub returns-in-Over-clause-leads : goal.returns-in-Over-clause-leads
returns-in-Over-clause-leads g c =
    let J = g.F.Framing.judged c.args.framing.now in
    find_leads (g.met.F.Framing.lawful c.args.framing.now) _ _ _ (at_over J (view c.args.self.now) (view c.loop-n.self) _ c.loop-n.invariant.ahead (search rules))

pub loop-n-preserved : goal.loop-n-preserved
loop-n-preserved g c =
    let s = c.loop-n.self in
    let J = g.F.Framing.judged c.args.framing.now in
    let k = c.in-Drop.k in
    let e : turn_of J (view s) ≡ Drop k = search rules in
    let full : length s.bytes ≡ room = search rules in
    let long = length-between s.bytes s.start s.end (omega arith) in
    let one = dropped_one J s.found s.ended (view s).held k e in
    let rest = sym (ap (λ n. drop n (view s).held) (sym one.1) ∙ drop-slice_range s.bytes s.start s.end k (omega arith)) in
    record { ahead = at_drop J (view c.args.self.now) (view s) _ c.loop-n.invariant.ahead k _ _ e (omega (arith, c.loop-n.invariant.forth, one.1)) rest refl refl; forth = omega (arith, c.loop-n.invariant.forth); same = c.loop-n.invariant.same }
