use Rattle.std.proofs.Common.{refl}
use Rattle.pd0.proofs.Places.{opens, counted, ensemble, bare, whole, behind, inside, celled}
use Rattle.pd0.proofs.ensemble.Ensemble.fill.Goals as goal

pub invariant_of-self : goal.invariant_of-self
invariant_of-self c =
    let bs = c.args.bytes.now in
    let h = c.args.header in
    let s = ensemble bs h c.requires in
    rw (counted bs h c.requires)
    (record {
      few = s.sections.1;
      counted = refl;
      bare = bare bs s;
      opens = λ _. opens bs h c.requires;
      whole = whole bs s;
      behind = behind bs s;
      apart = s.apart;
      inside = inside bs s;
      celled = celled bs s;
      filled = s.sizes;
    })
