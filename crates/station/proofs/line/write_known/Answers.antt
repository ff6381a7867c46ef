use Rattle.std.proofs.Common.{Err, sym, ap, ◌∙◌}
use Rattle.std.proofs.lemmas.Result.{err_from_is_err_and}
use Rattle.receiver.specs.View.{view}
use Rattle.station.proofs.Lines.{raised, some_found, shown_lined}
use Rattle.station.proofs.line.write_known.Goals as goal

pub invariant_of-write_line : goal.invariant_of-write_line
invariant_of-write_line c =
    let f = some_found (view c.args.receiver.now).found (view c.args.receiver.now).held _ c.in_ok-bytes.ensures.value in
    record { ensemble = rw f.1.1 (c.requires f.0 f.1.0) }

pub returns-in_err-write_line : goal.returns-in_err-write_line
returns-in_err-write_line c =
    let g = shown_lined c.args.out.now _ (view c.args.receiver.now) c.in_ok-bytes.ensures.value in
    let p = err_from_is_err_and c.from_residual-in_err-write_line.result c.from_residual-in_err-write_line.ensures.1 in
    record {
      bound = rw p.1 tt;
      value = p.1 ∙ ap Err p.2 ∙ ap raised c.in_err-write_line.ensures.value ∙ sym g.0;
      buffer = c.write_line.ensures.buffer ∙ sym g.1;
    }

pub returns : goal.returns
returns c =
    let g = shown_lined c.args.out.now _ (view c.args.receiver.now) c.in_ok-bytes.ensures.value in
    record {
      bound = c.in_ok-write_line.ensures.bound;
      value = ap raised c.in_ok-write_line.ensures.value ∙ sym g.0;
      buffer = c.write_line.ensures.buffer ∙ sym g.1;
    }
