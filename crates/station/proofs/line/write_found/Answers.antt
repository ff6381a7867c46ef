use Rattle.std.proofs.Common.{Err, sym, ap, ◌∙◌}
use Rattle.std.proofs.lemmas.Result.{err_from_is_err_and}
use Rattle.receiver.specs.View.{view}
use Rattle.station.proofs.Lines.{raised, refused_lined, refused_buffer, opened_found, shown_lined}
use Rattle.station.proofs.line.write_found.Goals as goal

pub returns-in_err-open : goal.returns-in_err-open
returns-in_err-open c =
    let frame = c.in_ok-frame.frame.now in
    let out = c.args.out.now in
    let g = shown_lined out _ (view c.args.receiver.now) c.in_ok-frame.ensures.value in
    let p = err_from_is_err_and c.from_residual-in_err-open.result c.from_residual-in_err-open.ensures.1 in
    let no = sym c.in_err-open.ensures.value in
    record {
      bound = rw p.1 tt;
      value = p.1 ∙ ap Err p.2 ∙ ap raised (sym (refused_lined frame out _ no)) ∙ sym g.0;
      buffer = sym (refused_buffer frame out _ no) ∙ sym g.1;
    }

pub write_known-requires : goal.write_known-requires
write_known-requires c =
    opened_found (view c.args.receiver.now) _ c.in_ok-frame.ensures.value (sym c.in_ok-open.ensures.value)
