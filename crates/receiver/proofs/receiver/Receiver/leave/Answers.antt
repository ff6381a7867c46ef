use Rattle.std.proofs.Common.{◌≡◌, None, Some, sym, arith}
use Rattle.receiver.specs.View.{view}
use Rattle.receiver.proofs.Buffer.{drop-slice_range}
use Rattle.receiver.proofs.Steps.{passes_some, passes_none}
use Rattle.receiver.proofs.receiver.Receiver.leave.Goals as goal

pub returns-clause-leads : goal.returns-clause-leads
returns-clause-leads c =
    let r = c.args.self.now in
    let n = c.in_ok-n.n in
    let e : r.found ≡ Some n = cc in
    rw c.take.ensures.after (passes_some (view r) n _ e (sym (drop-slice_range r.bytes r.start r.end n (omega arith))))

pub returns-in_err-n-clause-leads : goal.returns-in_err-n-clause-leads
returns-in_err-n-clause-leads c = let e : c.args.self.now.found ≡ None = cc in rw (c.from_residual.ensures, c.take.ensures.after) (passes_none (view c.args.self.now) e)
