use Rattle.std.proofs.Common.{◌≡◌, ◌+◌, ◌-◌, ◌++◌, ap, ◌∙◌, arith}
use Rattle.receiver.specs.State.{State}
use Rattle.receiver.specs.Rule.{taking}
use Rattle.receiver.specs.View.{view}
use Rattle.receiver.proofs.Buffer.{slice_range-put_mid}
use Rattle.receiver.proofs.Steps.{feeds_ended, feeds_open}
use Rattle.receiver.proofs.receiver.Receiver.take.Goals as goal

pub returns-then-self-clause-leads : goal.returns-then-self-clause-leads
returns-then-self-clause-leads c = feeds_ended (view c.args.self.now) c.args.bytes.now c.if-self.true

pub returns-clause-leads : goal.returns-clause-leads
returns-clause-leads c =
    let r = c.args.self.now in
    let m = c.make_room.new.self in
    let bs = c.args.bytes.now in
    let ys = c.copy_from_slice.new.self in
    let n = c.min-count.result in
    let same = c.make_room.ensures.same in
    let count : n ≡ taking (view r).held bs = cc in
    let held = slice_range-put_mid m.bytes ys m.end (m.end + n - m.end) m.start (m.end + n) (omega arith) (omega arith) m.ordered ∙ ap (λ (x : State). x.held ++ ys) same ∙ ap (λ z. (view r).held ++ z) c.copy_from_slice.ensures.after in
    feeds_open (view r) bs n _ (λ i. (c.type_inv.bytes i).fits) c.if-self.false count held (ap (λ (x : State). x.found) same) (ap (λ (x : State). x.ended) same)
