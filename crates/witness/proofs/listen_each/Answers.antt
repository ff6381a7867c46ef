use Rattle.receiver.specs.View.{view}
use Rattle.witness.specs.Session.{record_of}
use Rattle.witness.proofs.listen_each.Goals as goal

-- the second receiver's record is one of those that the first's promise speaks of
pub returns : goal.returns
returns g c small =
    let r = c.listen-2.result in
    (c.listen.ensures small).wanting (record_of c.args.two.now r) (view r.receiver) (c.listen-2.ensures small).led
