use Rattle.receiver.proofs.Steps.{ends_always}
use Rattle.receiver.proofs.receiver.Receiver.set_ended.Goals as goal

pub returns : goal.returns
returns c = search ends_always
