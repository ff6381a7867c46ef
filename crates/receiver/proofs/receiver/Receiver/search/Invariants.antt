use Rattle.std.proofs.Common.{◌≡◌, ◌-◌, ◌≤◌}
use Rattle.receiver.specs.View.{view}
use Rattle.receiver.proofs.Finding.{Ahead}
use Rattle.receiver.proofs.receiver.Receiver.search.Given as goal

-- the find has come so far as bytes were dropped; the buffer is as it was
abbrev pub invariant-loop-n : goal.invariant-loop-n
invariant-loop-n g l = record {
  ahead : Ahead (g.F.Framing.judged l.framing) (view l.initial.self) (l.self.start - l.initial.self.start) (view l.self);
  forth : l.initial.self.start ≤ l.self.start;
  same : l.self.bytes ≡ l.initial.self.bytes;
}

abbrev pub decreases-loop-n : goal.decreases-loop-n
decreases-loop-n g l = l.self.end - l.self.start
