use Rattle.receiver.specs.View.{view}
use Rattle.station.specs.Left.{left}
use Rattle.listing.proofs.Listing.list_held.Given as goal

abbrev pub decreases-loop-count : goal.decreases-loop-count
decreases-loop-count g l = left (view l.self.receiver)
