use Rattle.receiver.specs.View.{view}
use Rattle.station.proofs.Fewer.{fewer}
use Rattle.listing.proofs.Listing.list_next.Goals as goal

pub returns-clause-fewer : goal.returns-clause-fewer
returns-clause-fewer g c =
    fewer (view c.args.self.now.receiver) (view c.find_line-listed.new.receiver) (view c.pass.new.self) c.find_line-listed.result.finding
    c.in-Frame.field-0 c.pass.result c.find_line-listed.ensures.first c.in-Frame.is c.pass.ensures.leads.rule
