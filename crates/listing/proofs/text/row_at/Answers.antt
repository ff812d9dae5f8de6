use Rattle.obu.specs.Records.{obus_in}
use Rattle.packetizer.specs.Records.{packets_in}
use Rattle.aggregation.proofs.Calls.{given_whole}
use Rattle.listing.proofs.text.row_at.Goals as goal

pub new_at-new-requires : goal.new_at-new-requires
new_at-new-requires c = (given_whole c.args.unit.now (obus_in c.args.obus.now) (packets_in c.args.plan.now) c.args.k c.requires.headed).inside
