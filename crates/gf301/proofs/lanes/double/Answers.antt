use Rattle.gf301.proofs.LaneProducts.{doubled_lanes}
use Rattle.gf301.proofs.lanes.double.Goals as goal

pub returns : goal.returns
returns c = doubled_lanes c.args.a 16 c.fits-a.0 c.fits-a.1
