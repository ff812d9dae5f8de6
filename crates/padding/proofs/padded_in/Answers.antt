use Rattle.obu.proofs.Scans.{given_listed}
use Rattle.padding.proofs.padded_in.Goals as goal

pub count_obus-requires : goal.count_obus-requires
count_obus-requires c = (given_listed _ _ c.requires).0
