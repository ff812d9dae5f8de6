-- The receive call.
use Rattle.receiver.proofs.Behind as behind
use Rattle.claims.specs.Receiving.{FourteenWhen, FourteenOnly}

pub fourteen_when : FourteenWhen
fourteen_when = behind.fourteen_when

pub fourteen_only : FourteenOnly
fourteen_only = behind.fourteen_only
