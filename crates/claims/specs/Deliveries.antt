-- Demand 3, where no statement of `delivery` has a name of its own.
use Rattle.std.specs.Prelude.{List}
use Rattle.base.specs.Lists.{All}
use Rattle.lawful.specs.Train.{Piece}
use Rattle.lawful.specs.Lawful.{Lawful}
use Rattle.delivery.specs.Units.{Sending, Accepted, payloads_sent}

-- what the writing calls write for accepted units, each with its own mtu, is a lawful train
abbrev pub UnitsLawful : Type 0
UnitsLawful = (sendings : List Sending) → All Accepted sendings → (t : List Piece) × Lawful t (payloads_sent sendings)
