-- A lawful train on bytes (W11): these payloads carry the packets of these pieces.
use Rattle.std.specs.Prelude.{◌≡◌, List, true, ℕ}
use Rattle.base.specs.Lists.{All}
use Rattle.base.specs.Answers.{Given}
use Rattle.obu.specs.Wire.{whole_of}
use Rattle.lawful.specs.Train.{Piece, Full, closed, packets_of_pieces, obus_of_pieces, join}
use Rattle.lawful.specs.Payload.{CarryAll}

-- an OBU that R18 would not refuse
abbrev pub WellFormed : List ℕ → Type 0
WellFormed bytes = Given (whole_of bytes)

pub record Lawful (t : List Piece) (payloads : List (List ℕ)) : Type 0 where
  -- no element is empty
  pub full : Full t
  -- no OBU is open at the end
  pub ends : closed true t ≡ true
  pub well_formed : All (λ o. WellFormed (join o)) (obus_of_pieces t)
  pub carried : CarryAll payloads (packets_of_pieces t)
