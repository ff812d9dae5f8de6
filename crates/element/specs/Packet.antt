-- A packet taken apart (H1, E1).
use Rattle.std.specs.Prelude.{ℕ, List, Bool}

-- z: the first element goes on with an OBU of the packet before; y: the last element's OBU goes on in the packet after
pub record Packet : Type 0 where
  pub z : Bool
  pub y : Bool
  pub elements : List (List ℕ)
