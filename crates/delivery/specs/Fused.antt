-- Why trains are never joined: packets of two works under one receiver (T4): the statement.
use Rattle.std.specs.Prelude.{◌≡◌, ℕ, List, [], ◌∷◌, ◌++◌, map, get_or, replicate}
use Rattle.base.specs.Lists.{All}
use Rattle.obu.specs.Unit.{obus_of}
use Rattle.obu.specs.Wire.{wire_of}
use Rattle.payloader.specs.Payload.{payloads_of}
use Rattle.delivery.specs.Calls.{Arrival, fresh_calls, handed_out}

-- two works of one OBU each, which an mtu of 3 cuts into two packets
abbrev pub one : List ℕ
one = 0x32 ∷ 2 ∷ 0xa1 ∷ 0xa2 ∷ []

abbrev pub other : List ℕ
other = 0x32 ∷ 2 ∷ 0xb1 ∷ 0xb2 ∷ []

-- packet 41 of the one, and then packet 42 of the other
abbrev pub fused_packets : List (List ℕ)
fused_packets = get_or (payloads_of 3 one) 0 [] ∷ get_or (payloads_of 3 other) 1 [] ∷ []

abbrev pub arrival : ℕ → Arrival
arrival k = record { packet = k; output = replicate 14 0 }

-- an OBU of the one's first byte and the other's last
abbrev pub neither : List ℕ
neither = 0x32 ∷ 2 ∷ 0xa1 ∷ 0xb2 ∷ []

-- it comes out, and it is no OBU of either work. No receiver can tell: hence one train, one fresh receiver
pub record Fused : Type 0 where
  pub out : handed_out (fresh_calls (record { payloads = fused_packets; first = 41 }) (replicate 3 0) (arrival 0 ∷ arrival 1 ∷ [])) ≡ neither
  pub of_neither : All (λ (o : List ℕ). o ≡ neither → ⊥) (map (wire_of one) (obus_of one) ++ map (wire_of other) (obus_of other))
