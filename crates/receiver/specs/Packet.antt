-- A payload taken apart: Z, Y and the bytes of its elements (H1, E1 to E6).
use Rattle.std.specs.Prelude.{ℕ, List, map, ◌==◌, slice_index}
use Rattle.base.specs.Answers.{Answer, given, refused}
use Rattle.element.specs.Header.{z_bit, y_bit}
use Rattle.element.specs.Elements.{bytes_of, payload_elements}
use Rattle.element.specs.declared.Part.{Part}
pub use Rattle.element.specs.Packet.{Packet}

-- with these parts as its elements; the refusal of the receive call carries 0
abbrev pub packet_by : List ℕ → Answer (List Part) → Answer Packet
packet_by payload (given ps) =
    given
    (record {
      z = (z_bit (slice_index payload 0) == 1);
      y = (y_bit (slice_index payload 0) == 1);
      elements = map (bytes_of payload) ps;
    })
packet_by payload (refused n at) = refused n 0

-- R13, R15, R16, R17, or the packet
abbrev pub packet_of : List ℕ → Answer Packet
packet_of payload = packet_by payload (payload_elements payload)
