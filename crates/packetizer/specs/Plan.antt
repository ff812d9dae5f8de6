-- How the kept OBUs, by their sizes, are spread over packets (P1 to P10), and where each payload starts (P16).
use Rattle.std.specs.Prelude.{ℕ, zero, suc, ◌+◌, ◌-◌, min, List, [], ◌∷◌, ◌++◌, Bool, cond, ◌||◌, ltb, leb, eqb}
use Rattle.packetizer.specs.Fragment.{field_size, largest_fragment}
use Rattle.packetizer.specs.declared.PacketMetadata.{PacketMetadata}

-- L8, L9
abbrev pub least_mtu : ℕ
least_mtu = 3

abbrev pub most_counted : ℕ
most_counted = 3

-- P3, P16: a packet with nothing in it yet, whose first OBU is i, and whose payload starts at `start`; what is left in a packet
abbrev pub new_packet : ℕ → ℕ → PacketMetadata
new_packet i start =
    record {
      first_obu_index = i;
      num_obu_elements = 0;
      first_obu_offset = 0;
      last_obu_size = 0;
      packet_size = 0;
      payload_start = start;
    }

abbrev pub left_in : ℕ → PacketMetadata → ℕ
left_in room p = room - p.packet_size

-- P4: what a further element costs the one before it
unfoldable pub charge_of : PacketMetadata → ℕ
charge_of p =
    cond (eqb p.num_obu_elements 0 || ltb most_counted p.num_obu_elements) 0 (field_size p.last_obu_size)

-- the next element would be the fourth or a later one
abbrev pub fourth_or_later : PacketMetadata → Bool
fourth_or_later p = leb most_counted p.num_obu_elements

-- P5: a new packet starts; else the charge is added
unfoldable pub is_full : ℕ → PacketMetadata → Bool
is_full room p = ltb (left_in room p) (charge_of p + cond (fourth_or_later p) 2 1)

abbrev pub charged : PacketMetadata → PacketMetadata
charged p =
    record {
      first_obu_index = p.first_obu_index;
      num_obu_elements = p.num_obu_elements;
      first_obu_offset = p.first_obu_offset;
      last_obu_size = p.last_obu_size;
      packet_size = p.packet_size + charge_of p;
      payload_start = p.payload_start;
    }

-- P6, P7: what an element of n bytes needs, and the packet with it
unfoldable pub need_of : PacketMetadata → ℕ → ℕ
need_of p n = n + cond (fourth_or_later p) (field_size n) 0

abbrev pub with_element : PacketMetadata → ℕ → PacketMetadata
with_element p n =
    record {
      first_obu_index = p.first_obu_index;
      num_obu_elements = p.num_obu_elements + 1;
      first_obu_offset = p.first_obu_offset;
      last_obu_size = n;
      packet_size = p.packet_size + need_of p n;
      payload_start = p.payload_start;
    }

-- P7: the first fragment of an OBU of s bytes
unfoldable pub fragment_of : ℕ → PacketMetadata → ℕ → ℕ
fragment_of room p s = min (s - 1) (cond (fourth_or_later p) (largest_fragment (left_in room p)) (left_in room p))

-- P9, P10: a packet whose one element is n bytes of OBU i, from o on, and whose payload starts at `start`
abbrev pub alone : ℕ → ℕ → ℕ → ℕ → PacketMetadata
alone i o n start =
    record {
      first_obu_index = i;
      num_obu_elements = 1;
      first_obu_offset = o;
      last_obu_size = n;
      packet_size = n;
      payload_start = start;
    }

-- P16, L17: where the payload after this packet's starts, and the most that it can be
abbrev pub start_after : PacketMetadata → ℕ
start_after p = p.payload_start + p.packet_size + 1

abbrev pub start_limit : ℕ
start_limit = 4294967295

-- the packets that an OBU closes, and the current one after it
pub record Placing : Type 0 where
  pub closed : List PacketMetadata
  pub current : PacketMetadata

abbrev pub filling : PacketMetadata → Placing
filling p = record { closed = []; current = p }

abbrev pub closing : PacketMetadata → Placing → Placing
closing p next = record { closed = p ∷ next.closed; current = next.current }

-- P16: p is closed, and what comes after it starts where it ends
abbrev pub closing_then : PacketMetadata → (ℕ → Placing) → Placing
closing_then p next = closing p (next (start_after p))

-- P9, P10: OBU i, of s bytes, from o on in new packets, the first of them at `start`; the first number bounds how many are closed
unfoldable pub spread : ℕ → ℕ → ℕ → ℕ → ℕ → ℕ → Placing
spread zero room i s o start = filling (alone i o (s - o) start)
spread (suc most) room i s o start =
    cond (ltb room (s - o))
    (closing_then (alone i o room start) (spread most room i s (o + room)))
    (filling (alone i o (s - o) start))

-- P7, P8: q, which is p with the charge, with the first f bytes of an OBU put in; with none of them, p as it was
abbrev pub cut_at : PacketMetadata → PacketMetadata → ℕ → PacketMetadata
cut_at p q f = cond (eqb f 0) p (with_element q f)

-- P6 to P10: OBU i, of s bytes, put into the packet p; q is p with the charge, and f the first fragment
abbrev pub put_in : ℕ → ℕ → ℕ → PacketMetadata → PacketMetadata → ℕ → Placing
put_in room i s p q f =
    cond (ltb (need_of q s) (left_in room q)) (filling (with_element q s)) (closing_then (cut_at p q f) (spread s room i s f))

unfoldable pub insert : ℕ → ℕ → ℕ → PacketMetadata → Placing
insert room i s p = put_in room i s p (charged p) (fragment_of room (charged p) s)

-- P5: in a new packet if this one is full
unfoldable pub place : ℕ → ℕ → ℕ → PacketMetadata → Placing
place room i s p =
    cond (is_full room p) (closing_then p (λ start. insert room i s (new_packet i start))) (insert room i s p)

-- P3: the OBUs from i on, of these sizes, with the packet p as the current one
unfoldable pub plan_from : ℕ → ℕ → List ℕ → PacketMetadata → List PacketMetadata
plan_from room i [] p = p ∷ []
plan_from room i (s ∷ ss) p = (place room i s p).closed ++ plan_from room (i + 1) ss (place room i s p).current

-- P1: the plan
unfoldable pub plan_of : ℕ → List ℕ → List PacketMetadata
plan_of mtu [] = []
plan_of mtu (s ∷ ss) = cond (ltb mtu least_mtu) [] (plan_from (mtu - 1) 0 (s ∷ ss) (new_packet 0 0))
