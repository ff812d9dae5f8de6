-- The packets of a unit that are still to be written, and the record of the next. Assumes nothing.
use Rattle.std.proofs.Common.{◌≡◌, ℕ, ◌+◌, ◌-◌, ◌*◌, ◌^◌, ◌<◌, ◌≤◌, ltb, List, length, get_or, take, sym, ap, ◌∙◌, arith, length-append, length-take, take_all, ltb-false}
use Rattle.base.specs.Lists.{front, Put}
use Rattle.base.proofs.Lists.{put_then, put_front}
use Rattle.base.proofs.Tests.{by_cond}
use Rattle.obu.specs.Unit.{unit_limit, obus_of}
use Rattle.obu.specs.Records.{obu_numbers, obus_in}
use Rattle.obu.specs.Laws.{Bytes}
use Rattle.obu.proofs.Records.{flat_length, unit_flat}
use Rattle.packetizer.specs.Call.{mtu_limit, sizes_of, unit_plan}
use Rattle.packetizer.specs.Laws.{Sound}
use Rattle.packetizer.specs.Records.{plan_numbers, no_packet, packets_in}
use Rattle.packetizer.specs.declared.PacketMetadata.{PacketMetadata}
use Rattle.packetizer.proofs.Records.{packets_flat}
use Rattle.payloader.specs.Inside as payloader
use Rattle.payloader.specs.Payload.{payload_at}
use Rattle.payloader.proofs.Packets.{packet_sound}
use Rattle.payloader.proofs.Totals.{payload_length, payload_most}
use Rattle.train.specs.Train.{long_head, short_payload, head_for, number_width, Numbered, record_fields, record_bytes}
use Rattle.train.specs.declared.TrainHead.{TrainHead}
use Rattle.train.proofs.Fields.{fields_length}
use Rattle.packing.specs.Pack.{unit_store, list_records, output_bytes}
use Rattle.packing.specs.Steps.{record_room, Ready, LentPackets, Recordable}
use Rattle.packing.specs.declared.unit.Progress.{Progress}

abbrev pub packet : ℕ → List ℕ → Numbered
packet n p = record { number = n; payload = p }

-- ---- the train's head

-- its length fields can state every payload of a unit packed with this mtu
pub head_states : (mtu size : ℕ) → mtu ≤ mtu_limit → size ≤ mtu → number_width + size < 256 ^ (head_for mtu).width
head_states mtu size m s =
    by_cond (λ (h : TrainHead). number_width + size < 256 ^ h.width) (ltb short_payload mtu) _ _
    (λ t. omega arith)
    (λ t. omega (arith, ltb-false short_payload mtu t))

head_wide : (mtu : ℕ) → (head_for mtu).width ≤ long_head.width
head_wide mtu = by_cond (λ (h : TrainHead). h.width ≤ long_head.width) (ltb short_payload mtu) _ _ (λ t. omega arith) (λ t. omega arith)

-- ---- one payload

-- whatever the mtu, there is room for it, in a unit that `pack` has stores for
pub payload_fits : (mtu : ℕ) (unit : List ℕ) → length unit ≤ unit_store → Bytes unit → length (obus_of unit) ≤ list_records → (k : ℕ) → k < length (unit_plan mtu unit)
    → length (payload_at mtu unit k) ≤ output_bytes
payload_fits mtu unit small bytes few k there = omega (arith, payload_most mtu unit (omega arith) bytes k there)

-- ---- one record

module _ (w n : ℕ) (p : List ℕ) where
  record_length : length (record_bytes w (packet n p)) ≡ w + number_width + length p
  record_length =
      length-append (record_fields w (number_width + length p) n) p ∙ omega (arith, fields_length w (number_width + length p) n)

  -- what stands before the payload, and the payload, stored one after the other
  pub record_put : {l l₁ l₂ : List ℕ} {at at₁ at₂ size : ℕ} → length p ≡ size
      → Put l l₁ at at₁ (record_fields w (number_width + size) n) → Put l₁ l₂ at₁ at₂ p → Put l l₂ at at₂ (record_bytes w (packet n p))
  record_put e h k = put_then (rw (← e) at h) k

-- ---- what lent lists of one unit say

module _ {mtu : ℕ} {unit obus plan : List ℕ} (lent : payloader.Lent mtu unit obus plan) (bytes : Bytes unit) where
  pub obus_said : obus_in obus ≡ obus_of unit
  obus_said = ap obus_in lent.obus_is ∙ unit_flat unit bytes

  -- how many bytes packet k has
  pub size_said : (k : ℕ) {p : PacketMetadata} → k < length (unit_plan mtu unit) → p ≡ get_or (packets_in plan) k no_packet
      → length (payload_at mtu unit k) ≡ p.packet_size + 1
  size_said k there e =
      payload_length mtu unit lent.small bytes k there
      ∙ ap (λ (q : PacketMetadata). q.packet_size + 1)
      (sym (e ∙ ap (λ (l : List ℕ). get_or (packets_in l) k no_packet) lent.plan_is ∙ ap (λ (ps : List PacketMetadata). get_or ps k no_packet) (packets_flat (unit_plan mtu unit))))

-- ---- what is ready, where there is a packet more

-- with length fields of the width w
module _ {mtu : ℕ} {g : Progress} {unit obus plan written : List ℕ} {w : ℕ} (lent : LentPackets mtu g unit obus plan written) (bytes : Bytes unit) (more : g.packet < g.packets) (width : w ≡ (head_for mtu).width) where
  abbrev k : ℕ
  k = g.packet

  there : k < length (unit_plan mtu unit)
  there = omega (arith, lent.ready.packets_is)

  -- the OBUs have their records in the list
  obus_few : length (obus_of unit) ≤ list_records
  obus_few =
      let r = lent.ready in
      omega (arith, lent.obus_all, ap length r.obus_is, length-take (g.obus * obu_numbers) obus, flat_length (obus_of unit))

  pub record_room_lem : Recordable mtu unit (take (g.obus * obu_numbers) obus) (take (g.packets * plan_numbers) plan) k w written
  record_room_lem =
      let r = lent.ready in
      let small : length unit ≤ unit_limit = omega (arith, r.small) in
      let s : Sound (mtu - 1) (sizes_of unit) (get_or (unit_plan mtu unit) k no_packet) = packet_sound mtu unit k small there in
      let short : length (payload_at mtu unit k) ≤ mtu = omega (arith, payload_length mtu unit small bytes k there, s.most, s.least) in
      let fits : length (payload_at mtu unit k) ≤ output_bytes = payload_fits mtu unit r.small bytes obus_few k there in
      let wide : w ≤ long_head.width = omega (arith, width, head_wide mtu) in
      record {
        lent = record { small = small; obus_is = r.obus_is; plan_is = r.plan_is };
        there = there;
        writable = record { there = omega (arith, lent.written_is); wide = omega arith; short = rw width (head_states mtu (length (payload_at mtu unit k)) r.most short) };
        room = omega (arith, lent.written_is);
      }

  -- its record, stored first
  abbrev recorded : ℕ → List ℕ
  recorded n = record_bytes (head_for mtu).width (packet n (payload_at mtu unit k))

  pub record_is : (n end : ℕ) (l' : List ℕ) → Put written l' 0 end (record_bytes w (packet n (payload_at mtu unit k)))
      → (end ≡ length (recorded n)) × (end ≤ record_room) × (l' ≡ front (recorded n) written)
  record_is n end l' put =
      let most : end ≤ record_room = omega (arith, put.cursor, record_length w n (payload_at mtu unit k), record_room_lem.room, lent.written_is) in
      let stands = put_front (rw width at put) (omega (arith, lent.written_is)) in
      (stands.0, most, stands.1)

-- whichever packet is the next
pub ready_for : {mtu : ℕ} {g : Progress} {unit obus plan : List ℕ} (k : ℕ) → Ready mtu g unit obus plan
    → Ready mtu (record { unit = g.unit; obus = g.obus; packets = g.packets; packet = k }) unit obus plan
ready_for k r =
    record {
      unit_is = r.unit_is;
      small = r.small;
      most = r.most;
      listing = r.listing;
      obus_room = r.obus_room;
      obus_is = r.obus_is;
      packets_is = r.packets_is;
      plan_room = r.plan_room;
      plan_is = r.plan_is;
    }

-- the unit stands first in itself
pub ready_whole : {mtu : ℕ} {g : Progress} {unit obus plan : List ℕ} → Ready mtu g unit obus plan → Ready mtu g (take g.unit unit) obus plan
ready_whole {mtu} {g} {unit} {obus} {plan} r = rw (take_all g.unit unit (omega (arith, r.unit_is))) r
