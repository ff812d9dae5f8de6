-- A packet of a unit's plan: its record, its header, and what its elements take. Assumes nothing.
use mathlib.Core.Path.{◌≡◌, refl, sym, ap, ap₂, ◌∙◌}
use Prim.Native.Nat.{ℕ, ◌+◌, ◌-◌, ◌*◌, ◌≤◌, ◌<◌}
use native.Mathlib.Numerals.{add-one}
use native.Mathlib.Omega.{arith}
use mathlib.Core.List.{List, [], ◌∷◌, map}
use mathlib.Core.Bool.{Bool, false}
use lib.ListN.{length, get_or, set, length-map, length-set}
use lib.Seq.{sets}
use lib.Dec.{ltb, leb}
use borrow.Author.Tests.{leb-true, leb-false, le-ltb}
use Rattle.base.specs.Answers.{given}
use Rattle.base.specs.Lists.{All}
use Rattle.base.proofs.Storing.{storing_first}
use Rattle.base.proofs.Tests.{split_on}
use Rattle.obu.specs.Unit.{unit_limit, Placed, kept_of, obus_of}
use Rattle.obu.specs.Records.{obu_numbers, flat, obus_in, no_obu}
use Rattle.obu.specs.Laws.{Inside, Bytes, Lies}
use Rattle.obu.specs.declared.Obu.{Obu}
use Rattle.obu.proofs.Theorems.{kept_inside}
use Rattle.obu.proofs.Records.{flat_length, unit_flat, obu_lies}
use Rattle.packetizer.specs.Plan.{least_mtu, most_counted}
use Rattle.packetizer.specs.Call.{sizes_of, unit_plan}
use Rattle.packetizer.specs.Laws.{Sound}
use Rattle.packetizer.specs.Records.{flat_plan, no_packet, packets_in}
use Rattle.packetizer.specs.declared.PacketMetadata.{PacketMetadata}
use Rattle.packetizer.proofs.Planning.{plan_low}
use Rattle.packetizer.proofs.Laws.{plan_sound}
use Rattle.packetizer.proofs.Calls.{unit_near}
use Rattle.packetizer.proofs.UnitLaws.{unit_positive}
use Rattle.packetizer.proofs.Turns.{size_at}
use Rattle.packetizer.proofs.Records.{packets_flat}
use Rattle.aggregation.specs.Header.{byte_of, any_outside, header_of, Headed}
use Rattle.aggregation.proofs.Headers.{alike, header_given}
use Rattle.payloader.specs.Payload.{payload, payload_at}
use Rattle.payloader.specs.Inside.{Lent}
use Rattle.payloader.proofs.Bodies.{body, Writing}

-- what is written for the elements of a record
abbrev pub elements_by : List ℕ → PacketMetadata → List ℕ
elements_by unit p =
    body unit (obus_of unit) (ltb most_counted p.num_obu_elements) p.num_obu_elements p.first_obu_index p.first_obu_offset p.last_obu_size

-- an OBU that is kept lies in its unit
kept_lie : (unit : List ℕ) (ps : List Placed) → All (Inside (length unit)) ps → any_outside unit (map (λ (p : Placed). p.obu) ps) ≡ false
unfolding any_outside
kept_lie unit [] a = refl
kept_lie unit (p ∷ ps) a = rw (le-ltb (length unit) _ a.0.within) (kept_lie unit ps a.1)

pub none_outside : (unit : List ℕ) → any_outside unit (obus_of unit) ≡ false
none_outside unit = kept_lie unit (kept_of unit) (kept_inside unit)

-- what lent lists hold, read back
pub lent_long : {mtu : ℕ} {unit obus plan : List ℕ} → Lent mtu unit obus plan → length obus ≡ length (obus_of unit) * obu_numbers
lent_long {mtu} {unit} l = ap length l.obus_is ∙ flat_length (obus_of unit)

module _ {mtu : ℕ} {unit obus plan : List ℕ} (bytes : Bytes unit) (l : Lent mtu unit obus plan) where
  pub lent_obus : obus_in obus ≡ obus_of unit
  lent_obus = ap obus_in l.obus_is ∙ unit_flat unit bytes

  pub lent_obu : {o : Obu} (i : ℕ) → o ≡ get_or (obus_in obus) i no_obu → o ≡ get_or (obus_of unit) i no_obu
  lent_obu {o} i e = e ∙ ap (λ (os : List Obu). get_or os i no_obu) lent_obus

  pub lent_packet : {p : PacketMetadata} (k : ℕ) → p ≡ get_or (packets_in plan) k no_packet → p ≡ get_or (unit_plan mtu unit) k no_packet
  lent_packet {p} k e =
      e ∙ ap (λ (n : List ℕ). get_or (packets_in n) k no_packet) l.plan_is ∙ ap (λ (ps : List PacketMetadata). get_or ps k no_packet) (packets_flat (unit_plan mtu unit))

-- the OBU of the next element lies in the unit
pub writing_lies : {unit : List ℕ} {flag : Bool} {last : ℕ} {all out₀ : List ℕ} {at : ℕ} {out : List ℕ} {i from left cursor : ℕ} → Bytes unit
    → Writing unit (obus_of unit) flag last all out₀ at out i from left cursor → Lies unit (get_or (obus_of unit) i no_obu)
writing_lies {unit} {flag} {last} {all} {out₀} {at} {out} {i} q w = obu_lies unit i q (omega (arith, w.inside, w.some))

module _ (mtu : ℕ) (unit : List ℕ) (k : ℕ) (small : length unit ≤ unit_limit) (there : k < length (unit_plan mtu unit)) where
  abbrev pub packet : PacketMetadata
  packet = get_or (unit_plan mtu unit) k no_packet

  -- a plan with packets has an mtu of at least the smallest
  pub mtu_least : least_mtu ≤ mtu
  mtu_least = split_on (leb least_mtu mtu)
      (λ t. leb-true least_mtu mtu t)
      (λ t. let e : length (unit_plan mtu unit) ≡ 0 = ap length (plan_low mtu (sizes_of unit) (leb-false least_mtu mtu t)) in absurd (omega arith))

  pub packet_sound : Sound (mtu - 1) (sizes_of unit) packet
  packet_sound = plan_sound mtu (sizes_of unit) mtu_least (unit_positive unit) k there

  count : length (sizes_of unit) ≡ length (obus_of unit)
  count = length-map (obus_of unit) (λ (o : Obu). o.size)

  pub packet_header :
      header_of unit (obus_in (flat (obus_of unit))) (packets_in (flat_plan (unit_plan mtu unit))) k ≡ given (byte_of unit (obus_of unit) packet k)
  packet_header =
      alike unit (obus_of unit) (unit_plan mtu unit) k
      ∙ header_given unit (obus_of unit) (unit_plan mtu unit) k there packet_sound.some (omega (arith, packet_sound.inside, count)) (unit_near mtu unit k mtu_least small there) (none_outside unit)

  pub packet_headed : {obus plan : List ℕ} → Bytes unit → Lent mtu unit obus plan → Headed unit (obus_in obus) (packets_in plan) k
  packet_headed q l =
      rw (l.obus_is, l.plan_is)
      (packet_header
      ∙ sym (ap₂ (λ (os : List Obu) (ps : List PacketMetadata). given (byte_of unit os (get_or ps k no_packet) k)) (unit_flat unit q) (packets_flat (unit_plan mtu unit))))

  pub payload_is : payload_at mtu unit k ≡ byte_of unit (obus_of unit) packet k ∷ elements_by unit packet
  unfolding payload
  payload_is = refl

  -- the loop over the elements begins
  pub writing_first : (out : List ℕ) (at : ℕ) → at + length (payload_at mtu unit k) ≤ length out
      → Writing unit (obus_of unit) (ltb most_counted packet.num_obu_elements) packet.last_obu_size (elements_by unit packet) (set out at (byte_of unit (obus_of unit) packet k)) (at + 1) (set out at (byte_of unit (obus_of unit) packet k)) packet.first_obu_index packet.first_obu_offset packet.num_obu_elements (at + 1)
  writing_first out at room =
      let s = packet_sound in
      record {
        some = s.some;
        inside = omega (arith, s.inside, count);
        begins = rw (size_at (obus_of unit) packet.first_obu_index) at s.from;
        fits = rw (size_at (obus_of unit) (packet.first_obu_index + packet.num_obu_elements - 1)) at s.within;
        room = rw (length-set out at (byte_of unit (obus_of unit) packet k)) (omega (arith, ap length payload_is));
        storing = storing_first (set out at (byte_of unit (obus_of unit) packet k)) (at + 1) (elements_by unit packet);
      }

  -- ---- and what it ends with
  pub packet_written : (p : PacketMetadata) (h : ℕ) → p ≡ packet → h ≡ byte_of unit (obus_of unit) packet k → (out : List ℕ) (at : ℕ) {out' : List ℕ} {end : ℕ}
      → (end ≡ at + 1 + length (elements_by unit p)) × (out' ≡ sets (set out at h) (at + 1) (elements_by unit p))
      → (end ≡ at + length (payload_at mtu unit k)) × (out' ≡ sets out at (payload_at mtu unit k))
  packet_written p h e f out at r =
      let t = rw (e, f) at r in
      (t.0 ∙ omega (arith, ap length payload_is), t.1 ∙ rw (payload_is, add-one at))
