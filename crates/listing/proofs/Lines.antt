-- The lines of a unit's plan, read from the lists that the plan call leaves. Assumes nothing.
use mathlib.Core.Path.{◌≡◌, refl, sym, ap, ◌∙◌}
use Prim.Native.Nat.{ℕ, suc, ◌+◌, ◌*◌, ◌≤◌, ◌<◌}
use native.Mathlib.Omega.{arith}
use mathlib.Core.List.{List, [], ◌∷◌}
use lib.ListN.{length, get_or, take, length-take, length-replicate}
use Rattle.base.specs.Answers.{Answer, given, refused}
use Rattle.obu.specs.Unit.{unit_limit, obus_of}
use Rattle.obu.specs.Records.{obu_numbers, obus_in}
use Rattle.obu.specs.declared.Obu.{Obu}
use Rattle.obu.proofs.Records.{flat_length, obus_part, obus_flat}
use Rattle.packetizer.specs.Call.{unit_plan, to_plan, plan_answer, plan_unit}
use Rattle.packetizer.specs.Records.{plan_numbers, no_packet, packets_in}
use Rattle.packetizer.specs.declared.PacketMetadata.{PacketMetadata}
use Rattle.packetizer.specs.declared.Planned.{Planned}
use Rattle.packetizer.proofs.Records.{plan_length, plan_part, packets_flat}
use Rattle.packetizer.proofs.Accepted.{accepted}
use Rattle.aggregation.specs.Header.{Headed}
use Rattle.aggregation.proofs.Headers.{byte_back}
use Rattle.payloader.proofs.Packets.{packet_header}
use Rattle.turns.specs.Orders.{asks}
use Rattle.listing.specs.Input.{unit_store, obu_list_numbers, plan_list_numbers}
use Rattle.listing.specs.Row.{row_of}
use Rattle.listing.specs.Listing.{rows_from, listed_by, unit_listing, bad_text, refused_text, counts_text}
use Rattle.listing.specs.Steps.{unit_in, prints, counted, listing_told, further_told, Filled}
use Rattle.listing.specs.declared.Place.{Place}

-- ---- from lists that hold a plan

module _ {p : Place} {unit obus plan : List ℕ} (f : Filled p unit obus plan) where
  pub filled_obus : p.obus * obu_numbers ≤ length obus
  filled_obus = omega (arith, ap length f.obus_is, length-take (p.obus * obu_numbers) obus, flat_length (obus_of (unit_in p unit)), f.obus_are)

  pub filled_plan : p.packets * plan_numbers ≤ length plan
  filled_plan = omega (arith, ap length f.plan_is, length-take (p.packets * plan_numbers) plan, plan_length (unit_plan p.mtu (unit_in p unit)), f.packets_are)

  module _ {k : ℕ} (h : k < p.packets) where
    -- a packet has its header
    pub filled_headed :
        Headed (unit_in p unit) (obus_in (take (p.obus * obu_numbers) obus)) (packets_in (take (p.packets * plan_numbers) plan)) k
    filled_headed =
        let u = unit_in p unit in
        let small : length u ≤ unit_limit = omega (arith, length-take p.length unit, f.within) in
        let there : k < length (unit_plan p.mtu u) = omega (arith, f.packets_are) in
        rw (f.obus_is, f.plan_is, packet_header p.mtu u k small there, obus_flat (obus_of u), packets_flat (unit_plan p.mtu u))
        (ap given (sym (byte_back u (obus_of u) (get_or (unit_plan p.mtu u) k no_packet) k)))

    -- and its line is that of the unit's plan
    pub filled_row :
        row_of (unit_in p unit) (obus_in (take (p.obus * obu_numbers) obus)) (packets_in (take (p.packets * plan_numbers) plan)) k
        ≡ row_of (unit_in p unit) (obus_of (unit_in p unit)) (unit_plan p.mtu (unit_in p unit)) k
    filled_row =
        let u = unit_in p unit in
        rw (f.obus_is, f.plan_is, obus_flat (obus_of u), packets_flat (unit_plan p.mtu u), byte_back u (obus_of u) (get_or (unit_plan p.mtu u) k no_packet) k)

-- ---- after the plan call

pub rows_count : (unit : List ℕ) (os : List Obu) (k : ℕ) (ps : List PacketMetadata) → length (rows_from unit os k ps) ≡ length ps
unfolding rows_from
rows_count unit os k [] = refl
rows_count unit os k (p ∷ ps) = ap suc (rows_count unit os (k + 1) ps)

-- its answer goes by how much the lists hold
answer_same : (mtu : ℕ) (unit obus obus' plan plan' : List ℕ) → length obus ≡ length obus' → length plan ≡ length plan'
    → plan_answer (to_plan mtu unit obus plan) ≡ plan_answer (to_plan mtu unit obus' plan')
unfolding plan_answer
answer_same mtu unit obus obus' plan plan' o l = rw (o, l)

told_none : (p : Place) (got unit : List ℕ) → length got ≤ 0 → further_told p got unit ≡ listing_told p (unit_listing p.mtu (unit_in p unit))
told_none p [] unit h = refl
told_none p (b ∷ l) unit h = absurd (omega arith)

module _ (p : Place) (unit obus plan : List ℕ) (o : length obus ≡ obu_list_numbers) (l : length plan ≡ plan_list_numbers) where
  listing_is : {a : Answer Planned} → a ≡ plan_answer (to_plan p.mtu (unit_in p unit) obus plan) → unit_listing p.mtu (unit_in p unit) ≡ listed_by p.mtu (unit_in p unit) a
  unfolding unit_listing
  listing_is e =
      ap (listed_by p.mtu (unit_in p unit))
      (answer_same p.mtu (unit_in p unit) _ obus _ plan (length-replicate {A = ℕ} obu_list_numbers 0 ∙ sym o) (length-replicate {A = ℕ} plan_list_numbers 0 ∙ sym l) ∙ sym e)

  -- what is told where no byte is left over
  module _ (got : List ℕ) (none : length got ≤ 0) where
    pub told_refused : {n at : ℕ} → refused n at ≡ plan_answer (to_plan p.mtu (unit_in p unit) obus plan) → further_told p got unit ≡ prints p (refused_text n at)
    told_refused e = told_none p got unit none ∙ ap (listing_told p) (listing_is e)

    pub told_counts : {q : Planned} → given q ≡ plan_answer (to_plan p.mtu (unit_in p unit) obus plan)
        → further_told p got unit ≡ asks (counted p q.obus q.packets) (counts_text q.obus q.packets) 0
    told_counts {q} e =
        told_none p got unit none ∙ ap (listing_told p) (listing_is e)
        ∙ ap (λ (n : ℕ). asks (counted p q.obus n) (counts_text q.obus n) 0)
        (rows_count (unit_in p unit) (obus_of (unit_in p unit)) 0 (unit_plan p.mtu (unit_in p unit)) ∙ sym (accepted _ _ _ _ q e).packets)

-- a byte is left over
pub told_more : (p : Place) (got unit : List ℕ) → 0 < length got → further_told p got unit ≡ prints p bad_text
told_more p [] unit h = absurd (omega arith)
told_more p (b ∷ l) unit h = refl

-- the lists hold the plan
pub planned_filled : (p : Place) (unit obus plan : List ℕ) (q : Planned) → given q ≡ plan_answer (to_plan p.mtu (unit_in p unit) obus plan) → p.length ≤ unit_store
    → Filled (counted p q.obus q.packets) unit (plan_unit (to_plan p.mtu (unit_in p unit) obus plan)).obus (plan_unit (to_plan p.mtu (unit_in p unit) obus plan)).plan
planned_filled p unit obus plan q e h =
    let known = accepted _ _ _ _ q e in
    record {
      within = h;
      obus_are = known.counted;
      packets_are = known.packets;
      obus_is = rw (known.obus_is, known.counted) (obus_part (obus_of (unit_in p unit)) obus);
      plan_is = rw (known.plan_is, known.packets) (plan_part (unit_plan p.mtu (unit_in p unit)) plan);
    }
