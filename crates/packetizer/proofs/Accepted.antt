-- What is known of a unit that the plan call plans. Assumes nothing.
--     accepted       limits, counts, and what the two lists hold afterwards
--     planned-same   comparing these lists with the unit and mtu gives the same numbers: never 31
--     begin-taken    and so does comparing lists that begin with the same records
use mathlib.Core.Path.{◌≡◌, refl, sym, ap, ◌∙◌}
use Prim.Native.Nat.{ℕ, ◌*◌, ◌/◌, ◌≤◌}
use native.Mathlib.Omega.{arith}
use mathlib.Core.List.{List}
use lib.ListN.{length, take, drop, length-map, length-append, length-take, length-drop}
use lib.Dec.{ltb}
use borrow.Author.Tests.{le-ltb, ltb-false}
use Rattle.base.specs.Answers.{Answer, given, refused, stored}
use Rattle.base.specs.Lists.{front}
use Rattle.base.proofs.Tests.{split_on}
use Rattle.obu.specs.Unit.{unit_limit, Placed, kept_of, obus_of, listed, list_answer}
use Rattle.obu.specs.Records.{obu_numbers, flat}
use Rattle.obu.specs.declared.Listed.{Listed}
use Rattle.obu.proofs.Records.{obus_part, flat_length}
use Rattle.packetizer.specs.Call.{mtu_limit, unit_plan, to_plan, planned, plan_answer, plan_unit, same_plan}
use Rattle.packetizer.specs.Records.{plan_numbers, flat_plan}
use Rattle.packetizer.specs.declared.Planned.{Planned}
use Rattle.packetizer.proofs.Records.{plan_part, plan_length}
use Rattle.packetizer.proofs.Calls.{given_kept}
use Rattle.packetizer.proofs.Same.{Same, means_same}

pub record Accepted (mtu : ℕ) (unit obus plan : List ℕ) (p : Planned) : Type 0 where
  pub small : length unit ≤ unit_limit
  pub most : mtu ≤ mtu_limit
  pub counted : p.obus ≡ length (obus_of unit)
  pub packets : p.packets ≡ length (unit_plan mtu unit)
  pub obus_room : p.obus * obu_numbers ≤ length obus
  pub plan_room : p.packets * plan_numbers ≤ length plan
  pub obus_is : (plan_unit (to_plan mtu unit obus plan)).obus ≡ front (flat (obus_of unit)) obus
  pub plan_is : (plan_unit (to_plan mtu unit obus plan)).plan ≡ front (flat_plan (unit_plan mtu unit)) plan
  -- the unit is listed, in this much space
  pub listing : (l : Listed) × (given l ≡ listed (length obus / obu_numbers) unit)

-- what stands first in a list that it does not make longer
front_length : (new l : List ℕ) → length new ≤ length l → length (front new l) ≡ length l
front_length new l h = length-append new (drop (length new) l) ∙ omega (arith, length-drop (length new) l)

module _ (mtu : ℕ) (unit obus plan : List ℕ) (p : Planned) (e : given p ≡ plan_answer (to_plan mtu unit obus plan)) where
  by_list : mtu ≤ mtu_limit → (a : Answer Listed) → a ≡ list_answer unit obus → given p ≡ planned (unit_plan mtu unit) (length plan / plan_numbers) a → Accepted mtu unit obus plan p
  by_list m (refused n at) q f = let z : ◌≡◌ {A = ℕ} 0 1 = cc in absurd (omega arith)
  by_list m (given l) q f = split_on (ltb (length plan / plan_numbers) (length (unit_plan mtu unit)))
      (λ t.
      let g : given p ≡ refused 9 0 = rw t at f in
      let z : ◌≡◌ {A = ℕ} 0 1 = cc in
      absurd (omega arith))
      (λ t.
      let g : given p ≡ given (record { obus = l.obus; packets = length (unit_plan mtu unit) }) = rw t at f in
      let r : p ≡ record { obus = l.obus; packets = length (unit_plan mtu unit) } = cc in
      let k = given_kept unit (length obus / obu_numbers) l q in
      let n : l.obus ≡ length (kept_of unit) = ap (λ (x : Listed). x.obus) k.1 in
      let most : length (unit_plan mtu unit) ≤ length plan / plan_numbers = ltb-false (length plan / plan_numbers) (length (unit_plan mtu unit)) t in
      let po : p.obus ≡ l.obus = ap (λ (x : Planned). x.obus) r in
      let pp : p.packets ≡ length (unit_plan mtu unit) = ap (λ (x : Planned). x.packets) r in
      record {
        small = k.0;
        most = m;
        counted = po ∙ n ∙ sym (length-map (kept_of unit) (λ (x : Placed). x.obu));
        packets = pp;
        obus_room = omega (arith, po, n, k.2);
        plan_room = omega (arith, pp, most);
        obus_is = rw (le-ltb mtu_limit mtu m) (ap (λ (a : Answer Listed). stored a (flat (obus_of unit)) obus) (sym q));
        plan_is = ap (λ (a : Answer Planned). stored a (flat_plan (unit_plan mtu unit)) plan) (sym e);
        listing = (l, q);
      })

  pub accepted : Accepted mtu unit obus plan p
  unfolding plan_answer
  accepted = split_on (ltb mtu_limit mtu)
      (λ t.
      let g : given p ≡ refused 1 0 = rw t at e in
      let z : ◌≡◌ {A = ℕ} 0 1 = cc in
      absurd (omega arith))
      (λ t. by_list (ltb-false mtu_limit mtu t) (list_answer unit obus) refl (rw t at e))

  -- ---- the two lists afterwards

  abbrev obus' : List ℕ
  obus' = (plan_unit (to_plan mtu unit obus plan)).obus

  abbrev plan' : List ℕ
  plan' = (plan_unit (to_plan mtu unit obus plan)).plan

  pub obus_length : length obus' ≡ length obus
  obus_length =
      let a = accepted in
      ap length a.obus_is ∙ front_length (flat (obus_of unit)) obus (omega (arith, flat_length (obus_of unit), a.counted, a.obus_room))

  pub plan_list_length : length plan' ≡ length plan
  plan_list_length =
      let a = accepted in
      ap length a.plan_is ∙ front_length (flat_plan (unit_plan mtu unit)) plan (omega (arith, plan_length (unit_plan mtu unit), a.packets, a.plan_room))

  pub planned_lists : Same mtu unit obus' plan' p
  planned_lists =
      let a = accepted in
      record {
        mtu_within = a.most;
        unit_within = a.small;
        obus_count = a.counted;
        obus_long = omega (arith, obus_length, a.obus_room);
        obus_same =
            ap (take (p.obus * obu_numbers)) a.obus_is
            ∙ ap (λ (n : ℕ). take (n * obu_numbers) (front (flat (obus_of unit)) obus)) a.counted
            ∙ obus_part (obus_of unit) obus;
        plan_count = a.packets;
        plan_long = omega (arith, plan_list_length, a.plan_room);
        plan_same =
            ap (take (p.packets * plan_numbers)) a.plan_is
            ∙ ap (λ (n : ℕ). take (n * plan_numbers) (front (flat_plan (unit_plan mtu unit)) plan)) a.packets
            ∙ plan_part (unit_plan mtu unit) plan;
      }

  pub planned_same : given p ≡ same_plan mtu unit obus' plan'
  planned_same = means_same (length obus / obu_numbers) accepted.listing.1 planned_lists

  -- so does comparing any other lists that begin with the same records
  pub begin_taken : (obus₁ plan₁ : List ℕ) → take (p.obus * obu_numbers) obus₁ ≡ flat (obus_of unit)
      → take (p.packets * plan_numbers) plan₁ ≡ flat_plan (unit_plan mtu unit) → given p ≡ same_plan mtu unit obus₁ plan₁
  begin_taken obus₁ plan₁ o q =
      let a = accepted in
      means_same (length obus / obu_numbers) a.listing.1
      (record {
        mtu_within = a.most;
        unit_within = a.small;
        obus_count = a.counted;
        obus_long = omega (arith, ap length o, length-take (p.obus * obu_numbers) obus₁, flat_length (obus_of unit), a.counted);
        obus_same = o;
        plan_count = a.packets;
        plan_long = omega (arith, ap length q, length-take (p.packets * plan_numbers) plan₁, plan_length (unit_plan mtu unit), a.packets);
        plan_same = q;
      })
