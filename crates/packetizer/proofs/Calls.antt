-- The plan call: what the list call hands on to it, and its outcomes by the tests that the code makes. Assumes nothing.
use mathlib.Core.Path.{◌≡◌, refl, sym, ap, ap₂, ◌∙◌}
use Prim.Native.Nat.{ℕ, ◌*◌, ◌/◌, ◌≤◌, ◌<◌}
use native.Mathlib.Omega.{arith}
use mathlib.Core.Bool.{Bool, true, false, cond}
use mathlib.Core.List.{List, [], ◌∷◌, map}
use lib.ListN.{length, get_or, take, length-map}
use lib.Dec.{ltb}
use borrow.Author.Tests.{lt-ltb, le-ltb}
use Rattle.base.specs.Answers.{Answer, given, refused, stored}
use Rattle.base.specs.Lists.{front}
use Rattle.base.proofs.Lists.{front_sets}
use Rattle.obu.specs.Unit.{unit_limit, Placed, kept_of, obus_of, listed_of, listed, list_answer, list_after}
use Rattle.obu.specs.Records.{obu_numbers, flat, obus_in}
use Rattle.obu.specs.declared.Obu.{Obu}
use Rattle.obu.specs.declared.Listed.{Listed}
use Rattle.obu.proofs.Scans.{given_listed}
use Rattle.obu.proofs.Theorems.{weight, size_of, sizes_small}
use Rattle.obu.proofs.Records.{obus_part, read_back, obus_flat}
use Rattle.packetizer.specs.Call.{mtu_limit, sizes, sizes_of, unit_plan, planned, Inputs, to_plan, leaves, plan_answer, plan_unit}
use Rattle.packetizer.specs.Paper.{recorded}
use Rattle.packetizer.specs.Plan.{least_mtu, start_after, start_limit}
use Rattle.packetizer.specs.Elements.{total_size}
use Rattle.packetizer.specs.Inside.{Plannable}
use Rattle.packetizer.specs.Records.{plan_numbers, flat_plan, no_packet}
use Rattle.packetizer.specs.declared.Planned.{Planned}
use Rattle.packetizer.proofs.Records.{plan_length}
use Rattle.packetizer.proofs.Starts.{abut_near, plan_abuts}
use Rattle.packetizer.proofs.Totals.{total_each, plan_bytes}
use Rattle.packetizer.proofs.UnitLaws.{unit_positive}

-- ---- the OBUs of a unit: each of at least one byte, and together of no more than it has

total_weight : (ps : List Placed) → total_size (sizes (map (λ (p : Placed). p.obu) ps)) ≡ weight size_of ps
unfolding total_size weight
total_weight [] = refl
total_weight (p ∷ ps) = omega (arith, total_weight ps)

pub unit_total : (unit : List ℕ) → total_size (sizes_of unit) ≤ length unit
unit_total unit = omega (arith, total_weight (kept_of unit), sizes_small unit)

pub unit_small : (unit : List ℕ) → length unit ≤ unit_limit → (j : ℕ) → j < length (sizes_of unit)
    → (1 ≤ get_or (sizes_of unit) j 0) × (get_or (sizes_of unit) j 0 ≤ unit_limit)
unit_small unit h j l = (unit_positive unit j l, omega (arith, total_each (sizes_of unit) j, unit_total unit))

-- where a payload of a unit's plan ends
pub unit_near : (mtu : ℕ) (unit : List ℕ) (k : ℕ) → least_mtu ≤ mtu → length unit ≤ unit_limit → k < length (unit_plan mtu unit)
    → start_after (get_or (unit_plan mtu unit) k no_packet) ≤ start_limit
unit_near mtu unit k m h l =
    omega (arith, abut_near 0 _ (unit_plan mtu unit) (plan_abuts mtu (sizes_of unit)) k l, plan_bytes mtu (sizes_of unit) m (unit_positive unit), unit_total unit)

-- ---- what the list call says of a unit that it lists

pub given_kept : (unit : List ℕ) (space : ℕ) (l : Listed) → given l ≡ listed space unit → (length unit ≤ unit_limit) × (l ≡ listed_of unit) × (length (kept_of unit) ≤ space)
given_kept unit space l e = let g = given_listed unit space e in (g.0, g.2, g.3)

-- it has space for its OBUs
pub listed_few : (unit : List ℕ) (space : ℕ) (l : Listed) → given l ≡ listed space unit → length (obus_of unit) ≤ space
listed_few unit space l e = omega (arith, given_kept unit space l e, length-map (kept_of unit) (λ (p : Placed). p.obu))

-- ---- the OBU list, read back

sizes_back : (os : List Obu) → sizes (map read_back os) ≡ sizes os
sizes_back [] = refl
sizes_back (o ∷ os) = ap (λ (l : List ℕ). o.size ∷ l) (sizes_back os)

pub flat_sizes : (unit : List ℕ) → sizes (obus_in (flat (obus_of unit))) ≡ sizes_of unit
flat_sizes unit = ap sizes (obus_flat (obus_of unit)) ∙ sizes_back (obus_of unit)

-- the list call lists the unit, and leaves the list so
pub record Filled (unit obus obus' : List ℕ) (l : Listed) : Type 0 where
  pub answer : given l ≡ list_answer unit obus
  pub after : obus' ≡ list_after unit obus

module _ {unit obus obus' : List ℕ} {g : Listed} (f : Filled unit obus obus' g) where
  kept : (length unit ≤ unit_limit) × (g ≡ listed_of unit) × (length (kept_of unit) ≤ length obus / obu_numbers)
  kept = given_kept unit (length obus / obu_numbers) g f.answer

  counted : g.obus ≡ length (kept_of unit)
  counted = ap (λ (l : Listed). l.obus) kept.1

  records : g.obus ≡ length (obus_of unit)
  records = counted ∙ sym (length-map (kept_of unit) (λ (p : Placed). p.obu))

  filled : obus' ≡ front (flat (obus_of unit)) obus
  filled = f.after ∙ ap (λ (a : Answer Listed). stored a (flat (obus_of unit)) obus) (sym f.answer)

  -- the part of the list that holds the records
  pub list_long : g.obus * obu_numbers ≤ length obus
  list_long = omega (arith, kept.2, counted)

  list_is : take (g.obus * obu_numbers) obus' ≡ flat (obus_of unit)
  list_is = ap₂ (λ (m : ℕ) (l : List ℕ). take (m * obu_numbers) l) records filled ∙ obus_part (obus_of unit) obus

  pub list_sizes : sizes (obus_in (take (g.obus * obu_numbers) obus')) ≡ sizes_of unit
  list_sizes = ap (λ (l : List ℕ). sizes (obus_in l)) list_is ∙ flat_sizes unit

  pub list_plannable : {mtu : ℕ} (store : Bool) {plan : List ℕ} → mtu ≤ mtu_limit → (store ≡ true → length (unit_plan mtu unit) * plan_numbers ≤ length plan)
      → Plannable mtu (sizes (obus_in (take (g.obus * obu_numbers) obus'))) store plan
  list_plannable store m r =
      rw list_sizes (record { most = m; some = unit_positive unit; total = omega (arith, unit_total unit, kept.0); room = r })

-- ---- the outcomes

module _ (mtu : ℕ) (unit obus plan : List ℕ) where
  abbrev i : Inputs
  i = to_plan mtu unit obus plan

  pub outcome_1 : mtu_limit < mtu → leaves (refused 1 0) obus plan ≡ plan_unit i
  unfolding plan_answer
  outcome_1 h = rw (lt-ltb mtu_limit mtu h)

  module _ (m : mtu ≤ mtu_limit) (obus' : List ℕ) (f : obus' ≡ list_after unit obus) where
    obus_after : obus' ≡ (plan_unit i).obus
    obus_after = rw (le-ltb mtu_limit mtu m) f

    answered : (a : Answer Listed) → a ≡ list_answer unit obus → planned (unit_plan mtu unit) (length plan / plan_numbers) a ≡ plan_answer i
    unfolding plan_answer
    answered a e = rw (le-ltb mtu_limit mtu m, e)

    outcome : (r : Answer Planned) (plan' : List ℕ) → r ≡ plan_answer i → plan' ≡ stored r (flat_plan (unit_plan mtu unit)) plan → leaves r obus' plan' ≡ plan_unit i
    outcome r plan' e s =
        let t : plan' ≡ (plan_unit i).plan = s ∙ ap (λ (a : Answer Planned). stored a (flat_plan (unit_plan mtu unit)) plan) e in
        λ j. leaves (e j) (obus_after j) (t j)

    pub outcome_listed : (k at : ℕ) → refused k at ≡ list_answer unit obus → leaves (refused k at) obus' plan ≡ plan_unit i
    outcome_listed k at e = outcome (refused k at) plan (answered (refused k at) e) refl

    module _ (l : Listed) (packets : ℕ) (plan' : List ℕ) (e : given l ≡ list_answer unit obus) (p : packets ≡ length (unit_plan mtu unit)) where
      -- by whether there is space for the plan
      fits : (t : Bool) → ltb (length plan / plan_numbers) (length (unit_plan mtu unit)) ≡ t
          → cond t (refused 9 0) (given (record { obus = l.obus; packets = packets })) ≡ plan_answer i
      fits t h =
          ap₂ (λ (n : ℕ) (u : Bool). cond u (refused 9 0) (given (record { obus = l.obus; packets = n }))) p (sym h) ∙ answered (given l) e

      pub outcome_9 : length plan / plan_numbers < packets → plan' ≡ plan → leaves (refused 9 0) obus' plan' ≡ plan_unit i
      outcome_9 h s = outcome (refused 9 0) plan' (fits true (lt-ltb (length plan / plan_numbers) (length (unit_plan mtu unit)) (omega arith))) s

      pub outcome_all : packets ≤ length plan / plan_numbers → plan' ≡ recorded true plan 0 (unit_plan mtu unit)
          → leaves (given (record { obus = l.obus; packets = packets })) obus' plan' ≡ plan_unit i
      outcome_all h s =
          let q : length (flat_plan (unit_plan mtu unit)) ≡ length (unit_plan mtu unit) * plan_numbers = plan_length (unit_plan mtu unit) in
          outcome (given (record { obus = l.obus; packets = packets })) plan'
          (fits false (le-ltb (length plan / plan_numbers) (length (unit_plan mtu unit)) (omega arith)))
          (s ∙ front_sets [] (flat_plan (unit_plan mtu unit)) plan 0 refl (omega arith))
