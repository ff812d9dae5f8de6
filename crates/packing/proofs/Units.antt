-- One unit, by what the plan call answers. Assumes nothing.
use Rattle.std.proofs.Common.{◌≡◌, ℕ, ◌/◌, ◌<◌, ◌≤◌, ltb, List, length, take, sym, refl, ap, ◌∙◌, arith, ltb-false, le-ltb, lt-ltb}
use Rattle.base.specs.Answers.{Answer, given, refused}
use Rattle.base.proofs.Tests.{split_on}
use Rattle.obu.specs.Unit.{obus_of, listed}
use Rattle.obu.specs.Records.{obu_numbers}
use Rattle.obu.specs.declared.Listed.{Listed}
use Rattle.packetizer.specs.Call.{mtu_limit, unit_plan, to_plan, planned, plan_answer, plan_unit}
use Rattle.packetizer.specs.Records.{plan_numbers}
use Rattle.packetizer.specs.declared.Planned.{Planned}
use Rattle.packetizer.proofs.Calls.{given_kept, listed_few}
use Rattle.packetizer.proofs.Accepted.{accepted, obus_length, planned_lists}
use Rattle.packing.specs.Pack.{unit_store, list_records, answer_in, cut_short, packed_by, unit_in}
use Rattle.packing.specs.Steps.{begins, Ready}

-- ---- what is known where the plan call has planned

module _ (mtu : ℕ) (unit obus plan : List ℕ) where
  pub answer_is : plan_answer (to_plan mtu unit obus plan) ≡ answer_in (length obus / obu_numbers) (length plan / plan_numbers) mtu unit
  unfolding plan_answer
  answer_is = refl

  -- its first packet is ready to be written
  pub unit_ready : (p : Planned) → length unit ≤ unit_store → given p ≡ plan_answer (to_plan mtu unit obus plan) → (obus' plan' : List ℕ)
      → obus' ≡ (plan_unit (to_plan mtu unit obus plan)).obus → plan' ≡ (plan_unit (to_plan mtu unit obus plan)).plan
      → Ready mtu (begins (length unit) p) unit obus' plan'
  unit_ready p small e obus' plan' o q =
      let s = planned_lists mtu unit obus plan p e in
      let l = (accepted mtu unit obus plan p e).listing in
      rw (o, q) (record {
        unit_is = refl;
        small = small;
        most = s.mtu_within;
        listing = ap given (sym (given_kept unit (length obus / obu_numbers) l.0 l.1).1) ∙ l.1 ∙ ap (λ (n : ℕ). listed (n / obu_numbers) unit) (sym (obus_length mtu unit obus plan p e));
        obus_room = s.obus_long;
        obus_is = s.obus_same;
        packets_is = s.plan_count;
        plan_room = s.plan_long;
        plan_is = s.plan_same;
      })

-- the same, of a unit of s bytes
pub begins_as : {mtu s : ℕ} {p : Planned} {unit obus plan : List ℕ} → length unit ≡ s → Ready mtu (begins (length unit) p) unit obus plan → Ready mtu (begins s p) unit obus plan
begins_as {mtu} {s} {p} {unit} {obus} {plan} e r = rw e at r

-- ---- a unit that is packed has space for its records, in both lists, and its packets are counted

module _ (mtu : ℕ) (u : List ℕ) (p : Planned) where
  abbrev Few : Type 0
  Few = (length (obus_of u) ≤ list_records) × (length (unit_plan mtu u) ≤ list_records) × (p.packets ≡ length (unit_plan mtu u))

  by_planned : (a : Answer Listed) → a ≡ listed list_records u → given p ≡ planned (unit_plan mtu u) list_records a → Few
  by_planned (refused k at) q e = let z : ◌≡◌ {A = ℕ} 0 1 = cc in absurd (omega arith)
  by_planned (given l) q e = split_on (ltb list_records (length (unit_plan mtu u)))
      (λ t.
      let f : given p ≡ refused 9 0 = rw t at e in
      let z : ◌≡◌ {A = ℕ} 0 1 = cc in
      absurd (omega arith))
      (λ t.
      let f : given p ≡ given (record { obus = l.obus; packets = length (unit_plan mtu u) }) = rw t at e in
      let c : p.packets ≡ length (unit_plan mtu u) = cc in
      (listed_few u list_records l q, ltb-false list_records (length (unit_plan mtu u)) t, c))

  pub packed_few : given p ≡ answer_in list_records list_records mtu u → Few
  packed_few e = split_on (ltb mtu_limit mtu)
      (λ t.
      let f : given p ≡ refused 1 0 = rw t at e in
      let z : ◌≡◌ {A = ℕ} 0 1 = cc in
      absurd (omega arith))
      (λ t. by_planned (listed list_records u) refl (rw t at e))

-- ---- the outcomes

module _ (answer : ℕ → List ℕ → Answer Planned) (mtu s : ℕ) (l : List ℕ) where
  pub unit_cut : length l < s → cut_short ≡ unit_in answer mtu s l
  unfolding unit_in
  unit_cut h = rw (lt-ltb (length l) s h)

  pub unit_planned : (a : Answer Planned) → s ≤ length l → a ≡ answer mtu (take s l) → packed_by a ≡ unit_in answer mtu s l
  unfolding unit_in
  unit_planned a h e = rw (le-ltb (length l) s h) (ap packed_by e)
