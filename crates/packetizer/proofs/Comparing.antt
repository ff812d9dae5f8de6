-- The walk that compares the records of a lent plan with the packets: what it keeps, and what its turns ask. Assumes nothing.
use mathlib.Core.Path.{◌≡◌, refl, sym, ap, ◌∙◌}
use Prim.Native.Nat.{ℕ, ◌+◌, ◌-◌, ◌*◌, ◌≤◌, ◌<◌}
use native.Mathlib.Omega.{arith}
use mathlib.Core.Bool.{true, false, ◌&&◌}
use mathlib.Core.List.{List, [], ◌∷◌, ◌++◌, append_assoc, append-nil, flat_map}
use lib.ListN.{length, get_or, drop, length-append}
use lib.Seq.{get_or_at}
use lib.Dec.{eqb}
use borrow.Author.Tests.{eqb-true, eqb-false}
use Rattle.base.specs.Answers.{given, refused}
use Rattle.base.specs.Lists.{is_front}
use Rattle.base.proofs.Tests.{split_on}
use Rattle.base.proofs.Lists.{flat_map_append}
use Rattle.base.proofs.Fronts.{is_front_none, is_front_append}
use Rattle.obu.specs.Unit.{unit_limit}
use Rattle.packetizer.specs.Plan.{least_mtu, start_after, start_limit, plan_of}
use Rattle.packetizer.specs.Records.{plan_numbers, record_numbers, flat_plan, no_packet}
use Rattle.packetizer.specs.Call.{same_packets}
use Rattle.packetizer.specs.Cursor.{to_come, Walkable, Comparable, Starts, Begins}
use Rattle.packetizer.specs.declared.PacketMetadata.{PacketMetadata}
use Rattle.packetizer.proofs.Records.{plan_length}
use Rattle.packetizer.proofs.Planning.{plan_none, plan_low, plan_some}
use Rattle.packetizer.proofs.Starts.{abut_near, plan_abuts}
use Rattle.packetizer.proofs.Totals.{plan_short, plan_bytes}
use Rattle.packetizer.proofs.Cursors.{starts_new_lem, come_none, come_new}

-- ---- records that stand first in a plan, and one more

module _ (l : List ℕ) (done : List PacketMetadata) (p : PacketMetadata) {n : ℕ} (c : n ≡ length done) (h : is_front (flat_plan done) l ≡ true) where
  front_split : (rest : List PacketMetadata)
      → is_front (flat_plan (done ++ (p ∷ rest))) l
      ≡ is_front (record_numbers p) (drop (n * plan_numbers) l) && is_front (flat_plan rest) (drop plan_numbers (drop (n * plan_numbers) l))
  unfolding flat_map
  front_split rest =
      let k : length (flat_plan done) ≡ n * plan_numbers = plan_length done ∙ ap (λ (i : ℕ). i * plan_numbers) (sym c) in
      ap (λ (x : List ℕ). is_front x l) (flat_map_append record_numbers done (p ∷ rest))
      ∙ is_front_append (flat_plan done) (record_numbers p ++ flat_plan rest) l
      ∙ rw (h, k) (is_front_append (record_numbers p) (flat_plan rest) (drop (n * plan_numbers) l))

  front_more : is_front (record_numbers p) (drop (n * plan_numbers) l) ≡ true → is_front (flat_plan (done ++ (p ∷ []))) l ≡ true
  unfolding flat_map
  front_more e = front_split [] ∙ rw (e, is_front_none)

  front_other : (rest : List PacketMetadata) → is_front (record_numbers p) (drop (n * plan_numbers) l) ≡ false
      → is_front (flat_plan (done ++ (p ∷ rest))) l ≡ false
  front_other rest e = front_split rest ∙ rw e

-- there is no plan
pub low_same : {mtu : ℕ} (sizes plan : List ℕ) → mtu < least_mtu → (0 ≡ length (plan_of mtu sizes)) × (is_front (flat_plan (plan_of mtu sizes)) plan ≡ true)
unfolding flat_map
low_same {mtu} sizes plan h = rw (plan_low mtu sizes h) (refl, is_front_none plan)

-- ---- the loop: n packets are passed, and their records stand first in the plan

pub record Passed (mtu : ℕ) (sizes plan : List ℕ) (i o start n : ℕ) : Type 0 where
  pub done : List PacketMetadata
  pub counted : n ≡ length done
  pub whole : plan_of mtu sizes ≡ done ++ to_come (mtu - 1) sizes i o start
  pub starts : Starts sizes i o
  pub agree : is_front (flat_plan done) plan ≡ true

come_all : (mtu : ℕ) (sizes : List ℕ) → least_mtu ≤ mtu → plan_of mtu sizes ≡ to_come (mtu - 1) sizes 0 0 0
come_all mtu sizes h =
    split_on (eqb (length sizes) 0)
    (λ t.
    let z : length sizes ≡ 0 = eqb-true (length sizes) 0 t in
    plan_none mtu sizes z ∙ sym (come_none (mtu - 1) sizes 0 0 0 (omega arith)))
    (λ t.
    let z : length sizes ≡ 0 → ⊥ = eqb-false (length sizes) 0 t in
    plan_some mtu sizes h z ∙ sym (come_new (mtu - 1) sizes 0 (omega arith) 0))

pub passed_first : {mtu : ℕ} {sizes plan : List ℕ} → least_mtu ≤ mtu → Passed mtu sizes plan 0 0 0 0
unfolding flat_map
passed_first {mtu} {sizes} {plan} h =
    record {
      done = [];
      counted = refl;
      whole = come_all mtu sizes h;
      starts = starts_new_lem (omega arith);
      agree = is_front_none plan;
    }

pub walkable : {mtu : ℕ} {sizes : List ℕ} → least_mtu ≤ mtu → Comparable mtu sizes → Walkable (mtu - 1) sizes
walkable h v = record { large = omega arith; most = omega (arith, v.most); some = v.some; total = v.total }

module _ {mtu : ℕ} {sizes plan : List ℕ} {i o start n : ℕ} (w : Passed mtu sizes plan i o start n) where
  -- the next packet is p
  module _ {p : PacketMetadata} {j t : ℕ} (b : Begins (mtu - 1) sizes (to_come (mtu - 1) sizes i o start) p j t) where
    abbrev rest : List PacketMetadata
    rest = to_come (mtu - 1) sizes j t (start_after p)

    split : plan_of mtu sizes ≡ w.done ++ (p ∷ rest)
    split = w.whole ∙ ap (λ (ps : List PacketMetadata). w.done ++ ps) b.first

    -- it is one of the plan's: it is counted, and the next one starts where it ends
    module _ (m : least_mtu ≤ mtu) (v : Comparable mtu sizes) where
      there : n < length (plan_of mtu sizes)
      there = omega (arith, ap length split, length-append w.done (p ∷ rest), w.counted)

      pub passed_few : n + 1 ≤ unit_limit
      passed_few = omega (arith, there, plan_short mtu sizes m v.some, v.total)

      pub passed_near : start_after p ≤ start_limit
      passed_near =
          let ps = plan_of mtu sizes in
          let e : get_or ps n no_packet ≡ p = ap (λ (qs : List PacketMetadata). get_or qs n no_packet) split ∙ get_or_at w.done p rest no_packet n (sym w.counted) in
          omega (arith, rw e at (abut_near 0 _ ps (plan_abuts mtu sizes) n there), plan_bytes mtu sizes m v.some, v.total)

    pub passed_next : is_front (record_numbers p) (drop (n * plan_numbers) plan) ≡ true → Passed mtu sizes plan j t (start_after p) (n + 1)
    passed_next e =
        record {
          done = w.done ++ (p ∷ []);
          counted = omega (arith, length-append w.done (p ∷ []), w.counted);
          whole = split ∙ sym (append_assoc w.done (p ∷ []) rest);
          starts = b.next;
          agree = front_more plan w.done p w.counted w.agree e;
        }

    pub passed_other : is_front (record_numbers p) (drop (n * plan_numbers) plan) ≡ false → is_front (flat_plan (plan_of mtu sizes)) plan ≡ false
    passed_other e = ap (λ (ps : List PacketMetadata). is_front (flat_plan ps) plan) split ∙ front_other plan w.done p w.counted w.agree rest e

  pub passed_end : length sizes ≤ i → (n ≡ length (plan_of mtu sizes)) × (is_front (flat_plan (plan_of mtu sizes)) plan ≡ true)
  passed_end h =
      let e : w.done ≡ plan_of mtu sizes = sym (w.whole ∙ ap (λ (ps : List PacketMetadata). w.done ++ ps) (come_none (mtu - 1) sizes i o start h) ∙ append-nil w.done) in
      (w.counted ∙ ap length e, ap (λ (ps : List PacketMetadata). is_front (flat_plan ps) plan) (sym e) ∙ w.agree)

-- ---- what is answered

module _ (ps : List PacketMetadata) (plan : List ℕ) where
  pub compared_same : {count obus packets : ℕ} → obus ≡ count → (packets ≡ length ps) × (is_front (flat_plan ps) plan ≡ true)
      → given (record { obus = obus; packets = packets }) ≡ same_packets ps plan count
  compared_same e h = rw (h.1, e, h.0)

  pub compared_other : (count : ℕ) → is_front (flat_plan ps) plan ≡ false → refused 31 0 ≡ same_packets ps plan count
  compared_other count h = rw h
