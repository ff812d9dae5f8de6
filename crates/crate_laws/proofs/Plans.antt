-- In packetize no difference goes below zero, no shift too far, and no pop finds the vector empty: it gives what it gives in
-- whole numbers, which is our plan (D2, P11). Assumes nothing.
use mathlib.Core.Path.{◌≡◌, refl, ap, ◌∙◌}
use Prim.Native.Nat.{ℕ, zero, suc, ◌+◌, ◌-◌, ◌*◌, ◌^◌, ◌≤◌, ◌<◌, min}
use native.Mathlib.Omega.{arith}
use mathlib.Core.List.{List, [], ◌∷◌, drop_last}
use mathlib.Core.Bool.{Bool, true, false, cond, and-false}
use lib.Pow.{pow_pos}
use lib.ListN.{length, length-append, length-map}
use lib.Dec.{ltb, leb, eqb}
use borrow.Author.Tests.{ltb-true, ltb-false, leb-false, eqb-false, le-ltb}
use Rattle.base.proofs.Tests.{by_cond, split_on}
use Rattle.leb128.specs.Field.{largest_value}
use Rattle.packetizer.specs.Laws.{Positive}
use Rattle.crate_laws.specs.Rust.{Outcome, ok, push, pop}
use Rattle.crate_laws.specs.Obu.{CrateObu}
use Rattle.crate_laws.specs.Packetizer as crate
use Rattle.crate_laws.specs.Packetizer.{CratePacket, new_packet, additional_bytes_for_previous_obu_element, starts_new, fragment_turns, max_fragment_size, Packing, Opened, entered, must_write, required_bytes, with_fragment, Reached, middles, spread_over, with_last, obu_turn, packetize_turns, «packetize»}
use Rattle.crate_laws.specs.Same.{crate_sizes, SamePlans}
use Rattle.crate_laws.proofs.Steps.{minus_is}
use Rattle.crate_laws.proofs.Whole as whole
use Rattle.crate_laws.proofs.Whole.{popped, opened}
use Rattle.crate_laws.proofs.WholePlan.{crate_same}

-- ---- the largest fragment: the turns end before the shift panics

-- i below 2 ^ (7 * i) + i, and so below what is left in the next turn
turns_is : (turns i r : ℕ) → i ≤ r → r < 2 ^ (7 * (turns + i)) + (turns + i) → fragment_turns (suc turns) i r ≡ ok (whole.fragment_from (suc turns) i r)
unfolding fragment_turns whole.fragment_from
turns_is zero i r h t = split_on (ltb r (2 ^ (7 * i) + i))
    (λ u. rw (u, minus_is r i h))
    (λ u.
    let e : 0 + i ≡ i = omega arith in
    let below : r < 2 ^ (7 * i) + i = rw e at t in
    absurd (omega (arith, ltb-false r (2 ^ (7 * i) + i) u)))
turns_is (suc turns) i r h t = split_on (ltb r (2 ^ (7 * i) + i))
    (λ u. rw (u, minus_is r i h))
    (λ u.
    let e : suc turns + i ≡ turns + (i + 1) = omega arith in
    rw u (turns_is turns (i + 1) r (omega (arith, ltb-false r (2 ^ (7 * i) + i) u, pow_pos (7 * i))) (rw e at t)))

fragment_is : (r : ℕ) → r ≤ largest_value → max_fragment_size r ≡ ok (whole.whole_fragment_size r)
unfolding max_fragment_size whole.whole_fragment_size
fragment_is r h = split_on (leb r 1)
    (λ t. rw t)
    (λ t. rw t (turns_is 8 1 r (omega (arith, leb-false r 1 t)) (omega arith)))

-- ---- one OBU

module _ (room i : ℕ) (is_last : Bool) (s : ℕ) (some : 1 ≤ s) (wide : 1 ≤ room) (low : room ≤ largest_value) where
  -- the middle fragments end inside the OBU, with at most a packet left
  middles_end : (turns : ℕ) (v : Reached) → v.offset ≤ s → s ≤ turns + v.offset
      → ((middles turns room i s v).offset ≤ s) × (s ≤ (middles turns room i s v).offset + room)
  unfolding middles
  middles_end zero v h t = (h, omega arith)
  middles_end (suc turns) v h t =
      by_cond (λ (w : Reached). (w.offset ≤ s) × (s ≤ w.offset + room)) (ltb (v.offset + room) s) _ v
      (λ u.
      let b = ltb-true (v.offset + room) s u in
      middles_end turns _ (omega arith) (omega arith))
      (λ u. (h, ltb-false (v.offset + room) s u))

  last_is : (v : Reached) (size : ℕ) → size ≤ room → with_last room i is_last v size ≡ ok (whole.last_fragment room i is_last size v)
  unfolding with_last whole.last_fragment
  last_is v size h = rw (le-ltb room size h, and-false is_last, minus_is room size h)

  module _ (v : Opened) (paid : v.extra ≤ v.remaining) (fits : v.remaining ≤ room) where
    packet_is : (first : ℕ) → with_fragment (entered v) v.extra first ≡ ok (whole.fragmented (entered v) v.extra first)
    unfolding with_fragment whole.fragmented
    packet_is first = split_on (eqb first 0)
        (λ t. rw (t, minus_is (v.last.num_obu_elements + 1) 1 (omega arith), minus_is (v.last.packet_size + v.extra) v.extra (omega arith)))
        (λ t. rw t)

    most_is : (t : Bool) (r : ℕ) → r ≤ largest_value → cond t (max_fragment_size r) (ok r) ≡ ok (cond t (whole.whole_fragment_size r) r)
    most_is true r h = fragment_is r h
    most_is false r h = refl

    turn_is : obu_turn room i is_last s v ≡ ok (whole.step room i is_last s v)
    unfolding obu_turn whole.step whole.first_fragment
    turn_is = rw (minus_is v.remaining v.extra paid) (split_on (ltb (required_bytes (entered v) s) (v.remaining - v.extra))
        (λ t. rw (t, minus_is (v.remaining - v.extra) (required_bytes (entered v) s) (omega (arith, ltb-true (required_bytes (entered v) s) (v.remaining - v.extra) t))))
        (λ t.
        let r : ℕ = v.remaining - v.extra in
        let first : ℕ = min (s - 1) (cond (must_write (entered v)) (whole.whole_fragment_size r) r) in
        let reached : Reached = spread_over room i s (push v.packets (whole.fragmented (entered v) v.extra first)) first in
        let ends = middles_end s (record { packets = push v.packets (whole.fragmented (entered v) v.extra first); offset = first }) (omega arith) (omega arith) in
        rw (t, most_is (must_write (entered v)) (v.remaining - v.extra) (omega arith), minus_is s 1 some, packet_is first, minus_is s reached.offset ends.0)
        (last_is reached (s - reached.offset) (omega (arith, ends.1)))))

-- ---- all of them

-- pop of a vector with something in it
pop_is : (ps : List CratePacket) → 1 ≤ length ps → pop ps ≡ ok (drop_last ps, popped ps)
unfolding pop popped
pop_is [] h = absurd (omega arith)
pop_is (p ∷ []) h = refl
pop_is (p ∷ q ∷ ps) h = rw (pop_is (q ∷ ps) (omega arith))

abbrev Paid : ℕ → Opened → Type 0
Paid room v = (v.extra ≤ v.remaining) × (v.remaining ≤ room)

opened_paid : (room i : ℕ) (v : Packing) → v.remaining ≤ room → Paid room (opened room i v)
unfolding crate.opened
opened_paid room i v h =
    by_cond (Paid room) (starts_new v.remaining (popped v.packets)) _ _
    (λ t. omega arith)
    (λ t. (omega (arith, ltb-false v.remaining (additional_bytes_for_previous_obu_element (popped v.packets) + cond (leb 3 (popped v.packets).num_obu_elements) 2 1) t), h))

-- at most the room remains, and there is a packet
abbrev Within : ℕ → Packing → Type 0
Within room v = (v.remaining ≤ room) × (1 ≤ length v.packets)

last_within : (room i : ℕ) (is_last : Bool) (size : ℕ) (v : Reached) → Within room (whole.last_fragment room i is_last size v)
unfolding whole.last_fragment
last_within room i is_last size v =
    by_cond (Within room) (crate.splits_last is_last room size) _ _
    (λ t. (omega arith, simp length-append (omega arith)))
    (λ t. (omega arith, simp length-append (omega arith)))

step_within : (room i : ℕ) (is_last : Bool) (s : ℕ) (v : Opened) → v.remaining ≤ room → Within room (whole.step room i is_last s v)
unfolding whole.step
step_within room i is_last s v h =
    by_cond (Within room) (ltb (required_bytes (entered v) s) (v.remaining - v.extra)) _ _
    (λ t. (omega arith, simp length-append (omega arith)))
    (λ t. last_within room i is_last _ _)

module _ (room count : ℕ) (wide : 1 ≤ room) (low : room ≤ largest_value) (some : 1 ≤ count) where
  plan_from_lem : (i : ℕ) (obus : List CrateObu) (v : Packing) → Positive (crate_sizes obus) → Within room v
      → packetize_turns room count i obus v ≡ ok (whole.packetize_from room count i (crate_sizes obus) v)
  unfolding packetize_turns whole.packetize_from
  plan_from_lem i [] v all h = refl
  plan_from_lem i (obu ∷ obus) v all h =
      let o = opened_paid room i v h.0 in
      let s : ℕ = obu.size in
      rw (minus_is count 1 some, pop_is v.packets h.1, turn_is room i (eqb i (count - 1)) obu.size (all 0 (omega arith)) wide low (opened room i v) o.0 o.1)
      (plan_from_lem (i + 1) obus (whole.step room i (eqb i (count - 1)) s (opened room i v)) (λ j l. all (suc j) (omega arith)) (step_within room i (eqb i (count - 1)) s (opened room i v) o.1))

plan_is : (obus : List CrateObu) (mtu : ℕ) → mtu ≤ largest_value → Positive (crate_sizes obus) → «packetize» obus mtu ≡ ok (whole.packetize mtu (crate_sizes obus))
unfolding «packetize» whole.packetize
plan_is obus mtu low all =
    let count : length (crate_sizes obus) ≡ length obus = length-map obus (λ (o : CrateObu). o.size) in
    rw count (split_on (eqb (length obus) 0)
    (λ t. rw t)
    (λ t.
    let n : length obus ≡ 0 → ⊥ = eqb-false (length obus) 0 t in
    rw t (split_on (ltb mtu 3)
    (λ u. rw u)
    (λ u.
    let m : 3 ≤ mtu = ltb-false mtu 3 u in
    rw (u, minus_is mtu 1 (omega arith))
    (plan_from_lem (mtu - 1) (length obus) (omega arith) (omega arith) (omega arith) 0 obus (record { packets = push [] (new_packet 0); remaining = mtu - 1 }) all (omega arith))))))

pub same_plans : SamePlans
same_plans obus mtu low all =
    plan_is obus mtu low (λ j l. (all j l).0) ∙ ap {B = Outcome (List CratePacket)} ok (crate_same mtu (crate_sizes obus) low all)
