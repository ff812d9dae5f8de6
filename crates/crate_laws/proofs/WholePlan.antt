-- In whole numbers the crate's own order gives our plan (D2). Assumes nothing.
use mathlib.Core.Path.{◌≡◌, refl, sym, ap, ◌∙◌}
use Prim.Native.Nat.{ℕ, zero, suc, ◌+◌, ◌-◌, ◌≤◌, ◌<◌}
use native.Mathlib.Numerals.{add-one}
use native.Mathlib.Omega.{arith}
use mathlib.Core.Bool.{Bool, cond}
use mathlib.Core.List.{List, [], ◌∷◌, ◌++◌, append_assoc, append-nil, map-append}
use lib.ListN.{length, get_or, drop, drop_of_length-le}
use lib.Seq.{drop-cons}
use lib.Dec.{ltb, eqb, leb-suc-suc}
use borrow.Author.Tests.{ltb-true, ltb-false, eqb-true, eqb-false}
use Rattle.base.proofs.Tests.{by_cond, split_on}
use Rattle.leb128.specs.Field.{largest_value}
use Rattle.packetizer.specs.Fragment.{field_size}
use Rattle.packetizer.specs.Plan.{new_packet, left_in, charge_of, fourth_or_later, is_full, charged, need_of, with_element, fragment_of, start_after, Placing, cut_at, spread, insert, place, plan_from, plan_of}
use Rattle.packetizer.specs.Laws.{Positive}
use Rattle.packetizer.specs.declared.PacketMetadata.{PacketMetadata}
use Rattle.packetizer.proofs.Steps.{charge_none}
use Rattle.packetizer.proofs.Runs.{Ends}
use Rattle.packetizer.proofs.Leading.{place_first, place_leads}
use Rattle.packetizer.proofs.Planning.{plan_step, plan_end, plan_none, plan_low, plan_some}
use Rattle.packetizer.proofs.Placing.{insert_whole, insert_cut, place_new, place_on, fragment_below}
use Rattle.crate_laws.specs.Rust.{push}
use Rattle.crate_laws.specs.Packetizer as crate
use Rattle.crate_laws.specs.Packetizer.{CratePacket, Packing, Opened, entered, required_bytes, spread_over}
use Rattle.crate_laws.specs.Same.{as_crate_packet, crate_packets, In32Bits}
use Rattle.crate_laws.proofs.Whole.{opened, first_fragment, fragmented, finished, step, packetize_from, packetize}
use Rattle.crate_laws.proofs.WholeSteps.{popped_push, dropped_push, as_u32_lem, fragment_same, Held, charge_same, spread_same}

-- ---- one OBU

-- the vector with what an OBU closes and its current packet, and what remains in that
abbrev packing : ℕ → List CratePacket → Placing → Packing
packing room ps x =
    record {
      packets = ps ++ crate_packets x.closed ++ (as_crate_packet x.current ∷ []);
      remaining = room - x.current.packet_size;
    }

must_same : (p : PacketMetadata) → ltb 3 (p.num_obu_elements + 1) ≡ fourth_or_later p
must_same p = rw (add-one p.num_obu_elements) (leb-suc-suc 3 p.num_obu_elements)

module _ (room i s : ℕ) (small : room ≤ largest_value) (large : 1 ≤ room) (some : s ≤ largest_value) (is_last : Bool) (ps : List CratePacket) (p : PacketMetadata) where
  abbrev taken : Opened
  taken = record { packets = ps; last = as_crate_packet p; remaining = room - p.packet_size; extra = charge_of p }

  left_same : room - p.packet_size - charge_of p ≡ left_in room (charged p)
  left_same = omega arith

  need_same : (n : ℕ) → n ≤ largest_value → required_bytes (entered taken) n ≡ need_of (charged p) n
  unfolding need_of
  need_same n h = rw (must_same p, as_u32_lem n h)

  first_same : first_fragment (entered taken) (room - p.packet_size - charge_of p) s ≡ fragment_of room (charged p) s
  unfolding first_fragment fragment_of
  first_same = rw (must_same p, left_same, fragment_same (left_in room (charged p)) (omega arith))

  cut_same : (f : ℕ) → f ≤ largest_value → fragmented (entered taken) (charge_of p) f ≡ as_crate_packet (cut_at p (charged p) f)
  unfolding fragmented need_of
  cut_same f h =
      let a : p.num_obu_elements + 1 - 1 ≡ p.num_obu_elements = omega arith in
      let b : p.packet_size + charge_of p - charge_of p ≡ p.packet_size = omega arith in
      let c : p.packet_size + charge_of p + f + cond (fourth_or_later p) (field_size f) 0 ≡ p.packet_size + charge_of p + (f + cond (fourth_or_later p) (field_size f) 0) = omega arith in
      split_on (eqb f 0)
      (λ t. rw (t, a, b))
      (λ t. rw (t, must_same p, as_u32_lem f h, c))

  whole_same : need_of (charged p) s < left_in room (charged p)
      → record { packets = push ps (as_crate_packet (with_element (charged p) s)); remaining = left_in room (charged p) - need_of (charged p) s } ≡ packing room ps (insert room i s p)
  whole_same h =
      let e : left_in room (charged p) - need_of (charged p) s ≡ room - (p.packet_size + charge_of p + need_of (charged p) s) = omega arith in
      rw (insert_whole room i s p (charged p) refl h, append-nil ps, e)

  parts_same : left_in room (charged p) ≤ need_of (charged p) s → (f : ℕ) → f ≡ fragment_of room (charged p) s → f ≤ largest_value
      → finished room i is_last s (spread_over room i s (push ps (fragmented (entered taken) (charge_of p) f)) f) ≡ packing room ps (insert room i s p)
  parts_same h f e l =
      let q = cut_at p (charged p) f in
      spread_same is_last room i s f (start_after q) (push ps (fragmented (entered taken) (charge_of p) f)) large
      ∙ rw (insert_cut room i s p (charged p) f refl e h, cut_same f l, append_assoc ps (as_crate_packet q ∷ []) (crate_packets (spread s room i s f (start_after q)).closed))

  inserted_same : step room i is_last s taken ≡ packing room ps (insert room i s p)
  unfolding step
  inserted_same =
      rw (first_same, need_same s some, left_same)
      (by_cond (λ (x : Packing). x ≡ packing room ps (insert room i s p)) (ltb (need_of (charged p) s) (left_in room (charged p))) _ _
      (λ t. whole_same (ltb-true _ _ t))
      (λ t. parts_same (ltb-false _ _ t) (fragment_of room (charged p) s) refl (omega (arith, fragment_below room (charged p) s))))

-- the packet is full, or is not
abbrev vector : ℕ → List CratePacket → PacketMetadata → Packing
vector room ps p = record { packets = push ps (as_crate_packet p); remaining = room - p.packet_size }

opened_same : (room i : ℕ) (ps : List CratePacket) (p : PacketMetadata) → Held p
    → opened room i (vector room ps p)
    ≡ cond (is_full room p)
    (record { packets = push ps (as_crate_packet p); last = crate.new_packet i; remaining = room; extra = 0 })
    (record { packets = ps; last = as_crate_packet p; remaining = room - p.packet_size; extra = charge_of p })
unfolding crate.opened is_full
opened_same room i ps p h = rw (popped_push ps (as_crate_packet p), dropped_push ps (as_crate_packet p), charge_same p h)

step_same : (room i s : ℕ) → room ≤ largest_value → 1 ≤ room → s ≤ largest_value → (is_last : Bool) (ps : List CratePacket) (p : PacketMetadata) → Held p
    → step room i is_last s (opened room i (vector room ps p)) ≡ packing room ps (place room i s p)
step_same room i s small large some is_last ps p h =
    rw (opened_same room i ps p h)
    (split_on (is_full room p)
    (λ t.
    let a : room - 0 ≡ room = omega arith in
    let q = new_packet i (start_after p) in
    let e = inserted_same room i s small large some is_last (push ps (as_crate_packet p)) q in
    rw (t, place_new room i s p q refl t)
    ((rw (a, charge_none q refl) at e) ∙ rw (append_assoc ps (as_crate_packet p ∷ []) (crate_packets (insert room i s q).closed))))
    (λ t. rw (t, place_on room i s p t) (inserted_same room i s small large some is_last ps p)))

-- ---- all OBUs

held_ends : (room : ℕ) (sizes : List ℕ) (i : ℕ) (p : PacketMetadata) → get_or sizes (i - 1) 0 ≤ largest_value → Ends room sizes i p → Held p
held_ends room sizes i p h d =
    record {
      few = d.few;
      new = λ e. absurd (omega (arith, d.some));
      last = omega (arith, d.whole);
    }

from_end : (room count i : ℕ) (sizes : List ℕ) (v : Packing) → length sizes ≤ i → packetize_from room count i (drop i sizes) v ≡ v.packets
unfolding packetize_from
from_end room count i sizes v h = rw (drop_of_length-le sizes h)

from_step : (room count i : ℕ) (sizes : List ℕ) (v : Packing) → i < length sizes
    → packetize_from room count i (drop i sizes) v
    ≡ packetize_from room count (i + 1) (drop (i + 1) sizes) (step room i (eqb i (count - 1)) (get_or sizes i 0) (opened room i v))
unfolding packetize_from
from_step room count i sizes v h =
    ap (λ (l : List ℕ). packetize_from room count i l v) (drop-cons sizes i 0 h)
    ∙ ap (λ (k : ℕ). packetize_from room count (i + 1) (drop k sizes) (step room i (eqb i (count - 1)) (get_or sizes i 0) (opened room i v))) (sym (add-one i))

module _ (room : ℕ) (sizes : List ℕ) (large : 2 ≤ room) (small : room ≤ largest_value) (each : In32Bits sizes) where
  positive : Positive sizes
  positive j l = (each j l).0

  -- one OBU, and then the rest
  from_next : (i : ℕ) (ps : List CratePacket) (p : PacketMetadata) → i < length sizes → Held p
      → packetize_from room (length sizes) (i + 1) (drop (i + 1) sizes) (vector room (ps ++ crate_packets (place room i (get_or sizes i 0) p).closed) (place room i (get_or sizes i 0) p).current)
      ≡ ps ++ crate_packets (place room i (get_or sizes i 0) p).closed ++ crate_packets (plan_from room (i + 1) (drop (i + 1) sizes) (place room i (get_or sizes i 0) p).current)
      → packetize_from room (length sizes) i (drop i sizes) (vector room ps p) ≡ ps ++ crate_packets (plan_from room i (drop i sizes) p)
  from_next i ps p l h ih =
      let x = place room i (get_or sizes i 0) p in
      let rest = plan_from room (i + 1) (drop (i + 1) sizes) x.current in
      from_step room (length sizes) i sizes (vector room ps p) l
      ∙ ap (packetize_from room (length sizes) (i + 1) (drop (i + 1) sizes)) (step_same room i (get_or sizes i 0) small (omega arith) (each i l).1 (eqb i (length sizes - 1)) ps p h)
      ∙ ih
      ∙ append_assoc ps (crate_packets x.closed) (crate_packets rest)
      ∙ ap (λ (r : List CratePacket). ps ++ r) (sym (ap crate_packets (plan_step room sizes i p l) ∙ map-append as_crate_packet x.closed rest))

  from_same : (k i : ℕ) (ps : List CratePacket) (p : PacketMetadata) → i + k ≡ length sizes → get_or sizes (i - 1) 0 ≤ largest_value → Ends room sizes i p
      → packetize_from room (length sizes) i (drop i sizes) (vector room ps p) ≡ ps ++ crate_packets (plan_from room i (drop i sizes) p)
  from_same zero i ps p e b d =
      from_end room (length sizes) i sizes (vector room ps p) (omega arith) ∙ ap (λ (r : List PacketMetadata). ps ++ crate_packets r) (sym (plan_end room sizes i p (omega arith)))
  from_same (suc k) i ps p e b d =
      let l : i < length sizes = omega arith in
      let x = place room i (get_or sizes i 0) p in
      let q : i + 1 - 1 ≡ i = omega arith in
      from_next i ps p l (held_ends room sizes i p b d)
      (from_same k (i + 1) (ps ++ crate_packets x.closed) x.current (omega arith) (rw q (each i l).1) (place_leads room sizes large i p d l (positive i l)).1)

  from_first : (length sizes ≡ 0 → ⊥) → packetize_from room (length sizes) 0 sizes (vector room [] (new_packet 0 0)) ≡ crate_packets (plan_from room 0 sizes (new_packet 0 0))
  from_first n =
      let l : 0 < length sizes = omega arith in
      let x = place room 0 (get_or sizes 0 0) (new_packet 0 0) in
      from_next 0 [] (new_packet 0 0) l (record { few = omega arith; new = λ e. refl; last = omega arith })
      (from_same (length sizes - 1) 1 (crate_packets x.closed) x.current (omega arith) (each 0 l).1 (place_first room sizes large 0 0 l (positive 0 l)).1)

-- the plan is the crate's
pub crate_same : (mtu : ℕ) (sizes : List ℕ) → mtu ≤ largest_value → In32Bits sizes → packetize mtu sizes ≡ crate_packets (plan_of mtu sizes)
unfolding packetize
crate_same mtu sizes small each =
    split_on (eqb (length sizes) 0)
    (λ t. rw (t, plan_none mtu sizes (eqb-true (length sizes) 0 t)))
    (λ t.
    split_on (ltb mtu 3)
    (λ u. rw (t, u, plan_low mtu sizes (ltb-true mtu 3 u)))
    (λ u.
    let n : length sizes ≡ 0 → ⊥ = eqb-false (length sizes) 0 t in
    let l : 3 ≤ mtu = ltb-false mtu 3 u in
    let a : mtu - 1 - 0 ≡ mtu - 1 = omega arith in
    rw (t, u, plan_some mtu sizes l n) (rw a at (from_first (mtu - 1) sizes (omega arith) (omega arith) each n))))
