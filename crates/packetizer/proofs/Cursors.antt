-- The plan, packet after packet: the packet that starts at some byte, and what is to come after it. Assumes nothing.
use mathlib.Core.Path.{◌≡◌, refl, sym, ap, ◌∙◌}
use Prim.Native.Nat.{ℕ, zero, suc, ◌+◌, ◌-◌, ◌≤◌, ◌<◌}
use native.Mathlib.Omega.{arith}
use mathlib.Core.Bool.{true, false, cond}
use mathlib.Core.List.{List, [], ◌∷◌}
use lib.ListN.{length, get_or, drop}
use lib.Dec.{ltb, eqb}
use borrow.Author.Tests.{lt-ltb, le-ltb, ne_eqb, eqb-true, eqb-false, ltb-true}
use Rattle.base.proofs.Tests.{split_on}
use Rattle.packetizer.specs.Plan.{new_packet, left_in, charge_of, fourth_or_later, is_full, charged, need_of, with_element, fragment_of, alone, start_after, Placing, filling, closing, cut_at, spread, place, plan_from}
use Rattle.packetizer.specs.Cursor.{onward, to_come, Walkable, Starts, Fillable, Begins}
use Rattle.packetizer.specs.declared.PacketMetadata.{PacketMetadata}
use Rattle.packetizer.proofs.Steps.{need_bounds}
use Rattle.packetizer.proofs.Spreading.{spread_more, spread_last}
use Rattle.packetizer.proofs.Placing.{insert_whole, insert_cut, place_new, place_on, not_full, one_more, new_free, fragment_below}
use Rattle.packetizer.proofs.Leading.{taken_out_one}
use Rattle.packetizer.proofs.Planning.{plan_step, plan_end}

-- any bound that is enough spreads an OBU over the same packets
spread_enough : (m n room i s o start : ℕ) → 1 ≤ room → o < s → s ≤ o + m → s ≤ o + n → spread m room i s o start ≡ spread n room i s o start
unfolding spread
spread_enough zero n room i s o start r h a b = absurd (omega arith)
spread_enough (suc m) zero room i s o start r h a b = absurd (omega arith)
spread_enough (suc m) (suc n) room i s o start r h a b =
    split_on (ltb room (s - o))
    (λ t.
    let g : room < s - o = ltb-true room (s - o) t in
    let p = alone i o room start in
    rw t (ap (closing p) (spread_enough m n room i s (o + room) (start_after p) r (omega arith) (omega arith) (omega arith))))
    (λ t. rw t)

-- an OBU of one byte in a new packet
place_one : (room i start : ℕ) → 2 ≤ room → place room i 1 (new_packet i start) ≡ filling (alone i 0 1 start)
unfolding charge_of need_of
place_one room i start large =
    let p = new_packet i start in
    place_on room i 1 p (new_free i start room (omega arith)) ∙ insert_whole room i 1 p (charged p) refl (omega arith)

-- ---- where a packet may start

pub starts_new_lem : {sizes : List ℕ} {i : ℕ} → i ≤ length sizes → Starts sizes i 0
starts_new_lem h = record { within = h; inside = λ z. absurd (z refl) }

pub starts_in : {sizes : List ℕ} {i o : ℕ} → i < length sizes → o < get_or sizes i 0 → Starts sizes i o
starts_in l h = record { within = omega arith; inside = λ z. (l, h) }

-- packets that are others by an equation
pub begins_with : {room : ℕ} {sizes : List ℕ} {ps qs : List PacketMetadata} {p : PacketMetadata} {i o : ℕ} → ps ≡ qs → Begins room sizes qs p i o
    → Begins room sizes ps p i o
begins_with e b = record { first = e ∙ b.first; next = b.next }

-- ---- the packets to come

module _ (room : ℕ) (sizes : List ℕ) (i : ℕ) where
  pub come_none : (o start : ℕ) → length sizes ≤ i → to_come room sizes i o start ≡ []
  unfolding to_come
  come_none o start h = rw (le-ltb i (length sizes) h)

  module _ (l : i < length sizes) where
    pub come_new : (start : ℕ) → to_come room sizes i 0 start ≡ plan_from room i (drop i sizes) (new_packet i start)
    unfolding to_come
    come_new start = rw (lt-ltb i (length sizes) l)

    come_placed : (start : ℕ) → to_come room sizes i 0 start ≡ onward room sizes (i + 1) (place room i (get_or sizes i 0) (new_packet i start))
    come_placed start = come_new start ∙ plan_step room sizes i (new_packet i start) l

    come_spread : (o start : ℕ) → (o ≡ 0 → ⊥)
        → to_come room sizes i o start ≡ onward room sizes (i + 1) (spread (get_or sizes i 0) room i (get_or sizes i 0) o start)
    unfolding to_come
    come_spread o start h = rw (lt-ltb i (length sizes) l, ne_eqb o 0 h)

    -- P9: a packet with a fragment that fills it; P10: the last fragment
    module _ (o start : ℕ) (h : o ≡ 0 → ⊥) (k : o < get_or sizes i 0) (large : 2 ≤ room) where
      pub come_middle : {p : PacketMetadata} → room < get_or sizes i 0 - o → p ≡ alone i o room start
          → Begins room sizes (to_come room sizes i o start) p i (o + room)
      come_middle g e =
          let s = get_or sizes i 0 in
          let p = alone i o room start in
          rw e (record {
            first =
                come_spread o start h
                ∙ ap (onward room sizes (i + 1)) (spread_more s room i s o start (omega arith) g)
                ∙ ap (λ (x : Placing). p ∷ onward room sizes (i + 1) x) (spread_enough (s - 1) s room i s (o + room) (start_after p) (omega arith) (omega arith) (omega arith) (omega arith))
                ∙ ap (λ (ps : List PacketMetadata). p ∷ ps) (sym (come_spread (o + room) (start_after p) (λ z. omega arith)));
            next = starts_in l (omega arith);
          })

      pub come_last : get_or sizes i 0 - o ≤ room
          → to_come room sizes i o start ≡ plan_from room (i + 1) (drop (i + 1) sizes) (alone i o (get_or sizes i 0 - o) start)
      come_last g =
          let s = get_or sizes i 0 in
          come_spread o start h ∙ ap (onward room sizes (i + 1)) (spread_last s room i s o start g)

-- ---- a packet that is filled, by the tests that the code makes

module _ {room : ℕ} {sizes : List ℕ} {i : ℕ} {p : PacketMetadata} (v : Walkable room sizes) (f : Fillable room sizes i p) where
  -- no OBU is left
  pub fill_last : length sizes ≤ i → Begins room sizes (plan_from room i (drop i sizes) p) p i 0
  fill_last h =
      record {
        first = plan_end room sizes i p h ∙ ap (λ (ps : List PacketMetadata). p ∷ ps) (sym (come_none room sizes i 0 (start_after p) h));
        next = starts_new_lem f.within;
      }

  -- OBU i is of s bytes
  module _ {s : ℕ} (l : i < length sizes) (is : s ≡ get_or sizes i 0) where
    step : plan_from room i (drop i sizes) p ≡ onward room sizes (i + 1) (place room i s p)
    step = plan_step room sizes i p l ∙ ap (λ (n : ℕ). onward room sizes (i + 1) (place room i n p)) (sym is)

    -- it goes into a new packet
    come_again : (start : ℕ) → onward room sizes (i + 1) (place room i s (new_packet i start)) ≡ to_come room sizes i 0 start
    come_again start = rw is (sym (come_placed room sizes i l start))

    -- P5
    pub fill_full : is_full room p ≡ true → Begins room sizes (plan_from room i (drop i sizes) p) p i 0
    fill_full t =
        let q = new_packet i (start_after p) in
        record {
          first =
              step
              ∙ ap (onward room sizes (i + 1)) (place_new room i s p q refl t ∙ ap (closing p) (sym (place_on room i s q (new_free i (start_after p) room (omega (arith, v.large))))))
              ∙ ap (λ (ps : List PacketMetadata). p ∷ ps) (come_again (start_after p));
          next = starts_new_lem f.within;
        }

    -- q is p with the charge
    module _ {q : PacketMetadata} (e : q ≡ charged p) (t : is_full room p ≡ false) where
      pub fill_charged : (q.packet_size + 1 ≤ room) × (q.num_obu_elements ≤ q.packet_size)
      fill_charged = rw e (omega (arith, one_more room p t, f.few))

      -- P6
      pub fill_whole : {c : PacketMetadata} → need_of q s < left_in room q → c ≡ with_element q s
          → (plan_from room i (drop i sizes) p ≡ plan_from room (i + 1) (drop (i + 1) sizes) c) × Fillable room sizes (i + 1) c
      fill_whole h w =
          let some : 1 ≤ s = omega (arith, v.some i l) in
          rw w (
            step ∙ ap (onward room sizes (i + 1)) (place_on room i s p t ∙ insert_whole room i s p q e h),
            record {
              within = omega arith;
              few = omega (arith, need_bounds q s, fill_charged);
              fits = omega (arith, fill_charged);
            },
          )

      -- P7, P8: with nothing cut off the OBU has one byte, and goes into a new packet as any other
      rest : {n : ℕ} (start : ℕ) → n ≡ fragment_of room q s → onward room sizes (i + 1) (spread s room i s n start) ≡ to_come room sizes i n start
      rest {n} start g =
          split_on (eqb n 0)
          (λ t'.
          let z : n ≡ 0 = eqb-true n 0 t' in
          let free : cond (fourth_or_later (charged p)) 2 1 ≤ left_in room (charged p) = omega (arith, not_full room p t) in
          let one : s ≡ 1 = taken_out_one room (charged p) s free (omega (arith, v.some i l)) (sym (g ∙ ap (λ (x : PacketMetadata). fragment_of room x s) e) ∙ z) in
          let k : spread s room i s 0 start ≡ place room i s (new_packet i start) =
          rw one (spread_last 1 room i 1 0 start (omega (arith, v.large)) ∙ sym (place_one room i start v.large)) in
          rw z (ap (onward room sizes (i + 1)) k ∙ come_again start))
          (λ t'. rw is (sym (come_spread room sizes i l n start (eqb-false n 0 t'))))

      pub fill_cut : {n : ℕ} {c : PacketMetadata} → n ≡ fragment_of room q s → left_in room q ≤ need_of q s → c ≡ cut_at p q n
          → Begins room sizes (plan_from room i (drop i sizes) p) c i n
      fill_cut {n} g h w =
          let some : 1 ≤ s = omega (arith, v.some i l) in
          rw w (record {
            first =
                step
                ∙ ap (onward room sizes (i + 1)) (place_on room i s p t ∙ insert_cut room i s p q n e g h)
                ∙ ap (λ (ps : List PacketMetadata). cut_at p q n ∷ ps) (rest (start_after (cut_at p q n)) g);
            next = starts_in l (omega (arith, fragment_below room q s));
          })
