-- Each step of the plan leads from one position to the next (P5 to P10). Assumes nothing.
use mathlib.Core.Path.{◌≡◌, refl, ap, ◌∙◌}
use Prim.Native.Nat.{ℕ, zero, suc, ◌+◌, ◌-◌, ◌≤◌, ◌<◌, min}
use native.Mathlib.Nat.{zero-add}
use native.Mathlib.Omega.{arith}
use mathlib.Core.Bool.{Bool, true, false, cond}
use mathlib.Core.List.{List, [], ◌∷◌, ◌++◌}
use lib.ListN.{length, get_or}
use lib.Dec.{ltb, leb, eqb}
use borrow.Author.Tests.{ltb-true, ltb-false, leb-true, leb-false, eqb-true, eqb-false, lt-ltb}
use Rattle.base.proofs.Tests.{by_cond, split_on}
use Rattle.packetizer.specs.Fragment.{field_size, largest_fragment}
use Rattle.packetizer.specs.Plan.{most_counted, new_packet, left_in, charge_of, fourth_or_later, is_full, charged, need_of, with_element, fragment_of, alone, start_after, Placing, closing, closing_then, spread, insert, place}
use Rattle.packetizer.specs.Elements.{element, elements_from, elements_of, element_bytes, field_bytes, body_size}
use Rattle.packetizer.specs.Laws.{position, starts_at, ends_at, Sound, start_of}
use Rattle.packetizer.specs.declared.PacketMetadata.{PacketMetadata}
use Rattle.packetizer.proofs.Fragments.{field_one, field_mono, largest_is}
use Rattle.packetizer.proofs.Steps.{charge_none, need_few, need_fourth, need_bounds, fragment_few, fragment_fourth}
use Rattle.packetizer.proofs.Placing.{insert_whole, insert_cut, place_new, place_on, not_full, fragment_below, new_free}
use Rattle.packetizer.proofs.Bodies.{start_more, elements_count, elements_more, charged_body, body_more}
use Rattle.packetizer.proofs.Runs.{Ends, Leads, ends_at_lem, ends_sound, alone_sound, alone_ends, alone_cut}

-- ---- the first fragment fits with its length field

module _ (room : ℕ) (q : PacketMetadata) (s : ℕ) (free : cond (fourth_or_later q) 2 1 ≤ left_in room q) where
  pub fragment_fits : need_of q (fragment_of room q s) ≤ left_in room q
  fragment_fits = go (fourth_or_later q) refl free
    where
      go : (t : Bool) → leb most_counted q.num_obu_elements ≡ t → cond t 2 1 ≤ left_in room q → need_of q (fragment_of room q s) ≤ left_in room q
      go true t h =
          let m : most_counted ≤ q.num_obu_elements = leb-true most_counted q.num_obu_elements t in
          let e : fragment_of room q s ≡ min (s - 1) (largest_fragment (left_in room q)) = fragment_fourth q room s (largest_fragment (left_in room q)) m (largest_is (left_in room q)) in
          let b : largest_fragment (left_in room q) + field_size (largest_fragment (left_in room q)) ≤ left_in room q = (largest_is (left_in room q)).fits h in
          omega (arith, need_fourth q (fragment_of room q s) m, field_mono (fragment_of room q s) (largest_fragment (left_in room q)) (omega arith))
      go false t h =
          let m : q.num_obu_elements < most_counted = leb-false most_counted q.num_obu_elements t in
          omega (arith, need_few q (fragment_of room q s) m, fragment_few q room s m)

  -- P11: only an OBU of one byte is taken out again
  pub taken_out_one : 1 ≤ s → fragment_of room q s ≡ 0 → s ≡ 1
  taken_out_one o z = go (fourth_or_later q) refl free
    where
      go : (t : Bool) → leb most_counted q.num_obu_elements ≡ t → cond t 2 1 ≤ left_in room q → s ≡ 1
      go true t h =
          let m : most_counted ≤ q.num_obu_elements = leb-true most_counted q.num_obu_elements t in
          let l : 1 ≤ largest_fragment (left_in room q) = (largest_is (left_in room q)).most 1 (omega (arith, field_one)) in
          omega (arith, fragment_fourth q room s (largest_fragment (left_in room q)) m (largest_is (left_in room q)))
      go false t h =
          let m : q.num_obu_elements < most_counted = leb-false most_counted q.num_obu_elements t in
          omega (arith, fragment_few q room s m)

module _ (room : ℕ) (sizes : List ℕ) (large : 2 ≤ room) where
  closing_leads : (i : ℕ) (p : PacketMetadata) (x : Placing) → Sound room sizes p → Leads room sizes (ends_at sizes p) i x → Leads room sizes (starts_at p) i (closing p x)
  closing_leads i p x s h = ((refl, s, h.0), h.1)

  -- ---- P9, P10

  pub spread_leads : (most i s o start : ℕ) → i < length sizes → get_or sizes i 0 ≡ s → o < s → s ≤ o + most
      → Leads room sizes (position i o) (i + 1) (spread most room i s o start)
  unfolding spread
  spread_leads zero i s o start l e a b = absurd (omega arith)
  spread_leads (suc most) i s o start l e a b =
      by_cond (Leads room sizes (position i o) (i + 1)) (ltb room (s - o)) _ _
      (λ t.
      let g : room < s - o = ltb-true room (s - o) t in
      let p = alone i o room start in
      let c : ends_at sizes p ≡ position i (o + room) = alone_cut room sizes i o room start (omega arith) in
      closing_leads (i + 1) p (spread most room i s (o + room) (start_after p)) (alone_sound room sizes i o room start l (omega arith) (omega arith) (omega arith))
      (rw c (spread_leads most i s (o + room) (start_after p) l e (omega arith) (omega arith))))
      (λ t.
      let g : s - o ≤ room = ltb-false room (s - o) t in
      (refl, alone_ends room sizes i o (s - o) start l (omega arith) g (omega arith)))

  -- ---- P6 to P8: what an element needs to know of the packet that it is put into

  pub record Before (i : ℕ) (p : PacketMetadata) : Type 0 where
    pub next : p.first_obu_index + p.num_obu_elements ≡ i
    pub start : start_of (p.num_obu_elements + 1) p.first_obu_offset ≡ 0
    pub from : p.first_obu_offset < get_or sizes p.first_obu_index 0
    pub few : p.num_obu_elements ≤ p.packet_size
    pub paid : p.packet_size ≡ body_size (elements_of sizes p)
    pub more : (n : ℕ)
        → elements_from sizes (p.num_obu_elements + 1) p.first_obu_index p.first_obu_offset n ≡ elements_of sizes p ++ (element i 0 n ∷ [])
    pub new : p.num_obu_elements ≡ 0 → p.packet_size ≡ 0
    pub old : (p.num_obu_elements ≡ 0 → ⊥) → Ends room sizes i p

  pub before_new : (i start : ℕ) → 1 ≤ get_or sizes i 0 → Before i (new_packet i start)
  unfolding elements_from element_bytes field_bytes
  before_new i start h =
      record {
        next = omega arith;
        start = refl;
        from = h;
        few = omega arith;
        paid = refl;
        more = λ n. refl;
        new = λ e. refl;
        old = λ f. absurd (f refl);
      }

  pub before_ends : (i : ℕ) (p : PacketMetadata) → Ends room sizes i p → Before i p
  before_ends i p h =
      record {
        next = h.next;
        start = start_more (p.num_obu_elements + 1) p.first_obu_offset (λ e. omega (arith, h.some));
        from = h.from;
        few = h.few;
        paid = h.paid;
        more = λ n.
            elements_more sizes p.num_obu_elements p.first_obu_index p.first_obu_offset p.last_obu_size n h.some (rw h.next h.whole)
            ∙ ap (λ (j : ℕ). elements_of sizes p ++ (element j 0 n ∷ [])) h.next;
        new = λ e. absurd (omega (arith, h.some));
        old = λ f. h;
      }

  module _ (i : ℕ) (p : PacketMetadata) (w : Before i p) (inside : i < length sizes) where
    put_paid : (n : ℕ) → p.packet_size + charge_of p + need_of (charged p) n ≡ body_size (elements_of sizes (with_element (charged p) n))
    unfolding need_of
    put_paid n =
        let es = elements_of sizes p in
        rw (w.more n, body_more es (element i 0 n), elements_count sizes p.num_obu_elements p.first_obu_index p.first_obu_offset p.last_obu_size)
        (omega (arith, charged_body sizes p, w.paid))

    put_sound : (n : ℕ) → 1 ≤ n → n ≤ get_or sizes i 0 → p.packet_size + charge_of p + need_of (charged p) n ≤ room → Sound room sizes (with_element (charged p) n)
    put_sound n a b f =
        let e : p.first_obu_index + (p.num_obu_elements + 1) - 1 ≡ i = omega (arith, w.next) in
        record {
          some = omega arith;
          inside = omega (arith, w.next);
          from = w.from;
          last = a;
          within = rw (e, w.start) (omega arith);
          paid = put_paid n;
          least = omega (arith, need_bounds (charged p) n);
          most = f;
        }

    put_ends : 1 ≤ get_or sizes i 0 → p.packet_size + charge_of p + need_of (charged p) (get_or sizes i 0) ≤ room
        → Ends room sizes (i + 1) (with_element (charged p) (get_or sizes i 0))
    put_ends a f =
        let e : i + 1 - 1 ≡ i = omega arith in
        record {
          some = omega arith;
          next = omega (arith, w.next);
          from = w.from;
          last = a;
          whole = rw (e, w.start) (omega arith);
          paid = put_paid (get_or sizes i 0);
          few = omega (arith, need_bounds (charged p) (get_or sizes i 0), w.few);
          fits = f;
        }

    put_at_lem : (n : ℕ) → n < get_or sizes i 0 → ends_at sizes (with_element (charged p) n) ≡ position i n
    put_at_lem n h =
        let e : p.first_obu_index + (p.num_obu_elements + 1) - 1 ≡ i = omega (arith, w.next) in
        rw (e, w.start, zero-add n, lt-ltb n (get_or sizes i 0) h)

    -- the packet is not full: the charge and a byte, or two, fit
    module _ (some : 1 ≤ get_or sizes i 0) (free : charge_of p + cond (fourth_or_later p) 2 1 ≤ left_in room p) where
      one_free : 1 ≤ cond (fourth_or_later p) 2 1
      one_free = by_cond (λ (x : ℕ). 1 ≤ x) (fourth_or_later p) 2 1 (λ t. omega arith) (λ t. omega arith)

      whole_leads : need_of (charged p) (get_or sizes i 0) < left_in room (charged p) → Leads room sizes (starts_at p) (i + 1) (insert room i (get_or sizes i 0) p)
      whole_leads h = rw (insert_whole room i (get_or sizes i 0) p (charged p) refl h) (refl, put_ends some (omega (arith, one_free)))

      -- only a packet with elements is left without a fragment
      taken_out : left_in room (charged p) ≤ need_of (charged p) (get_or sizes i 0) → fragment_of room (charged p) (get_or sizes i 0) ≡ 0 → Ends room sizes i p
      taken_out h z =
          w.old (λ e.
          let m : p.num_obu_elements < most_counted = omega arith in
          omega (arith, w.new e, charge_none p e, need_few (charged p) (get_or sizes i 0) m, fragment_few (charged p) room (get_or sizes i 0) m))

      cut_leads : left_in room (charged p) ≤ need_of (charged p) (get_or sizes i 0) → Leads room sizes (starts_at p) (i + 1) (insert room i (get_or sizes i 0) p)
      cut_leads h =
          rw (insert_cut room i (get_or sizes i 0) p (charged p) (fragment_of room (charged p) (get_or sizes i 0)) refl refl h)
          (go (fragment_of room (charged p) (get_or sizes i 0)) (taken_out h) (fragment_below room (charged p) (get_or sizes i 0)) (fragment_fits room (charged p) (get_or sizes i 0) (omega (arith, one_free))) (eqb (fragment_of room (charged p) (get_or sizes i 0)) 0) refl)
        where
          go : (f : ℕ) → (f ≡ 0 → Ends room sizes i p) → f ≤ get_or sizes i 0 - 1 → need_of (charged p) f ≤ left_in room (charged p)
              → (t : Bool) → eqb f 0 ≡ t → Leads room sizes (starts_at p) (i + 1) (closing_then (cond t p (with_element (charged p) f)) (spread (get_or sizes i 0) room i (get_or sizes i 0) f))
          go f o b g true t =
              let z : f ≡ 0 = eqb-true f 0 t in
              let d : Ends room sizes i p = o z in
              closing_leads (i + 1) p (spread (get_or sizes i 0) room i (get_or sizes i 0) f (start_after p)) (ends_sound room sizes i p d (omega arith))
              (rw (ends_at_lem room sizes i p d, z) (spread_leads (get_or sizes i 0) i (get_or sizes i 0) 0 (start_after p) inside refl (omega arith) (omega arith)))
          go f o b g false t =
              let z : f ≡ 0 → ⊥ = eqb-false f 0 t in
              let q = with_element (charged p) f in
              closing_leads (i + 1) q (spread (get_or sizes i 0) room i (get_or sizes i 0) f (start_after q))
              (put_sound f (omega arith) (omega arith) (omega (arith, one_free)))
              (rw (put_at_lem f (omega arith)) (spread_leads (get_or sizes i 0) i (get_or sizes i 0) f (start_after q) inside refl (omega arith) (omega arith)))

      pub insert_leads : Leads room sizes (starts_at p) (i + 1) (insert room i (get_or sizes i 0) p)
      insert_leads =
          split_on (ltb (need_of (charged p) (get_or sizes i 0)) (left_in room (charged p)))
          (λ t. whole_leads (ltb-true _ _ t))
          (λ t. cut_leads (ltb-false _ _ t))

  -- ---- P5

  insert_new : (i start : ℕ) → i < length sizes → 1 ≤ get_or sizes i 0
      → Leads room sizes (position i 0) (i + 1) (insert room i (get_or sizes i 0) (new_packet i start))
  insert_new i start l s =
      insert_leads i (new_packet i start) (before_new i start s) l s (not_full room (new_packet i start) (new_free i start room (omega arith)))

  pub place_first : (i start : ℕ) → i < length sizes → 1 ≤ get_or sizes i 0
      → Leads room sizes (position i 0) (i + 1) (place room i (get_or sizes i 0) (new_packet i start))
  place_first i start l s = rw (place_on room i (get_or sizes i 0) (new_packet i start) (new_free i start room (omega arith))) (insert_new i start l s)

  pub place_leads : (i : ℕ) (p : PacketMetadata) → Ends room sizes i p → i < length sizes → 1 ≤ get_or sizes i 0
      → Leads room sizes (starts_at p) (i + 1) (place room i (get_or sizes i 0) p)
  place_leads i p d l s =
      split_on (is_full room p)
      (λ t.
      let q = new_packet i (start_after p) in
      rw (place_new room i (get_or sizes i 0) p q refl t)
      (closing_leads (i + 1) p (insert room i (get_or sizes i 0) q) (ends_sound room sizes i p d (omega arith))
      (rw (ends_at_lem room sizes i p d) (insert_new i (start_after p) l s))))
      (λ t. rw (place_on room i (get_or sizes i 0) p t) (insert_leads i p (before_ends i p d) l s (not_full room p t)))
