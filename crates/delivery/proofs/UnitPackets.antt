-- The payloads of a unit carry the run of packets that its plan describes (P13, P14, H1 to H5, Y1 to Y4). Assumes nothing.
--     unit-carries   this
--     unit-short     no payload is longer than its record allows
--     unit-chained   Z repeats the Y of the packet before
--     unit-full      no element is empty
--     unit-last      no OBU is open at the end
use mathlib.Core.Path.{◌≡◌, refl, sym, ap, subst, ◌∙◌}
use Prim.Native.Nat.{ℕ, zero, suc, ◌+◌, ◌-◌, ◌≤◌, ◌<◌}
use native.Mathlib.Omega.{arith}
use mathlib.Core.List.{List, [], ◌∷◌, map}
use mathlib.Core.Bool.{Bool, true, false, cond, ◌&&◌, and-false}
use lib.ListN.{length, get_or, length-map}
use lib.Dec.{ltb, leb, eqb}
use borrow.Author.Tests.{lt-ltb, le-ltb, leb-true, leb-false, eqb-true}
use Rattle.base.specs.Lists.{All}
use Rattle.base.proofs.Tests.{by_cond, split_on}
use Rattle.leb128.specs.Field.{encode, largest_value}
use Rattle.obu.specs.Unit.{obus_of}
use Rattle.obu.specs.Records.{no_obu}
use Rattle.packetizer.specs.Plan.{least_mtu, most_counted}
use Rattle.packetizer.specs.Elements.{Element, elements_from, elements_of, element_bytes, field_bytes}
use Rattle.packetizer.specs.Call.{mtu_limit, sizes_of}
use Rattle.packetizer.specs.Laws.{Position, position, ends_at, Sound, Runs, start_of, Positive}
use Rattle.packetizer.specs.declared.PacketMetadata.{PacketMetadata}
use Rattle.packetizer.proofs.Bodies.{elements_count}
use Rattle.packetizer.proofs.Turns.{size_at}
use Rattle.aggregation.specs.New.{new_sequence, n_of}
use Rattle.aggregation.specs.Header as header
use Rattle.aggregation.specs.Header.{last_obu, last_start, byte_of}
use Rattle.aggregation.proofs.Bits.{bit_z, bit_y, bits_w, bit_n}
use Rattle.payloader.specs.Payload.{part_of, parts_of, fielded, payload, payloads_from}
use Rattle.lawful.specs.Train.{NonEmpty, Packet}
use Rattle.lawful.specs.Payload.{Laid, Counted, each, exact, Carries, CarryAll}
use Rattle.lawful.proofs.Trains.{Chained, last_y}
use Rattle.delivery.proofs.UnitParts.{Fit, parts_fit, laid_fielded, fielded_length}

-- the packet of a plan record
abbrev pub z_at : PacketMetadata → Bool
z_at p = ltb 0 p.first_obu_offset

abbrev pub y_at : List ℕ → PacketMetadata → Bool
y_at unit p = ltb (last_start p + p.last_obu_size) (get_or (obus_of unit) (last_obu p) no_obu).size

abbrev pub elements_at : List ℕ → PacketMetadata → List (List ℕ)
elements_at unit p = parts_of unit (obus_of unit) (elements_of (sizes_of unit) p)

abbrev pub packet_for : List ℕ → PacketMetadata → Packet
packet_for unit p = record { z = z_at p; y = y_at unit p; elements = elements_at unit p }

flag_is : (b : Bool) → eqb (cond b 1 0) 1 ≡ b
flag_is true = refl
flag_is false = refl

module _ (unit : List ℕ) (some : Positive (sizes_of unit)) (mtu : ℕ) where
  -- ---- one record

  module _ (p : PacketMetadata) (s : Sound (mtu - 1) (sizes_of unit) p) where
    count : length (elements_of (sizes_of unit) p) ≡ p.num_obu_elements
    count = elements_count (sizes_of unit) p.num_obu_elements p.first_obu_index p.first_obu_offset p.last_obu_size

    fit : All (Fit unit some) (elements_of (sizes_of unit) p)
    fit = go p.num_obu_elements s.some s.inside s.within
      where
        go : (n : ℕ) → 1 ≤ n → p.first_obu_index + n ≤ length (sizes_of unit)
            → start_of n p.first_obu_offset + p.last_obu_size ≤ get_or (sizes_of unit) (p.first_obu_index + n - 1) 0
            → All (Fit unit some) (elements_from (sizes_of unit) n p.first_obu_index p.first_obu_offset p.last_obu_size)
        go zero a b c = absurd (omega arith)
        go (suc m) a b c =
            let e : p.first_obu_index + suc m - 1 ≡ p.first_obu_index + m = omega arith in
            parts_fit unit some m p.first_obu_index p.first_obu_offset p.last_obu_size b s.from s.last (rw e at c)

    flag : Bool
    flag = ltb most_counted p.num_obu_elements

    long : length (fielded encode flag (elements_at unit p)) ≡ p.packet_size
    unfolding flag
    long =
        fielded_length unit some flag (elements_of (sizes_of unit) p) fit
        ∙ sym (s.paid ∙ ap (λ (n : ℕ). element_bytes (elements_of (sizes_of unit) p) + field_bytes (ltb most_counted n) (elements_of (sizes_of unit) p)) count)

    full : All NonEmpty (elements_at unit p)
    full = go (elements_of (sizes_of unit) p) fit
      where
        go : (es : List Element) → All (Fit unit some) es → All NonEmpty (parts_of unit (obus_of unit) es)
        go [] f = tt
        go (e ∷ es) f = (omega (arith, f.0.byte, f.0.long), go es f.1)

    small : (es : List Element) → All (Fit unit some) es → element_bytes es ≤ largest_value → All (λ (x : List ℕ). length x ≤ largest_value) (parts_of unit (obus_of unit) es)
    unfolding element_bytes
    small [] f l = tt
    small (e ∷ es) f l = (omega (arith, f.0.long), small es f.1 (omega arith))

    laid : mtu ≤ mtu_limit → Laid flag (elements_at unit p) (fielded encode flag (elements_at unit p))
    laid m =
        go (elements_of (sizes_of unit) p) (omega (arith, count, s.some))
        (small (elements_of (sizes_of unit) p) fit (omega (arith, s.most, s.paid)))
      where
        go : (es : List Element) → 1 ≤ length es → All (λ (x : List ℕ). length x ≤ largest_value) (parts_of unit (obus_of unit) es)
            → Laid flag (parts_of unit (obus_of unit) es) (fielded encode flag (parts_of unit (obus_of unit) es))
        go [] h l = absurd (omega arith)
        go (e ∷ es) h l = laid_fielded flag (part_of unit (obus_of unit) e) (parts_of unit (obus_of unit) es) l

    counts : mtu ≤ mtu_limit → Counted (header.w_of p) (elements_at unit p) (fielded encode flag (elements_at unit p))
    unfolding flag
    counts m = split_on (leb p.num_obu_elements most_counted)
        (λ t.
        let h : p.num_obu_elements ≤ most_counted = leb-true p.num_obu_elements most_counted t in
        let e : ltb most_counted p.num_obu_elements ≡ false = le-ltb most_counted p.num_obu_elements h in
        rw t (exact (length-map (elements_of (sizes_of unit) p) (part_of unit (obus_of unit)) ∙ count) (subst (λ (b : Bool). Laid b (elements_at unit p) (fielded encode flag (elements_at unit p))) e (laid m))))
        (λ t.
        let h : most_counted < p.num_obu_elements = leb-false p.num_obu_elements most_counted t in
        let e : ltb most_counted p.num_obu_elements ≡ true = lt-ltb most_counted p.num_obu_elements h in
        rw t (each (subst (λ (b : Bool). Laid b (elements_at unit p) (fielded encode flag (elements_at unit p))) e (laid m))))

    few : header.w_of p ≤ 3
    few = by_cond (λ (w : ℕ). w ≤ 3) (leb p.num_obu_elements most_counted) p.num_obu_elements 0 (λ t. leb-true p.num_obu_elements most_counted t) (λ t. omega arith)

    -- packet k of its unit; N stands on packet 0 alone, which has no Z
    carries : (k : ℕ) → mtu ≤ mtu_limit → least_mtu ≤ mtu → (k ≡ 0 → z_at p ≡ false) → Carries (byte_of unit (obus_of unit) p k) (fielded encode flag (elements_at unit p)) (packet_for unit p)
    unfolding byte_of n_of
    carries k m l first =
        record {
          short = omega (arith, long, s.most);
          z_is = rw (bit_z (z_at p) (y_at unit p) n (header.w_of p) few) (flag_is (z_at p));
          y_is = rw (bit_y (z_at p) (y_at unit p) n (header.w_of p) few) (flag_is (y_at unit p));
          n_clear = rw (bit_z (z_at p) (y_at unit p) n (header.w_of p) few, bit_n (z_at p) (y_at unit p) n (header.w_of p) few, flag_is (z_at p), flag_is n) not_both;
          counted = rw (bits_w (z_at p) (y_at unit p) n (header.w_of p) few) (counts m);
        }
      where
        n : Bool
        n = eqb k 0 && new_sequence unit (obus_of unit)

        not_both : z_at p && n ≡ false
        not_both = split_on (eqb k 0)
            (λ t. rw (first (eqb-true k 0 t)))
            (λ t. rw t (and-false (z_at p)))

    -- it ends inside an OBU exactly if it has Y
    ends_inside : ltb 0 (ends_at (sizes_of unit) p).offset ≡ y_at unit p
    ends_inside = subst (λ (x : ℕ). ltb 0 (cond (ltb e x) (position (last_obu p) e) (position (p.first_obu_index + p.num_obu_elements) 0)).offset ≡ ltb e (get_or (obus_of unit) (last_obu p) no_obu).size) (sym (size_at (obus_of unit) (last_obu p)))
        (split_on (ltb e (get_or (obus_of unit) (last_obu p) no_obu).size) (λ t. rw t (lt-ltb 0 e (omega (arith, s.last)))) (λ t. rw t))
      where
        e : ℕ
        e = last_start p + p.last_obu_size

  -- ---- all of them, from a position on

  pub unit_carries : (k : ℕ) (a b : Position) (ps : List PacketMetadata) → mtu ≤ mtu_limit → least_mtu ≤ mtu → (k ≡ 0 → a.offset ≡ 0) → Runs (mtu - 1) (sizes_of unit) a ps b
      → CarryAll (payloads_from encode unit (obus_of unit) k ps) (map (packet_for unit) ps)
  unfolding payloads_from payload flag
  unit_carries k a b [] m l f r = tt
  unit_carries k a b (p ∷ ps) m l f r = (
    carries p r.1 k m l (λ z. le-ltb 0 p.first_obu_offset (omega (arith, f z, ap (λ (x : Position). x.offset) r.0))),
    unit_carries (k + 1) (ends_at (sizes_of unit) p) b ps m l (λ z. absurd (omega arith)) r.2,
  )

  pub unit_short : (most : ℕ) → ((p : PacketMetadata) → Sound (mtu - 1) (sizes_of unit) p → p.packet_size + 1 ≤ most)
      → (k : ℕ) (a b : Position) (ps : List PacketMetadata) → Runs (mtu - 1) (sizes_of unit) a ps b
      → All (λ (x : List ℕ). length x ≤ most) (payloads_from encode unit (obus_of unit) k ps)
  unfolding payloads_from payload flag
  unit_short most fits k a b [] r = tt
  unit_short most fits k a b (p ∷ ps) r = (omega (arith, long p r.1, fits p r.1), unit_short most fits (k + 1) (ends_at (sizes_of unit) p) b ps r.2)

  pub unit_full : (a b : Position) (ps : List PacketMetadata) → Runs (mtu - 1) (sizes_of unit) a ps b → All (λ (q : Packet). All NonEmpty q.elements) (map (packet_for unit) ps)
  unit_full a b [] r = tt
  unit_full a b (p ∷ ps) r = (full p r.1, unit_full (ends_at (sizes_of unit) p) b ps r.2)

  pub unit_chained : (a b : Position) (ps : List PacketMetadata) → Runs (mtu - 1) (sizes_of unit) a ps b → Chained (ltb 0 a.offset) (map (packet_for unit) ps)
  unit_chained a b [] r = tt
  unit_chained a b (p ∷ ps) r = (
    ap (λ (x : Position). ltb 0 x.offset) r.0,
    omega (arith, length-map (elements_of (sizes_of unit) p) (part_of unit (obus_of unit)), count p r.1, r.1.some),
    subst (λ (y : Bool). Chained y (map (packet_for unit) ps)) (ends_inside p r.1) (unit_chained (ends_at (sizes_of unit) p) b ps r.2),
  )

  -- the run ends with Y exactly if its last position is inside an OBU
  pub unit_last : (a b : Position) (ps : List PacketMetadata) → Runs (mtu - 1) (sizes_of unit) a ps b → last_y (ltb 0 a.offset) (map (packet_for unit) ps) ≡ ltb 0 b.offset
  unfolding last_y
  unit_last a b [] r = ap (λ (x : Position). ltb 0 x.offset) r
  unit_last a b (p ∷ ps) r = ap (λ (y : Bool). last_y y (map (packet_for unit) ps)) (sym (ends_inside p r.1)) ∙ unit_last (ends_at (sizes_of unit) p) b ps r.2
