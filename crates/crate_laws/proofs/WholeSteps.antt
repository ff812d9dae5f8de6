-- The steps of the crate's packetize, in whole numbers: the vector, sizes, the packet being filled, middle and last fragments;
-- its last branch is never entered (P11). Assumes nothing.
use mathlib.Core.Path.{◌≡◌, refl, sym, ap, ◌∙◌}
use Prim.Native.Nat.{ℕ, zero, suc, ◌+◌, ◌-◌, ◌*◌, ◌%◌, ◌^◌, ◌≤◌, ◌<◌}
use native.Mathlib.Omega.{arith}
use mathlib.Core.Bool.{Bool, true, false, cond, and-false}
use mathlib.Core.List.{List, [], ◌∷◌, ◌++◌, append_assoc, append-nil, drop_last}
use lib.Dec.{ltb, leb, eqb}
use borrow.Author.Tests.{ltb-true, ltb-false, leb-true, leb-false, eqb-true, eqb-false, lt-ltb, le-ltb, eq-eqb, ne_eqb}
use Rattle.base.proofs.Tests.{by_cond, split_on}
use Rattle.leb128.specs.Field.{largest_value}
use Rattle.leb128.specs.Laws.{cap}
use Rattle.packetizer.specs.Fragment.{field_size, largest_fragment, Largest}
use Rattle.packetizer.specs.Plan.{charge_of, alone, start_after, Placing, filling, closing, spread}
use Rattle.packetizer.specs.declared.PacketMetadata.{PacketMetadata}
use Rattle.packetizer.proofs.Fragments.{largest_is, largest_one, largest_none, Shifting, shifting_next, shifting_end}
use Rattle.crate_laws.specs.Rust.{push}
use Rattle.crate_laws.specs.Packetizer.{CratePacket, size_as_u32, additional_bytes_for_previous_obu_element, Reached, middles, spread_over}
use Rattle.crate_laws.specs.Same.{as_crate_packet, crate_packets, NeverSplits}
use Rattle.crate_laws.proofs.Lengths.{size_is}
use Rattle.crate_laws.proofs.Whole.{popped, fragment_from, whole_fragment_size, last_fragment, finished}

-- ---- the vector

pub popped_push : (ps : List CratePacket) (p : CratePacket) → popped (push ps p) ≡ p
unfolding popped
popped_push [] p = refl
popped_push (q ∷ []) p = refl
popped_push (q ∷ r ∷ ps) p = popped_push (r ∷ ps) p

pub dropped_push : (ps : List CratePacket) (p : CratePacket) → drop_last (push ps p) ≡ ps
dropped_push [] p = refl
dropped_push (q ∷ []) p = refl
dropped_push (q ∷ r ∷ ps) p = ap (λ (l : List CratePacket). q ∷ l) (dropped_push (r ∷ ps) p)

-- ---- sizes

pub as_u32_lem : (n : ℕ) → n ≤ largest_value → size_as_u32 n ≡ field_size n
as_u32_lem n h = let e : n % 4294967296 ≡ n = omega arith in rw e (size_is n (omega arith))

power : (i : ℕ) → i ≤ 5 → 2 ^ (7 * i) ≡ cap i
power zero h = refl
power (suc zero) h = refl
power (suc (suc zero)) h = refl
power (suc (suc (suc zero))) h = refl
power (suc (suc (suc (suc zero)))) h = refl
power (suc (suc (suc (suc (suc zero))))) h = refl
power (suc (suc (suc (suc (suc (suc i)))))) h = absurd (omega arith)

from_largest : (turns i r : ℕ) → r < 4294967296 → 6 ≤ turns + i → Shifting r i → Largest r (fragment_from turns i r)
unfolding fragment_from
from_largest zero i r h t s = absurd (omega arith)
from_largest (suc turns) i r h t s =
    rw (power i s.most)
    (by_cond (Largest r) (ltb r (cap i + i)) (r - i) (fragment_from turns (i + 1) r)
    (λ u. shifting_end r i s (ltb-true r (cap i + i) u))
    (λ u. from_largest turns (i + 1) r h (omega arith) (shifting_next r i h s (ltb-false r (cap i + i) u))))

pub fragment_same : (r : ℕ) → r ≤ largest_value → whole_fragment_size r ≡ largest_fragment r
unfolding whole_fragment_size
fragment_same r h = largest_one r (cond (leb r 1) 0 (fragment_from 9 1 r)) (largest_fragment r)
    (by_cond (Largest r) (leb r 1) 0 (fragment_from 9 1 r)
    (λ t. largest_none r (leb-true r 1 t))
    (λ t.
    let l : 1 < r = leb-false r 1 t in
    from_largest 9 1 r (omega arith) (omega arith) (record { from = omega arith; most = omega arith; two = omega arith; passed = λ q. absurd (omega arith) })))
    (largest_is r)

-- ---- a packet that is being filled

pub record Held (p : PacketMetadata) : Type 0 where
  pub few : p.num_obu_elements ≤ p.packet_size
  pub new : p.num_obu_elements ≡ 0 → p.packet_size ≡ 0
  pub last : p.last_obu_size ≤ largest_value

pub charge_same : (p : PacketMetadata) → Held p → additional_bytes_for_previous_obu_element (as_crate_packet p) ≡ charge_of p
unfolding additional_bytes_for_previous_obu_element charge_of
charge_same p h =
    let e : eqb p.packet_size 0 ≡ eqb p.num_obu_elements 0 = same in
    rw (e, as_u32_lem p.last_obu_size h.last)
  where
    same : eqb p.packet_size 0 ≡ eqb p.num_obu_elements 0
    same =
        split_on (eqb p.num_obu_elements 0)
        (λ t. eq-eqb p.packet_size 0 (h.new (eqb-true p.num_obu_elements 0 t)) ∙ sym t)
        (λ t.
        let z : p.num_obu_elements ≡ 0 → ⊥ = eqb-false p.num_obu_elements 0 t in
        ne_eqb p.packet_size 0 (λ e. omega (arith, h.few)) ∙ sym t)

-- ---- middle and last fragments

abbrev reached : List CratePacket → ℕ → Reached
reached ps o = record { packets = ps; offset = o }

-- where the last fragment starts, and its packet
abbrev last_from : ℕ → ℕ → ℕ → ℕ → ℕ → ℕ → ℕ
last_from most room i s o start = (spread most room i s o start).current.first_obu_offset

tests_same : (room s o : ℕ) → ltb (o + room) s ≡ ltb room (s - o)
tests_same room s o =
    split_on (ltb room (s - o))
    (λ t. let l : room < s - o = ltb-true room (s - o) t in lt-ltb (o + room) s (omega arith) ∙ sym t)
    (λ t. let l : s - o ≤ room = ltb-false room (s - o) t in le-ltb (o + room) s (omega arith) ∙ sym t)

middles_same : (most room i s o start : ℕ) (ps : List CratePacket)
    → middles most room i s (reached ps o) ≡ reached (ps ++ crate_packets (spread most room i s o start).closed) (last_from most room i s o start)
unfolding middles spread
middles_same zero room i s o start ps = rw (append-nil ps)
middles_same (suc most) room i s o start ps =
    rw (tests_same room s o) (go (ltb room (s - o)) (middles_same most room i s (o + room) (start_after full) (push ps (as_crate_packet full))))
  where
    full : PacketMetadata
    full = alone i o room start

    next : Placing
    next = spread most room i s (o + room) (start_after full)

    go : (t : Bool)
        → middles most room i s (reached (push ps (as_crate_packet full)) (o + room))
        ≡ reached (push ps (as_crate_packet full) ++ crate_packets next.closed) next.current.first_obu_offset
        → cond t (middles most room i s (reached (push ps (as_crate_packet full)) (o + room))) (reached ps o)
        ≡ reached (ps ++ crate_packets (cond t (closing full next) (filling (alone i o (s - o) start))).closed)
        (cond t (closing full next) (filling (alone i o (s - o) start))).current.first_obu_offset
    go true ih = ih ∙ ap (λ (l : List CratePacket). reached l next.current.first_obu_offset) (append_assoc ps (as_crate_packet full ∷ []) (crate_packets next.closed))
    go false ih = ap (λ (l : List CratePacket). reached l o) (sym (append-nil ps))

-- it stands alone in its packet
abbrev Last : ℕ → ℕ → PacketMetadata → Type 0
Last i s p = p ≡ alone i p.first_obu_offset (s - p.first_obu_offset) p.payload_start

last_alone : (most room i s o start : ℕ) → Last i s (spread most room i s o start).current
unfolding spread
last_alone zero room i s o start = refl
last_alone (suc most) room i s o start =
    by_cond (λ (x : Placing). Last i s x.current) (ltb room (s - o)) _ _
    (λ t. last_alone most room i s (o + room) _)
    (λ t. refl)

last_fits : (most room i s o start : ℕ) → 1 ≤ room → s ≤ o + most → s - last_from most room i s o start ≤ room
unfolding spread
last_fits zero room i s o start r h = omega arith
last_fits (suc most) room i s o start r h =
    by_cond (λ (x : Placing). s - x.current.first_obu_offset ≤ room) (ltb room (s - o)) _ _
    (λ t. let l : room < s - o = ltb-true room (s - o) t in last_fits most room i s (o + room) _ r (omega arith))
    (λ t. ltb-false room (s - o) t)

-- the test of the crate's last branch is false, whatever fragment came first
pub never_splits : NeverSplits
never_splits is_last room i s f ps r =
    rw (middles_same s room i s f 0 ps, le-ltb room (s - last_from s room i s f 0) (last_fits s room i s f 0 r (omega arith))) (and-false is_last)

pub spread_same : (is_last : Bool) (room i s f start : ℕ) (ps : List CratePacket) → 1 ≤ room
    → finished room i is_last s (spread_over room i s ps f)
    ≡ record {
      packets =
          ps ++ crate_packets (spread s room i s f start).closed ++ (as_crate_packet (spread s room i s f start).current ∷ []);
      remaining = room - (spread s room i s f start).current.packet_size;
    }
unfolding last_fragment
spread_same is_last room i s f start ps r =
    rw (never_splits is_last room i s f ps r, middles_same s room i s f start ps, last_alone s room i s f start)
