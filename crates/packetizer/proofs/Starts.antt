-- Each payload starts where the one before ends: what makes a record or changes one keeps that (P16). Assumes nothing.
--     plan-abuts     the payloads of a plan stand side by side, from the start of the output on
--     plan-starts    so a record's start is the sum of the payloads before it
use mathlib.Core.Path.{◌≡◌, refl, sym, subst}
use Prim.Native.Nat.{ℕ, zero, suc, ◌+◌, ◌-◌, ◌≤◌, ◌<◌}
use native.Mathlib.Omega.{arith}
use mathlib.Core.List.{List, [], ◌∷◌, ◌++◌}
use lib.ListN.{length, get_or, take}
use lib.Dec.{ltb, eqb}
use Rattle.base.proofs.Tests.{by_cond}
use Rattle.packetizer.specs.Plan.{least_mtu, new_packet, left_in, is_full, charged, need_of, with_element, fragment_of, alone, start_after, Placing, closing_then, cut_at, spread, insert, place, plan_from, plan_of}
use Rattle.packetizer.specs.Records.{no_packet}
use Rattle.packetizer.specs.Laws.{Abut, planned_bytes}
use Rattle.packetizer.specs.declared.PacketMetadata.{PacketMetadata}

-- ---- lists of records

pub planned_append : (ps qs : List PacketMetadata) → planned_bytes (ps ++ qs) ≡ planned_bytes ps + planned_bytes qs
unfolding planned_bytes
planned_append [] qs = omega arith
planned_append (p ∷ ps) qs = omega (arith, planned_append ps qs)

pub planned_none : (ps : List PacketMetadata) → length ps ≡ 0 → planned_bytes ps ≡ 0
unfolding planned_bytes
planned_none [] h = refl
planned_none (p ∷ ps) h = absurd (omega arith)

abut_append : (a b c : ℕ) (ps qs : List PacketMetadata) → Abut a ps b → Abut b qs c → Abut a (ps ++ qs) c
abut_append a b c [] qs h k = subst (λ (x : ℕ). Abut x qs c) (sym h) k
abut_append a b c (p ∷ ps) qs h k = (h.0, abut_append (start_after p) b c ps qs h.1 k)

pub abut_sum : (a b : ℕ) (ps : List PacketMetadata) → Abut a ps b → b ≡ a + planned_bytes ps
unfolding planned_bytes
abut_sum a b [] h = omega arith
abut_sum a b (p ∷ ps) h = omega (arith, h.0, abut_sum (start_after p) b ps h.1)

-- record k starts after those before it; and ends no later than all; and the last one where all end
pub abut_start : (a b : ℕ) (ps : List PacketMetadata) → Abut a ps b → (k : ℕ) → k < length ps
    → (get_or ps k no_packet).payload_start ≡ a + planned_bytes (take k ps)
unfolding planned_bytes
abut_start a b [] h k l = absurd (omega arith)
abut_start a b (p ∷ ps) h zero l = omega (arith, h.0)
abut_start a b (p ∷ ps) h (suc k) l = omega (arith, h.0, abut_start (start_after p) b ps h.1 k (omega arith))

pub abut_near : (a b : ℕ) (ps : List PacketMetadata) → Abut a ps b → (k : ℕ) → k < length ps → start_after (get_or ps k no_packet) ≤ b
abut_near a b [] h k l = absurd (omega arith)
abut_near a b (p ∷ ps) h zero l = omega (arith, abut_sum (start_after p) b ps h.1)
abut_near a b (p ∷ ps) h (suc k) l = abut_near (start_after p) b ps h.1 k (omega arith)

pub abut_last : (a b : ℕ) (ps : List PacketMetadata) → Abut a ps b → (k : ℕ) → k + 1 ≡ length ps → start_after (get_or ps k no_packet) ≡ b
abut_last a b [] h k e = absurd (omega arith)
abut_last a b (p ∷ []) h zero e = h.1
abut_last a b (p ∷ q ∷ ps) h zero e = absurd (omega arith)
abut_last a b (p ∷ ps) h (suc k) e = abut_last (start_after p) b ps h.1 k (omega arith)

-- ---- one OBU: what it closes stands side by side, and the current packet after it

abbrev pub Lined : ℕ → Placing → Type 0
Lined a x = Abut a x.closed x.current.payload_start

pub lined_sum : (a : ℕ) (x : Placing) → Lined a x → x.current.payload_start ≡ a + planned_bytes x.closed
lined_sum a x h = abut_sum a x.current.payload_start x.closed h

pub spread_lined : (most room i s o start : ℕ) → Lined start (spread most room i s o start)
unfolding spread
spread_lined zero room i s o start = refl
spread_lined (suc most) room i s o start =
    by_cond (Lined start) (ltb room (s - o)) _ _
    (λ t. (refl, spread_lined most room i s (o + room) (start_after (alone i o room start))))
    (λ t. refl)

pub insert_lined : (room i s : ℕ) (p : PacketMetadata) → Lined p.payload_start (insert room i s p)
unfolding insert
insert_lined room i s p =
    by_cond (Lined p.payload_start) (ltb (need_of (charged p) s) (left_in room (charged p))) _ _ (λ t. refl) (λ t. cut (fragment_of room (charged p) s))
  where
    cut : (f : ℕ) → Lined p.payload_start (closing_then (cut_at p (charged p) f) (spread s room i s f))
    cut f =
        by_cond (λ (q : PacketMetadata). Lined p.payload_start (closing_then q (spread s room i s f))) (eqb f 0) p (with_element (charged p) f)
        (λ t. (refl, spread_lined s room i s f (start_after p)))
        (λ t. (refl, spread_lined s room i s f (start_after (with_element (charged p) f))))

pub place_lined : (room i s : ℕ) (p : PacketMetadata) → Lined p.payload_start (place room i s p)
unfolding place
place_lined room i s p =
    by_cond (Lined p.payload_start) (is_full room p) _ _
    (λ t. (refl, insert_lined room i s (new_packet i (start_after p))))
    (λ t. insert_lined room i s p)

-- ---- the plan

from_abuts : (room i : ℕ) (sizes : List ℕ) (p : PacketMetadata)
    → Abut p.payload_start (plan_from room i sizes p) (p.payload_start + planned_bytes (plan_from room i sizes p))
unfolding plan_from planned_bytes
from_abuts room i [] p = (refl, omega arith)
from_abuts room i (s ∷ ss) p =
    let x = place room i s p in
    let rest = plan_from room (i + 1) ss x.current in
    let e : x.current.payload_start + planned_bytes rest ≡ p.payload_start + planned_bytes (x.closed ++ rest) =
    omega (arith, lined_sum p.payload_start x (place_lined room i s p), planned_append x.closed rest) in
    abut_append p.payload_start x.current.payload_start _ x.closed rest (place_lined room i s p)
    (subst (Abut x.current.payload_start rest) e (from_abuts room (i + 1) ss x.current))

from_first : (room : ℕ) (sizes : List ℕ) → Abut 0 (plan_from room 0 sizes (new_packet 0 0)) (planned_bytes (plan_from room 0 sizes (new_packet 0 0)))
from_first room sizes =
    let ps = plan_from room 0 sizes (new_packet 0 0) in
    let e : 0 + planned_bytes ps ≡ planned_bytes ps = omega arith in
    subst (Abut 0 ps) e (from_abuts room 0 sizes (new_packet 0 0))

pub plan_abuts : (mtu : ℕ) (sizes : List ℕ) → Abut 0 (plan_of mtu sizes) (planned_bytes (plan_of mtu sizes))
unfolding plan_of planned_bytes
plan_abuts mtu [] = refl
plan_abuts mtu (s ∷ ss) =
    by_cond (λ (ps : List PacketMetadata). Abut 0 ps (planned_bytes ps)) (ltb mtu least_mtu) _ _ (λ t. refl) (λ t. from_first (mtu - 1) (s ∷ ss))

pub plan_starts : (mtu : ℕ) (sizes : List ℕ) (k : ℕ) → k < length (plan_of mtu sizes)
    → (get_or (plan_of mtu sizes) k no_packet).payload_start ≡ planned_bytes (take k (plan_of mtu sizes))
plan_starts mtu sizes k h =
    omega (arith, abut_start 0 (planned_bytes (plan_of mtu sizes)) (plan_of mtu sizes) (plan_abuts mtu sizes) k h)
