-- What holds of every plan, for OBUs of at least one byte and an mtu from the smallest on (P13, P14); Starts and Totals have more.
-- Assumes nothing.
--     plan-follows   the records go from the start of OBU 0 to the end of the last OBU, each from where the one before ended
--     plan-first, plan-next, plan-last   the same, record by record
--     plan-sound     each record is as Sound says: its count, its offsets, its packet size
--     plan-runs      all of that along the list
use mathlib.Core.Path.{◌≡◌, sym, ap}
use Prim.Native.Nat.{ℕ, zero, suc, ◌-◌, ◌≤◌, ◌<◌}
use native.Mathlib.Omega.{arith}
use mathlib.Core.List.{List, [], ◌∷◌}
use lib.ListN.{length, get_or}
use lib.Dec.{eqb}
use borrow.Author.Tests.{eqb-true, eqb-false}
use Rattle.base.proofs.Tests.{split_on}
use Rattle.packetizer.specs.Plan.{least_mtu, plan_of}
use Rattle.packetizer.specs.Laws.{Position, position, starts_at, ends_at, Sound, Runs, Positive}
use Rattle.packetizer.specs.Records.{no_packet}
use Rattle.packetizer.specs.declared.PacketMetadata.{PacketMetadata}
use Rattle.packetizer.proofs.Planning.{plan_none, plan_some, plan_begins}

-- ---- the records follow one another, each is sound

pub plan_runs : (mtu : ℕ) (sizes : List ℕ) → least_mtu ≤ mtu → Positive sizes → Runs (mtu - 1) sizes (position 0 0) (plan_of mtu sizes) (position (length sizes) 0)
plan_runs mtu sizes h some =
    split_on (eqb (length sizes) 0)
    (λ t.
    let z : length sizes ≡ 0 = eqb-true (length sizes) 0 t in
    rw (plan_none mtu sizes z) (ap (λ (n : ℕ). position n 0) (sym z)))
    (λ t.
    let z : length sizes ≡ 0 → ⊥ = eqb-false (length sizes) 0 t in
    rw (plan_some mtu sizes h z) (plan_begins (mtu - 1) sizes (omega arith) some z))

-- each record begins where the one before it ended, in OBU and offset
abbrev pub Follows : List ℕ → Position → List PacketMetadata → Position → Type 0
Follows sizes a [] b = a ≡ b
Follows sizes a (p ∷ ps) b = (starts_at p ≡ a) × Follows sizes (ends_at sizes p) ps b

runs_follow : (room : ℕ) (sizes : List ℕ) (a b : Position) (ps : List PacketMetadata) → Runs room sizes a ps b → Follows sizes a ps b
runs_follow room sizes a b [] h = h
runs_follow room sizes a b (p ∷ ps) h = (h.0, runs_follow room sizes (ends_at sizes p) b ps h.2)

-- the same by places
module _ (sizes : List ℕ) where
  follows_first : (a b : Position) (ps : List PacketMetadata) → Follows sizes a ps b → 1 ≤ length ps → starts_at (get_or ps 0 no_packet) ≡ a
  follows_first a b [] h l = absurd (omega arith)
  follows_first a b (p ∷ ps) h l = h.0

  follows_next : (a b : Position) (ps : List PacketMetadata) → Follows sizes a ps b → (k : ℕ) → suc k < length ps
      → starts_at (get_or ps (suc k) no_packet) ≡ ends_at sizes (get_or ps k no_packet)
  follows_next a b [] h k l = absurd (omega arith)
  follows_next a b (p ∷ ps) h zero l = follows_first (ends_at sizes p) b ps h.1 (omega arith)
  follows_next a b (p ∷ ps) h (suc k) l = follows_next (ends_at sizes p) b ps h.1 k (omega arith)

  follows_last : (a b : Position) (ps : List PacketMetadata) → Follows sizes a ps b → (k : ℕ) → suc k ≡ length ps → ends_at sizes (get_or ps k no_packet) ≡ b
  follows_last a b [] h k e = absurd (omega arith)
  follows_last a b (p ∷ []) h zero e = h.1
  follows_last a b (p ∷ q ∷ ps) h zero e = absurd (omega arith)
  follows_last a b (p ∷ ps) h (suc k) e = follows_last (ends_at sizes p) b ps h.1 k (omega arith)

runs_sound : (room : ℕ) (sizes : List ℕ) (a b : Position) (ps : List PacketMetadata) → Runs room sizes a ps b
    → (k : ℕ) → k < length ps → Sound room sizes (get_or ps k no_packet)
runs_sound room sizes a b [] h k l = absurd (omega arith)
runs_sound room sizes a b (p ∷ ps) h zero l = h.1
runs_sound room sizes a b (p ∷ ps) h (suc k) l = runs_sound room sizes (ends_at sizes p) b ps h.2 k (omega arith)

module _ (mtu : ℕ) (sizes : List ℕ) (least : least_mtu ≤ mtu) (some : Positive sizes) where
  pub plan_follows : Follows sizes (position 0 0) (plan_of mtu sizes) (position (length sizes) 0)
  plan_follows = runs_follow (mtu - 1) sizes (position 0 0) (position (length sizes) 0) (plan_of mtu sizes) (plan_runs mtu sizes least some)

  pub plan_first : 1 ≤ length (plan_of mtu sizes) → starts_at (get_or (plan_of mtu sizes) 0 no_packet) ≡ position 0 0
  plan_first = follows_first sizes (position 0 0) (position (length sizes) 0) (plan_of mtu sizes) plan_follows

  pub plan_next : (k : ℕ) → suc k < length (plan_of mtu sizes)
      → starts_at (get_or (plan_of mtu sizes) (suc k) no_packet) ≡ ends_at sizes (get_or (plan_of mtu sizes) k no_packet)
  plan_next = follows_next sizes (position 0 0) (position (length sizes) 0) (plan_of mtu sizes) plan_follows

  pub plan_last : (k : ℕ) → suc k ≡ length (plan_of mtu sizes) → ends_at sizes (get_or (plan_of mtu sizes) k no_packet) ≡ position (length sizes) 0
  plan_last = follows_last sizes (position 0 0) (position (length sizes) 0) (plan_of mtu sizes) plan_follows

  pub plan_sound : (k : ℕ) → k < length (plan_of mtu sizes) → Sound (mtu - 1) sizes (get_or (plan_of mtu sizes) k no_packet)
  plan_sound = runs_sound (mtu - 1) sizes (position 0 0) (position (length sizes) 0) (plan_of mtu sizes) (plan_runs mtu sizes least some)
