-- The plan as a whole: a step of it, and its run from the first OBU's start to the last one's end (P1, P3). Assumes nothing.
use mathlib.Core.Path.{◌≡◌, refl, ap}
use Prim.Native.Nat.{ℕ, zero, suc, ◌+◌, ◌-◌, ◌≤◌, ◌<◌}
use native.Mathlib.Numerals.{add-one}
use native.Mathlib.Omega.{arith}
use mathlib.Core.List.{List, [], ◌∷◌, ◌++◌}
use lib.ListN.{length, get_or, drop, drop_of_length-le}
use lib.Seq.{drop-cons}
use borrow.Author.Tests.{lt-ltb, le-ltb}
use Rattle.packetizer.specs.Plan.{least_mtu, new_packet, place, plan_from, plan_of}
use Rattle.packetizer.specs.Laws.{position, starts_at, Runs, Positive}
use Rattle.packetizer.specs.declared.PacketMetadata.{PacketMetadata}
use Rattle.packetizer.proofs.Runs.{Ends, runs_append, close_runs}
use Rattle.packetizer.proofs.Leading.{place_first, place_leads}

module _ (room : ℕ) (sizes : List ℕ) (i : ℕ) (p : PacketMetadata) where
  pub plan_step : i < length sizes
      → plan_from room i (drop i sizes) p
      ≡ (place room i (get_or sizes i 0) p).closed ++ plan_from room (i + 1) (drop (i + 1) sizes) (place room i (get_or sizes i 0) p).current
  unfolding plan_from
  plan_step h = rw (drop-cons sizes i 0 h, add-one)

  pub plan_end : length sizes ≤ i → plan_from room i (drop i sizes) p ≡ p ∷ []
  unfolding plan_from
  plan_end h = rw (drop_of_length-le sizes h)

-- by the tests of P1
pub plan_none : (mtu : ℕ) (sizes : List ℕ) → length sizes ≡ 0 → plan_of mtu sizes ≡ []
unfolding plan_of
plan_none mtu [] h = refl
plan_none mtu (s ∷ ss) h = absurd (omega arith)

pub plan_low : (mtu : ℕ) (sizes : List ℕ) → mtu < least_mtu → plan_of mtu sizes ≡ []
unfolding plan_of
plan_low mtu [] h = refl
plan_low mtu (s ∷ ss) h = rw (lt-ltb mtu least_mtu h)

pub plan_some : (mtu : ℕ) (sizes : List ℕ) → least_mtu ≤ mtu → (length sizes ≡ 0 → ⊥) → plan_of mtu sizes ≡ plan_from (mtu - 1) 0 sizes (new_packet 0 0)
unfolding plan_of
plan_some mtu [] h k = absurd (k refl)
plan_some mtu (s ∷ ss) h k = rw (le-ltb mtu least_mtu h)

module _ (room : ℕ) (sizes : List ℕ) (large : 2 ≤ room) (some : Positive sizes) where
  pub plan_goes : (k i : ℕ) (p : PacketMetadata) → i + k ≡ length sizes → Ends room sizes i p
      → Runs room sizes (starts_at p) (plan_from room i (drop i sizes) p) (position (length sizes) 0)
  plan_goes zero i p e d =
      let z : i ≡ length sizes = omega arith in
      rw (plan_end room sizes i p (omega arith)) (close_runs room sizes i p d (omega arith) [] (position (length sizes) 0) (ap (λ (j : ℕ). position j 0) z))
  plan_goes (suc k) i p e d =
      let l : i < length sizes = omega arith in
      let x = place room i (get_or sizes i 0) p in
      let h = place_leads room sizes large i p d l (some i l) in
      rw (plan_step room sizes i p l)
      (runs_append room sizes (starts_at p) (starts_at x.current) (position (length sizes) 0) x.closed (plan_from room (i + 1) (drop (i + 1) sizes) x.current) h.0
      (plan_goes k (i + 1) x.current (omega arith) h.1))

  pub plan_begins : (length sizes ≡ 0 → ⊥) → Runs room sizes (position 0 0) (plan_from room 0 sizes (new_packet 0 0)) (position (length sizes) 0)
  plan_begins n =
      let l : 0 < length sizes = omega arith in
      let x = place room 0 (get_or sizes 0 0) (new_packet 0 0) in
      let h = place_first room sizes large 0 0 l (some 0 l) in
      rw (plan_step room sizes 0 (new_packet 0 0) l)
      (runs_append room sizes (position 0 0) (starts_at x.current) (position (length sizes) 0) x.closed (plan_from room 1 (drop 1 sizes) x.current) h.0
      (plan_goes (length sizes - 1) 1 x.current (omega arith) h.1))
