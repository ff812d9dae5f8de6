-- The charge, the need and the first fragment, by the tests that decide them (P4 to P7). Assumes nothing.
use mathlib.Core.Path.{◌≡◌, ap}
use Prim.Native.Nat.{ℕ, ◌+◌, ◌-◌, ◌≤◌, ◌<◌, min}
use native.Mathlib.Omega.{arith}
use mathlib.Core.Bool.{◌||◌}
use lib.Dec.{ltb, eqb}
use borrow.Author.Tests.{lt-ltb, le-ltb, le-leb, lt-leb, eq-eqb, ne_eqb, leb-true, leb-false}
use Rattle.base.proofs.Tests.{by_cond, split_on}
use Rattle.packetizer.specs.Fragment.{field_size, largest_fragment, Largest}
use Rattle.packetizer.specs.Plan.{most_counted, left_in, charge_of, fourth_or_later, is_full, need_of, fragment_of}
use Rattle.packetizer.specs.declared.PacketMetadata.{PacketMetadata}
use Rattle.packetizer.proofs.Fragments.{field_most, largest_one, largest_is}

module _ (p : PacketMetadata) where
  -- P4
  pub charge_none : p.num_obu_elements ≡ 0 → charge_of p ≡ 0
  unfolding charge_of
  charge_none h = rw (eq-eqb p.num_obu_elements 0 h)

  pub charge_paid : (p.num_obu_elements ≡ 0 → ⊥) → most_counted < p.num_obu_elements → charge_of p ≡ 0
  unfolding charge_of
  charge_paid e h = rw (ne_eqb p.num_obu_elements 0 e, lt-ltb most_counted p.num_obu_elements h)

  pub charge_last : (p.num_obu_elements ≡ 0 → ⊥) → p.num_obu_elements ≤ most_counted → charge_of p ≡ field_size p.last_obu_size
  unfolding charge_of
  charge_last e h = rw (ne_eqb p.num_obu_elements 0 e, le-ltb most_counted p.num_obu_elements h)

  pub charge_most : charge_of p ≤ 5
  unfolding charge_of
  charge_most =
      by_cond (λ (x : ℕ). x ≤ 5) (eqb p.num_obu_elements 0 || ltb most_counted p.num_obu_elements) 0 (field_size p.last_obu_size)
      (λ t. omega arith)
      (λ t. field_most p.last_obu_size)

  -- P5
  pub full_few : (room : ℕ) → p.num_obu_elements < most_counted → is_full room p ≡ ltb (left_in room p) (charge_of p + 1)
  unfolding is_full
  full_few room h = rw (lt-leb most_counted p.num_obu_elements h)

  pub full_fourth : (room : ℕ) → most_counted ≤ p.num_obu_elements → is_full room p ≡ ltb (left_in room p) (charge_of p + 2)
  unfolding is_full
  full_fourth room h = rw (le-leb most_counted p.num_obu_elements h)

  -- P6
  pub need_few : (n : ℕ) → p.num_obu_elements < most_counted → need_of p n ≡ n
  unfolding need_of
  need_few n h = rw (lt-leb most_counted p.num_obu_elements h) (omega arith)

  pub need_fourth : (n : ℕ) → most_counted ≤ p.num_obu_elements → need_of p n ≡ n + field_size n
  unfolding need_of
  need_fourth n h = rw (le-leb most_counted p.num_obu_elements h)

  pub need_bounds : (n : ℕ) → (n ≤ need_of p n) × (need_of p n ≤ n + 5)
  need_bounds n =
      split_on (fourth_or_later p)
      (λ t. omega (arith, need_fourth n (leb-true most_counted p.num_obu_elements t), field_most n))
      (λ t. omega (arith, need_few n (leb-false most_counted p.num_obu_elements t)))

  -- P7
  pub fragment_few : (room s : ℕ) → p.num_obu_elements < most_counted → fragment_of room p s ≡ min (s - 1) (left_in room p)
  unfolding fragment_of
  fragment_few room s h = rw (lt-leb most_counted p.num_obu_elements h)

  pub fragment_fourth : (room s n : ℕ) → most_counted ≤ p.num_obu_elements → Largest (left_in room p) n → fragment_of room p s ≡ min (s - 1) n
  unfolding fragment_of
  fragment_fourth room s n h l =
      rw (le-leb most_counted p.num_obu_elements h)
      (ap (min (s - 1)) (largest_one (left_in room p) (largest_fragment (left_in room p)) n (largest_is (left_in room p)) l))
