-- The steps of Rust where they do not panic, and its tests of a header byte as ours. Assumes nothing.
use mathlib.Core.Path.{◌≡◌, refl, ap, ◌∙◌}
use Prim.Native.Nat.{ℕ, zero, suc, ◌+◌, ◌-◌, ◌/◌, ◌≤◌, ◌<◌}
use native.Mathlib.Omega.{arith}
use mathlib.Core.List.{List, [], ◌∷◌, map}
use mathlib.Core.Bool.{Bool, true, false, cond}
use lib.ListN.{length, get_or, take, drop}
use lib.Dec.{eqb}
use lib.Bits.{and_high}
use borrow.Author.Tests.{le-leb, eqb-true, eqb-false}
use Rattle.base.proofs.Bits.{bit_test}
use Rattle.base.proofs.Lists.{part_from}
use Rattle.obu.specs.Header.{type_of, extension_bit, size_bit, header_length}
use Rattle.crate_laws.specs.Rust.{Outcome, ok, at, slice, minus}
use Rattle.crate_laws.specs.Obu.{obu_has_extension, obu_has_size, obu_type, header_size}

module _ {A : Type 0} where
  pub at_is : (d : A) (l : List A) (i : ℕ) → i < length l → at l i ≡ ok (get_or l i d)
  unfolding at
  at_is d [] i h = absurd (omega arith)
  at_is d (a ∷ l) zero h = refl
  at_is d (a ∷ l) (suc i) h = at_is d l i (omega arith)

  pub at_map : {B : Type 0} (f : A → B) (d : A) (l : List A) (i : ℕ) → i < length l → at (map f l) i ≡ ok (f (get_or l i d))
  unfolding at
  at_map f d [] i h = absurd (omega arith)
  at_map f d (a ∷ l) zero h = refl
  at_map f d (a ∷ l) (suc i) h = at_map f d l i (omega arith)

  -- n elements from an index on
  pub slice_is : (l : List A) (from n : ℕ) → from + n ≤ length l → slice l from (from + n) ≡ ok (take n (drop from l))
  unfolding slice
  slice_is l from n h =
      let e : from + n - from ≡ n = omega arith in
      rw (le-leb from (from + n) (omega arith), le-leb (from + n) (length l) h, e)

  -- list.slice(from..)
  pub slice_rest : (l : List A) (from : ℕ) → from ≤ length l → slice l from (length l) ≡ ok (drop from l)
  unfolding slice
  slice_rest l from h =
      rw (le-leb from (length l) h, le-leb (length l) (length l) (omega arith)) (ap {B = Outcome (List A)} ok (part_from l from h))

pub minus_is : (a b : ℕ) → b ≤ a → minus a b ≡ ok (a - b)
unfolding minus
minus_is a b h = rw (le-leb b a h)

-- ---- the header byte

pub has_extension : (h : ℕ) → obu_has_extension h ≡ eqb (extension_bit h) 1
has_extension h = bit_test 2 h

pub has_size : (h : ℕ) → obu_has_size h ≡ eqb (size_bit h) 1
has_size h = bit_test 1 h

pub type_is : (h : ℕ) → obu_type h ≡ type_of h
type_is h = ap (λ (x : ℕ). x / 8) (and_high h 4 3) ∙ omega arith

pub header_length_lem : (h : ℕ) → header_size h ≡ header_length h
header_length_lem h = rw (has_extension h) (by_bit (eqb (extension_bit h) 1) refl)
  where
    by_bit : (t : Bool) → eqb (extension_bit h) 1 ≡ t → cond t 2 1 ≡ header_length h
    by_bit true e = omega (arith, eqb-true (extension_bit h) 1 e)
    by_bit false e = let n : (extension_bit h ≡ 1 → ⊥) = eqb-false (extension_bit h) 1 e in omega arith
