-- What the crate puts for an element is its length and our part of the OBU (D2, Y2 to Y4). Assumes nothing.
use mathlib.Core.Path.{◌≡◌, refl}
use Prim.Native.Nat.{ℕ, zero, suc, ◌+◌, ◌-◌, ◌≤◌}
use native.Mathlib.Nat.{zero-sub}
use native.Mathlib.Omega.{arith}
use mathlib.Core.List.{List, [], ◌∷◌, ◌++◌}
use mathlib.Core.Bool.{Bool, true, false, cond, ◌&&◌}
use lib.ListN.{length, take, drop}
use lib.Dec.{ltb, leb, eqb}
use borrow.Author.Tests.{lt-ltb, lt-leb, ne_eqb, eqb-true, eqb-false, ltb-false}
use Rattle.base.proofs.Bits.{clear_bit1}
use Rattle.base.proofs.Lists.{part_from}
use Rattle.base.proofs.Tests.{split_on}
use Rattle.obu.specs.Header.{extension_bit, header_length, cleared}
use Rattle.obu.specs.Wire.{payload_of, sent}
use Rattle.obu.specs.Laws.{Lies}
use Rattle.obu.specs.declared.Obu.{Obu}
use Rattle.obu.proofs.Theorems.{payload_length}
use Rattle.crate_laws.specs.Rust.{ok}
use Rattle.crate_laws.specs.Payload.{put_length, put_if, without_size_bit, payload_offset, element_of, takes_header, less_if, last_from, last_element_of}
use Rattle.crate_laws.specs.Same.{as_crate}
use Rattle.crate_laws.proofs.Steps.{slice_is, minus_is, has_extension, header_length_lem}

-- ---- a part of header byte, extension byte and payload, by the crate's tests

module _ (h first e : ℕ) (payload : List ℕ) where
  -- from an offset on
  from_offset : (t : Bool) → eqb (extension_bit h) 1 ≡ t → (offset : ℕ)
      → put_if (eqb offset 0) first ++ (put_if (leb offset 1 && t) e ++ drop (offset - header_length h) payload)
      ≡ drop offset (first ∷ (cond t (e ∷ []) [] ++ payload))
  from_offset t q zero = rw (zero-sub (header_length h))
  from_offset t q (suc zero) = let z : 1 - header_length h ≡ 0 = omega arith in rw z
  from_offset true q (suc (suc m)) =
      let x : extension_bit h ≡ 1 = eqb-true (extension_bit h) 1 q in
      let z : suc (suc m) - header_length h ≡ m = omega arith in
      rw (ne_eqb (suc (suc m)) 0 (λ d. omega arith), lt-leb (suc (suc m)) 1 (omega arith), z)
  from_offset false q (suc (suc m)) =
      let x : (extension_bit h ≡ 1 → ⊥) = eqb-false (extension_bit h) 1 q in
      let z : suc (suc m) - header_length h ≡ suc m = omega arith in
      rw (ne_eqb (suc (suc m)) 0 (λ d. omega arith), lt-leb (suc (suc m)) 1 (omega arith), z)

  -- so many bytes from an offset on: how many of them are payload, which are there, and the part
  abbrev is_taken : Bool → ℕ → ℕ → Bool
  is_taken t offset left = leb offset 1 && t && ltb 0 left

  abbrev Part : Bool → ℕ → ℕ → ℕ → Type 0
  Part t offset n left =
      (offset - header_length h + less_if (is_taken t offset left) left ≤ length payload)
      × (put_if (takes_header offset n) first ++ (put_if (is_taken t offset left) e ++ take (less_if (is_taken t offset left) left) (drop (offset - header_length h) payload))
      ≡ take n (drop offset (first ∷ (cond t (e ∷ []) [] ++ payload))))

  part_is : (t : Bool) → eqb (extension_bit h) 1 ≡ t → (offset n : ℕ) → offset + n ≤ header_length h + length payload
      → Part t offset n (less_if (takes_header offset n) n)
  part_is true q zero zero b = rw (zero-sub (header_length h)) (omega arith, refl)
  part_is false q zero zero b = rw (zero-sub (header_length h)) (omega arith, refl)
  part_is true q zero (suc zero) b = rw (zero-sub (header_length h)) (omega arith, refl)
  part_is true q zero (suc (suc m)) b =
      let x : extension_bit h ≡ 1 = eqb-true (extension_bit h) 1 q in
      let one : suc (suc m) - 1 ≡ suc m = omega arith in
      let two : suc m - 1 ≡ m = omega arith in
      rw (zero-sub (header_length h), lt-ltb 0 (suc (suc m)) (omega arith), one, lt-ltb 0 (suc m) (omega arith), two) (omega arith, refl)
  part_is false q zero (suc m) b =
      let x : (extension_bit h ≡ 1 → ⊥) = eqb-false (extension_bit h) 1 q in
      let one : suc m - 1 ≡ m = omega arith in
      rw (zero-sub (header_length h), lt-ltb 0 (suc m) (omega arith), one) (omega arith, refl)
  part_is true q (suc zero) zero b =
      let z : 1 - header_length h ≡ 0 = omega arith in
      rw z (omega arith, refl)
  part_is true q (suc zero) (suc m) b =
      let x : extension_bit h ≡ 1 = eqb-true (extension_bit h) 1 q in
      let z : 1 - header_length h ≡ 0 = omega arith in
      let one : suc m - 1 ≡ m = omega arith in
      rw (z, lt-ltb 0 (suc m) (omega arith), one) (omega arith, refl)
  part_is false q (suc zero) n b =
      let x : (extension_bit h ≡ 1 → ⊥) = eqb-false (extension_bit h) 1 q in
      let z : 1 - header_length h ≡ 0 = omega arith in
      rw z (omega arith, refl)
  part_is true q (suc (suc k)) n b =
      let x : extension_bit h ≡ 1 = eqb-true (extension_bit h) 1 q in
      let z : suc (suc k) - header_length h ≡ k = omega arith in
      rw (ne_eqb (suc (suc k)) 0 (λ d. omega arith), lt-leb (suc (suc k)) 1 (omega arith), z) (omega arith, refl)
  part_is false q (suc (suc k)) n b =
      let x : (extension_bit h ≡ 1 → ⊥) = eqb-false (extension_bit h) 1 q in
      let z : suc (suc k) - header_length h ≡ suc k = omega arith in
      rw (ne_eqb (suc (suc k)) 0 (λ d. omega arith), lt-leb (suc (suc k)) 1 (omega arith), z) (omega arith, refl)

-- ---- an OBU that lies in the unit

module _ (unit : List ℕ) (o : Obu) (lies : Lies unit o) (offset : ℕ) where
  long : length (payload_of unit o) ≡ o.length
  long = payload_length unit o lies.within

  bit_cleared : without_size_bit (as_crate unit o) ≡ cleared o.header
  bit_cleared = clear_bit1 o.header lies.header

  offset_is : payload_offset (as_crate unit o) offset ≡ offset - header_length o.header
  unfolding payload_offset
  offset_is = rw (header_length_lem o.header) (split_on (ltb (header_length o.header) offset)
      (λ t. rw t)
      (λ t. rw t (omega (arith, ltb-false (header_length o.header) offset t))))

  -- any but the last: the rest of its OBU
  pub element_is : offset ≤ o.size → element_of (as_crate unit o) offset ≡ ok (put_length (o.size - offset) ++ drop offset (sent unit o))
  unfolding element_of
  element_is h =
      let skip : ℕ = offset - header_length o.header in
      let b : skip ≤ length (payload_of unit o) = omega (arith, long, lies.size) in
      rw (
        minus_is o.size offset h,
        offset_is,
        minus_is (length (payload_of unit o)) (offset - header_length o.header) b,
        slice_is (payload_of unit o) (offset - header_length o.header) (length (payload_of unit o) - (offset - header_length o.header)) (omega arith),
        part_from (payload_of unit o) (offset - header_length o.header) b,
        bit_cleared,
        has_extension o.header,
        from_offset o.header (cleared o.header) o.extension (payload_of unit o) (eqb (extension_bit o.header) 1) refl offset,
      )

  -- the last: so many bytes of it
  pub last_is : (n : ℕ) → offset + n ≤ o.size → last_element_of (as_crate unit o) offset n ≡ ok (take n (drop offset (sent unit o)))
  unfolding last_from
  last_is n h =
      let p = part_is o.header (cleared o.header) o.extension (payload_of unit o) (eqb (extension_bit o.header) 1) refl offset n (omega (arith, long, lies.size)) in
      rw (offset_is, bit_cleared, has_extension o.header, slice_is (payload_of unit o) (offset - header_length o.header) _ p.0, p.1)
