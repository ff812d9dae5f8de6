-- The head and a unit's length, case by case. Assumes nothing.
use Rattle.std.proofs.Common.{◌≡◌, ℕ, ◌<◌, ◌≤◌, cond, ◌||◌, ltb, List, [], ◌∷◌, length, slice_get, take, drop, sym, refl, ap, ◌∙◌, ap₂, arith, take-take, ltb-false, le-ltb, lt-ltb}
use Rattle.std.specs.Prelude.{Option, Some, None}
use Rattle.base.proofs.Lists.{take_drop, short_front}
use Rattle.base.proofs.Tests.{split_on, or_second}
use Rattle.base.specs.BigEndian.{value_of, value_at}
use Rattle.train.specs.Train.{number_width}
use Rattle.packing.specs.Pack.{version_width, mtu_width, other, version_with, version_in, Version, rest_width, found, none, head_after, unit_width, unit_store, over, stated, cut, length_in}
use Rattle.packing.specs.declared.input.InputVersion.{InputVersion}
use Rattle.packing.specs.declared.input.InputVersion.TheVariants as version

-- ---- the version byte

pub version_none : (l : List ℕ) → length l ≡ 0 → other ≡ version_in l
unfolding version_in
version_none [] h = refl
version_none (b ∷ l) h = absurd (omega arith)

-- by the first byte, if there is one
abbrev pub version_at : Option ℕ → Version
version_at None = other
version_at (Some b) = version_with b

pub version_first : (l : List ℕ) {o : Option ℕ} → o ≡ slice_get l 0 → version_at o ≡ version_in l
unfolding version_in
version_first [] e = ap version_at e
version_first (b ∷ l) e = ap version_at e

-- it is the first byte that tells
pub version_front : (l : List ℕ) → version_in (take version_width l) ≡ version_in l
unfolding version_in
version_front [] = refl
version_front (b ∷ l) = refl

-- ---- the rest of the head

pub mtu_within : (v : InputVersion) → mtu_width v ≤ 4
mtu_within version.Short = omega arith
mtu_within version.Long = omega arith

module _ (v : InputVersion) (l : List ℕ) where
  pub head_cut : length l < rest_width v → none ≡ head_after v l
  unfolding head_after
  head_cut h = rw (lt-ltb (length l) (rest_width v) h)

  pub head_found : (m f : ℕ) → rest_width v ≤ length l → m ≡ value_at l 0 (mtu_width v) → f ≡ value_at l (mtu_width v) number_width
      → found (record { mtu = m; first = f }) ≡ head_after v l
  unfolding head_after
  head_found m f h p q =
      rw (le-ltb (length l) (rest_width v) h) (ap₂ (λ (x y : ℕ). found (record { mtu = x; first = y })) p q)

  -- these bytes alone decide
  pub head_front : head_after v (take (rest_width v) l) ≡ head_after v l
  unfolding head_after
  head_front =
      rw (short_front (rest_width v) l)
      (ap₂ (λ (x y : List ℕ). cond (ltb (length l) (rest_width v)) none (found (record { mtu = value_of x; first = value_of y })))
      (take-take (mtu_width v) (rest_width v) l (omega arith))
      (ap (take number_width) (sym (take_drop number_width (mtu_width v) l)) ∙ take-take number_width number_width (drop (mtu_width v) l) (omega arith)))

-- ---- the length of a unit

pub length_none : (l : List ℕ) → length l ≡ 0 → over ≡ length_in l
unfolding length_in
length_none [] h = refl
length_none (b ∷ l) h = absurd (omega arith)

length_by : (l : List ℕ) → (length l ≡ 0 → ⊥)
    → length_in l ≡ cond (ltb (length l) unit_width || ltb unit_store (value_of (take unit_width l))) cut (stated (value_of (take unit_width l)))
unfolding length_in
length_by [] h = absurd (h refl)
length_by (b ∷ l) h = refl

module _ (l : List ℕ) where
  pub length_cut : (length l ≡ 0 → ⊥) → length l < unit_width → cut ≡ length_in l
  length_cut h s = sym (length_by l h ∙ rw (lt-ltb (length l) unit_width s))

  module _ (v : ℕ) (some : length l ≡ 0 → ⊥) (whole : unit_width ≤ length l) (is : v ≡ value_of (take unit_width l)) where
    pub length_over : unit_store < v → cut ≡ length_in l
    length_over h = sym (length_by l some ∙ rw (le-ltb (length l) unit_width whole, ← is, lt-ltb unit_store v h))

    pub length_stated : v ≤ unit_store → stated v ≡ length_in l
    length_stated h = sym (length_by l some ∙ rw (le-ltb (length l) unit_width whole, ← is, le-ltb unit_store v h))

-- what is stated is within the store
pub stated_within : (l : List ℕ) (n : ℕ) → stated n ≡ length_in l → n ≤ unit_store
unfolding length_in
stated_within [] n e = let z : ◌≡◌ {A = ℕ} 0 1 = cc in absurd (omega arith)
stated_within (b ∷ l) n e =
    let v = value_of (take unit_width (b ∷ l)) in
    split_on (ltb (length (b ∷ l)) unit_width || ltb unit_store v)
    (λ t.
    let f : stated n ≡ cut = rw t at e in
    let z : ◌≡◌ {A = ℕ} 0 1 = cc in
    absurd (omega arith))
    (λ t.
    let f : stated n ≡ stated v = rw t at e in
    let g : n ≡ v = cc in
    omega (arith, g, ltb-false unit_store v (or_second (ltb (length (b ∷ l)) unit_width) (ltb unit_store v) t)))
