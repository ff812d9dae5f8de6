-- The head of an input, by the tests that the code makes. Assumes nothing.
use mathlib.Core.Path.{◌≡◌, refl, ap}
use Prim.Native.Nat.{ℕ, ◌≤◌, ◌<◌}
use native.Mathlib.Omega.{arith}
use mathlib.Core.List.{List, [], ◌∷◌}
use mathlib.Core.Bool.{not, ◌||◌}
use lib.ListN.{length, get_or, take}
use lib.Dec.{ltb, eqb}
use borrow.Author.Tests.{lt-ltb, le-ltb, ltb-false, eq-eqb, ne_eqb}
use Rattle.base.proofs.Tests.{by_cond, or_second}
use Rattle.listing.specs.Input.{version, head_width, unit_store, Head, bad, states, mtu_in, length_in, is_bad, head_of}
use Rattle.listing.specs.declared.Stated.{Stated}

pub head_cut : (l : List ℕ) → length l < head_width → bad ≡ head_of l
unfolding head_of
head_cut l h = rw (lt-ltb (length l) head_width h)

module _ (l : List ℕ) (h : head_width ≤ length l) where
  pub head_other : (get_or l 0 0 ≡ version → ⊥) → bad ≡ head_of l
  unfolding head_of
  head_other e = rw (le-ltb (length l) head_width h, ne_eqb (get_or l 0 0) version e)

  module _ (e : get_or l 0 0 ≡ version) where
    pub head_long : unit_store < length_in l → bad ≡ head_of l
    unfolding head_of
    head_long k = rw (le-ltb (length l) head_width h, eq-eqb (get_or l 0 0) version e, lt-ltb unit_store (length_in l) k)

    pub head_good : length_in l ≤ unit_store → states (record { mtu = mtu_in l; length = length_in l }) ≡ head_of l
    unfolding head_of
    head_good k = rw (le-ltb (length l) head_width h, eq-eqb (get_or l 0 0) version e, le-ltb unit_store (length_in l) k)

-- a stated length fits the store
abbrev Fits : Stated → Head → Type 0
Fits s x = states s ≡ x → s.length ≤ unit_store

pub head_fits : (l : List ℕ) (s : Stated) → states s ≡ head_of l → s.length ≤ unit_store
unfolding head_of
head_fits l s =
    by_cond (Fits s) (is_bad l) _ _
    (λ t e. let z : ◌≡◌ {A = ℕ} 0 1 = cc in absurd (omega arith))
    (λ t e.
    let same : s ≡ record { mtu = mtu_in l; length = length_in l } = cc in
    let most : length_in l ≤ unit_store = ltb-false unit_store (length_in l) (or_second (ltb (length l) head_width || not (eqb (get_or l 0 0) version)) (ltb unit_store (length_in l)) t) in
    omega (arith, ap (λ (x : Stated). x.length) same))

-- the head is decided by its bytes
pub head_front : (l : List ℕ) → head_of (take head_width l) ≡ head_of l
unfolding head_of
head_front [] = refl
head_front (a ∷ []) = refl
head_front (a ∷ b ∷ []) = refl
head_front (a ∷ b ∷ c ∷ []) = refl
head_front (a ∷ b ∷ c ∷ d ∷ []) = refl
head_front (a ∷ b ∷ c ∷ d ∷ e ∷ []) = refl
head_front (a ∷ b ∷ c ∷ d ∷ e ∷ f ∷ []) = refl
head_front (a ∷ b ∷ c ∷ d ∷ e ∷ f ∷ g ∷ l) = rw (le-ltb (length (a ∷ b ∷ c ∷ d ∷ e ∷ f ∷ g ∷ l)) head_width (omega arith))
