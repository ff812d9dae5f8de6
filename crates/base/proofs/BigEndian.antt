-- Numbers as bytes, the highest first: their length, that they read back, and a turn of the loops that read and write them. Assumes nothing.
use mathlib.Core.Path.{◌≡◌, refl, sym, ap, ◌∙◌}
use Prim.Native.Nat.{ℕ, zero, suc, ◌+◌, ◌-◌, ◌*◌, ◌/◌, ◌%◌, ◌^◌, ◌≤◌, ◌<◌}
use native.Mathlib.Nat.{mul_assoc, mul-le-mul_left, mul-le-mul_right, pow-suc, pow-succ', one-le-pow}
use native.Mathlib.Numerals.{add-one}
use native.Mathlib.Omega.{arith}
use mathlib.Core.List.{List, [], ◌∷◌, ◌++◌}
use lib.ListN.{length, get_or, take, drop, set, length-append, length-drop, take-append-drop}
use lib.Seq.{take-suc, get_or-drop, set_comm, sets}
use Rattle.base.specs.Lists.{All}
use Rattle.base.specs.BigEndian.{big_endian, value_after, value_of, value_at, Reads}
use Rattle.base.proofs.Lists.{sets_append, all_right}

pub big_length : (n v : ℕ) → length (big_endian n v) ≡ n
unfolding big_endian
big_length zero v = refl
big_length (suc n) v = length-append (big_endian n (v / 256)) (v % 256 ∷ []) ∙ omega (arith, big_length n (v / 256))

value_last : (v : ℕ) (l : List ℕ) (b : ℕ) → value_after v (l ++ (b ∷ [])) ≡ value_after v l * 256 + b
unfolding value_after
value_last v [] b = refl
value_last v (a ∷ l) b = value_last (v * 256 + a) l b

-- what is written reads back
pub value_back : (n v : ℕ) → v < 256 ^ n → value_of (big_endian n v) ≡ v
unfolding big_endian value_after
value_back zero v h = omega arith
value_back (suc n) v h =
    let p : v < 256 ^ n * 256 = rw (pow-suc 256 n) at h in
    value_last 0 (big_endian n (v / 256)) (v % 256) ∙ omega (arith, value_back n (v / 256) (omega arith))

-- what bytes form is below the number that so many bytes have room for
after_below : (n : ℕ) (l : List ℕ) (v : ℕ) → All (λ b. b < 256) l → value_after v (take n l) < (v + 1) * 256 ^ n
unfolding value_after
after_below zero l v h = omega arith
after_below (suc n) [] v h =
    let p : (v + 1) * 1 ≤ (v + 1) * 256 ^ suc n = mul-le-mul_left (v + 1) (one-le-pow (suc n) 256 (omega arith)) in
    omega arith
after_below (suc n) (b ∷ l) v h =
    let p : (v * 256 + b + 1) * 256 ^ n ≤ (v + 1) * 256 * 256 ^ n = mul-le-mul_right (256 ^ n) (omega (arith, h.0)) in
    let q : (v + 1) * 256 * 256 ^ n ≡ (v + 1) * 256 ^ suc n = rw (pow-succ' 256 n) (mul_assoc (v + 1) 256 (256 ^ n)) in
    omega (arith, after_below n l (v * 256 + b) h.1)

pub value_below : (l : List ℕ) (at width : ℕ) → All (λ b. b < 256) l → value_at l at width < 256 ^ width
value_below l at width h =
    let rest : All (λ b. b < 256) (drop at l) = all_right (λ b. b < 256) (take at l) (drop at l) (rw (take-append-drop at l) h) in
    omega (arith, after_below width (drop at l) 0 rest)

-- ---- reading: the number of the first i bytes, and then of one more

pub reads_none : (l : List ℕ) (at : ℕ) → Reads l at 0 0
unfolding value_after
reads_none l at = record { is = refl; below = omega arith }

module _ {l : List ℕ} {at i v : ℕ} (r : Reads l at i v) where
  pub reads_more : get_or l (at + i) 0 < 256 → at + i < length l → Reads l at (i + 1) (v * 256 + get_or l (at + i) 0)
  reads_more byte h =
      let k : i < length (drop at l) = omega (arith, length-drop at l) in
      let p : 256 ^ (i + 1) ≡ 256 ^ i * 256 = rw (add-one i) (pow-suc 256 i) in
      record {
        is =
            ap (λ (x : ℕ). x * 256 + get_or l (at + i) 0) r.is
            ∙ sym (rw (add-one i, take-suc (drop at l) i 0 k, get_or-drop at l i 0) (value_last 0 (take i (drop at l)) (get_or l (at + i) 0)));
        below = omega (arith, r.below);
      }

-- ---- writing: the last byte, and then those before it

-- a store behind others
sets_set : (x l : List ℕ) (at i a : ℕ) → at + length x ≤ i → set (sets l at x) i a ≡ sets (set l i a) at x
sets_set [] l at i a h = refl
sets_set (b ∷ x) l at i a h =
    sets_set x (set l at b) (suc at) i a (omega arith) ∙ ap (λ (m : List ℕ). sets m (suc at) x) (set_comm l at i b a (λ e. omega arith))

big_last : (n v at : ℕ) (l : List ℕ) → sets l at (big_endian (suc n) v) ≡ sets (set l (at + n) (v % 256)) at (big_endian n (v / 256))
unfolding big_endian
big_last n v at l =
    let x : List ℕ = big_endian n (v / 256) in
    sets_append l at x (v % 256 ∷ [])
    ∙ ap (λ (k : ℕ). set (sets l at x) (at + k) (v % 256)) (big_length n (v / 256))
    ∙ sets_set x l at (at + n) (v % 256) (omega (arith, big_length n (v / 256)))

pub big_more : (n v at : ℕ) (l : List ℕ) → 0 < n → sets l at (big_endian n v) ≡ sets (set l (at + (n - 1)) (v % 256)) at (big_endian (n - 1) (v / 256))
big_more zero v at l h = absurd (omega arith)
big_more (suc n) v at l h =
    let e : n ≡ suc n - 1 = omega arith in
    big_last n v at l ∙ ap (λ (m : ℕ). sets (set l (at + m) (v % 256)) at (big_endian m (v / 256))) e

pub big_none : (v at : ℕ) (l : List ℕ) → sets l at (big_endian 0 v) ≡ l
unfolding big_endian
big_none v at l = refl
