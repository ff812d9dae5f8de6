-- The header byte over its four parts: masks together, as a sum, by its bits. Assumes nothing.
use mathlib.Core.Path.{◌≡◌, sym, ap, ◌∙◌}
use Prim.Native.Nat.{ℕ, ◌+◌, ◌*◌, ◌/◌, ◌%◌, ◌≤◌, ◌<◌, ◌^◌}
use native.Mathlib.Nat.{div-add-mod'}
use native.Mathlib.Omega.{arith}
use mathlib.Core.Bool.{Bool, true, false, cond}
use lib.Bits.{bit_or, or_shifted}

-- a flag, by its weight
weighs : (t : Bool) (n : ℕ) → (cond t n 0 ≡ n * cond t 1 0) × (cond t 1 0 ≤ 1)
weighs true n = (omega arith, omega arith)
weighs false n = (omega arith, omega arith)

-- a has no bit below k, and b none from k on
or_apart : (k a b : ℕ) → a % 2 ^ k ≡ 0 → b < 2 ^ k → bit_or a b ≡ a + b
or_apart k a b e h =
    let s : a ≡ a / 2 ^ k * 2 ^ k = omega (arith, div-add-mod' a (2 ^ k)) in
    ap (λ (x : ℕ). bit_or x b) s ∙ or_shifted (a / 2 ^ k) k b h ∙ ap (λ (x : ℕ). x + b) (sym s)

module _ (z y n : Bool) (w : ℕ) (few : w ≤ 3) where
  abbrev sum : ℕ
  sum = cond z 128 0 + cond y 64 0 + 16 * w + cond n 8 0

  pub or_sum : bit_or (bit_or (bit_or (cond z 128 0) (cond y 64 0)) (16 * w)) (cond n 8 0) ≡ sum
  or_sum =
      rw (
        or_apart 7 (cond z 128 0) (cond y 64 0) (omega (arith, weighs z 128, weighs y 64)) (omega (arith, weighs z 128, weighs y 64)),
        or_apart 6 (cond z 128 0 + cond y 64 0) (16 * w) (omega (arith, weighs z 128, weighs y 64)) (omega arith),
        or_apart 4 (cond z 128 0 + cond y 64 0 + 16 * w) (cond n 8 0) (omega (arith, weighs z 128, weighs y 64)) (omega (arith, weighs n 8)),
      )

  pub below_256 : sum < 256
  below_256 = omega (arith, weighs z 128, weighs y 64, weighs n 8)

  pub bit_z : sum / 128 % 2 ≡ cond z 1 0
  bit_z = omega (arith, weighs z 128, weighs y 64, weighs n 8)

  pub bit_y : sum / 64 % 2 ≡ cond y 1 0
  bit_y = omega (arith, weighs z 128, weighs y 64, weighs n 8)

  pub bits_w : sum / 16 % 4 ≡ w
  bits_w = omega (arith, weighs z 128, weighs y 64, weighs n 8)

  pub bit_n : sum / 8 % 2 ≡ cond n 1 0
  bit_n = omega (arith, weighs z 128, weighs y 64, weighs n 8)

  pub low_clear : sum % 8 ≡ 0
  low_clear = omega (arith, weighs z 128, weighs y 64, weighs n 8)
