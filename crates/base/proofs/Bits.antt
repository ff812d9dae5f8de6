-- Bits of a number: as masks and shifts give them, and in plain arithmetic. Assumes nothing.
use mathlib.Core.Path.{◌≡◌, ap, ap₂, ◌∙◌}
use Prim.Native.Nat.{ℕ, zero, suc, ◌+◌, ◌-◌, ◌*◌, ◌/◌, ◌%◌, ◌^◌, ◌≤◌, ◌<◌}
use native.Mathlib.Nat.{zero-mul, one-mul}
use native.Mathlib.Omega.{arith}
use mathlib.Core.Bool.{not}
use lib.Dec.{eqb}
use lib.Pow.{shr-shr, pow_pos}
use lib.Bits.{bit_and, bit_or, and_high, and_mask, or_add_and, and_block}
use borrow.Author.Tests.{ne_eqb}

bit_set : (x m : ℕ) → x < 2 → 1 ≤ m → not (eqb (x * m) 0) ≡ eqb x 1
bit_set zero m h p = rw zero-mul
bit_set (suc zero) m h p = rw (one-mul m, ne_eqb m 0 (omega arith))
bit_set (suc (suc x)) m h p = absurd (omega arith)

-- the test of bit k by a mask
pub bit_test : (k h : ℕ) → not (eqb (bit_and h (2 ^ (1 + k) - 2 ^ k)) 0) ≡ eqb (h / 2 ^ k % 2) 1
bit_test k h =
    ap (λ (x : ℕ). not (eqb x 0)) (and_high h 1 k) ∙ bit_set (h / 2 ^ k % 2) (2 ^ k) (omega arith) (pow_pos k)

-- bit 1 set, and bit 1 cleared
pub set_bit1 : (h : ℕ) → bit_or h 2 ≡ h + 2 - h / 2 % 2 * 2
set_bit1 h = let e : bit_and h 2 ≡ h / 2 % 2 * 2 = and_high h 1 1 in omega (arith, or_add_and h 2)

pub clear_bit1 : (h : ℕ) → h < 256 → bit_and h 253 ≡ h - h / 2 % 2 * 2
clear_bit1 h b =
    let e : h ≡ h / 4 * 4 + h % 4 = omega arith in
    let q : h / 2 / 2 ≡ h / 4 = shr-shr h 1 1 in
    let r : h / 4 % 64 ≡ h / 4 = omega arith in
    let m : h % 4 ≡ h / 2 % 2 * 2 + h % 2 = omega arith in
    let d : h % 4 % 2 ≡ h % 2 = omega arith in
    let f : (h / 4 % 64) * 4 + h % 4 % 2 ≡ h - h / 2 % 2 * 2 = omega arith in
    ap (λ (x : ℕ). bit_and x 253) e
    ∙ and_block 2 (h / 4) 63 (h % 4) 1 (omega arith) (omega arith)
    ∙ ap₂ (λ (x y : ℕ). x * 4 + y) (and_mask (h / 4) 6) (and_mask (h % 4) 1)
    ∙ f
