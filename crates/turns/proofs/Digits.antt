-- The digits that the library writes are the decimal of the rules. Assumes nothing.
use Rattle.std.proofs.Common.{◌≡◌, ℕ, zero, suc, ◌+◌, ◌-◌, ◌/◌, ◌%◌, ◌^◌, ◌<◌, ◌≤◌, ltb, List, [], ◌∷◌, ◌++◌, length, ap, ◌∙◌, ap₂, div-lt_iff_lt-mul, pow-suc, le-div_iff_mul-le, arith, length-append, ltb-false, ltb-true, le-ltb, lt-ltb}
use native.Mathlib.Nat.{pow-zero, one-le-pow, pow-le-pow_right}
use Rattle.base.proofs.Tests.{split_on, by_cond}
use Rattle.io.specs.Digits.{hex_digit_ascii, last_digits, IsDigitCount}
use Rattle.turns.specs.Text.{most_digits, decimal_in, decimal}

glyph_is : (d : ℕ) → d < 10 → hex_digit_ascii d ≡ 48 + d
glyph_is d h = rw (lt-ltb d 10 h)

pub digits_are : (most r n : ℕ) → IsDigitCount 10 1 n r → r ≤ most → last_digits 10 r n ≡ decimal_in most n
unfolding decimal_in
digits_are zero r n f h = absurd (omega arith)
digits_are (suc most) zero n f h = absurd (omega arith)
digits_are (suc most) (suc zero) n f h =
    let few : n < 10 = omega (arith, f.1, pow-suc 10 0, pow-zero 10) in
    let same : n % 10 ≡ n = omega arith in
    rw (lt-ltb n 10 few) (ap (λ (g : ℕ). g ∷ []) (ap hex_digit_ascii same ∙ glyph_is n few))
digits_are (suc most) (suc (suc m)) n f h =
    let less : suc (suc m) - 1 ≡ suc m = omega arith in
    let least : 10 ^ suc m ≤ n = rw less at (f.2 (omega arith)) in
    let many : 10 ≤ n = omega (arith, pow-suc 10 m, one-le-pow m 10 (omega arith)) in
    let again : suc m - 1 ≡ m = omega arith in
    rw (le-ltb n 10 many)
    (ap₂ ◌++◌
    (digits_are most (suc m) (n / 10)
    (omega arith, (div-lt_iff_lt-mul {k = 10} (omega arith)).1 (rw pow-suc at f.1), (λ _. rw again ((le-div_iff_mul-le {k = 10} (omega arith)).1 (rw pow-suc at least))))
    (omega arith))
    (ap (λ (g : ℕ). g ∷ []) (glyph_is (n % 10) (omega arith))))

-- a number of 64 bits has no more digits than the rules allow for
pub digits_most : (n r : ℕ) → n < 2 ^ 64 → IsDigitCount 10 1 n r → r ≤ most_digits
digits_most n r h f = split_on (ltb most_digits r)
    (λ t.
    let more : most_digits < r = ltb-true most_digits r t in
    let least : 10 ^ (r - 1) ≤ n = f.2 (omega arith) in
    let grows : 10 ^ 20 ≤ 10 ^ (r - 1) = pow-le-pow_right {n = 10} (omega arith) {i = 20} {j = r - 1} (omega arith) in
    absurd (omega arith))
    (λ t. ltb-false most_digits r t)

decimal_in_lem : (most n : ℕ) → length (decimal_in most n) ≤ most
unfolding decimal_in
decimal_in_lem zero n = omega arith
decimal_in_lem (suc most) n =
    by_cond (λ (l : List ℕ). length l ≤ suc most) (ltb n 10) _ _
    (λ _. omega arith)
    (λ _. omega (arith, length-append (decimal_in most (n / 10)) ((48 + n % 10) ∷ []), decimal_in_lem most (n / 10)))

pub decimal_short : (n : ℕ) → length (decimal n) ≤ most_digits
decimal_short n = decimal_in_lem most_digits n
