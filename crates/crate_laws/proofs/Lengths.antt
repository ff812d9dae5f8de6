-- The crate's writer of lengths and ours: equal below 128, and never from there to the unit limit (X4); and its count of a
-- length's bytes, which is ours. Assumes nothing.
use mathlib.Core.Path.{◌≡◌, refl, ap, ap₂, ◌∙◌}
use Prim.Native.Nat.{ℕ, zero, suc, ◌+◌, ◌*◌, ◌/◌, ◌%◌, ◌≤◌, ◌<◌}
use native.Mathlib.Omega.{arith}
use mathlib.Core.Bool.{cond}
use lib.ListN.{length}
use lib.Dec.{ltb, eqb}
use lib.Bits.{bit_and, bit_or, and_mask, or_zero_r, or_shifted, or_shifted_r, or_block}
use borrow.Author.Tests.{lt-ltb, ltb-true, ltb-false, le-leb, lt-leb, eq-eqb, ne_eqb}
use Rattle.base.proofs.Tests.{split_on}
use Rattle.leb128.specs.Field.{encode_in, encode}
use Rattle.leb128.specs.Laws.{cap}
use Rattle.leb128.proofs.Theorems.{size_two, size_three, size_four}
use Rattle.obu.specs.Unit.{unit_limit}
use Rattle.crate_laws.specs.Rust.{as_u8, as_u32}
use Rattle.crate_laws.specs.Leb128.{encode_turns, encode_leb128, size_turns, leb128_size, put_turns, put_leb128}
use Rattle.crate_laws.specs.Parted.{ShortLengths, LongLengths, NeverSame, ThreeHundred}

-- ---- the bits that are set are clear before: sums

-- b <<= 8
abbrev shifted : ℕ → ℕ
shifted b = b * 256 % 4294967296

sum_turns : ℕ → ℕ → ℕ → ℕ
sum_turns zero b val = b
sum_turns (suc turns) b val =
    cond (eqb (val / 128) 0) (b + val % 128) (sum_turns turns (shifted (b + val % 128 + 128)) (val / 128))

-- seven bits behind a byte of zeros, and the bit above them
or_low : (b v : ℕ) → b % 256 ≡ 0 → bit_or b (bit_and v 127) ≡ b + v % 128
or_low b v e =
    let s : b ≡ b / 256 * 256 = omega arith in
    ap₂ bit_or s (and_mask v 7) ∙ or_shifted (b / 256) 8 (v % 128) (omega arith) ∙ omega arith

or_top : (b r : ℕ) → b % 256 ≡ 0 → r < 128 → bit_or (b + r) 128 ≡ b + r + 128
or_top b r e h =
    let s : b + r ≡ b / 256 * 256 + r = omega arith in
    let t : 128 ≡ 0 * 256 + 128 = refl in
    ap₂ bit_or s t ∙ or_block 8 (b / 256) 0 r 128 (omega arith) (omega arith)
    ∙ ap₂ (λ (x y : ℕ). x * 256 + y) (or_zero_r (b / 256)) (or_shifted_r 1 7 r (omega arith)) ∙ omega arith

sum_is : (turns b val : ℕ) → b % 256 ≡ 0 → encode_turns turns b val ≡ sum_turns turns b val
unfolding encode_turns sum_turns
sum_is zero b val e = refl
sum_is (suc turns) b val e =
    rw (or_low b val e, or_top b (val % 128) e (omega arith), sum_is turns (shifted (b + val % 128 + 128)) (val / 128) (omega arith))

encode_is : (val : ℕ) → encode_leb128 val ≡ sum_turns 5 0 val
encode_is val = sum_is 5 0 val (omega arith)

-- 0b1000_0000 | (encoded & 0b0111_1111) as u8
top_byte : (e : ℕ) → bit_or 128 (as_u8 (bit_and e 127)) ≡ 128 + e % 128
top_byte e =
    let s : e % 128 % 256 ≡ e % 128 = omega arith in
    ap (λ (x : ℕ). bit_or 128 (as_u8 x)) (and_mask e 7) ∙ ap (bit_or 128) s ∙ or_shifted 1 7 (e % 128) (omega arith)

-- put_leb128's loop writes the shortest form of what encode_leb128 gave
put_encodes : (k e : ℕ) → put_turns k e ≡ encode_in k e
unfolding put_turns encode_in
put_encodes zero e = refl
put_encodes (suc k) e =
    split_on (ltb e 128)
    (λ t.
    let l : e < 128 = ltb-true e 128 t in
    let small : as_u8 e ≡ e = omega arith in
    rw (lt-leb 128 e l, t, small))
    (λ t. rw (le-leb 128 e (ltb-false e 128 t), t, top_byte e, put_encodes k (e / 128)))

pub field_is : (v : ℕ) → put_leb128 v ≡ encode (encode_leb128 v)
field_is v = put_encodes 5 (encode_leb128 v)

-- ---- what encode_leb128 gives: the bytes of the shortest form, the first of them highest

packed_one : (v : ℕ) → v < 128 → encode_leb128 v ≡ v
unfolding sum_turns
packed_one v h = encode_is v ∙ rw (eq-eqb (v / 128) 0 (omega arith)) (omega arith)

-- nothing is lost of a number of 24 bits
shifted_small : (b : ℕ) → b < 16777216 → shifted b ≡ b * 256
shifted_small b h = omega arith

packed_two : (v : ℕ) → 128 ≤ v → v < 16384 → encode_leb128 v ≡ (128 + v % 128) * 256 + v / 128
unfolding sum_turns
packed_two v h l =
    encode_is v
    ∙ rw (ne_eqb (v / 128) 0 (λ e. omega arith), eq-eqb (v / 128 / 128) 0 (omega arith)) (omega arith)

packed_three : (v : ℕ) → 16384 ≤ v → v < 2097152 → encode_leb128 v ≡ ((128 + v % 128) * 256 + (128 + v / 128 % 128)) * 256 + v / 128 / 128
unfolding sum_turns
packed_three v h l =
    let one : shifted (0 + v % 128 + 128) ≡ (128 + v % 128) * 256 = shifted_small (0 + v % 128 + 128) (omega arith) ∙ omega arith in
    let two : shifted (shifted (0 + v % 128 + 128) + v / 128 % 128 + 128) ≡ ((128 + v % 128) * 256 + (128 + v / 128 % 128)) * 256 =
    ap (λ (x : ℕ). shifted (x + v / 128 % 128 + 128)) one ∙ shifted_small ((128 + v % 128) * 256 + v / 128 % 128 + 128) (omega arith) ∙ omega arith in
    encode_is v
    ∙ rw (ne_eqb (v / 128) 0 (λ e. omega arith), ne_eqb (v / 128 / 128) 0 (λ e. omega arith), eq-eqb (v / 128 / 128 / 128) 0 (omega arith))
    (ap (λ (x : ℕ). x + v / 128 / 128 % 128) two ∙ omega arith)

-- ---- the two writers

-- the same byte below 128
same_below : (v : ℕ) → v < 128 → put_leb128 v ≡ encode v
same_below v h = field_is v ∙ ap encode (packed_one v h)

-- from 128 to the unit limit the crate's field is one byte longer
one_longer : (v : ℕ) → 128 ≤ v → v ≤ unit_limit → length (put_leb128 v) ≡ length (encode v) + 1
one_longer v h l =
    split_on (ltb v 16384)
    (λ t.
    let s : v < 16384 = ltb-true v 16384 t in
    let e = packed_two v h s in
    let n = size_three (encode_leb128 v) (omega (arith, e)) (omega (arith, e)) in
    omega (arith, ap length (field_is v), n, size_two v h s))
    (λ t.
    let s : 16384 ≤ v = ltb-false v 16384 t in
    let e = packed_three v s (omega arith) in
    let n = size_four (encode_leb128 v) (omega (arith, e)) (omega (arith, e)) in
    omega (arith, ap length (field_is v), n, size_three v s (omega arith)))

-- a length is cast to 32 bits first
pub short_lengths : ShortLengths
short_lengths n h =
    let e : as_u32 n ≡ n = omega arith in
    ap put_leb128 e ∙ same_below n h

pub long_lengths : LongLengths
long_lengths n h l =
    let e : as_u32 n ≡ n = omega arith in
    ap (λ (m : ℕ). length (put_leb128 m)) e ∙ one_longer n h l

-- so the two never agree there
pub never_same : NeverSame
never_same n h l e = omega (arith, long_lengths n h l, ap length e)

-- 300, computed
pub three_hundred : ThreeHundred
unfolding encode_in encode_turns put_turns
three_hundred = (refl, refl)

-- ---- leb128_size: how many bytes the shortest form has

size_from : (k size v : ℕ) → v < cap (suc k) → size_turns (suc k) size v ≡ size + length (encode_in (suc k) v)
unfolding size_turns encode_in
size_from zero size v h = rw (lt-leb 128 v (omega arith), lt-ltb v 128 (omega arith))
size_from (suc k) size v h = split_on (ltb v 128)
    (λ t. rw (lt-leb 128 v (ltb-true v 128 t), t))
    (λ t. rw (le-leb 128 v (ltb-false v 128 t), t) (size_from k (size + 1) (v / 128) (omega arith) ∙ omega arith))

pub size_is : (v : ℕ) → v < 4294967296 → leb128_size v ≡ length (encode v)
size_is v h = size_from 4 0 v (omega arith) ∙ omega arith
