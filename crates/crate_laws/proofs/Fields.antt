-- The crate's reading of a size field (D2, X5 to X7). Assumes nothing.
--     fields-same       where we read a field, it reads the same
--     low_read        of a value over 32 bits it keeps the low ones
--     unending-read   of a field that does not end it takes no byte, and makes it size 0
--     last-read      of a field of more than eight bytes only the last eight count
use mathlib.Core.Path.{◌≡◌, refl, sym, ap, ◌∙◌}
use Prim.Native.Nat.{ℕ, zero, suc, ◌+◌, ◌*◌, ◌/◌, ◌%◌, ◌≤◌, ◌<◌}
use native.Mathlib.Nat.{add-zero, mul-one, mul_left_comm, add-mul-mod_self_right}
use native.Mathlib.Numerals.{add-one}
use native.Mathlib.Omega.{arith}
use mathlib.Core.List.{List, [], ◌∷◌, ◌++◌}
use lib.ListN.{length}
use lib.Dec.{ltb, leb}
use lib.Bits.{bit_and, bit_or, and_high, and_mask, or_shifted}
use borrow.Author.Tests.{ltb-true, ltb-false, eq-eqb, ne_eqb, leb-true}
use Rattle.base.specs.Lists.{All}
use Rattle.base.proofs.Tests.{split_on}
use Rattle.leb128.specs.Field.{Field, sized, unreadable, more, field_in, capped, longest_field, largest_value}
use Rattle.leb128.specs.Laws.{cap}
use Rattle.leb128.proofs.Reading.{cap_le}
use Rattle.obu.specs.Laws.{Bytes}
use Rattle.crate_laws.specs.Rust.{as_u32, shl_u64}
use Rattle.crate_laws.specs.Leb128.{decode_turns, read_from}
use Rattle.crate_laws.specs.Same.{FieldsSame}
use Rattle.crate_laws.specs.Parted.{Going, UnendingRead, LowRead, LastRead}

-- ---- the bytes before, the last of them first: each has its top bit set

-- as `encoded` has them
packed : List ℕ → ℕ
packed [] = 0
packed (b ∷ before) = packed before * 256 + b

-- 256 to the n
abbrev pub bytes_cap : ℕ → ℕ
bytes_cap zero = 1
bytes_cap (suc n) = 256 * bytes_cap n

caps_le : (m n : ℕ) → m ≤ n → bytes_cap m ≤ bytes_cap n
caps_le zero zero h = omega arith
caps_le zero (suc n) h = omega (arith, caps_le zero n (omega arith))
caps_le (suc m) zero h = absurd (omega arith)
caps_le (suc m) (suc n) h = omega (arith, caps_le m n (omega arith))

packed_small : (before : List ℕ) → All Going before → packed before < bytes_cap (length before)
unfolding packed
packed_small [] a = omega arith
packed_small (b ∷ before) a = omega (arith, packed_small before a.1, a.0.1)

-- the value of a field that begins with these bytes, where the rest says v
abbrev behind : List ℕ → ℕ → ℕ
behind [] v = v
behind (b ∷ before) v = behind before (b % 128 + 128 * v)

-- ---- bits

low_seven : (v : ℕ) → bit_and v 127 ≡ v % 128
low_seven v = and_mask v 7

top_clear : (b : ℕ) → b < 128 → bit_and b 128 ≡ 0
top_clear b h = and_high b 1 7 ∙ omega arith

top_set : (b : ℕ) → 128 ≤ b → b < 256 → bit_and b 128 ≡ 128
top_set b h k = and_high b 1 7 ∙ omega arith

-- ---- decode_leb128

decode_is : (turns : ℕ) (before : List ℕ) (b v n : ℕ) → All Going before → b < 256 → v < cap n → n + length (b ∷ before) ≤ 8 → length before < turns
    → decode_turns turns (v * 128) (packed (b ∷ before)) ≡ as_u32 (behind (b ∷ before) v)
unfolding decode_turns packed
decode_is zero before b v n a s c l t = absurd (omega arith)
decode_is (suc turns) [] b v n a s c l t =
    let e : bit_or (v * 128) (bit_and (0 * 256 + b) 127) ≡ b % 128 + 128 * v =
    ap (bit_or (v * 128)) (low_seven (0 * 256 + b)) ∙ or_shifted v 7 ((0 * 256 + b) % 128) (omega arith) ∙ omega arith in
    rw (eq-eqb ((0 * 256 + b) / 256) 0 (omega arith), e)
decode_is (suc turns) (d ∷ before) b v n a s c l t =
    let rest : (packed (d ∷ before) * 256 + b) / 256 ≡ packed (d ∷ before) = omega arith in
    let e : bit_or (v * 128) (bit_and (packed (d ∷ before) * 256 + b) 127) ≡ b % 128 + 128 * v =
    ap (bit_or (v * 128)) (low_seven (packed (d ∷ before) * 256 + b)) ∙ or_shifted v 7 ((packed (d ∷ before) * 256 + b) % 128) (omega arith) ∙ omega arith in
    let f : shl_u64 (b % 128 + 128 * v) 7 ≡ (b % 128 + 128 * v) * 128 = omega (arith, cap_le (suc n) 7 (omega arith)) in
    rw (rest, ne_eqb (packed (d ∷ before)) 0 (λ z. omega (arith, a.0.0)), e, f)
    (decode_is turns before d (b % 128 + 128 * v) (suc n) a.1 a.0.1 (omega arith) (omega arith) (omega arith))

-- ---- read_leb128

-- no bytes of the field are lost: seven at most are shifted on
shift_packed : (before : List ℕ) → All Going before → length before ≤ 7 → shl_u64 (packed before) 8 ≡ packed before * 256
shift_packed before a l = omega (arith, packed_small before a, caps_le (length before) 7 l)

or_packed : (before : List ℕ) (b : ℕ) → b < 256 → bit_or (packed before * 256) b ≡ packed (b ∷ before)
unfolding packed
or_packed before b h = or_shifted (packed before) 8 b h

-- a field that goes on: what its rest says
more_back : (b : ℕ) (f : Field) (v n : ℕ) → more b f ≡ sized v n → (w : ℕ) × (m : ℕ) × (f ≡ sized w m) × (v ≡ b % 128 + 128 * w) × (n ≡ m + 1)
more_back b (sized w m) v n e = (w, m, refl, cc, cc)
more_back b (unreadable k) v n e = let z : ◌≡◌ {A = ℕ} 0 1 = cc in absurd (omega arith)

left_some : (left : ℕ) (l : List ℕ) (v n : ℕ) → field_in left l ≡ sized v n → 1 ≤ left
unfolding field_in
left_some zero l v n e = let z : ◌≡◌ {A = ℕ} 0 1 = cc in absurd (omega arith)
left_some (suc left) l v n e = omega arith

-- with these bytes before, and at most `left` to come
read_from_lem : (left : ℕ) (before l : List ℕ) (v n : ℕ) → field_in left l ≡ sized v n → All Going before → Bytes l → length before + left ≤ 8
    → read_from (length before) (packed before * 256) l ≡ (as_u32 (behind before v), length before + n)
unfolding field_in read_from
read_from_lem zero before l v n e a s h = let z : ◌≡◌ {A = ℕ} 0 1 = cc in absurd (omega arith)
read_from_lem (suc left) before [] v n e a s h = let z : ◌≡◌ {A = ℕ} 0 1 = cc in absurd (omega arith)
read_from_lem (suc left) before (b ∷ l) v n e a s h = split_on (ltb b 128)
    (λ t.
    let c : b < 128 = ltb-true b 128 t in
    let f : sized (b % 128) 1 ≡ sized v n = rw t at e in
    let g : v ≡ b % 128 = cc in
    let k : n ≡ 1 = cc in
    let m : b % 128 + 128 * 0 ≡ b % 128 = omega arith in
    rw (top_clear b c, or_packed before b (s 0), g, k)
    (ap (λ (x : ℕ). (x, length before + 1)) (decode_is 8 before b 0 0 a (s 0) (omega arith) (omega arith) (omega arith) ∙ ap (λ (x : ℕ). as_u32 (behind before x)) m)))
    (λ t.
    let c : 128 ≤ b = ltb-false b 128 t in
    let f = more_back b (field_in left l) v n (rw t at e) in
    let i = read_from_lem left (b ∷ before) l f.0 f.1 f.2 ((c, s 0), a) (λ j. s (suc j)) (omega arith) in
    let q : suc (length before) + f.1 ≡ length before + n = omega (arith, f.4) in
    rw (top_set b c (s 0), or_packed before b (s 0), shift_packed (b ∷ before) ((c, s 0), a) (omega (arith, left_some left l f.0 f.1 f.2)), f.3, add-one (length before), ← q) i)

capped_back : (f : Field) (v n : ℕ) → capped f ≡ sized v n → (f ≡ sized v n) × (v ≤ largest_value)
capped_back (unreadable k) v n e = let z : ◌≡◌ {A = ℕ} 0 1 = cc in absurd (omega arith)
capped_back (sized w m) v n e = split_on (leb w largest_value)
    (λ t.
    let f : sized w m ≡ sized v n = rw t at e in
    let g : w ≡ v = cc in
    (f, omega (arith, leb-true w largest_value t)))
    (λ t.
    let f : unreadable 6 ≡ sized v n = rw t at e in
    let z : ◌≡◌ {A = ℕ} 0 1 = cc in
    absurd (omega arith))

-- a field that ends within eight bytes: the low 32 bits of its value
pub low_read : LowRead
unfolding packed
low_read l v n s e =
    let h : 0 + n ≡ n = omega arith in
    read_from_lem longest_field [] l v n e tt s (omega arith) ∙ rw h

-- a field that we read
pub fields_same : FieldsSame
fields_same l v n s e =
    let f = capped_back (field_in longest_field l) v n e in
    let g : as_u32 v ≡ v = omega (arith, f.1) in
    low_read l v n s f.0 ∙ rw g

-- a field that does not end: size 0, and no byte taken
unending_from : (i encoded : ℕ) (l : List ℕ) → All Going l → read_from i encoded l ≡ (0, 0)
unfolding read_from
unending_from i encoded [] a = refl
unending_from i encoded (b ∷ l) a = rw (top_set b a.0.0 a.0.1) (unending_from (i + 1) (shl_u64 (bit_or encoded b) 8) l a.1)

pub unending_read : UnendingRead
unending_read l a = unending_from 0 0 l a

-- ---- a field of more than eight bytes: only the last eight count

-- 2 to the 64, and to the 56
abbrev u64 : ℕ
u64 = 18446744073709551616

abbrev u56 : ℕ
u56 = 72057594037927936

-- as `encoded` would have them after a number, had it room
over : ℕ → List ℕ → ℕ
over n [] = n
over n (b ∷ before) = over n before * 256 + b

-- a byte put in and shifted on
shift_on : (x b : ℕ) → b < 256 → shl_u64 (bit_or (x * 256 % u64) b) 8 ≡ (x * 256 + b) * 256 % u64
shift_on x b h =
    let e : x * 256 % u64 ≡ x % u56 * 256 = omega arith in
    let low : ℕ = (x % u56 * 256 + b) * 256 in
    let f : (x * 256 + b) * 256 ≡ low + x / u56 * 256 * u64 = omega arith in
    rw (e, or_shifted (x % u56) 8 b h, f) (sym (add-mul-mod_self_right low (x / u56 * 256) u64))

over_is : (n : ℕ) (before : List ℕ) → over n before ≡ n * bytes_cap (length before) + packed before
unfolding over packed
over_is n [] = omega (arith, mul-one n)
over_is n (b ∷ before) = omega (arith, over_is n before, mul_left_comm n 256 (bytes_cap (length before)))

-- after seven bytes nothing is left of what was before them
over_gone : (n : ℕ) (before : List ℕ) → All Going before → length before ≡ 7 → over n before * 256 % u64 ≡ packed before * 256
over_gone n before a l =
    let e : over n before ≡ n * bytes_cap 7 + packed before = over_is n before ∙ ap (λ (k : ℕ). n * bytes_cap k + packed before) l in
    let f : over n before * 256 ≡ packed before * 256 + n * u64 = omega arith in
    rw (f, add-mul-mod_self_right (packed before * 256) n u64)
    (omega (arith, packed_small before a, ap bytes_cap l))

read_over : (left n i : ℕ) (before l : List ℕ) (v : ℕ) → field_in left l ≡ sized v left → All Going before → Bytes l → length before + left ≡ 8
    → read_from i (over n before * 256 % u64) l ≡ (as_u32 (behind before v), i + left)
unfolding field_in read_from over
read_over zero n i before l v e a s h = let z : ◌≡◌ {A = ℕ} 0 1 = cc in absurd (omega arith)
read_over (suc left) n i before [] v e a s h = let z : ◌≡◌ {A = ℕ} 0 1 = cc in absurd (omega arith)
read_over (suc left) n i before (b ∷ l) v e a s h = split_on (ltb b 128)
    (λ t.
    let c : b < 128 = ltb-true b 128 t in
    let f : sized (b % 128) 1 ≡ sized v (suc left) = rw t at e in
    let g : v ≡ b % 128 = cc in
    let k : suc left ≡ 1 = cc in
    let m : b % 128 + 128 * 0 ≡ b % 128 = omega arith in
    rw (top_clear b c, over_gone n before a (omega arith), or_packed before b (s 0), g, k)
    (ap (λ (x : ℕ). (x, i + 1)) (decode_is 8 before b 0 0 a (s 0) (omega arith) (omega arith) (omega arith) ∙ ap (λ (x : ℕ). as_u32 (behind before x)) m)))
    (λ t.
    let c : 128 ≤ b = ltb-false b 128 t in
    let f = more_back b (field_in left l) v (suc left) (rw t at e) in
    let k : f.1 ≡ left = omega (arith, f.4) in
    let r = read_over left n (i + 1) (b ∷ before) l f.0 (f.2 ∙ ap (sized f.0) k) ((c, s 0), a) (λ j. s (suc j)) (omega arith) in
    let q : i + 1 + left ≡ i + suc left = omega arith in
    rw (top_set b c (s 0), shift_on (over n before) b (s 0), f.3, ← q) r)

-- the bytes before the last eight
read_past : (n i : ℕ) (a l : List ℕ) → All Going a
    → (m : ℕ) × (read_from i (n * 256 % u64) (a ++ l) ≡ read_from (i + length a) (m * 256 % u64) l)
unfolding read_from
read_past n i [] l g = (n, rw (add-zero i))
read_past n i (b ∷ a) l g =
    let (m, e) = read_past (n * 256 + b) (i + 1) a l g.1 in
    let q : i + 1 + length a ≡ i + suc (length a) = omega arith in
    (m, rw (top_set b g.0.0 g.0.1, shift_on n b g.0.1, ← q) e)

pub last_read : LastRead
unfolding over
last_read a l v g s e =
    let (m, r) = read_past 0 0 a l g in
    let q : 0 + length a ≡ length a = omega arith in
    rw q at (r ∙ read_over longest_field m (0 + length a) [] l v e tt s refl)
