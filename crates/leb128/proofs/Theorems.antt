-- What holds of size fields, for values up to the largest. Assumes nothing.
--     read-back      what is encoded, followed by anything, reads as the value and its length
--     padded-read    so does a padded form of up to eight bytes
--     none-shorter   no field that reads as the value has fewer bytes than the encoded form
--     first-eight    a field is decided by its first eight bytes
--     size_is        the shortest form has n bytes exactly if the value is below 128 to the n and not below 128 to the n - 1
use mathlib.Core.Path.{◌≡◌, refl, sym, ap, ap₂, ◌∙◌}
use Prim.Native.Nat.{ℕ, zero, suc, ◌+◌, ◌-◌, ◌*◌, ◌/◌, ◌%◌, ◌≤◌, ◌<◌}
use native.Mathlib.Nat.{suc-add}
use native.Mathlib.Numerals.{sub-one}
use native.Mathlib.Omega.{arith}
use mathlib.Core.List.{List, [], ◌∷◌, ◌++◌}
use lib.ListN.{length, take}
use lib.Dec.{ltb}
use borrow.Author.Tests.{lt-ltb, le-ltb, le-leb, ltb-true, ltb-false}
use Rattle.base.proofs.Tests.{split_on}
use Rattle.leb128.specs.Field.{sized, field_in, capped, size_field, form, encode_in, encode, longest_field, largest_value}
use Rattle.leb128.specs.Laws.{cap}
use Rattle.leb128.proofs.Reading.{cap_le, Sized, size_within, field_take}
use Rattle.leb128.proofs.Writing.{cap_step, encode_more, encode_last}

-- ---- forms of any length

pub form_length : (n v : ℕ) → length (form n v) ≡ n + 1
unfolding form
form_length zero v = refl
form_length (suc n) v = omega (arith, form_length n (v / 128))

form_read : (n j v : ℕ) (l : List ℕ) → v < cap (suc n) → field_in (suc (n + j)) (form n v ++ l) ≡ sized v (n + 1)
unfolding field_in form
form_read zero j v l h =
    let e : v % 128 % 128 ≡ v = omega arith in
    rw (lt-ltb (v % 128) 128 (omega arith)) (ap (λ (x : ℕ). sized x 1) e)
form_read (suc n) j v l h =
    let e : (128 + v % 128) % 128 + 128 * (v / 128) ≡ v = omega arith in
    let f : n + 1 + 1 ≡ suc n + 1 = omega arith in
    rw (le-ltb (128 + v % 128) 128 (omega arith), suc-add n j, form_read n j (v / 128) l (omega arith)) (ap₂ sized e f)

pub padded_read : (n v : ℕ) (l : List ℕ) → n < longest_field → v < cap (suc n) → v ≤ largest_value → size_field (form n v ++ l) ≡ sized v (n + 1)
padded_read n v l p h k =
    let e : suc (n + (longest_field - suc n)) ≡ longest_field = omega arith in
    ap (λ (m : ℕ). capped (field_in m (form n v ++ l))) (sym e)
    ∙ ap capped (form_read n (longest_field - suc n) v l h)
    ∙ rw (le-leb v largest_value k)

-- ---- the shortest form is one of them, and no smaller one holds the value

pub record Shortest (k v : ℕ) : Type 0 where
  pub before : ℕ
  pub within : before < k
  pub fits : v < cap (suc before)
  pub least : (before ≡ 0 → ⊥) → cap before ≤ v
  pub is : encode_in k v ≡ form before v

shortest_in : (k v : ℕ) → v < cap k → 1 ≤ k → Shortest k v
unfolding form
shortest_in zero v h p = absurd (omega arith)
shortest_in (suc k) v h p = split_on (ltb v 128)
    (λ t.
    let s : v < 128 = ltb-true v 128 t in
    let e : v ≡ v % 128 = omega arith in
    record {
      before = 0;
      within = omega arith;
      fits = omega arith;
      least = λ z. absurd (z refl);
      is = encode_last (suc k) v (omega arith) s ∙ ap (λ (x : ℕ). x ∷ []) e;
    })
    (λ t.
    let s : 128 ≤ v = ltb-false v 128 t in
    let c : (v / 128 < cap (suc k - 1)) × (2 ≤ suc k) = cap_step (suc k) v h s in
    let r : Shortest k (v / 128) = shortest_in k (v / 128) (rw sub-one at c.0) (omega arith) in
    record {
      before = suc r.before;
      within = omega arith;
      fits = omega arith;
      least = λ z. least_more r.before v s r.least;
      is = encode_more (suc k) v (omega arith) s ∙ rw sub-one (ap (λ (l : List ℕ). (128 + v % 128) ∷ l) r.is);
    })
  where
    least_more : (n v : ℕ) → 128 ≤ v → ((n ≡ 0 → ⊥) → cap n ≤ v / 128) → cap (suc n) ≤ v
    least_more zero v s f = omega arith
    least_more (suc n) v s f = let g : cap (suc n) ≤ v / 128 = f (omega arith) in omega arith

pub shortest : (v : ℕ) → v ≤ largest_value → Shortest 5 v
shortest v h = shortest_in 5 v (omega arith) (omega arith)

pub encode_length : (v : ℕ) (s : Shortest 5 v) → length (encode v) ≡ s.before + 1
encode_length v s = ap length s.is ∙ form_length s.before v

pub read_back_lem : (v : ℕ) (l : List ℕ) → v ≤ largest_value → size_field (encode v ++ l) ≡ sized v (length (encode v))
read_back_lem v l h =
    let s : Shortest 5 v = shortest v h in
    ap (λ (x : List ℕ). size_field (x ++ l)) s.is
    ∙ padded_read s.before v l (omega arith) s.fits h
    ∙ ap (sized v) (sym (encode_length v s))

pub size_most : (n v : ℕ) → 1 ≤ n → v < cap n → v ≤ largest_value → length (encode v) ≤ n
size_most n v p c h =
    let s : Shortest 5 v = shortest v h in
    let m : length (encode v) ≡ s.before + 1 = encode_length v s in
    split_on
    (ltb s.before n)
    (λ t. let i : s.before < n = ltb-true s.before n t in omega arith)
    (λ t.
    let i : n ≤ s.before = ltb-false s.before n t in
    let b : cap s.before ≤ v = s.least (omega arith) in
    absurd (omega (arith, cap_le n s.before i)))

pub none_shorter : (v n : ℕ) (l : List ℕ) → sized v n ≡ size_field l → length (encode v) ≤ n
none_shorter v n l e = let w : Sized l (sized v n) = size_within l v n e in size_most n v (omega arith) w.1 (omega arith)

-- ---- how many bytes a value takes

pub size_is : (n v : ℕ) → v ≤ largest_value → ((n ≡ 0 → ⊥) → cap n ≤ v) → v < cap (suc n) → length (encode v) ≡ n + 1
size_is n v h b c =
    let s : Shortest 5 v = shortest v h in
    let m : length (encode v) ≡ s.before + 1 = encode_length v s in
    split_on (ltb s.before n)
    (λ t.
    let i : s.before < n = ltb-true s.before n t in
    let f : v < cap (suc s.before) = s.fits in
    let g : cap n ≤ v = b (omega arith) in
    absurd (omega (arith, cap_le (suc s.before) n i)))
    (λ t. split_on (ltb n s.before)
    (λ u.
    let i : n < s.before = ltb-true n s.before u in
    let g : cap s.before ≤ v = s.least (omega arith) in
    absurd (omega (arith, cap_le (suc n) s.before i)))
    (λ u. let i : n ≤ s.before = ltb-false s.before n t in let j : s.before ≤ n = ltb-false n s.before u in omega arith))

-- 1 byte below 128, 2 below 16,384, 3 below 2,097,152, 4 below 268,435,456, then 5
pub size_one : (v : ℕ) → v < 128 → length (encode v) ≡ 1
size_one v h = size_is 0 v (omega arith) (λ z. absurd (z refl)) h

pub size_two : (v : ℕ) → 128 ≤ v → v < 16384 → length (encode v) ≡ 2
size_two v g h = size_is 1 v (omega arith) (λ z. g) h

pub size_three : (v : ℕ) → 16384 ≤ v → v < 2097152 → length (encode v) ≡ 3
size_three v g h = size_is 2 v (omega arith) (λ z. g) h

pub size_four : (v : ℕ) → 2097152 ≤ v → v < 268435456 → length (encode v) ≡ 4
size_four v g h = size_is 3 v (omega arith) (λ z. g) h

pub size_five : (v : ℕ) → 268435456 ≤ v → v ≤ largest_value → length (encode v) ≡ 5
size_five v g h = size_is 4 v h (λ z. g) (omega arith)

-- ---- what decides a field

pub first_eight : (l : List ℕ) → size_field (take longest_field l) ≡ size_field l
first_eight l = ap capped (field_take longest_field l)
