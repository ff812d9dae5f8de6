-- Padded fields (F6). Assumes nothing.
--     only-shortest    a field of bytes that was read is not padded exactly if it is the shortest form
--     padded-is        and exactly if it has as many bytes as that
--     last-zero        a field of two bytes or more is padded exactly if its last byte is 0
--     read-says, unread-says    what an answer tells of the field
use mathlib.Core.Path.{◌≡◌, refl, sym, ap, ap₂, subst, ◌∙◌}
use Prim.Native.Nat.{ℕ, zero, suc, ◌+◌, ◌-◌, ◌*◌, ◌/◌, ◌%◌, ◌≤◌, ◌<◌}
use native.Mathlib.Numerals.{add-one, sub-one}
use native.Mathlib.Omega.{arith}
use mathlib.Core.List.{List, [], ◌∷◌}
use mathlib.Core.Bool.{Bool, true, false, cond, not}
use lib.ListN.{length, get_or, take}
use lib.Seq.{length-take-le}
use lib.Dec.{ltb, eqb}
use borrow.Author.Tests.{lt-ltb, le-ltb, ltb-true, ltb-false, eq-eqb, ne_eqb, eqb-true, eqb-false}
use Rattle.base.specs.Answers.{given, refused}
use Rattle.base.proofs.Tests.{split_on}
use Rattle.leb128.specs.Field.{Field, sized, unreadable, more, field_in, size_field, form, encode, is_padded, answer_by, longest_field}
use Rattle.leb128.specs.Laws.{Bytes, cap}
use Rattle.leb128.specs.declared.SizeField.{SizeField}
use Rattle.leb128.proofs.Reading.{cap_le, Within, within, Sized, size_within, uncapped}
use Rattle.leb128.proofs.Theorems.{Shortest, shortest, encode_length, size_most, none_shorter, size_one, size_two}

-- ---- the bytes of a field are a form of its value

-- a byte with the top bit set, and then the form of the rest
form_more : (b v n : ℕ) → 128 ≤ b → b < 256 → 1 ≤ n → b ∷ form (n - 1) v ≡ form n (b % 128 + 128 * v)
unfolding form
form_more b v zero h k p = absurd (omega arith)
form_more b v (suc n) h k p =
    let e : 128 + (b % 128 + 128 * v) % 128 ≡ b = omega arith in
    let f : (b % 128 + 128 * v) / 128 ≡ v = omega arith in
    rw (sub-one, e, f)

field_form : (k : ℕ) (l : List ℕ) (v n : ℕ) → Bytes l → sized v n ≡ field_in k l → take n l ≡ form (n - 1) v
unfolding field_in form
field_form zero l v n h e = let z : ◌≡◌ {A = ℕ} 0 1 = cc in absurd (omega arith)
field_form (suc k) [] v n h e = let z : ◌≡◌ {A = ℕ} 0 1 = cc in absurd (omega arith)
field_form (suc k) (b ∷ l) v n h e = by_top (λ w m q. field_form k l w m (λ i. h (suc i)) q) (ltb b 128) refl e
  where
    by_rest : ((w m : ℕ) → sized w m ≡ field_in k l → take m l ≡ form (m - 1) w)
        → 128 ≤ b → (f : Field) → f ≡ field_in k l → sized v n ≡ more b f → take n (b ∷ l) ≡ form (n - 1) v
    by_rest again t (unreadable i) q e = let z : ◌≡◌ {A = ℕ} 0 1 = cc in absurd (omega arith)
    by_rest again t (sized w m) q e =
        let p : v ≡ b % 128 + 128 * w = cc in
        let r : n ≡ m + 1 = cc in
        let i : Within k (length l) (sized w m) = subst (Within k (length l)) (sym q) (within k l) in
        rw (p, r, add-one m, sub-one) (ap (λ (x : List ℕ). b ∷ x) (again w m q) ∙ form_more b w m t (h 0) i.1)

    by_top : ((w m : ℕ) → sized w m ≡ field_in k l → take m l ≡ form (m - 1) w)
        → (t : Bool) → ltb b 128 ≡ t → sized v n ≡ cond t (sized (b % 128) 1) (more b (field_in k l)) → take n (b ∷ l) ≡ form (n - 1) v
    by_top again true t e =
        let p : v ≡ b % 128 = cc in
        let r : n ≡ 1 = cc in
        let s : b < 128 = ltb-true b 128 t in
        let q : b ≡ b % 128 % 128 = omega arith in
        rw (p, r) (ap (λ (x : ℕ). x ∷ []) q)
    by_top again false t e = by_rest again (ltb-false b 128 t) (field_in k l) refl e

-- ---- the shortest form is the only one that is not padded

module _ (l : List ℕ) (v n : ℕ) (read : sized v n ≡ size_field l) where
  shortest_used : is_padded v n ≡ false → n ≡ length (encode v)
  shortest_used h = omega (arith, ltb-false (length (encode v)) n h, none_shorter v n l read)

  pub padded_is : is_padded v n ≡ not (eqb n (length (encode v)))
  padded_is = split_on (is_padded v n)
      (λ t. let h : length (encode v) < n = ltb-true (length (encode v)) n t in t ∙ rw (ne_eqb n (length (encode v)) (λ e. omega arith)))
      (λ t. t ∙ rw (eq-eqb n (length (encode v)) (shortest_used t)))

  pub only_shortest : Bytes l → is_padded v n ≡ false → take n l ≡ encode v
  only_shortest b h =
      let s : Shortest 5 v = shortest v (size_within l v n read).0 in
      let e : n - 1 ≡ s.before = omega (arith, shortest_used h, encode_length v s) in
      field_form longest_field l v n b (uncapped l v n read) ∙ rw e (sym s.is)

  pub shortest_not : take n l ≡ encode v → is_padded v n ≡ false
  shortest_not e =
      let w : Sized l (sized v n) = size_within l v n read in
      le-ltb (length (encode v)) n (omega (arith, ap length e, length-take-le n l w.4))

-- ---- the last byte of a field, after m others: it is 0 exactly if the value fits m bytes

abbrev Last : ℕ → ℕ → ℕ → Type 0
Last c v m = (c ≡ 0 → v < cap m) × ((c ≡ 0 → ⊥) → cap m ≤ v)

field_ends : (k : ℕ) (l : List ℕ) (v m : ℕ) → sized v (suc m) ≡ field_in k l → Last (get_or l m 0) v m
unfolding field_in
field_ends zero l v m e = let z : ◌≡◌ {A = ℕ} 0 1 = cc in absurd (omega arith)
field_ends (suc k) [] v m e = let z : ◌≡◌ {A = ℕ} 0 1 = cc in absurd (omega arith)
field_ends (suc k) (b ∷ l) v m e = by_top (λ w i q. field_ends k l w i q) (ltb b 128) refl e
  where
    by_count : (w n i : ℕ) → ((w i : ℕ) → sized w (suc i) ≡ field_in k l → Last (get_or l i 0) w i) → sized w n ≡ field_in k l → 1 ≤ n → i ≡ n
        → Last (get_or (b ∷ l) i 0) (b % 128 + 128 * w) i
    by_count w n zero again q p r = absurd (omega arith)
    by_count w n (suc i) again q p r =
        let h = again w i (ap (sized w) r ∙ q) in
        (λ z. let f : w < cap i = h.0 z in omega arith, λ z. let f : cap i ≤ w = h.1 z in omega arith)

    by_rest : ((w i : ℕ) → sized w (suc i) ≡ field_in k l → Last (get_or l i 0) w i) → (f : Field) → f ≡ field_in k l → sized v (suc m) ≡ more b f → Last (get_or (b ∷ l) m 0) v m
    by_rest again (unreadable i) q e = let z : ◌≡◌ {A = ℕ} 0 1 = cc in absurd (omega arith)
    by_rest again (sized w n) q e =
        let p : v ≡ b % 128 + 128 * w = cc in
        let r : suc m ≡ n + 1 = cc in
        let i : Within k (length l) (sized w n) = subst (Within k (length l)) (sym q) (within k l) in
        rw p (by_count w n m again q i.1 (omega arith))

    by_top : ((w i : ℕ) → sized w (suc i) ≡ field_in k l → Last (get_or l i 0) w i)
        → (t : Bool) → ltb b 128 ≡ t → sized v (suc m) ≡ cond t (sized (b % 128) 1) (more b (field_in k l)) → Last (get_or (b ∷ l) m 0) v m
    by_top again true t e =
        let p : v ≡ b % 128 = cc in
        let r : suc m ≡ 1 = cc in
        let q : m ≡ 0 = omega arith in
        let s : b < 128 = ltb-true b 128 t in
        rw (p, q) (λ z. omega arith, λ z. omega arith)
    by_top again false t e = by_rest again (field_in k l) refl e

-- of a field of two bytes or more
pub last_zero : (l : List ℕ) (v n : ℕ) → sized v n ≡ size_field l → 2 ≤ n → is_padded v n ≡ eqb (get_or l (n - 1) 0) 0
last_zero l v n e h =
    let w : Sized l (sized v n) = size_within l v n e in
    let s : Shortest 5 v = shortest v w.0 in
    let m : suc (n - 1) ≡ n = omega arith in
    let b : Last (get_or l (n - 1) 0) v (n - 1) = field_ends longest_field l v (n - 1) (ap (sized v) m ∙ uncapped l v n e) in
    split_on (eqb (get_or l (n - 1) 0) 0)
    (λ t.
    let f : v < cap (n - 1) = b.0 (eqb-true (get_or l (n - 1) 0) 0 t) in
    rw t (lt-ltb (length (encode v)) n (omega (arith, size_most (n - 1) v (omega arith) f w.0))))
    (λ t.
    let f : cap (n - 1) ≤ v = b.1 (eqb-false (get_or l (n - 1) 0) 0 t) in
    rw t (le-ltb (length (encode v)) n (omega (arith, encode_length v s, not_shorter s.before (n - 1) v s.fits f))))
  where
    not_shorter : (i m v : ℕ) → v < cap (suc i) → cap m ≤ v → m ≤ i
    not_shorter i m v f g = split_on (ltb i m)
        (λ t. let h : i < m = ltb-true i m t in absurd (omega (arith, cap_le (suc i) m h)))
        (λ t. ltb-false i m t)

-- a field of two bytes is the shortest form exactly if the second is not 0
pub two_shortest : (x y : ℕ) → y < 128 → ltb 0 y ≡ not (is_padded (x % 128 + 128 * y) 2)
two_shortest x y h = split_on (ltb 0 y)
    (λ t. let p : 0 < y = ltb-true 0 y t in t ∙ rw (size_two (x % 128 + 128 * y) (omega arith) (omega arith)))
    (λ t. let p : y ≤ 0 = ltb-false 0 y t in t ∙ rw (size_one (x % 128 + 128 * y) (omega arith)))

-- ---- what an answer tells of the field

pub read_says : (f : Field) {s : SizeField} → given s ≡ answer_by f → sized s.value s.used ≡ f
read_says (sized v n) {s} e =
    let p : s.value ≡ v = cc in
    let q : s.used ≡ n = cc in
    ap₂ sized p q
read_says (unreadable k) e = let z : ◌≡◌ {A = ℕ} 0 1 = cc in absurd (omega arith)

pub unread_says : (f : Field) {n at : ℕ} → refused n at ≡ answer_by f → unreadable n ≡ f
unread_says (sized v m) e = let z : ◌≡◌ {A = ℕ} 0 1 = cc in absurd (omega arith)
unread_says (unreadable k) {n} e = let p : n ≡ k = cc in ap unreadable p
