-- The OBU at the front of some bytes, by the tests that the code makes, and what it spans. Assumes nothing.
use mathlib.Core.Path.{◌≡◌, refl, sym, ap, ◌∙◌}
use Prim.Native.Nat.{ℕ, suc, ◌+◌, ◌-◌, ◌≤◌, ◌<◌, min}
use native.Mathlib.Omega.{arith}
use mathlib.Core.List.{List, [], ◌∷◌, ◌++◌}
use mathlib.Core.Bool.{Bool, true, false, cond}
use mathlib.Core.Logic.{inl, inr}
use lib.ListN.{length, get_or, take, drop, replicate, length-append, length-replicate}
use lib.Seq.{take-take, take-append-le, get_or-take}
use lib.Dec.{leb, eqb}
use borrow.Author.Tests.{eq-eqb, ne_eqb, le-leb, lt-leb, eqb-true, eqb-false, leb-true, leb-false}
use Rattle.base.proofs.Lists.{take_drop}
use Rattle.base.proofs.Tests.{by_cond, split_on}
use Rattle.base.proofs.Streams.{Some}
use Rattle.leb128.specs.Field.{Field, sized, unreadable, size_field, longest_field}
use Rattle.leb128.proofs.Reading.{Sized, size_within}
use Rattle.leb128.proofs.Theorems.{none_shorter, first_eight}
use Rattle.obu.specs.Header.{extension_bit, size_bit, header_length}
use Rattle.obu.specs.Front.{head_bytes, Seen, found, stopped, sized_by, headed, extended, front_of}
use Rattle.obu.specs.Unit.{obu_by, obu_next}
use Rattle.obu.specs.Laws.{Spans}

-- ---- what is read lies in the first ten bytes

pub same_first : (a b : List ℕ) → take head_bytes a ≡ take head_bytes b → (i : ℕ) → i < head_bytes → get_or a i 0 ≡ get_or b i 0
same_first a b e i h = sym (get_or-take head_bytes a i 0 h) ∙ ap (λ (l : List ℕ). get_or l i 0) e ∙ get_or-take head_bytes b i 0 h

field_in_lem : (a : List ℕ) (n : ℕ) → n ≤ 2 → size_field (drop n a) ≡ size_field (drop n (take (n + longest_field) (take head_bytes a)))
field_in_lem a n h =
    sym (first_eight (drop n a))
    ∙ ap size_field (take_drop longest_field n a ∙ ap (drop n) (sym (take-take (n + longest_field) head_bytes a (omega arith))))

pub same_field : (a b : List ℕ) → take head_bytes a ≡ take head_bytes b → (n : ℕ) → n ≤ 2 → size_field (drop n a) ≡ size_field (drop n b)
same_field a b e n h =
    field_in_lem a n h ∙ ap (λ (l : List ℕ). size_field (drop n (take (n + longest_field) l))) e ∙ sym (field_in_lem b n h)

-- some bytes of that many, of which these are the first
pub some_all : (l : List ℕ) (n : ℕ) → min head_bytes n ≤ length l → length l ≤ n
    → (all : List ℕ) × (take head_bytes all ≡ take head_bytes l) × (length all ≡ n)
some_all l n h k = split_on (leb head_bytes (length l))
    (λ t. (l ++ replicate (n - length l) 0, take-append-le head_bytes l _ (leb-true head_bytes (length l) t), long))
    (λ t. let m : length l < head_bytes = leb-false head_bytes (length l) t in (l, refl, omega arith))
  where
    long : length (l ++ replicate (n - length l) 0) ≡ n
    long = simp (length-append, length-replicate) (omega arith)

-- ---- by the tests that the code makes

pub front_3 : (l : List ℕ) → 1 ≤ length l → length l < header_length (get_or l 0 0) → front_of l ≡ stopped 3
unfolding front_of
front_3 [] h k = refl
front_3 (b ∷ []) h k = rw (eq-eqb (extension_bit b) 1 (omega arith))
front_3 (b ∷ e ∷ l) h k = absurd (omega arith)

-- the extension byte, or 0
abbrev pub extension_of : List ℕ → ℕ → ℕ
extension_of l h = cond (eqb (extension_bit h) 1) (get_or l 1 0) 0

front_by_lem : (l : List ℕ) (h : ℕ) (t : Bool) → eqb (extension_bit h) 1 ≡ t → header_length h ≤ suc (length l)
    → cond t (extended h l) (headed h 0 l) ≡ headed h (cond t (get_or (h ∷ l) 1 0) 0) (drop (header_length h) (h ∷ l))
front_by_lem [] h true e k = let x : extension_bit h ≡ 1 = eqb-true (extension_bit h) 1 e in absurd (omega arith)
front_by_lem (b ∷ l) h true e k = let x : header_length h ≡ 2 = ap (λ (n : ℕ). 1 + n) (eqb-true (extension_bit h) 1 e) in rw x
front_by_lem l h false e k =
    let n : (extension_bit h ≡ 1 → ⊥) = eqb-false (extension_bit h) 1 e in
    let x : header_length h ≡ 1 = omega arith in
    rw x

pub front_headed : (l : List ℕ) (h e n : ℕ) → h ≡ get_or l 0 0 → n ≡ header_length h → n ≤ length l → e ≡ extension_of l h
    → front_of l ≡ headed h e (drop n l)
unfolding front_of
front_headed [] h e n a b c d = absurd (omega arith)
front_headed (x ∷ l) h e n a b c d =
    rw (d, b, a) (front_by_lem l x (eqb (extension_bit x) 1) refl (omega (arith, a, b, c)))

-- with `left` bytes after the header
module _ (all : List ℕ) (h e n left : ℕ) (front : front_of all ≡ headed h e (drop n all)) (rest : length (drop n all) ≡ left) where
  pub front_4 : eqb (size_bit h) 1 ≡ true → left ≡ 0 → stopped 4 ≡ front_of all
  unfolding headed
  front_4 s z = rw (front, s, eq-eqb (length (drop n all)) 0 (rest ∙ z))

  pub front_rest : eqb (size_bit h) 1 ≡ false → found (record { header = h; extension = e; field = 0; payload = left }) ≡ front_of all
  unfolding headed
  front_rest s = rw (front, s, rest)

  front_sized : eqb (size_bit h) 1 ≡ true → (left ≡ 0 → ⊥) → (f : Field) → f ≡ size_field (drop n all) → sized_by h e left f ≡ front_of all
  unfolding headed
  front_sized s z f p = rw (front, s, rest, ne_eqb left 0 z, p)

  pub front_in : eqb (size_bit h) 1 ≡ true → (left ≡ 0 → ⊥) → (v k : ℕ) → sized v k ≡ size_field (drop n all) → v ≤ left - k
      → found (record { header = h; extension = e; field = k; payload = v }) ≡ front_of all
  front_in s z v k p i = rw (le-leb v (left - k) i) at (front_sized s z (sized v k) p)

  pub front_past : eqb (size_bit h) 1 ≡ true → (left ≡ 0 → ⊥) → (v k : ℕ) → sized v k ≡ size_field (drop n all) → left - k < v
      → stopped 7 ≡ front_of all
  front_past s z v k p i = rw (lt-leb v (left - k) i) at (front_sized s z (sized v k) p)

  pub front_bad : eqb (size_bit h) 1 ≡ true → (left ≡ 0 → ⊥) → (m : ℕ) → unreadable m ≡ size_field (drop n all) → stopped m ≡ front_of all
  front_bad s z m p = front_sized s z (unreadable m) p

-- ---- what an OBU that was found spans: no more than there is; and its size field is no shorter than the shortest, or it is the last

spans_sized : (h e : ℕ) (l rest : List ℕ) (f : Field) → f ≡ size_field rest → header_length h + length rest ≡ length l → Spans l (sized_by h e (length rest) f)
spans_sized h e l rest (unreadable k) p q = tt
spans_sized h e l rest (sized v k) p q =
    by_cond (Spans l) (leb v (length rest - k)) (found (record { header = h; extension = e; field = k; payload = v })) (stopped 7)
    (λ t.
    let g : v ≤ length rest - k = leb-true v (length rest - k) t in
    let w : Sized rest (sized v k) = size_within rest v k p in
    (omega arith, inl (none_shorter v k rest p)))
    (λ t. tt)

spans_headed : (h e : ℕ) (l rest : List ℕ) → header_length h + length rest ≡ length l → Spans l (headed h e rest)
unfolding headed
spans_headed h e l rest q =
    by_cond (Spans l) (eqb (size_bit h) 1) _ _
    (λ s. by_cond (Spans l) (eqb (length rest) 0) _ _ (λ t. tt) (λ t. spans_sized h e l rest (size_field rest) refl q))
    (λ s. (omega arith, inr (omega arith)))

pub front_spans : (l : List ℕ) → Spans l (front_of l)
unfolding front_of
front_spans [] = tt
front_spans (h ∷ l) =
    by_cond (Spans (h ∷ l)) (eqb (extension_bit h) 1) (extended h l) (headed h 0 l)
    (λ t. with_extension l (eqb-true (extension_bit h) 1 t))
    (λ t. let n : (extension_bit h ≡ 1 → ⊥) = eqb-false (extension_bit h) 1 t in spans_headed h 0 (h ∷ l) l (omega arith))
  where
    with_extension : (m : List ℕ) → extension_bit h ≡ 1 → Spans (h ∷ m) (extended h m)
    with_extension [] x = tt
    with_extension (e ∷ m) x = spans_headed h e (h ∷ (e ∷ m)) m (omega arith)

-- an item of a scan has a byte
pub obu_some : (at : ℕ) (l : List ℕ) → Some (obu_next at l)
obu_some at l = go (front_of l)
  where
    go : (x : Seen) → Some (obu_by at x)
    go (found f) = omega arith
    go (stopped n) = tt
