-- Laws of lists that the library has not. Assumes nothing.
use mathlib.Core.Path.{◌≡◌, refl, sym, ap, ◌∙◌}
use Prim.Native.Nat.{ℕ, zero, suc, ◌+◌, ◌-◌, ◌*◌, ◌≤◌, ◌<◌, min}
use native.Mathlib.Nat.{zero-add, add-zero, suc-add, add-suc, zero-sub, sub-zero, suc-sub-suc, zero-mul, suc-mul}
use native.Mathlib.Numerals.{add-one}
use native.Mathlib.Omega.{arith}
use mathlib.Core.Bool.{Bool, true, false, cond}
use mathlib.Core.List.{List, [], ◌∷◌, ◌++◌, append-nil, append_assoc, map, flat_map}
use borrow.Rule.Slice.PartMut.{put_mid}
use lib.ListN.{length, get_or, take, drop, set, length-append, length-take, length-drop, drop_of_length-le}
use lib.Seq.{take-nil, take_all, take-suc, length-take-le, get_or-drop, take_at, drop-append-add, drop-drop, sets, sets-eq}
use lib.Dec.{ltb}
use borrow.Author.Tests.{ltb-true, ltb-false, lt-ltb, le-ltb}
use Rattle.base.specs.Lists.{replaced, front, keep, All, Prefix, Put}
use Rattle.base.proofs.Tests.{by_cond, split_on}

module _ {A : Type 0} where
  -- the part that a call is lent from `at` to the end
  pub part_from : (l : List A) (at : ℕ) → at ≤ length l → take (length l - at) (drop at l) ≡ drop at l
  part_from l at h = take_all (length l - at) (drop at l) (simp length-drop (omega arith))

  -- and from a place that may be past the end: none then
  pub part_min : (l : List A) (at m : ℕ) → m ≡ min at (length l) → take (length l - m) (drop m l) ≡ drop at l
  part_min l at m e = part_from l m (omega arith) ∙ split_on (ltb at (length l))
      (λ t. let k : m ≡ at = omega (arith, ltb-true at (length l) t) in rw k)
      (λ t. let h : length l ≤ at = ltb-false at (length l) t in let k : length l ≤ m = omega arith in
      drop_of_length-le l k ∙ sym (drop_of_length-le l h))

  pub take_drop : (m n : ℕ) (l : List A) → take m (drop n l) ≡ drop n (take (n + m) l)
  take_drop m zero l = rw (zero-add m)
  take_drop m (suc n) [] = rw (take-nil m, suc-add n m)
  take_drop m (suc n) (a ∷ l) = rw (suc-add n m) (take_drop m n l)

  -- fewer than n are there if fewer than n of the first n are
  pub short_front : (n : ℕ) (l : List A) → ltb (length (take n l)) n ≡ ltb (length l) n
  short_front n l = split_on (ltb (length l) n)
      (λ t. rw t (lt-ltb (length (take n l)) n (omega (arith, length-take n l, ltb-true (length l) n t))))
      (λ t. rw t (le-ltb (length (take n l)) n (omega (arith, length-take n l, ltb-false (length l) n t))))

  pub take_append : (n : ℕ) (l m : List A) → take n (l ++ m) ≡ take n l ++ take (n - length l) m
  take_append zero l m = rw (zero-sub (length l))
  take_append (suc n) [] m = rw (sub-zero (suc n))
  take_append (suc n) (a ∷ l) m = rw (suc-sub-suc n (length l)) (ap (λ (r : List A). a ∷ r) (take_append n l m))

  pub drop_append : (n : ℕ) (l m : List A) → drop n (l ++ m) ≡ drop n l ++ drop (n - length l) m
  drop_append zero l m = rw (zero-sub (length l))
  drop_append (suc n) [] m = rw (sub-zero (suc n))
  drop_append (suc n) (a ∷ l) m = rw (suc-sub-suc n (length l)) (drop_append n l m)

  pub length_snoc : (l : List A) (a : A) → length (l ++ (a ∷ [])) ≡ suc (length l)
  length_snoc l a = omega (arith, length-append l (a ∷ []))

  -- stores one after the other
  pub sets_append : (l : List A) (j : ℕ) (a b : List A) → sets l j (a ++ b) ≡ sets (sets l j a) (j + length a) b
  sets_append l j [] b = rw add-zero
  sets_append l j (x ∷ a) b =
      sets_append (set l j x) (suc j) a b
      ∙ ap (λ (k : ℕ). sets (sets (set l j x) (suc j) a) k b) (suc-add j (length a) ∙ sym (add-suc j (length a)))

  -- the k elements from `at` on written over in one step are stores of the new ones
  pub part_put : (l new vs : List A) (at k : ℕ) → new ≡ vs → k ≡ length vs → at + length vs ≤ length l → put_mid at k l new ≡ sets l at vs
  part_put l new vs at k e n h = rw (e, n, drop-drop (length vs) at l) (sym (append_assoc (take at l) vs (drop (at + length vs) l)) ∙ sym (sets-eq vs l at h))

  -- a turn of the loop that copies
  pub copy_more : (l s : List A) (at start i : ℕ) (d : A) → start + i < length s
      → set (sets l at (take i (drop start s))) (at + i) (get_or s (start + i) d) ≡ sets l at (take (i + 1) (drop start s))
  copy_more l s at start i d h =
      let k : i < length (drop start s) = omega (arith, length-drop start s) in
      let n : length (take i (drop start s)) ≡ i = length-take-le i (drop start s) (omega arith) in
      rw (add-one i, take-suc (drop start s) i d k, get_or-drop start s i d, sets_append l at (take i (drop start s)) (get_or s (start + i) d ∷ []), n)

  pub keep_yes : (test : A → Bool) (a : A) (l : List A) → test a ≡ true → keep test (a ∷ l) ≡ a ∷ keep test l
  unfolding keep
  keep_yes test a l e = rw e

  pub keep_no : (test : A → Bool) (a : A) (l : List A) → test a ≡ false → keep test (a ∷ l) ≡ keep test l
  unfolding keep
  keep_no test a l e = rw e

  pub keep_none : (test : A → Bool) → keep test [] ≡ []
  unfolding keep
  keep_none test = refl

  pub keep_append : (test : A → Bool) (l m : List A) → keep test (l ++ m) ≡ keep test l ++ keep test m
  unfolding keep
  keep_append test [] m = refl
  keep_append test (a ∷ l) m = go (test a) (keep_append test l m)
    where
      go : (t : Bool) → keep test (l ++ m) ≡ keep test l ++ keep test m
          → cond t (a ∷ keep test (l ++ m)) (keep test (l ++ m)) ≡ cond t (a ∷ keep test l) (keep test l) ++ keep test m
      go true ih = ap (λ (r : List A). a ∷ r) ih
      go false ih = ih

  -- more new elements, right after those that stand first already
  pub front_more : (a b l : List A) → replaced (front a l) (length a) b ≡ front (a ++ b) l
  front_more a b l =
      rw (take_at a (drop (length a) l) (length a) refl, drop-append-add a (drop (length a) l) (length b), drop-drop (length b) (length a) l, length-append a b)

  -- the same by stores, where the list has room for them
  pub front_sets : (a b l : List A) (at : ℕ) → length a ≡ at → at + length b ≤ length l → sets (front a l) at b ≡ front (a ++ b) l
  front_sets a b l at e h =
      let k : length (front a l) ≡ length l = length-append a (drop (length a) l) ∙ omega (arith, length-drop (length a) l) in
      sets-eq b (front a l) at (omega arith) ∙ ap (λ (n : ℕ). replaced (front a l) n b) (sym e) ∙ front_more a b l

  -- none are the first of any
  pub prefix_none : (l : List A) → Prefix [] l
  prefix_none l = record { rest = l; is = refl }

  -- ---- each of a list

  pub all_map : {P Q : A → Type 0} → ((a : A) → P a → Q a) → (l : List A) → All P l → All Q l
  all_map f [] h = tt
  all_map f (a ∷ l) h = (f a h.0, all_map f l h.1)

  -- from the element at every place
  pub all_at : (P : A → Type 0) (d : A) (l : List A) → ((i : ℕ) → P (get_or l i d)) → All P l
  all_at P d [] h = tt
  all_at P d (a ∷ l) h = (h 0, all_at P d l (λ i. h (suc i)))

  pub all_append : (P : A → Type 0) (l m : List A) → All P l → All P m → All P (l ++ m)
  all_append P [] m h i = i
  all_append P (a ∷ l) m h i = (h.0, all_append P l m h.1 i)

  pub all_snoc : (P : A → Type 0) (l : List A) (a : A) → All P l → P a → All P (l ++ (a ∷ []))
  all_snoc P l a h i = all_append P l (a ∷ []) h (i, tt)

  pub all_right : (P : A → Type 0) (l m : List A) → All P (l ++ m) → All P m
  all_right P [] m h = h
  all_right P (a ∷ l) m h = all_right P l m h.1

  pub all_left : (P : A → Type 0) (l m : List A) → All P (l ++ m) → All P l
  all_left P [] m h = tt
  all_left P (a ∷ l) m h = (h.0, all_left P l m h.1)

  pub all_both : (P Q : A → Type 0) (l : List A) → All P l → All Q l → All (λ a. P a × Q a) l
  all_both P Q [] h i = tt
  all_both P Q (a ∷ l) h i = ((h.0, i.0), all_both P Q l h.1 i.1)

  pub all_keep : (P : A → Type 0) (test : A → Bool) (l : List A) → All P l → All P (keep test l)
  unfolding keep
  all_keep P test [] h = tt
  all_keep P test (a ∷ l) h =
      by_cond (All P) (test a) (a ∷ keep test l) (keep test l) (λ t. (h.0, all_keep P test l h.1)) (λ t. all_keep P test l h.1)

module _ {A B : Type 0} (f : A → B) where
  pub map_append : (l m : List A) → map f (l ++ m) ≡ map f l ++ map f m
  map_append [] m = refl
  map_append (a ∷ l) m = ap (λ (r : List B). f a ∷ r) (map_append l m)

  pub all_of_map : (P : B → Type 0) (l : List A) → All (λ a. P (f a)) l → All P (map f l)
  all_of_map P [] h = tt
  all_of_map P (a ∷ l) h = (h.0, all_of_map P l h.1)

  pub map_all : (P : B → Type 0) (l : List A) → All P (map f l) → All (λ a. P (f a)) l
  map_all P [] h = tt
  map_all P (a ∷ l) h = (h.0, map_all P l h.1)

module _ {A B : Type 0} (f : A → List B) where
  pub flat_map_append : (l m : List A) → flat_map f (l ++ m) ≡ flat_map f l ++ flat_map f m
  unfolding flat_map
  flat_map_append [] m = refl
  flat_map_append (a ∷ l) m = ap (λ (r : List B). f a ++ r) (flat_map_append l m) ∙ sym (append_assoc (f a) (flat_map f l) (flat_map f m))

  pub flat_map_one : (a : A) → flat_map f (a ∷ []) ≡ f a
  unfolding flat_map
  flat_map_one a = append-nil (f a)

  -- where each gives as many
  pub flat_map_length : (n : ℕ) → ((a : A) → length (f a) ≡ n) → (l : List A) → length (flat_map f l) ≡ length l * n
  unfolding flat_map
  flat_map_length n each [] = rw (zero-mul n)
  flat_map_length n each (a ∷ l) = length-append (f a) (flat_map f l) ∙ rw (each a, flat_map_length n each l, suc-mul (length l) n) (omega arith)

-- ---- texts stored one after the other

pub put_then : {l l₁ l₂ : List ℕ} {at at₁ at₂ : ℕ} {a b : List ℕ} → Put l l₁ at at₁ a → Put l₁ l₂ at₁ at₂ b → Put l l₂ at at₂ (a ++ b)
put_then {l} {l₁} {l₂} {at} {at₁} {at₂} {a} {b} p q =
    record {
      cursor = omega (arith, p.cursor, q.cursor, length-append a b);
      stored = q.stored
          ∙ ap (λ (k : ℕ). sets l₁ k b) p.cursor
          ∙ ap (λ (m : List ℕ). sets m (at + length a) b) p.stored
          ∙ sym (sets_append l at a b);
    }

-- from the front on
pub put_front : {l l' : List ℕ} {end : ℕ} {a : List ℕ} → Put l l' 0 end a → end ≤ length l → (end ≡ length a) × (l' ≡ front a l)
put_front {l} {l'} {end} {a} p h =
    let e : end ≡ length a = omega (arith, p.cursor) in
    (e, p.stored ∙ sets-eq a l 0 (omega arith) ∙ rw (zero-add (length a)))
