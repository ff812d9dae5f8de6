-- Laws of reading a size field: a step of it, the bounds of what is read, and what decides it. Assumes nothing.
use mathlib.Core.Path.{◌≡◌, refl, sym, ap, subst, ◌∙◌}
use Prim.Native.Nat.{ℕ, zero, suc, ◌+◌, ◌-◌, ◌*◌, ◌%◌, ◌≤◌, ◌<◌}
use native.Mathlib.Numerals.{add-one, sub-one}
use native.Mathlib.Omega.{arith}
use mathlib.Core.List.{List, [], ◌∷◌}
use mathlib.Core.Bool.{Bool, cond}
use lib.ListN.{length, get_or, take, drop}
use lib.Dec.{ltb, leb}
use borrow.Author.Tests.{lt-ltb, le-ltb, le-leb, lt-leb, leb-true}
use Rattle.base.proofs.Lists.{part_from}
use Rattle.base.proofs.Tests.{by_cond}
use Rattle.leb128.specs.Field.{Field, sized, unreadable, more, field_in, capped, size_field, longest_field, largest_value}
use Rattle.leb128.specs.Laws.{cap}

-- ---- a step, by the tests that the code makes

pub field_none : (n : ℕ) (l : List ℕ) → (n ≡ 0 → ⊥) → length l ≡ 0 → field_in n l ≡ unreadable 5
unfolding field_in
field_none zero l f e = absurd (f refl)
field_none (suc n) [] f e = refl
field_none (suc n) (b ∷ l) f e = absurd (omega arith)

pub field_last : (n : ℕ) (l : List ℕ) → (n ≡ 0 → ⊥) → (length l ≡ 0 → ⊥) → get_or l 0 0 < 128 → field_in n l ≡ sized (get_or l 0 0 % 128) 1
unfolding field_in
field_last zero l f e h = absurd (f refl)
field_last (suc n) [] f e h = absurd (e refl)
field_last (suc n) (b ∷ l) f e h = rw (lt-ltb b 128 h)

field_more : (n : ℕ) (l : List ℕ) → (n ≡ 0 → ⊥) → (length l ≡ 0 → ⊥) → 128 ≤ get_or l 0 0 → field_in n l ≡ more (get_or l 0 0) (field_in (n - 1) (drop 1 l))
unfolding field_in
field_more zero l f e h = absurd (f refl)
field_more (suc n) [] f e h = absurd (e refl)
field_more (suc n) (b ∷ l) f e h = rw (le-ltb b 128 h, sub-one)

-- a field of two bytes
pub field_two : (n : ℕ) (l : List ℕ) → 1 < length l → 128 ≤ get_or l 0 0 → get_or l 1 0 < 128 → field_in (suc (suc n)) l ≡ sized (get_or l 0 0 % 128 + 128 * get_or l 1 0) 2
unfolding field_in
field_two n [] h a b = absurd (omega arith)
field_two n (x ∷ []) h a b = absurd (omega arith)
field_two n (x ∷ y ∷ l) h a b =
    let e : y % 128 ≡ y = omega arith in
    rw (le-ltb x 128 a, lt-ltb y 128 b, e)

-- the call on the remaining bytes
pub field_after : (n : ℕ) (l : List ℕ) (f : Field) → (n ≡ 0 → ⊥) → (length l ≡ 0 → ⊥) → 128 ≤ get_or l 0 0
    → f ≡ field_in (n - 1) (take (length l - 1) (drop 1 l)) → more (get_or l 0 0) f ≡ field_in n l
field_after n l f h k b e =
    ap (more (get_or l 0 0)) (e ∙ ap (field_in (n - 1)) (part_from l 1 (omega arith))) ∙ sym (field_more n l h k b)

-- ---- the bounds of what is read

pub cap_pos : (n : ℕ) → 1 ≤ cap n
cap_pos zero = omega arith
cap_pos (suc n) = let h : 1 ≤ cap n = cap_pos n in omega arith

pub cap_le : (m n : ℕ) → m ≤ n → cap m ≤ cap n
cap_le zero n h = cap_pos n
cap_le (suc m) zero h = absurd (omega arith)
cap_le (suc m) (suc n) h = let ih : cap m ≤ cap n = cap_le m n (omega arith) in omega arith

-- of a value and a count: what n bytes at most, of m that are there, can give
abbrev pub Within : ℕ → ℕ → Field → Type 0
Within n m (sized v u) = (v < cap u) × (1 ≤ u) × (u ≤ n) × (u ≤ m)
Within n m (unreadable k) = Unit {0}

within_more : (n m b : ℕ) (f : Field) → Within n m f → Within (suc n) (suc m) (more b f)
within_more n m b (sized v u) h = rw (add-one u) (omega arith)
within_more n m b (unreadable k) h = tt

pub within : (n : ℕ) (l : List ℕ) → Within n (length l) (field_in n l)
unfolding field_in
within zero l = tt
within (suc n) [] = tt
within (suc n) (b ∷ l) =
    by_cond (Within (suc n) (suc (length l))) (ltb b 128) (sized (b % 128) 1) (more b (field_in n l))
    (λ t. omega arith)
    (λ t. within_more n (length l) b (field_in n l) (within n l))

-- the value of the rest, of seven bytes at most, is below 2 ^ 49
pub rest_small : (n : ℕ) (l : List ℕ) (v u : ℕ) → n ≤ longest_field → (n ≡ 0 → ⊥) → sized v u ≡ field_in (n - 1) l → (v < 562949953421312) × (u ≤ 7)
rest_small n l v u h f e =
    let w : Within (n - 1) (length l) (sized v u) = subst (Within (n - 1) (length l)) (sym e) (within (n - 1) l) in
    let k : cap u ≤ cap 7 = cap_le u 7 (omega arith) in
    omega arith

-- ---- the value is at most the largest, or is refused

pub capped_small : (l : List ℕ) (v u : ℕ) → sized v u ≡ field_in longest_field l → v ≤ largest_value → sized v u ≡ size_field l
capped_small l v u e h = sym (ap (λ (t : Bool). cond t (sized v u) (unreadable 6)) (le-leb v largest_value h)) ∙ ap capped e

pub capped_large : (l : List ℕ) (v u : ℕ) → sized v u ≡ field_in longest_field l → largest_value < v → unreadable 6 ≡ size_field l
capped_large l v u e h = sym (ap (λ (t : Bool). cond t (sized v u) (unreadable 6)) (lt-leb v largest_value h)) ∙ ap capped e

-- a field that is not refused is as it was before the test of its value
pub uncapped : (l : List ℕ) (v u : ℕ) → sized v u ≡ size_field l → sized v u ≡ field_in longest_field l
uncapped l v u e = go (field_in longest_field l) e
  where
    go : (f : Field) → sized v u ≡ capped f → sized v u ≡ f
    go (unreadable k) q = let z : ◌≡◌ {A = ℕ} 0 1 = cc in absurd (omega arith)
    go (sized w m) q =
        by_cond (λ (x : Field). sized v u ≡ x → sized v u ≡ sized w m) (leb w largest_value) (sized w m) (unreadable 6) (λ t e. e)
        (λ t e. let z : ◌≡◌ {A = ℕ} 0 1 = cc in absurd (omega arith)) q

-- ---- what a caller may take from a field that was read

abbrev pub Sized : List ℕ → Field → Type 0
Sized l (sized v u) = (v ≤ largest_value) × (v < cap u) × (1 ≤ u) × (u ≤ longest_field) × (u ≤ length l)
Sized l (unreadable k) = Unit {0}

sized_capped : (l : List ℕ) (f : Field) → Within longest_field (length l) f → Sized l (capped f)
sized_capped l (unreadable k) w = tt
sized_capped l (sized v u) w =
    by_cond (Sized l) (leb v largest_value) (sized v u) (unreadable 6)
    (λ t. let h : v ≤ largest_value = leb-true v largest_value t in omega arith)
    (λ t. tt)

pub size_within : (l : List ℕ) (v u : ℕ) → sized v u ≡ size_field l → Sized l (sized v u)
size_within l v u e = subst (Sized l) (sym e) (sized_capped l (field_in longest_field l) (within longest_field l))

-- ---- a field is decided by its first bytes

pub field_take : (n : ℕ) (l : List ℕ) → field_in n (take n l) ≡ field_in n l
unfolding field_in
field_take zero l = refl
field_take (suc n) [] = refl
field_take (suc n) (b ∷ l) = ap (λ (f : Field). cond (ltb b 128) (sized (b % 128) 1) (more b f)) (field_take n l)
