-- R5 and R6 are given exactly when the rules say. Assumes nothing.
use mathlib.Core.Path.{◌≡◌, refl, sym, ap, subst, ◌∙◌}
use Prim.Native.Nat.{ℕ, zero, suc, ◌+◌, ◌*◌, ◌%◌, ◌≤◌, ◌<◌}
use native.Mathlib.Omega.{arith}
use mathlib.Core.List.{List, [], ◌∷◌}
use mathlib.Core.Logic.{◌⊎◌, ⊎_elim, inl, inr}
use lib.ListN.{length, take}
use lib.Seq.{take_all}
use lib.Dec.{ltb, leb}
use borrow.Author.Tests.{le-ltb, lt-leb, ltb-true, ltb-false, leb-true, leb-false}
use Rattle.base.proofs.Tests.{split_on}
use Rattle.leb128.specs.Field.{sized, unreadable, field_in, capped, size_field, longest_field, largest_value}
use Rattle.leb128.specs.Laws.{Unending}

-- the three ways in which the bytes of a field may end
data Ends (n : ℕ) (l : List ℕ) : Type 0 where
  cut : field_in n l ≡ unreadable 5 → length l < n → Unending l → Ends n l
  long : field_in n l ≡ unreadable 6 → n ≤ length l → Unending (take n l) → Ends n l
  whole : (v u : ℕ) → field_in n l ≡ sized v u → (Unending (take n l) → ⊥) → Ends n l

ends_more : (n b : ℕ) (l : List ℕ) → 128 ≤ b → Ends n l → Ends (suc n) (b ∷ l)
unfolding field_in
ends_more n b l h (cut e s u) = cut (rw (le-ltb b 128 h, e)) (omega arith) (h, u)
ends_more n b l h (long e s u) = long (rw (le-ltb b 128 h, e)) (omega arith) (h, u)
ends_more n b l h (whole v k e u) = whole (b % 128 + 128 * v) (k + 1) (rw (le-ltb b 128 h, e)) (λ t. u t.1)

ends : (n : ℕ) (l : List ℕ) → Ends n l
unfolding field_in
ends zero l = long refl (omega arith) tt
ends (suc n) [] = cut refl (omega arith) tt
ends (suc n) (b ∷ l) = split_on (ltb b 128)
    (λ t. let s : b < 128 = ltb-true b 128 t in whole (b % 128) 1 (rw t) (λ u. omega (arith, u.0)))
    (λ t. ends_more n b l (ltb-false b 128 t) (ends n l))

-- by what the value is, where the field ends
value_over : (l : List ℕ) (v u : ℕ) → field_in longest_field l ≡ sized v u → (size_field l ≡ sized v u × v ≤ largest_value) ⊎ (size_field l ≡ unreadable 6 × largest_value < v)
value_over l v u e = split_on (leb v largest_value)
    (λ t. inl (ap capped e ∙ rw t, leb-true v largest_value t))
    (λ t. inr (ap capped e ∙ rw t, leb-false v largest_value t))

-- R5: fewer than eight bytes, all with the top bit set
pub five_when : (l : List ℕ) → length l < longest_field → Unending l → size_field l ≡ unreadable 5
five_when l h u = go (ends longest_field l)
  where
    go : Ends longest_field l → size_field l ≡ unreadable 5
    go (cut e s t) = ap capped e
    go (long e s t) = absurd (omega arith)
    go (whole v k e t) = absurd (t (subst Unending (sym (take_all longest_field l (omega arith))) u))

pub five_only : (l : List ℕ) → size_field l ≡ unreadable 5 → (length l < longest_field) × Unending l
five_only l e = go (ends longest_field l)
  where
    go : Ends longest_field l → (length l < longest_field) × Unending l
    go (cut f s t) = (s, t)
    go (long f s t) = let g : size_field l ≡ unreadable 6 = ap capped f in let z : ◌≡◌ {A = ℕ} 5 6 = cc in absurd (omega arith)
    go (whole v k f t) = ⊎_elim
        (λ g. let i = g.0 in let z : ◌≡◌ {A = ℕ} 0 1 = cc in absurd (omega arith))
        (λ g. let i = g.0 in let z : ◌≡◌ {A = ℕ} 5 6 = cc in absurd (omega arith))
        (value_over l v k f)

-- R6: eight bytes with the top bit set, or a value over the largest
pub six_when : (l : List ℕ) → longest_field ≤ length l → Unending (take longest_field l) → size_field l ≡ unreadable 6
six_when l h u = go (ends longest_field l)
  where
    go : Ends longest_field l → size_field l ≡ unreadable 6
    go (cut e s t) = absurd (omega arith)
    go (long e s t) = ap capped e
    go (whole v k e t) = absurd (t u)

pub six_over : (l : List ℕ) (v u : ℕ) → field_in longest_field l ≡ sized v u → largest_value < v → size_field l ≡ unreadable 6
six_over l v u e h = ap capped e ∙ rw (lt-leb v largest_value h)

pub six_only : (l : List ℕ) → size_field l ≡ unreadable 6
    → ((longest_field ≤ length l) × Unending (take longest_field l)) ⊎ ((v : ℕ) × (u : ℕ) × (field_in longest_field l ≡ sized v u) × (largest_value < v))
six_only l e = go (ends longest_field l)
  where
    go : Ends longest_field l → ((longest_field ≤ length l) × Unending (take longest_field l)) ⊎ ((v : ℕ) × (u : ℕ) × (field_in longest_field l ≡ sized v u) × (largest_value < v))
    go (cut f s t) = let g : size_field l ≡ unreadable 5 = ap capped f in let z : ◌≡◌ {A = ℕ} 5 6 = cc in absurd (omega arith)
    go (long f s t) = inl (s, t)
    go (whole v k f t) = ⊎_elim
        (λ g. let i = g.0 in let z : ◌≡◌ {A = ℕ} 0 1 = cc in absurd (omega arith))
        (λ g. inr (v, k, f, g.1))
        (value_over l v k f)
