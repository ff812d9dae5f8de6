-- Numbers that stand first in a list, and what is given where lists were compared. Assumes nothing.
use mathlib.Core.Path.{◌≡◌, refl, ap}
use Prim.Native.Nat.{ℕ}
use native.Mathlib.Omega.{arith}
use mathlib.Core.Bool.{Bool, true, false, ◌&&◌, false≢true}
use mathlib.Core.List.{List, [], ◌∷◌, ◌++◌}
use lib.ListN.{length, take, drop}
use lib.Dec.{eqb}
use borrow.Author.Tests.{eqb-true, eq-eqb}
use Rattle.std.specs.List.{starts_with}
use Rattle.base.specs.Answers.{Answer, given, refused, if_same}
use Rattle.base.specs.Lists.{is_front}
use Rattle.base.proofs.Tests.{split_on}

-- none stand first in any list
pub is_front_none : (l : List ℕ) → is_front [] l ≡ true
unfolding is_front
is_front_none l = refl

-- as the library's method says it
pub starts_front : (l a : List ℕ) → starts_with eqb l a ≡ is_front a l
unfolding is_front
starts_front l [] = refl
starts_front [] (x ∷ a) = refl
starts_front (y ∷ l) (x ∷ a) = ap (λ (t : Bool). eqb x y && t) (starts_front l a)

pub is_front_append : (a b l : List ℕ) → is_front (a ++ b) l ≡ is_front a l && is_front b (drop (length a) l)
unfolding is_front
is_front_append [] b l = refl
is_front_append (x ∷ a) b [] = refl
is_front_append (x ∷ a) b (y ∷ l) = split_on (eqb x y) (λ t. rw t (is_front_append a b l)) (λ t. rw t)

-- they stand first exactly where the first of the list are these
pub is_front_take : (a l : List ℕ) → is_front a l ≡ true → take (length a) l ≡ a
unfolding is_front
is_front_take [] l h = refl
is_front_take (x ∷ a) [] h = absurd (false≢true h)
is_front_take (x ∷ a) (y ∷ l) h =
    split_on (eqb x y) (λ t. rw (eqb-true x y t, is_front_take a l (rw t at h))) (λ t. absurd (false≢true (rw t at h)))

pub take_is_front : (a l : List ℕ) → take (length a) l ≡ a → is_front a l ≡ true
unfolding is_front
take_is_front [] l h = refl
take_is_front (x ∷ a) [] h = absurd (omega (arith, ap length h))
take_is_front (x ∷ a) (y ∷ l) h =
    let e : x ≡ y = cc in
    let r : take (length a) l ≡ a = cc in
    rw (eq-eqb x y e, take_is_front a l r)

-- ---- what is given where lists were compared

pub given_same : {A : Type 0} {x : A} {same : Bool} {a : Answer A} → given x ≡ if_same same a → (given x ≡ a) × (same ≡ true)
given_same {A} {x} {same} {a} e = go same a e
  where
    go : (same : Bool) (a : Answer A) → given x ≡ if_same same a → (given x ≡ a) × (same ≡ true)
    go true (given y) e = (e, refl)
    go false (given y) e = let z : ◌≡◌ {A = ℕ} 0 1 = cc in absurd (omega arith)
    go same (refused n at) e = let z : ◌≡◌ {A = ℕ} 0 1 = cc in absurd (omega arith)

pub same_given : {A : Type 0} {x : A} {same : Bool} {a : Answer A} → given x ≡ a → same ≡ true → given x ≡ if_same same a
same_given e s = rw (s, ← e)
