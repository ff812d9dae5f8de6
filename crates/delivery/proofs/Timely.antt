-- That `timely`, `first_timely` and `Near` say what they should. Assumes nothing.
--     timely-iff        packet k is timely exactly if it comes at a place before which no later packet comes
--     advances-first    the first comings of timely packets are the arrivals further on than all before
--     furthest-timely   the furthest packet that came is timely: so it is the furthest one taken, of which D3 speaks
use mathlib.Core.Path.{◌≡◌, refl, sym, ap, ap₂, ◌∙◌}
use Prim.Native.Nat.{ℕ, suc, ◌≤◌, ◌<◌, max}
use native.Mathlib.Nat.{max_comm, max-eq_left, max-eq_right}
use native.Mathlib.Omega.{arith}
use mathlib.Core.List.{List, [], ◌∷◌, ◌++◌}
use mathlib.Core.Bool.{Bool, true, false, cond, not, ◌&&◌, ◌||◌, and-false, false≢true}
use mathlib.Core.Logic.{◌↔◌}
use lib.Dec.{ltb, eqb}
use borrow.Author.Tests.{ltb-true, ltb-false, lt-ltb, le-ltb, eqb-true, eq-eqb, ne_eqb}
use Rattle.base.specs.Lists.{All}
use Rattle.base.proofs.Tests.{by_cond, split_on}
use Rattle.delivery.specs.Arrivals.{timely, came, first_timely}
use Rattle.delivery.proofs.Follow.{timely_at}

-- ---- timely

pub record InTime (r : List ℕ) (k : ℕ) : Type 0 where
  pub before : List ℕ
  pub behind : List ℕ
  pub splits : r ≡ before ++ k ∷ behind
  pub none_later : All (λ a. a ≤ k) before

timely_sound : (r : List ℕ) (k : ℕ) → timely r k ≡ true → InTime r k
unfolding timely
timely_sound [] k e = absurd (false≢true e)
timely_sound (a ∷ r) k e = go (timely_sound r k) (ltb a k) refl e
  where
    go : (timely r k ≡ true → InTime r k) → (b : Bool) → ltb a k ≡ b → cond b (timely r k) (eqb a k) ≡ true → InTime (a ∷ r) k
    go ih true t i =
        let h : InTime r k = ih i in
        let l : a < k = ltb-true a k t in
        record { before = a ∷ h.before; behind = h.behind; splits = ap {B = List ℕ} (λ q. a ∷ q) h.splits; none_later = (omega arith, h.none_later) }
    go ih false t i = record { before = []; behind = r; splits = ap {B = List ℕ} (λ q. q ∷ r) (eqb-true a k i); none_later = tt }

timely_complete : (before : List ℕ) (k : ℕ) (behind : List ℕ) → All (λ a. a ≤ k) before → timely (before ++ k ∷ behind) k ≡ true
unfolding timely
timely_complete [] k behind h = timely_at k behind
timely_complete (a ∷ before) k behind h =
    by_cond (λ (b : Bool). b ≡ true) (ltb a k) (timely (before ++ k ∷ behind) k) (eqb a k)
    (λ t. timely_complete before k behind h.1)
    (λ t. eq-eqb a k (omega (arith, ltb-false a k t, h.0)))

pub timely_iff : (r : List ℕ) (k : ℕ) → (timely r k ≡ true) ↔ InTime r k
timely_iff r k = (timely_sound r k, λ h. rw h.splits (timely_complete h.before k h.behind h.none_later))

-- ---- first comings of timely packets

-- which arrivals are further on than all before, of which n is one more than the furthest
unfoldable pub advances : ℕ → List ℕ → List Bool
advances n [] = []
advances n (a ∷ r) = cond (ltb a n) (false ∷ advances n r) (true ∷ advances (suc a) r)

-- one more than the furthest of these arrivals, 0 for none
reach : List ℕ → ℕ
reach [] = 0
reach (a ∷ r) = max (suc a) (reach r)

first_coming : (before : List ℕ) (a : ℕ) (rest : List ℕ) → not (came before a) && timely (before ++ a ∷ rest) a ≡ not (ltb a (reach before))
unfolding came timely reach
first_coming [] a rest = timely_at a rest ∙ rw (le-ltb a 0 (omega arith))
first_coming (b ∷ before) a rest = go (first_coming before a rest) (ltb b a) refl
  where
    n : ℕ
    n = reach before

    same : b < a → ltb a n ≡ ltb a (max (suc b) n)
    same h = split_on (ltb a n)
        (λ t. let l : a < n = ltb-true a n t in t ∙ sym (lt-ltb a (max (suc b) n) (omega arith)))
        (λ t. let l : n ≤ a = ltb-false a n t in t ∙ sym (le-ltb a (max (suc b) n) (omega arith)))

    go : not (came before a) && timely (before ++ a ∷ rest) a ≡ not (ltb a n) → (t : Bool) → ltb b a ≡ t
        → not (eqb b a || came before a) && cond t (timely (before ++ a ∷ rest) a) (eqb b a) ≡ not (ltb a (max (suc b) n))
    go ih true t = let l : b < a = ltb-true b a t in rw (ne_eqb b a (λ e. omega arith)) (ih ∙ ap not (same l))
    go ih false t = let l : a ≤ b = ltb-false b a t in rw (lt-ltb a (max (suc b) n) (omega arith)) (none (eqb b a))
      where
        none : (e : Bool) → not (e || came before a) && e ≡ false
        none true = refl
        none false = and-false (not (came before a))

reach_snoc : (before : List ℕ) (a : ℕ) → reach (before ++ (a ∷ [])) ≡ max (reach before) (suc a)
unfolding reach
reach_snoc [] a = max_comm (suc a) 0
reach_snoc (b ∷ before) a = let e : reach (before ++ (a ∷ [])) ≡ max (reach before) (suc a) = reach_snoc before a in omega arith

advances_from : (r before : List ℕ) → advances (reach before) r ≡ first_timely before r
unfolding advances first_timely
advances_from [] before = refl
advances_from (a ∷ r) before =
    go (ltb a (reach before)) refl
    ∙ ap₂ (λ (b : Bool) (l : List Bool). b ∷ l) (sym (first_coming before a r))
    (ap (λ (n : ℕ). advances n r) (sym (reach_snoc before a)) ∙ advances_from r (before ++ (a ∷ [])))
  where
    go : (b : Bool) → ltb a (reach before) ≡ b → cond b (false ∷ advances (reach before) r) (true ∷ advances (suc a) r) ≡ not b ∷ advances (max (reach before) (suc a)) r
    go true t = rw (max-eq_left {n = reach before} {m = suc a} (ltb-true a (reach before) t))
    go false t = let h : reach before ≤ a = ltb-false a (reach before) t in rw (max-eq_right {n = reach before} {m = suc a} (omega arith))

pub advances_first : (r : List ℕ) → advances 0 r ≡ first_timely [] r
unfolding reach
advances_first r = advances_from r []

-- ---- the furthest packet that came

pub furthest : ℕ → List ℕ → ℕ
furthest m [] = m
furthest m (a ∷ r) = furthest (max m a) r

furthest_least : (m : ℕ) (r : List ℕ) → m ≤ furthest m r
unfolding furthest
furthest_least m [] = omega arith
furthest_least m (a ∷ r) = omega (arith, furthest_least (max m a) r)

furthest_later : (m : ℕ) (r : List ℕ) (k : ℕ) → furthest m r ≡ k → m < k → timely r k ≡ true
unfolding furthest timely
furthest_later m [] k e h = absurd (omega arith)
furthest_later m (a ∷ r) k e h =
    by_cond (λ (b : Bool). b ≡ true) (ltb a k) (timely r k) (eqb a k)
    (λ t. let l : a < k = ltb-true a k t in furthest_later (max m a) r k e (omega arith))
    (λ t. let l : k ≤ a = ltb-false a k t in eq-eqb a k (omega (arith, furthest_least (max m a) r)))

pub furthest_timely : (a : ℕ) (r : List ℕ) → timely (a ∷ r) (furthest a r) ≡ true
unfolding timely
furthest_timely a r =
    let k : ℕ = furthest a r in
    by_cond (λ (b : Bool). b ≡ true) (ltb a k) (timely r k) (eqb a k)
    (λ t. furthest_later a r k refl (ltb-true a k t))
    (λ t. let l : k ≤ a = ltb-false a k t in eq-eqb a k (omega (arith, furthest_least a r)))
