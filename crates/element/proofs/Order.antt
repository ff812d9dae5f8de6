-- What holds of all elements of a payload together. Assumes nothing.
--     in_order       each lies behind the one before and within the payload, and has a byte
--     count-w        with W 1 to 3 there are W of them
--     count-end      with W 0 there is at least one
--     there, beyond, none    element k lies in the payload and has a byte, if there is one; else it is the empty part at the start
use mathlib.Core.Path.{◌≡◌, refl, sym, ap, subst, ◌∙◌}
use Prim.Native.Nat.{ℕ, zero, suc, ◌+◌, ◌-◌, ◌≤◌, ◌<◌}
use native.Mathlib.Omega.{arith}
use mathlib.Core.List.{List, [], ◌∷◌}
use mathlib.Core.Bool.{Bool, true, false, cond, not, ◌&&◌}
use lib.ListN.{length, get_or, drop, length-drop, get_or-eq_default}
use lib.Dec.{eqb, ltb}
use borrow.Author.Tests.{eqb-false, ltb-true, ltb-false, eq-eqb, ne_eqb}
use Rattle.base.specs.Answers.{Answer, given, refused}
use Rattle.base.specs.Streams.{Stream, chained, whole}
use Rattle.base.proofs.Tests.{by_cond, split_on}
use Rattle.base.proofs.Streams.{After, stream_each}
use Rattle.element.specs.Header.{z_bit, w_of, n_bit}
use Rattle.element.specs.Elements.{element_at, first, followed, element_by, element_next, read_from, until_end, exactly, counting, elements_of, payload_elements, payload_limit, nowhere, chosen, element_of}
use Rattle.element.specs.Laws.{Lies, InOrder}
use Rattle.element.specs.declared.Part.{Part}
use Rattle.element.proofs.Laws.{Found, element_found, element_some, whole_more, until_step}

-- ---- in order, without overlap, within the payload

abbrev AllIn : ℕ → ℕ → Answer (List Part) → Type 0
AllIn at end (given ps) = InOrder at end ps
AllIn at end (refused n a) = Unit {0}

all_same : {a b end last : ℕ} (x : Answer (List Part)) → a ≡ b → end ≡ last → AllIn a end x → AllIn b last x
all_same {a = a} {last = last} x e f h = subst (λ (m : ℕ). AllIn m last x) e (subst (λ (m : ℕ). AllIn a m x) f h)

first_in : (at end : ℕ) (p : Part) (x : Answer (List Part)) → Lies at end p → AllIn p.next end x → AllIn at end (first p x)
first_in at end p (given ps) l h = (l, h)
first_in at end p (refused n a) l h = tt

followed_in : (at end : ℕ) (x : Answer Part) (f : ℕ → Answer (List Part)) → Found at end x
    → ((p : Part) → Lies at end p → AllIn p.next end (f p.next)) → AllIn at end (followed x f)
followed_in at end (given p) f l h = first_in at end p (f p.next) l (h p l)
followed_in at end (refused n a) f l h = tt

-- of a stream of elements, the first of which begins at `at`
abbrev WholeIn : List ℕ → ℕ → Stream Part (Answer (Unit {0})) → Type 0
WholeIn l at s = AllIn at (at + length l) (whole s)

in_next : (at : ℕ) (l : List ℕ) (x : Answer Part) → Found at (at + length l) x → After WholeIn read_from l (element_by at x)
    → WholeIn l at (chained (element_by at x) (λ n next. read_from (drop n l) next))
in_next at l (refused n a) f r = tt
in_next at l (given p) f r =
    let e : p.next + length (drop (p.next - at) l) ≡ at + length l = omega (arith, length-drop (p.next - at) l) in
    let x : Answer (List Part) = until_end (drop (p.next - at) l) p.next in
    subst (AllIn at (at + length l)) (sym (whole_more p (read_from (drop (p.next - at) l) p.next))) (first_in at (at + length l) p x f (all_same {a = p.next} x refl e r))

until_in : (l : List ℕ) (at : ℕ) → AllIn at (at + length l) (until_end l at)
until_in = stream_each element_next (given tt) element_some WholeIn (λ at. tt) (λ at l h r. in_next at l (element_at true at l) (element_found true at l) r)

exactly_in : (n : ℕ) (l : List ℕ) (at : ℕ) → AllIn at (at + length l) (exactly n l at)
unfolding exactly
exactly_in zero l at = tt
exactly_in (suc n) l at =
    followed_in at (at + length l) (element_at (not (eqb n 0)) at l) _ (element_found (not (eqb n 0)) at l)
    (λ p s.
    let e : p.next + length (drop (p.next - at) l) ≡ at + length l = omega (arith, length-drop (p.next - at) l) in
    all_same {a = p.next} (exactly n (drop (p.next - at) l) p.next) refl e (exactly_in n (drop (p.next - at) l) p.next))

elements_in_lem : (payload : List ℕ) → AllIn 1 (length payload) (elements_of payload)
unfolding elements_of counting
elements_in_lem [] = tt
elements_in_lem (h ∷ l) =
    let e : 1 + length l ≡ length (h ∷ l) = omega arith in
    all_same {a = 1} (elements_of (h ∷ l)) refl e
    (by_cond (AllIn 1 (1 + length l)) (eqb (z_bit h) 1 && eqb (n_bit h) 1) _ _
    (λ t. tt)
    (λ t.
    by_cond (AllIn 1 (1 + length l)) (eqb (w_of h) 0) _ _
    (λ u. by_cond (AllIn 1 (1 + length l)) (eqb (length l) 0) _ _ (λ v. tt) (λ v. until_in l 1))
    (λ u. exactly_in (w_of h) l 1)))

pub in_order_lem : (payload : List ℕ) (ps : List Part) → elements_of payload ≡ given ps → InOrder 1 (length payload) ps
in_order_lem payload ps e = subst (AllIn 1 (length payload)) e (elements_in_lem payload)

-- ---- how many there are

abbrev Count : ℕ → Answer (List Part) → Type 0
Count n (given ps) = length ps ≡ n
Count n (refused k a) = Unit {0}

first_count : (n : ℕ) (p : Part) (x : Answer (List Part)) → Count n x → Count (suc n) (first p x)
first_count n p (given ps) h = ap suc h
first_count n p (refused k a) h = tt

followed_count : (n : ℕ) (x : Answer Part) (f : ℕ → Answer (List Part)) → ((at : ℕ) → Count n (f at)) → Count (suc n) (followed x f)
followed_count n (given p) f h = first_count n p (f p.next) (h p.next)
followed_count n (refused k a) f h = tt

exactly_count : (n : ℕ) (l : List ℕ) (at : ℕ) → Count n (exactly n l at)
unfolding exactly
exactly_count zero l at = refl
exactly_count (suc n) l at =
    followed_count n (element_at (not (eqb n 0)) at l) _ (λ next. exactly_count n (drop (next - at) l) next)

abbrev Some : Answer (List Part) → Type 0
Some (given ps) = 1 ≤ length ps
Some (refused k a) = Unit {0}

followed_some : (x : Answer Part) (f : ℕ → Answer (List Part)) → Some (followed x f)
followed_some (refused k a) f = tt
followed_some (given p) f = go (f p.next)
  where
    go : (x : Answer (List Part)) → Some (first p x)
    go (given ps) = omega arith
    go (refused k a) = tt

until_some : (l : List ℕ) (at : ℕ) → 0 < length l → Some (until_end l at)
until_some l at h = subst Some (sym (until_step l at h)) (followed_some (element_at true at l) (λ next. until_end (drop (next - at) l) next))

module _ (w : ℕ) (l : List ℕ) (ps : List Part) (e : counting w l ≡ given ps) where
  pub count_w : (w ≡ 0 → ⊥) → length ps ≡ w
  unfolding counting
  count_w z =
      let c : exactly w l 1 ≡ given ps = sym (rw (ne_eqb w 0 z)) ∙ e in
      subst (Count w) c (exactly_count w l 1)

  pub count_end : w ≡ 0 → 1 ≤ length ps
  unfolding counting
  count_end z =
      let c : cond (eqb (length l) 0) (refused 17 1) (until_end l 1) ≡ given ps = sym (rw (eq-eqb w 0 z)) ∙ e in
      subst Some c
      (by_cond Some (eqb (length l) 0) _ _ (λ t. tt) (λ t. let n : length l ≡ 0 → ⊥ = eqb-false (length l) 0 t in until_some l 1 (omega arith)))

-- ---- element k

pub checked : (payload : List ℕ) (ps : List Part) → payload_elements payload ≡ given ps → (length payload ≤ payload_limit) × (elements_of payload ≡ given ps)
unfolding payload_elements
checked payload ps = go (ltb payload_limit (length payload)) refl
  where
    go : (t : Bool) → ltb payload_limit (length payload) ≡ t → cond t (refused 13 0) (elements_of payload) ≡ given ps
        → (length payload ≤ payload_limit) × (elements_of payload ≡ given ps)
    go true q e = let z : ◌≡◌ {A = ℕ} 0 1 = cc in absurd (omega arith)
    go false q e = (ltb-false payload_limit (length payload) q, e)

nth_lies : (at end k : ℕ) (ps : List Part) → InOrder at end ps → k < length ps → Lies at end (get_or ps k nowhere)
nth_lies at end k [] h b = absurd (omega arith)
nth_lies at end zero (p ∷ ps) h b = h.0
nth_lies at end (suc k) (p ∷ ps) h b =
    let l : Lies p.next end (get_or ps k nowhere) = nth_lies p.next end k ps h.1 (omega arith) in
    record { after = omega (arith, h.0); some = l.some; ends = l.ends; within = l.within }

module _ (payload : List ℕ) (k : ℕ) where
  pub there : (ps : List Part) → payload_elements payload ≡ given ps → k < length ps → Lies 1 (length payload) (element_of payload k)
  there ps e h =
      subst (λ (p : Part). Lies 1 (length payload) p) (sym (ap (chosen k) e))
      (nth_lies 1 (length payload) k ps (in_order_lem payload ps (checked payload ps e).1) h)

  pub beyond : (ps : List Part) → payload_elements payload ≡ given ps → length ps ≤ k → element_of payload k ≡ nowhere
  beyond ps e h = ap (chosen k) e ∙ get_or-eq_default ps nowhere h

  pub none : (n at : ℕ) → payload_elements payload ≡ refused n at → element_of payload k ≡ nowhere
  none n at e = ap (chosen k) e

  -- either way it lies in the payload
  pub chosen_in : (element_of payload k).start + (element_of payload k).length ≤ length payload
  chosen_in = go (payload_elements payload) refl
    where
      go : (a : Answer (List Part)) → payload_elements payload ≡ a → (chosen k a).start + (chosen k a).length ≤ length payload
      go (refused n at) e = omega arith
      go (given ps) e = split_on (ltb k (length ps))
          (λ t.
          let l : Lies 1 (length payload) (get_or ps k nowhere) =
          nth_lies 1 (length payload) k ps (in_order_lem payload ps (checked payload ps e).1) (ltb-true k (length ps) t) in
          omega arith)
          (λ t. rw (get_or-eq_default ps nowhere (ltb-false k (length ps) t)) (omega arith))
