-- The walk through all elements, turn by turn. Assumes nothing.
use mathlib.Core.Path.{◌≡◌, refl, sym, ap, subst, ◌∙◌}
use Prim.Native.Nat.compare
use Prim.Native.Nat.{ℕ, zero, suc, ◌+◌, ◌-◌, ◌≤◌, ◌<◌}
use native.Mathlib.Omega.{arith}
use mathlib.Core.List.{List, [], ◌∷◌, ◌++◌, append-nil}
use mathlib.Core.Bool.{Bool, true, false, cond}
use lib.ListN.{length, get_or, drop, length-append}
use lib.Seq.{append_snoc, get_or-append_seam}
use lib.Dec.{eqb}
use borrow.Author.Tests.{lt-ltb, le-ltb, ne_eqb}
use Rattle.base.specs.Answers.{Answer, given, refused}
use Rattle.element.specs.Elements.{payload_limit, payload_elements, element_at, first, followed, counting, is_due, has_field, nowhere, chosen}
use Rattle.element.specs.Paper.{walked_of, walked, with_part}
use Rattle.element.specs.Laws.{Lies, elements_from, Countable}
use Rattle.element.specs.declared.Part.{Part}
use Rattle.element.specs.declared.Walked.{Walked}
use Rattle.element.proofs.Laws.{part_lies, from_first, from_step, from_end}
use Rattle.element.proofs.Order.{chosen_in}
use Rattle.element.proofs.Padded.{part_fielded, cursor_after, cursor_last, padded_next, padded_few}

-- those found so far, and then the rest
abbrev prefixed : List Part → Answer (List Part) → Answer (List Part)
prefixed found (given ps) = given (found ++ ps)
prefixed found (refused n at) = refused n at

prefixed_first : (found : List Part) (p : Part) (a : Answer (List Part)) → prefixed found (first p a) ≡ prefixed (found ++ (p ∷ [])) a
prefixed_first found p (given ps) = ap given (sym (append_snoc found p ps))
prefixed_first found p (refused n at) = refl

-- these are walked, and the next stands at `at`
pub record Walking (payload : List ℕ) (w k at : ℕ) (all : Walked) : Type 0 where
  pub found : List Part
  pub is : all ≡ walked_of k found
  pub cursor : cursor_after 1 found ≡ at
  pub inside : at ≤ length payload
  pub few : all.elements < at
  pub same : counting w (drop 1 payload) ≡ prefixed found (elements_from payload w all.elements at)

-- nothing is walked
abbrev pub unwalked : Walked
unwalked = record { elements = 0; kept = nowhere; last = nowhere; padded = 0 }

pub walking_first : (payload : List ℕ) (w k : ℕ) → 1 ≤ length payload → is_due w 0 (length payload - 1) ≡ true
    → Walking payload w k 1 unwalked
walking_first payload w k h d =
    record {
      found = [];
      is = refl;
      cursor = refl;
      inside = h;
      few = omega arith;
      same = from_first payload w h d ∙ alone (elements_from payload w 0 1);
    }
  where
    alone : (a : Answer (List Part)) → a ≡ prefixed [] a
    alone (given ps) = refl
    alone (refused n at) = refl

-- one more at the end
kept_next : (found : List Part) (p : Part) (k : ℕ) → cond (eqb (length found) k) p (get_or found k nowhere) ≡ get_or (found ++ (p ∷ [])) k nowhere
kept_next [] p zero = refl
kept_next [] p (suc k) = rw (ne_eqb 0 (suc k) (λ e. omega arith))
kept_next (x ∷ found) p zero = rw (ne_eqb (suc (length found)) 0 (λ e. omega arith))
kept_next (x ∷ found) p (suc k) = rw (compare.suc-suc (length found) k) (kept_next found p k)

last_next : (found : List Part) (p : Part) → p ≡ get_or (found ++ (p ∷ [])) (length (found ++ (p ∷ [])) - 1) nowhere
last_next found p =
    let e : length (found ++ (p ∷ [])) - 1 ≡ length found = omega (arith, length-append found (p ∷ [])) in
    rw e (sym (get_or-append_seam found p [] nowhere))

walked_next : (k : ℕ) (found : List Part) {at : ℕ} (p : Part) → cursor_after 1 found ≡ at → with_part k (walked_of k found) at p ≡ walked_of k (found ++ (p ∷ []))
walked_next k found p e = rw (kept_next found p k, ← last_next found p, length-append, padded_next 1 found p, e)

module _ {payload : List ℕ} {w k at : ℕ} {all : Walked} (s : Walking payload w k at all) where
  -- what is left, where a further one is due
  left : is_due w all.elements (length payload - at) ≡ true
      → counting w (drop 1 payload) ≡ prefixed s.found (followed (element_at (has_field w all.elements) at (drop at payload)) (elements_from payload w (all.elements + 1)))
  left d = s.same ∙ ap (prefixed s.found) (from_step payload w all.elements at s.inside d)

  -- the next element can be counted
  pub walking_countable : {p : Part} → length payload ≤ payload_limit → element_at (has_field w all.elements) at (drop at payload) ≡ given p → Countable payload all at p
  walking_countable {p} small e = record { fielded = part_fielded (has_field w all.elements) s.inside e; few = s.few; fewer = rw s.is (padded_few 1 s.found); small = small }

  pub walking_bad : {m a : ℕ} → is_due w all.elements (length payload - at) ≡ true → element_at (has_field w all.elements) at (drop at payload) ≡ refused m a
      → refused m a ≡ walked k (counting w (drop 1 payload))
  walking_bad d e =
      sym (ap (walked k) (left d ∙ ap (λ (x : Answer Part). prefixed s.found (followed x (elements_from payload w (all.elements + 1)))) e))

  pub walking_next : {p : Part} {new : Walked} → is_due w all.elements (length payload - at) ≡ true → element_at (has_field w all.elements) at (drop at payload) ≡ given p
      → new ≡ with_part k all at p → Walking payload w k p.next new
  walking_next {p} {new} d e c =
      let l : Lies at (length payload) p = part_lies payload at (has_field w all.elements) p s.inside e in
      let n : new.elements ≡ all.elements + 1 = ap (λ (x : Walked). x.elements) c in
      record {
        found = s.found ++ (p ∷ []);
        is = c ∙ ap (λ (x : Walked). with_part k x at p) s.is ∙ walked_next k s.found p s.cursor;
        cursor = cursor_last 1 s.found p;
        inside = l.within;
        few = omega (arith, s.few);
        same = left d ∙ ap (λ (x : Answer Part). prefixed s.found (followed x (elements_from payload w (all.elements + 1)))) e
            ∙ prefixed_first s.found p (elements_from payload w (all.elements + 1) p.next)
            ∙ ap (λ (x : ℕ). prefixed (s.found ++ (p ∷ [])) (elements_from payload w x p.next)) (sym n);
      }

  pub walking_end : is_due w all.elements (length payload - at) ≡ false → given all ≡ walked k (counting w (drop 1 payload))
  walking_end d =
      let e : counting w (drop 1 payload) ≡ given s.found =
      s.same ∙ ap (prefixed s.found) (from_end payload w all.elements at s.inside d) ∙ ap given (append-nil s.found) in
      ap given s.is ∙ sym (ap (walked k) e)

-- ---- what is due, and what has a length field

pub due_counted : (w n left : ℕ) → 1 ≤ w → n < w → is_due w n left ≡ true
due_counted w n left p h = rw (ne_eqb w 0 (λ e. omega arith)) (lt-ltb n w h)

pub due_no_more : (w n left : ℕ) → 1 ≤ w → w ≤ n → is_due w n left ≡ false
due_no_more w n left p h = rw (ne_eqb w 0 (λ e. omega arith)) (le-ltb n w h)

pub always_field : (n : ℕ) → has_field 0 n ≡ true
always_field n = rw (ne_eqb (n + 1) 0 (λ e. omega arith))

-- so that with W 0 each is read with it
pub read_always : (n at : ℕ) (l : List ℕ) {x : Answer Part} → x ≡ element_at true at l → element_at (has_field 0 n) at l ≡ x
read_always n at l e = ap (λ (t : Bool). element_at t at l) (always_field n) ∙ sym e

-- ---- what the answer of a walk says

pub walked_kept : (k : ℕ) (x : Answer (List Part)) {a : Walked} → given a ≡ walked k x → a.kept ≡ chosen k x
walked_kept k (given ps) {a} e =
    let f : a ≡ walked_of k ps = cc in
    ap (λ (w : Walked). w.kept) f
walked_kept k (refused n at) e = let z : ◌≡◌ {A = ℕ} 0 1 = cc in absurd (omega arith)

-- element k lies within the payload
pub kept_in : (payload : List ℕ) (k : ℕ) {a : Walked} → given a ≡ walked k (payload_elements payload) → a.kept.start + a.kept.length ≤ length payload
kept_in payload k e = subst (λ (p : Part). p.start + p.length ≤ length payload) (sym (walked_kept k (payload_elements payload) e)) (chosen_in payload k)
