-- What holds of the elements of a payload; for the walk, and for callers. Assumes nothing.
--     part_lies      an element that is found lies behind its cursor and within the payload, has a byte, and ends at its next cursor
--     from_first     the elements of a payload are those from element 0 on, at cursor 1
--     from_step      those from a cursor: the one at it, if one is due, and those from its next cursor on
--     from_end       none is due: there are no more
use mathlib.Core.Path.{◌≡◌, refl, sym, ap, subst, ◌∙◌}
use Prim.Native.Nat.{ℕ, suc, ◌+◌, ◌-◌, ◌≤◌, ◌<◌}
use native.Mathlib.Nat.{sub-zero}
use native.Mathlib.Omega.{arith}
use mathlib.Core.List.{List, [], ◌∷◌}
use mathlib.Core.Bool.{Bool, true, false, cond, not, ◌&&◌}
use lib.ListN.{length, get_or, drop, length-drop, drop_of_length-le}
use lib.Seq.{length-take-le, drop-drop}
use lib.Dec.{eqb, ltb}
use borrow.Author.Tests.{eqb-true, eqb-false, ltb-false, ltb-true, lt-ltb, le-ltb, eq-eqb, ne_eqb}
use Rattle.base.specs.Answers.{Answer, given, refused}
use Rattle.base.specs.Streams.{Stream, chained, stream_from, whole_by, whole}
use Rattle.base.proofs.Tests.{by_cond, split_on}
use Rattle.base.proofs.Streams.{Some, stream_step}
use Rattle.leb128.specs.Field.{Field, sized, unreadable, size_field}
use Rattle.leb128.proofs.Reading.{Sized, size_within}
use Rattle.element.specs.Header.{z_bit, w_of, n_bit}
use Rattle.element.specs.Elements.{bytes_of, counted, remaining, element_at, first, followed, element_by, element_next, read_from, until_end, exactly, counting, elements_of, payload_elements, payload_limit, is_due, has_field}
use Rattle.element.specs.Laws.{Lies, elements_from}
use Rattle.element.specs.declared.Part.{Part}

-- ---- one element

abbrev pub Found : ℕ → ℕ → Answer Part → Type 0
Found at end (given p) = Lies at end p
Found at end (refused n a) = Unit {0}

counted_found : (at : ℕ) (l : List ℕ) (f : Field) → f ≡ size_field l → Found at (at + length l) (counted at (length l) f)
counted_found at l (unreadable k) e = tt
counted_found at l (sized v n) e =
    by_cond (Found at (at + length l)) (eqb v 0) _ _
    (λ t. tt)
    (λ t.
    let z : v ≡ 0 → ⊥ = eqb-false v 0 t in
    by_cond (Found at (at + length l)) (ltb (length l - n) v) _ _
    (λ u. tt)
    (λ u.
    let h : v ≤ length l - n = ltb-false (length l - n) v u in
    let w : Sized l (sized v n) = size_within l v n e in
    record { after = omega arith; some = omega arith; ends = refl; within = omega arith }))

rest_found : (at left : ℕ) → Found at (at + left) (remaining at left)
rest_found at left =
    by_cond (Found at (at + left)) (eqb left 0) _ _
    (λ t. tt)
    (λ t.
    let z : left ≡ 0 → ⊥ = eqb-false left 0 t in
    record { after = omega arith; some = omega arith; ends = refl; within = omega arith })

pub element_found : (field : Bool) (at : ℕ) (l : List ℕ) → Found at (at + length l) (element_at field at l)
unfolding element_at
element_found true at l = counted_found at l (size_field l) refl
element_found false at l = rest_found at (length l)

pub element_lies : (field : Bool) (at : ℕ) (l : List ℕ) (p : Part) → element_at field at l ≡ given p → Lies at (at + length l) p
element_lies field at l p e = subst (Found at (at + length l)) e (element_found field at l)

pub part_lies : (payload : List ℕ) (at : ℕ) (field : Bool) (p : Part) → at ≤ length payload → element_at field at (drop at payload) ≡ given p
    → Lies at (length payload) p
part_lies payload at field p h e =
    let n : at + length (drop at payload) ≡ length payload = omega (arith, length-drop at payload) in
    subst (λ (m : ℕ). Lies at m p) n (element_lies field at (drop at payload) p e)

-- ---- the elements from a cursor on

-- the rest matters only where an element is found
followed_same : (a : Answer Part) (f g : ℕ → Answer (List Part)) → ((p : Part) → a ≡ given p → f p.next ≡ g p.next) → followed a f ≡ followed a g
followed_same (given p) f g same = ap (first p) (same p refl)
followed_same (refused n at) f g same = refl

-- a cursor further on in what is left
drop_next : (l : List ℕ) (at next : ℕ) → at ≤ next → drop (next - at) (drop at l) ≡ drop next l
drop_next l at next h =
    let e : at + (next - at) ≡ next = omega arith in
    drop-drop (next - at) at l ∙ ap (λ (k : ℕ). drop k l) e

-- an item of the stream of elements has a byte
pub element_some : (at : ℕ) (l : List ℕ) → Some (element_next at l)
element_some at l = go (element_at true at l) (element_found true at l)
  where
    go : (x : Answer Part) → Found at (at + length l) x → Some (element_by at x)
    go (given p) f = omega arith
    go (refused n a) f = tt

-- an element, and all that follow it
pub whole_more : (p : Part) (s : Stream Part (Answer (Unit {0}))) → whole (record { items = p ∷ s.items; stop = s.stop }) ≡ first p (whole s)
whole_more p s = by_stop s.stop
  where
    by_stop : (x : Answer (Unit {0})) → whole_by (p ∷ s.items) x ≡ first p (whole_by s.items x)
    by_stop (given t) = refl
    by_stop (refused n a) = refl

whole_followed : (at : ℕ) (l : List ℕ) (x : Answer Part)
    → whole (chained (element_by at x) (λ n next. read_from (drop n l) next)) ≡ followed x (λ next. until_end (drop (next - at) l) next)
whole_followed at l (given p) = whole_more p (read_from (drop (p.next - at) l) p.next)
whole_followed at l (refused n a) = refl

pub until_step : (l : List ℕ) (at : ℕ) → 0 < length l → until_end l at ≡ followed (element_at true at l) (λ next. until_end (drop (next - at) l) next)
until_step l at h =
    ap whole (stream_step element_next (given tt) element_some l at (omega arith)) ∙ whole_followed at l (element_at true at l)

-- the last of so many is the one that has no length field
last_one : (w n : ℕ) → n < w → eqb (w - n - 1) 0 ≡ eqb (n + 1) w
last_one w n h = split_on (eqb (n + 1) w)
    (λ t. let e : n + 1 ≡ w = eqb-true (n + 1) w t in eq-eqb (w - n - 1) 0 (omega arith) ∙ sym t)
    (λ t. ne_eqb (w - n - 1) 0 (λ e. eqb-false (n + 1) w t (omega arith)) ∙ sym t)

exactly_step : (l : List ℕ) (w n at : ℕ) → n < w
    → exactly (w - n) l at ≡ followed (element_at (has_field w n) at l) (λ next. exactly (w - (n + 1)) (drop (next - at) l) next)
unfolding exactly
exactly_step l w n at h =
    let m : ℕ = w - n - 1 in
    let e : w - n ≡ suc m = omega arith in
    let f : m ≡ w - (n + 1) = omega arith in
    ap (λ (k : ℕ). exactly k l at) e
    ∙ ap (λ (t : Bool). followed (element_at (not t) at l) (λ next. exactly m (drop (next - at) l) next)) (last_one w n h)
    ∙ ap (λ (k : ℕ). followed (element_at (has_field w n) at l) (λ next. exactly k (drop (next - at) l) next)) f

module _ (payload : List ℕ) (w n at : ℕ) (h : at ≤ length payload) where
  -- with the rest of what is left as the rest of the payload
  from_next : (f : ℕ → List ℕ → Answer (List Part))
      → followed (element_at (has_field w n) at (drop at payload)) (λ next. f next (drop (next - at) (drop at payload)))
      ≡ followed (element_at (has_field w n) at (drop at payload)) (λ next. f next (drop next payload))
  from_next f =
      followed_same (element_at (has_field w n) at (drop at payload)) _ _
      (λ p e.
      let s : Lies at (length payload) p = part_lies payload at (has_field w n) p h e in
      ap (f p.next) (drop_next payload at p.next (omega arith)))

  pub from_step : is_due w n (length payload - at) ≡ true
      → elements_from payload w n at ≡ followed (element_at (has_field w n) at (drop at payload)) (elements_from payload w (n + 1))
  from_step = go (eqb w 0) refl
    where
      go : (t : Bool) → eqb w 0 ≡ t → cond t (ltb 0 (length payload - at)) (ltb n w) ≡ true
          → cond t (until_end (drop at payload) at) (exactly (w - n) (drop at payload) at)
          ≡ followed (element_at (has_field w n) at (drop at payload))
          (λ next. cond t (until_end (drop next payload) next) (exactly (w - (n + 1)) (drop next payload) next))
      go true q d =
          let z : w ≡ 0 = eqb-true w 0 q in
          let f : true ≡ has_field w n = ap not (sym (ne_eqb (n + 1) w (λ e. omega arith))) in
          let k : 0 < length payload - at = ltb-true 0 (length payload - at) d in
          until_step (drop at payload) at (omega (arith, length-drop at payload))
          ∙ ap (λ (b : Bool). followed (element_at b at (drop at payload)) (λ next. until_end (drop (next - at) (drop at payload)) next)) f
          ∙ from_next (λ next l. until_end l next)
      go false q d =
          exactly_step (drop at payload) w n at (ltb-true n w d)
          ∙ from_next (λ next l. exactly (w - (n + 1)) l next)

  pub from_end : is_due w n (length payload - at) ≡ false → elements_from payload w n at ≡ given []
  unfolding stream_from exactly
  from_end = go (eqb w 0)
    where
      go : (t : Bool) → cond t (ltb 0 (length payload - at)) (ltb n w) ≡ false
          → cond t (until_end (drop at payload) at) (exactly (w - n) (drop at payload) at) ≡ given []
      go true d =
          let k : length payload - at ≤ 0 = ltb-false 0 (length payload - at) d in
          rw (drop_of_length-le payload {i = at} (omega arith))
      go false d =
          let k : w ≤ n = ltb-false n w d in
          let e : w - n ≡ 0 = omega arith in
          rw e

-- ---- from a payload's start

module _ (payload : List ℕ) (w : ℕ) where
  pub from_first : 1 ≤ length payload → is_due w 0 (length payload - 1) ≡ true → counting w (drop 1 payload) ≡ elements_from payload w 0 1
  unfolding counting
  from_first h = go (eqb w 0)
    where
      go : (t : Bool) → cond t (ltb 0 (length payload - 1)) (ltb 0 w) ≡ true
          → cond t (cond (eqb (length (drop 1 payload)) 0) (refused 17 1) (until_end (drop 1 payload) 1)) (exactly w (drop 1 payload) 1)
          ≡ cond t (until_end (drop 1 payload) 1) (exactly (w - 0) (drop 1 payload) 1)
      go true d =
          let k : 0 < length payload - 1 = ltb-true 0 (length payload - 1) d in
          rw (ne_eqb (length (drop 1 payload)) 0 (λ e. omega (arith, length-drop 1 payload)))
      go false d = rw (sub-zero w)

  pub from_none : is_due w 0 (length payload - 1) ≡ false → counting w (drop 1 payload) ≡ refused 17 1
  unfolding counting
  from_none = go (eqb w 0) refl
    where
      go : (t : Bool) → eqb w 0 ≡ t → cond t (ltb 0 (length payload - 1)) (ltb 0 w) ≡ false
          → cond t (cond (eqb (length (drop 1 payload)) 0) (refused 17 1) (until_end (drop 1 payload) 1)) (exactly w (drop 1 payload) 1)
          ≡ refused 17 1
      go true q d =
          let k : length payload - 1 ≤ 0 = ltb-false 0 (length payload - 1) d in
          rw (eq-eqb (length (drop 1 payload)) 0 (omega (arith, length-drop 1 payload)))
      go false q d =
          let k : w ≤ 0 = ltb-false 0 w d in
          absurd (eqb-false w 0 q (omega arith))

pub payload_empty : (payload : List ℕ) → length payload ≡ 0 → payload_elements payload ≡ refused 13 0
unfolding payload_elements elements_of
payload_empty [] e = refl
payload_empty (b ∷ l) e = absurd (omega arith)

pub payload_long : (payload : List ℕ) → payload_limit < length payload → payload_elements payload ≡ refused 13 0
unfolding payload_elements
payload_long payload h = rw (lt-ltb payload_limit (length payload) h)

pub payload_fits : (payload : List ℕ) → length payload ≤ payload_limit → payload_elements payload ≡ elements_of payload
unfolding payload_elements
payload_fits payload h = rw (le-ltb payload_limit (length payload) h)

pub elements_head : (payload : List ℕ) → 1 ≤ length payload
    → let h = get_or payload 0 0 in
    elements_of payload ≡ cond (eqb (z_bit h) 1 && eqb (n_bit h) 1) (refused 15 0) (counting (w_of h) (drop 1 payload))
unfolding elements_of
elements_head [] h = absurd (omega arith)
elements_head (b ∷ l) h = refl

-- by the test of the header's bits
module _ (payload : List ℕ) (some : length payload ≡ 0 → ⊥) (t : Bool) (e : t ≡ (eqb (z_bit (get_or payload 0 0)) 1 && eqb (n_bit (get_or payload 0 0)) 1)) where
  by_header : elements_of payload ≡ cond t (refused 15 0) (counting (w_of (get_or payload 0 0)) (drop 1 payload))
  by_header =
      let k : 1 ≤ length payload = omega arith in
      elements_head payload k ∙ ap (λ (b : Bool). cond b (refused 15 0) (counting (w_of (get_or payload 0 0)) (drop 1 payload))) (sym e)

  pub header_bad : t ≡ true → elements_of payload ≡ refused 15 0
  header_bad q = by_header ∙ rw q

  pub header_good : t ≡ false → (w : ℕ) → w ≡ w_of (get_or payload 0 0) → elements_of payload ≡ counting w (drop 1 payload)
  header_good q w f = by_header ∙ rw (q, f)

-- ---- the bytes of an element

pub bytes_length : (payload : List ℕ) (at : ℕ) (p : Part) → Lies at (length payload) p → length (bytes_of payload p) ≡ p.length
bytes_length payload at p l = length-take-le p.length (drop p.start payload) (omega (arith, length-drop p.start payload))
