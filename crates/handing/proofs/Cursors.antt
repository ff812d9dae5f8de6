-- The elements of a payload, from cursor to cursor. Assumes nothing.
--     read_at          element i is read at its cursor
--     cursor-inside    which lies in the payload
--     cursor-next      and the next one is where the element ends
--     cursor-some      behind the header byte
use mathlib.Core.Path.{◌≡◌, refl, sym, ap, ◌∙◌}
use Prim.Native.Nat.{ℕ, zero, suc, ◌+◌, ◌-◌, ◌≤◌, ◌<◌}
use native.Mathlib.Numerals.{add-one}
use native.Mathlib.Omega.{arith}
use mathlib.Core.List.{List, [], ◌∷◌}
use mathlib.Core.Bool.{Bool, true, false, cond, ◌&&◌}
use lib.ListN.{length, get_or, drop}
use lib.Seq.{drop-cons}
use lib.Dec.{eqb}
use borrow.Author.Tests.{ne_eqb, eqb-true, eqb-false}
use Rattle.base.specs.Answers.{Answer, given, refused}
use Rattle.base.proofs.Tests.{split_on}
use Rattle.element.specs.Header.{z_bit, w_of, n_bit}
use Rattle.element.specs.Elements.{payload_limit, element_at, first, followed, counting, payload_elements, is_due, has_field, nowhere}
use Rattle.element.specs.Laws.{Lies, elements_from}
use Rattle.element.specs.declared.Part.{Part}
use Rattle.element.proofs.Laws.{part_lies, from_first, from_none, from_step, from_end, payload_empty, elements_head}
use Rattle.element.proofs.Order.{checked, count_w, count_end}
use Rattle.handing.specs.Inside.{cursor_of}

followed_given : (x : Answer Part) (f : ℕ → Answer (List Part)) (p : Part) (rest : List Part) → followed x f ≡ given (p ∷ rest)
    → (x ≡ given p) × (f p.next ≡ given rest)
followed_given (refused n at) f p rest e = let z : ◌≡◌ {A = ℕ} 0 1 = cc in absurd (omega arith)
followed_given (given q) f p rest e = go (f q.next) refl e
  where
    go : (a : Answer (List Part)) → f q.next ≡ a → first q a ≡ given (p ∷ rest) → (given q ≡ given p) × (f p.next ≡ given rest)
    go (refused n at) d e = let z : ◌≡◌ {A = ℕ} 0 1 = cc in absurd (omega arith)
    go (given qs) d e =
        let h : q ≡ p = cc in
        let k : qs ≡ rest = cc in
        (ap given h, ap (λ (r : Part). f r.next) (sym h) ∙ d ∙ ap given k)

pub cursor_next : (ps : List Part) (i : ℕ) → cursor_of ps (i + 1) ≡ (get_or ps i nowhere).next
cursor_next ps i =
    let e : i + 1 - 1 ≡ i = omega arith in
    rw (ne_eqb (i + 1) 0 (λ z. omega arith), e)

module _ (payload : List ℕ) (ps : List Part) (whole : payload_elements payload ≡ given ps) where
  abbrev w : ℕ
  w = w_of (get_or payload 0 0)

  pub payload_some : 1 ≤ length payload
  payload_some = go (length payload) refl
    where
      go : (n : ℕ) → length payload ≡ n → 1 ≤ n
      go (suc n) e = omega arith
      go zero e =
          let f : given ps ≡ refused 13 0 = sym whole ∙ payload_empty payload e in
          let z : ◌≡◌ {A = ℕ} 0 1 = cc in
          absurd (omega arith)

  pub payload_small : length payload ≤ payload_limit
  payload_small = (checked payload ps whole).0

  by_count : counting w (drop 1 payload) ≡ given ps
  by_count = go (eqb (z_bit (get_or payload 0 0)) 1 && eqb (n_bit (get_or payload 0 0)) 1) (sym (elements_head payload payload_some) ∙ (checked payload ps whole).1)
    where
      go : (t : Bool) → cond t (refused 15 0) (counting w (drop 1 payload)) ≡ given ps → counting w (drop 1 payload) ≡ given ps
      go true e = let z : ◌≡◌ {A = ℕ} 0 1 = cc in absurd (omega arith)
      go false e = e

  -- what stands from the cursor of element i on
  abbrev From : ℕ → ℕ → Type 0
  From i at = (at ≤ length payload) × (elements_from payload w i at ≡ given (drop i ps))

  from_start : From 0 1
  from_start = split_on (is_due w 0 (length payload - 1))
      (λ t. (payload_some, sym (from_first payload w payload_some t) ∙ by_count))
      (λ t.
      let e : given ps ≡ refused 17 1 = sym by_count ∙ from_none payload w t in
      let z : ◌≡◌ {A = ℕ} 0 1 = cc in
      absurd (omega arith))

  -- element i at its cursor, and what stands after it
  at_cursor : (i at : ℕ) → i < length ps → From i at
      → (element_at (has_field w i) at (drop at payload) ≡ given (get_or ps i nowhere)) × From (i + 1) (get_or ps i nowhere).next
  at_cursor i at h f = split_on (is_due w i (length payload - at))
      (λ t.
      let p : Part = get_or ps i nowhere in
      let e : followed (element_at (has_field w i) at (drop at payload)) (elements_from payload w (i + 1)) ≡ given (p ∷ drop (suc i) ps) =
      sym (from_step payload w i at f.0 t) ∙ f.1 ∙ ap given (drop-cons ps i nowhere h) in
      let r = followed_given (element_at (has_field w i) at (drop at payload)) (elements_from payload w (i + 1)) p (drop (suc i) ps) e in
      let l : Lies at (length payload) p = part_lies payload at (has_field w i) p f.0 r.0 in
      (r.0, (l.within, r.1 ∙ rw (add-one i))))
      (λ t.
      let e : given [] ≡ given (get_or ps i nowhere ∷ drop (suc i) ps) =
      sym (from_end payload w i at f.0 t) ∙ f.1 ∙ ap given (drop-cons ps i nowhere h) in
      let z : ◌≡◌ {A = ℕ} 0 1 = cc in
      absurd (omega arith))

  from_cursor : (i : ℕ) → i ≤ length ps → From i (cursor_of ps i)
  from_cursor zero h = from_start
  from_cursor (suc i) h =
      rw (← add-one i, cursor_next ps i) (at_cursor i (cursor_of ps i) (omega arith) (from_cursor i (omega arith))).1

  pub cursor_inside : (i : ℕ) → i ≤ length ps → cursor_of ps i ≤ length payload
  cursor_inside i h = (from_cursor i h).0

  pub read_at : (i : ℕ) → i < length ps → element_at (has_field w i) (cursor_of ps i) (drop (cursor_of ps i) payload) ≡ given (get_or ps i nowhere)
  read_at i h = (at_cursor i (cursor_of ps i) h (from_cursor i (omega arith))).0

  pub part_at : (i : ℕ) → i < length ps → Lies (cursor_of ps i) (length payload) (get_or ps i nowhere)
  part_at i h = part_lies payload (cursor_of ps i) (has_field w i) (get_or ps i nowhere) (cursor_inside i (omega arith)) (read_at i h)

  -- every cursor stands behind the header byte
  pub cursor_some : (i : ℕ) → i ≤ length ps → 1 ≤ cursor_of ps i
  cursor_some zero h = omega arith
  cursor_some (suc i) h = rw (← add-one i, cursor_next ps i) (omega (arith, part_at i (omega arith)))

  -- there is at least one
  pub elements_some : 1 ≤ length ps
  elements_some = split_on (eqb w 0)
      (λ t. count_end w (drop 1 payload) ps by_count (eqb-true w 0 t))
      (λ t.
      let n : w ≡ 0 → ⊥ = eqb-false w 0 t in
      let e : length ps ≡ w = count_w w (drop 1 payload) ps by_count n in
      omega arith)
