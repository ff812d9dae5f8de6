-- The padded length fields of elements (F6). Assumes nothing.
--     part-fielded   the bytes between an element's cursor and its start are its length field
--     padded-none, padded-last    what decides whether it is padded
--     padded-next    one element more
--     padded-few     there are no more than elements
--     padded-most    and those of a payload are no more than L3
use mathlib.Core.Path.{◌≡◌, refl, ap, ap₂, ◌∙◌}
use Prim.Native.Nat.{ℕ, ◌+◌, ◌-◌, ◌≤◌, ◌<◌}
use native.Mathlib.Omega.{arith}
use mathlib.Core.List.{List, [], ◌∷◌, ◌++◌}
use mathlib.Core.Bool.{Bool, true, false, cond}
use lib.ListN.{length, get_or, drop}
use lib.Seq.{get_or-drop}
use lib.Dec.{eqb, ltb}
use borrow.Author.Tests.{le-ltb}
use Rattle.base.proofs.Tests.{by_cond}
use Rattle.leb128.specs.Field.{Field, sized, unreadable, size_field, encode, is_padded}
use Rattle.leb128.proofs.Writing.{encode_pos}
use Rattle.leb128.proofs.Padded.{last_zero}
use Rattle.base.specs.Answers.{Answer, given, refused}
use Rattle.element.specs.Elements.{payload_limit, payload_elements, counted, element_at, padded_at, padded_from, padded_by, padded_lengths}
use Rattle.element.specs.Laws.{Lies, InOrder, Fielded}
use Rattle.element.specs.declared.Part.{Part}
use Rattle.element.proofs.Laws.{part_lies}
use Rattle.element.proofs.Order.{in_order_lem, checked}

-- ---- one element

counted_field : (at left : ℕ) (f : Field) (p : Part) → counted at left f ≡ given p → sized p.length (p.start - at) ≡ f
counted_field at left (unreadable k) p e = let z : ◌≡◌ {A = ℕ} 0 1 = cc in absurd (omega arith)
counted_field at left (sized v n) p e = go (eqb v 0) (ltb (left - n) v) e
  where
    go : (t u : Bool) → cond t (refused 17 at) (cond u (refused 17 at) (given (record { start = at + n; length = v; next = at + n + v }))) ≡ given p
        → sized p.length (p.start - at) ≡ sized v n
    go true u q = let z : ◌≡◌ {A = ℕ} 0 1 = cc in absurd (omega arith)
    go false true q = let z : ◌≡◌ {A = ℕ} 0 1 = cc in absurd (omega arith)
    go false false q =
        let l : p.length ≡ v = cc in
        let s : p.start ≡ at + n = cc in
        let d : p.start - at ≡ n = omega arith in
        ap₂ sized l d

part_field : (field : Bool) (at : ℕ) (l : List ℕ) (p : Part) → element_at field at l ≡ given p → at < p.start → sized p.length (p.start - at) ≡ size_field l
unfolding element_at
part_field true at l p e h = counted_field at (length l) (size_field l) p e
part_field false at l p e h = go (eqb (length l) 0) e
  where
    go : (t : Bool) → cond t (refused 17 at) (given (record { start = at; length = length l; next = at + length l })) ≡ given p → sized p.length (p.start - at) ≡ size_field l
    go true q = let z : ◌≡◌ {A = ℕ} 0 1 = cc in absurd (omega arith)
    go false q = let s : p.start ≡ at = cc in absurd (omega arith)

pub part_fielded : {payload : List ℕ} {at : ℕ} (field : Bool) {p : Part} → at ≤ length payload → element_at field at (drop at payload) ≡ given p → Fielded payload at p
part_fielded {payload} {at} field {p} h e =
    let l : Lies at (length payload) p = part_lies payload at field p h e in
    record { behind = l.after; within = omega (arith, l.ends, l.within); field = part_field field at (drop at payload) p e }

pub padded_none : (at : ℕ) (p : Part) → p.start - at < 2 → is_padded p.length (p.start - at) ≡ false
padded_none at p h = le-ltb (length (encode p.length)) (p.start - at) (omega (arith, encode_pos 5 p.length (omega arith)))

pub padded_last : {payload : List ℕ} {at : ℕ} {p : Part} → Fielded payload at p → 2 ≤ p.start - at → is_padded p.length (p.start - at) ≡ eqb (get_or payload (p.start - 1) 0) 0
padded_last {payload} {at} {p} f h =
    let n : ℕ = p.start - at in
    let i : at + (n - 1) ≡ p.start - 1 = omega arith in
    let e : get_or (drop at payload) (n - 1) 0 ≡ get_or payload (p.start - 1) 0 = get_or-drop at payload (n - 1) 0 ∙ ap (λ (m : ℕ). get_or payload m 0) i in
    last_zero (drop at payload) p.length n (f.field (omega arith)) h ∙ ap (λ (m : ℕ). eqb m 0) e

-- ---- elements one after the other

-- the cursor behind elements the first of which begins at `at`
abbrev pub cursor_after : ℕ → List Part → ℕ
cursor_after at [] = at
cursor_after at (p ∷ ps) = cursor_after p.next ps

pub cursor_last : (at : ℕ) (found : List Part) (p : Part) → cursor_after at (found ++ (p ∷ [])) ≡ p.next
cursor_last at [] p = refl
cursor_last at (x ∷ found) p = cursor_last x.next found p

pub padded_next : (at : ℕ) (found : List Part) (p : Part) → padded_from at (found ++ (p ∷ [])) ≡ padded_from at found + padded_at (cursor_after at found) p
padded_next at [] p = omega arith
padded_next at (x ∷ found) p = omega (arith, padded_next x.next found p)

pub padded_one : (at : ℕ) (p : Part) → padded_at at p ≤ 1
padded_one at p = by_cond (λ (n : ℕ). n ≤ 1) (is_padded p.length (p.start - at)) 1 0 (λ t. omega arith) (λ t. omega arith)

pub padded_few : (at : ℕ) (ps : List Part) → padded_from at ps ≤ length ps
padded_few at [] = omega arith
padded_few at (p ∷ ps) = omega (arith, padded_one at p, padded_few p.next ps)

-- ---- of a payload

in_order_few : (at end : ℕ) (ps : List Part) → at ≤ end → InOrder at end ps → at + length ps ≤ end
in_order_few at end [] h i = omega arith
in_order_few at end (p ∷ ps) h i = omega (arith, i.0, in_order_few p.next end ps i.0.within i.1)

pub elements_few : (payload : List ℕ) (ps : List Part) → payload_elements payload ≡ given ps → length ps ≤ payload_limit
elements_few payload [] e = omega arith
elements_few payload (p ∷ ps) e =
    let c = checked payload (p ∷ ps) e in
    let i = in_order_lem payload (p ∷ ps) c.1 in
    omega (arith, c.0, i.0, in_order_few p.next (length payload) ps i.0.within i.1)

pub padded_most : (payload : List ℕ) → padded_lengths payload ≤ payload_limit
padded_most payload = go (payload_elements payload) refl
  where
    go : (x : Answer (List Part)) → payload_elements payload ≡ x → padded_by x ≤ payload_limit
    go (given ps) e = omega (arith, padded_few 1 ps, elements_few payload ps e)
    go (refused n at) e = omega arith
