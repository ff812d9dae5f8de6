-- The elements of a record, written one after the other: what the loop over them keeps. Assumes nothing.
use mathlib.Core.Path.{◌≡◌, refl, sym, ap, subst, ◌∙◌}
use Prim.Native.Nat.{ℕ, zero, suc, ◌+◌, ◌-◌, ◌≤◌, ◌<◌}
use native.Mathlib.Numerals.{sub-one}
use native.Mathlib.Omega.{arith}
use mathlib.Core.List.{List, [], ◌++◌}
use mathlib.Core.Bool.{Bool, cond}
use lib.ListN.{length, get_or, take, drop, length-append, length-drop}
use lib.Seq.{sets, length-take-le}
use lib.Dec.{eqb}
use borrow.Author.Tests.{eq-eqb, ne_eqb}
use Rattle.base.proofs.Storing.{Storing, storing_next}
use Rattle.base.proofs.Tests.{by_cond}
use Rattle.leb128.specs.Field.{encode}
use Rattle.obu.specs.Wire.{extension_bytes, payload_of, sent}
use Rattle.obu.specs.Records.{no_obu}
use Rattle.obu.specs.Laws.{Lies}
use Rattle.obu.specs.declared.Obu.{Obu}
use Rattle.obu.proofs.Theorems.{extension_length, payload_length}
use Rattle.packetizer.specs.Elements.{elements_from}
use Rattle.packetizer.specs.Call.{sizes}
use Rattle.packetizer.proofs.Turns.{size_at}
use Rattle.payloader.specs.Payload.{parts_of, fielded}

pub sent_size : (unit : List ℕ) (o : Obu) → Lies unit o → length (sent unit o) ≡ o.size
sent_size unit o l =
    omega (arith, length-append (extension_bytes o.header o.extension) (payload_of unit o), extension_length o.header o.extension, payload_length unit o l.within, l.size)

-- n bytes of what is sent of OBU i
abbrev pub part : List ℕ → List Obu → ℕ → ℕ → ℕ → List ℕ
part unit os i from n = take n (drop from (sent unit (get_or os i no_obu)))

pub part_length : (unit : List ℕ) (os : List Obu) (i from n : ℕ) → Lies unit (get_or os i no_obu) → from + n ≤ (get_or os i no_obu).size
    → length (part unit os i from n) ≡ n
part_length unit os i from n l h =
    length-take-le n (drop from (sent unit (get_or os i no_obu))) (omega (arith, length-drop from (sent unit (get_or os i no_obu)), sent_size unit (get_or os i no_obu) l))

-- what is written for so many elements, of OBU i and those after it
abbrev pub body : List ℕ → List Obu → Bool → ℕ → ℕ → ℕ → ℕ → List ℕ
body unit os flag left i from last = fielded encode flag (parts_of unit os (elements_from (sizes os) left i from last))

module _ (unit : List ℕ) (os : List Obu) (flag : Bool) (i from last : ℕ) (l : Lies unit (get_or os i no_obu)) where
  pub body_two : (m : ℕ) → from ≤ (get_or os i no_obu).size
      → body unit os flag (suc (suc m)) i from last
      ≡ (encode ((get_or os i no_obu).size - from) ++ part unit os i from ((get_or os i no_obu).size - from)) ++ body unit os flag (suc m) (i + 1) 0 last
  unfolding fielded elements_from
  body_two zero f = rw (size_at os i, part_length unit os i from ((get_or os i no_obu).size - from) l (omega arith))
  body_two (suc m) f = rw (size_at os i, part_length unit os i from ((get_or os i no_obu).size - from) l (omega arith))

  pub body_more : (left : ℕ) → 1 < left → from ≤ (get_or os i no_obu).size
      → body unit os flag left i from last
      ≡ (encode ((get_or os i no_obu).size - from) ++ part unit os i from ((get_or os i no_obu).size - from)) ++ body unit os flag (left - 1) (i + 1) 0 last
  body_more zero h f = absurd (omega arith)
  body_more (suc zero) h f = absurd (omega arith)
  body_more (suc (suc m)) h f = rw sub-one (body_two m f)

  pub body_last : (left : ℕ) → left ≡ 1 → from + last ≤ (get_or os i no_obu).size
      → body unit os flag left i from last ≡ cond flag (encode last) [] ++ part unit os i from last
  unfolding fielded elements_from
  body_last left e f = rw (e, part_length unit os i from last l f)

-- ---- what the loop keeps: which elements are left, and that they complete what is to be written

pub record Writing (unit : List ℕ) (os : List Obu) (flag : Bool) (last : ℕ) (all out₀ : List ℕ) (at : ℕ) (out : List ℕ) (i from left cursor : ℕ) : Type 0 where
  pub some : 1 ≤ left
  pub inside : i + left ≤ length os
  pub begins : from < (get_or os i no_obu).size
  pub fits : cond (eqb left 1) from 0 + last ≤ (get_or os (i + left - 1) no_obu).size
  pub room : at + length all ≤ length out₀
  pub storing : Storing out₀ at all out cursor (body unit os flag left i from last)

module _ {unit : List ℕ} {os : List Obu} {flag : Bool} {last : ℕ} {all out₀ : List ℕ} {at : ℕ} {out : List ℕ} {i from left cursor : ℕ}
    (w : Writing unit os flag last all out₀ at out i from left cursor) (l : Lies unit (get_or os i no_obu))
  where
    abbrev full : ℕ
    full = (get_or os i no_obu).size - from

    -- the next element, and what it takes
    abbrev next : List ℕ
    next = encode full ++ part unit os i from full

    abbrev rest : List ℕ
    rest = body unit os flag (left - 1) (i + 1) 0 last

    next_length : length next ≡ length (encode full) + full
    next_length =
        length-append (encode full) (part unit os i from full) ∙ ap (λ (n : ℕ). length (encode full) + n) (part_length unit os i from full l (omega (arith, w.begins)))

    next_body : 1 < left → body unit os flag left i from last ≡ next ++ rest
    next_body h = body_more unit os flag i from last l left h (omega (arith, w.begins))

    body_length : 1 < left → length (body unit os flag left i from last) ≡ length (encode full) + full + length rest
    body_length h = ap length (next_body h) ∙ length-append next rest ∙ ap (λ (n : ℕ). n + length rest) next_length

    -- there is space for it; and after it
    pub writing_room : 1 < left → (o : Obu) → o ≡ get_or os i no_obu → cursor + (length (encode (o.size - from)) + (o.size - from)) ≤ length out
    writing_room h o e = rw e (omega (arith, body_length h, w.storing.ends, w.room, w.storing.same))

    pub writing_next : 1 < left → 1 ≤ (get_or os (i + 1) no_obu).size → (o : Obu) → o ≡ get_or os i no_obu → (out' : List ℕ) (cursor' : ℕ)
        → (cursor' ≡ cursor + (length (encode (o.size - from)) + (o.size - from)))
        × (out' ≡ sets out cursor (encode (o.size - from) ++ take (o.size - from) (drop from (sent unit o))))
        → Writing unit os flag last all out₀ at out' (i + 1) 0 (left - 1) cursor'
    writing_next h p o e out' cursor' t =
        let r = rw e at t in
        let z : i + 1 + (left - 1) - 1 ≡ i + left - 1 = omega arith in
        let s : cond {A = ℕ} (eqb (left - 1) 1) 0 0 ≡ 0 = by_cond (λ (x : ℕ). x ≡ 0) (eqb (left - 1) 1) 0 0 (λ t. refl) (λ t. refl) in
        let f : cond (eqb left 1) from 0 ≡ 0 = rw (ne_eqb left 1 (omega arith)) in
        record {
          some = omega arith;
          inside = omega (arith, w.inside);
          begins = p;
          fits = rw (z, s) (rw f at w.fits);
          room = w.room;
          storing =
              storing_next next rest (subst (Storing out₀ at all out cursor) (next_body h) w.storing)
              (record { cursor = r.0 ∙ ap (λ (n : ℕ). cursor + n) (sym next_length); stored = r.1 });
        }

    -- ---- the last element

    pub last_fits : left ≡ 1 → from + last ≤ (get_or os i no_obu).size
    last_fits e = let z : i + left - 1 ≡ i = omega arith in rw z at (rw (eq-eqb left 1 e) at w.fits)

    last_body : left ≡ 1 → body unit os flag left i from last ≡ cond flag (encode last) [] ++ part unit os i from last
    last_body e = body_last unit os flag i from last l left e (last_fits e)

    pub writing_last : left ≡ 1 → (o : Obu) → o ≡ get_or os i no_obu
        → (cursor + (length (cond flag (encode last) []) + last) ≡ at + length all)
        × (sets out cursor (cond flag (encode last) [] ++ take last (drop from (sent unit o))) ≡ sets out₀ at all)
    writing_last h o e =
        let n : length (cond flag (encode last) [] ++ part unit os i from last) ≡ length (cond flag (encode last) []) + last =
        length-append (cond flag (encode last) []) (part unit os i from last) ∙ ap (λ (x : ℕ). length (cond flag (encode last) []) + x) (part_length unit os i from last l (last_fits h)) in
        rw e (
          ap (λ (x : ℕ). cursor + x) (sym n ∙ ap length (sym (last_body h))) ∙ w.storing.ends,
          ap (sets out cursor) (sym (last_body h)) ∙ w.storing.rest,
        )
