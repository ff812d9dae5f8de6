-- One element at a cursor, by the tests that the code makes. Assumes nothing.
use mathlib.Core.Path.{◌≡◌, sym, ap, ap₂, ◌∙◌}
use Prim.Native.Nat.{ℕ, ◌+◌, ◌-◌, ◌≤◌, ◌<◌}
use native.Mathlib.Omega.{arith}
use mathlib.Core.List.{List}
use mathlib.Core.Bool.{Bool, true, false}
use lib.ListN.{length, take, drop, length-drop}
use borrow.Author.Tests.{eq-eqb, ne_eqb, lt-ltb, le-ltb}
use Rattle.base.specs.Answers.{given, refused}
use Rattle.base.proofs.Lists.{part_from}
use Rattle.leb128.specs.Field.{Field, sized, size_field}
use Rattle.leb128.proofs.Reading.{Sized, size_within}
use Rattle.element.specs.Elements.{counted, remaining, element_at}

-- ---- by its length field, which is read from the part of the payload from the cursor on

module _ (payload : List ℕ) (at : ℕ) where
  pub by_field_lem : (field : Bool) (f : Field) → field ≡ true → at ≤ length payload → f ≡ size_field (take (length payload - at) (drop at payload))
      → counted at (length payload - at) f ≡ element_at field at (drop at payload)
  unfolding element_at
  by_field_lem field f t h e =
      rw t
      (ap₂ (counted at) (sym (length-drop at payload)) (e ∙ ap size_field (part_from payload at h)))

  pub field_inside : (v n : ℕ) → at ≤ length payload → sized v n ≡ size_field (take (length payload - at) (drop at payload)) → n ≤ length payload - at
  field_inside v n h e =
      let w : Sized (drop at payload) (sized v n) = size_within (drop at payload) v n (e ∙ ap size_field (part_from payload at h)) in
      omega (arith, length-drop at payload)

  pub by_rest : (field : Bool) → field ≡ false → remaining at (length payload - at) ≡ element_at field at (drop at payload)
  unfolding element_at
  by_rest field t = rw t (ap (remaining at) (sym (length-drop at payload)))

module _ (at left v n : ℕ) where
  pub field_zero : v ≡ 0 → counted at left (sized v n) ≡ refused 17 at
  field_zero e = rw (eq-eqb v 0 e)

  pub field_past : (v ≡ 0 → ⊥) → left - n < v → counted at left (sized v n) ≡ refused 17 at
  field_past z h = rw (ne_eqb v 0 z, lt-ltb (left - n) v h)

  pub field_found : (v ≡ 0 → ⊥) → v ≤ left - n → counted at left (sized v n) ≡ given (record { start = at + n; length = v; next = at + n + v })
  field_found z h = rw (ne_eqb v 0 z, le-ltb (left - n) v h)

-- ---- all that is left

module _ (at left : ℕ) where
  pub rest_none : left ≡ 0 → remaining at left ≡ refused 17 at
  rest_none e = rw (eq-eqb left 0 e)

  pub rest_found : (left ≡ 0 → ⊥) → remaining at left ≡ given (record { start = at; length = left; next = at + left })
  rest_found z = rw (ne_eqb left 0 z)
