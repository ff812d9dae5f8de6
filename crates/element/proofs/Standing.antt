-- An element that is known to stand at a cursor, read again. Assumes nothing.
use mathlib.Core.Path.{◌≡◌, refl, sym, ap}
use Prim.Native.Nat.{ℕ, ◌+◌, ◌-◌, ◌≤◌}
use native.Mathlib.Omega.{arith}
use mathlib.Core.List.{List}
use mathlib.Core.Bool.{Bool, true, false, cond}
use lib.ListN.{length, drop, length-drop}
use lib.Dec.{eqb, ltb}
use Rattle.base.specs.Answers.{given, refused}
use Rattle.leb128.specs.Field.{Field, sized, unreadable, size_field}
use Rattle.element.specs.Elements.{counted, element_at}
use Rattle.element.specs.Laws.{Stands}
use Rattle.element.specs.declared.Part.{Part}
use Rattle.element.proofs.Laws.{part_lies}

-- by its length field
abbrev pub sized_part : ℕ → ℕ → ℕ → Part
sized_part at v n = record { start = at + n; length = v; next = at + n + v }

module _ {payload : List ℕ} {at : ℕ} (s : Stands true at payload) where
  pub stands_sized : (v n : ℕ) → sized v n ≡ size_field (drop at payload) → given (sized_part at v n) ≡ element_at true at (drop at payload)
  unfolding element_at
  stands_sized v n e = by_field_lem (size_field (drop at payload)) e s.is
    where
      go : (t u : Bool) → cond t (refused 17 at) (cond u (refused 17 at) (given (sized_part at v n))) ≡ given s.part
          → given (sized_part at v n) ≡ cond t (refused 17 at) (cond u (refused 17 at) (given (sized_part at v n)))
      go true u q = let z : ◌≡◌ {A = ℕ} 0 1 = cc in absurd (omega arith)
      go false true q = let z : ◌≡◌ {A = ℕ} 0 1 = cc in absurd (omega arith)
      go false false q = refl

      by_field_lem : (f : Field) → sized v n ≡ f → counted at (length (drop at payload)) f ≡ given s.part → given (sized_part at v n) ≡ counted at (length (drop at payload)) f
      by_field_lem f e q = rw (← e) (go (eqb v 0) (ltb (length (drop at payload) - n) v) (rw (← e) at q))

  pub stands_readable : (k : ℕ) → unreadable k ≡ size_field (drop at payload) → ⊥
  unfolding element_at
  stands_readable k e = by_field_lem (size_field (drop at payload)) e s.is
    where
      by_field_lem : (f : Field) → unreadable k ≡ f → counted at (length (drop at payload)) f ≡ given s.part → ⊥
      by_field_lem (sized v n) e q = let z : ◌≡◌ {A = ℕ} 0 1 = cc in absurd (omega arith)
      by_field_lem (unreadable i) e q = let z : ◌≡◌ {A = ℕ} 0 1 = cc in absurd (omega arith)

  pub sized_within : (v n : ℕ) → sized v n ≡ size_field (drop at payload) → at + n + v ≤ length payload
  sized_within v n e = (part_lies payload at true (sized_part at v n) s.inside (sym (stands_sized v n e))).within

-- all that is left
abbrev pub rest_part : ℕ → ℕ → ℕ → Part
rest_part at n next = record { start = at; length = n; next = next }

pub stands_rest : {payload : List ℕ} {at : ℕ} → Stands false at payload → given (rest_part at (length payload - at) (length payload)) ≡ element_at false at (drop at payload)
unfolding element_at
stands_rest {payload} {at} s =
    rw (length-drop at payload) (go (eqb (length payload - at) 0) (rw (length-drop at payload) at s.is))
  where
    go : (t : Bool) → cond t (refused 17 at) (given (rest_part at (length payload - at) (at + (length payload - at)))) ≡ given s.part
        → given (rest_part at (length payload - at) (length payload)) ≡ cond t (refused 17 at) (given (rest_part at (length payload - at) (at + (length payload - at))))
    go true q = let z : ◌≡◌ {A = ℕ} 0 1 = cc in absurd (omega arith)
    go false q = let m : length payload ≡ at + (length payload - at) = omega (arith, s.inside) in ap (λ (x : ℕ). given (rest_part at (length payload - at) x)) m
