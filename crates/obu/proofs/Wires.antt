-- An OBU of exactly these bytes, and what goes out for it. Assumes nothing.
use mathlib.Core.Path.{◌≡◌}
use Prim.Native.Nat.{ℕ, ◌+◌, ◌≤◌}
use native.Mathlib.Numerals.{add-one}
use native.Mathlib.Omega.{arith}
use mathlib.Core.List.{List, [], ◌∷◌}
use lib.ListN.{length, set}
use lib.Seq.{sets-eq}
use borrow.Author.Tests.{eq-eqb, ne_eqb}
use Rattle.base.specs.Answers.{given, refused}
use Rattle.base.specs.Lists.{replaced}
use Rattle.obu.specs.Header.{extension_bit, header_length, marked}
use Rattle.obu.specs.Front.{Front, span_of, found, stopped, front_of}
use Rattle.obu.specs.Wire.{extension_bytes, whole_of}

module _ (all : List ℕ) where
  pub whole_found : (f : Front) → found f ≡ front_of all → span_of f ≡ length all → given f ≡ whole_of all
  unfolding whole_of
  whole_found f e s = rw (← e, eq-eqb (span_of f) (length all) s)

  pub whole_short : (f : Front) → found f ≡ front_of all → (span_of f ≡ length all → ⊥) → refused 18 0 ≡ whole_of all
  unfolding whole_of
  whole_short f e s = rw (← e, ne_eqb (span_of f) (length all) s)

  pub whole_stopped : (n : ℕ) → stopped n ≡ front_of all → refused 18 0 ≡ whole_of all
  unfolding whole_of
  whole_stopped n e = rw (← e)

-- ---- the header bytes of what goes out

module _ (l : List ℕ) (at h e v : ℕ) (m : v ≡ marked h) (room : at + header_length h ≤ length l) where
  pub header_two : extension_bit h ≡ 1 → set (set l at v) (at + 1) e ≡ replaced l at (marked h ∷ extension_bytes h e)
  header_two x = rw (m, add-one at, eq-eqb (extension_bit h) 1 x) (sets-eq (marked h ∷ e ∷ []) l at (omega arith))

  pub header_one : extension_bit h ≡ 0 → set l at v ≡ replaced l at (marked h ∷ extension_bytes h e)
  header_one x = rw (m, ne_eqb (extension_bit h) 1 (λ y. omega arith)) (sets-eq (marked h ∷ []) l at (omega arith))
