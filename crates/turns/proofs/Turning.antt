-- A step tells what its definition has, and its order can be carried out. Assumes nothing.
use Rattle.std.proofs.Common.{◌≡◌, ℕ, ◌≤◌, true, false, List, length, sym, refl, ap, ◌∙◌, arith}
use Rattle.base.specs.Lists.{front}
use Rattle.turns.specs.Text.{line_bytes, line_text}
use Rattle.turns.specs.Orders.{Told, ends, asks, says, order_of, Tells, Turned}
use Rattle.turns.specs.declared.Order.{Order}
use Rattle.turns.specs.declared.Subject.{Subject}
use Rattle.turns.specs.declared.Word.{Word}
use Rattle.turns.proofs.Lines.{line_short}

module _ {Place : Type 0} {t : Told Place} {place : Place} {order : Order} {line line' : List ℕ} {input out : ℕ} where
  -- by the case that it is
  pub turned : (u : Told Place) → t ≡ u → place ≡ u.place → order ≡ order_of u → line' ≡ front u.said line
      → u.read ≤ input → length u.written ≤ out → length u.said ≤ line_bytes → Turned t place order line line' input out
  turned u e p o l r w s =
      let tells : Tells t place order line line' = record {
        place_is = p ∙ ap (λ (x : Told Place). x.place) (sym e);
        order_is = o ∙ ap order_of (sym e);
        line_is = l ∙ ap (λ (x : Told Place). front x.said line) (sym e);
      } in
      (tells, rw o (record { read = r; write = w; say = s }))

  -- a line is said
  pub said : (p : Place) (s : Subject) (w : Word) (r : ℕ) → t ≡ says p s w r → place ≡ p
      → (order ≡ record { more = true; write = 0; say = length (line_text s w); read = r }) × (line' ≡ front (line_text s w) line)
      → r ≤ input → Turned t place order line line' input out
  said p s w r e f g h = turned (says p s w r) e f g.0 g.1 h (omega arith) (line_short s w)

-- nothing is said
module _ {Place : Type 0} {t : Told Place} {place : Place} {order : Order} {line : List ℕ} {input out : ℕ} where
  -- the run is over
  pub ended : (p : Place) → t ≡ ends p → place ≡ p → order ≡ record { more = false; write = 0; say = 0; read = 0 }
      → Turned t place order line line input out
  ended p e f g = turned (ends p) e f g refl (omega arith) (omega arith) (omega arith)

  -- bytes are written, or none, and bytes are asked for, or none
  pub asked : (p : Place) (w : List ℕ) (n r : ℕ) → t ≡ asks p w r → place ≡ p → order ≡ record { more = true; write = n; say = 0; read = r }
      → n ≡ length w → n ≤ out → r ≤ input → Turned t place order line line input out
  asked p w n r e f g k h i =
      turned (asks p w r) e f (g ∙ ap (λ (m : ℕ). record { more = true; write = m; say = 0; read = r }) k) refl i (omega arith) (omega arith)
