-- A stream: items of bytes one after the other, up to the end of the bytes or to the first that stops the reading.
use Rattle.std.specs.Prelude.{ℕ, zero, suc, ◌-◌, List, [], ◌∷◌}
use Rattle.base.specs.Answers.{Answer, given, refused}

-- what some bytes begin with: an item, how many bytes it has, and what is known before the one after it; or why the reading stops
pub data Next (A S T : Type 0) : Type 0 where
  item : A → ℕ → T → Next A S T
  halt : S → Next A S T

-- the items, and why the reading stops after them
pub record Stream (A S : Type 0) : Type 0 where
  pub items : List A
  pub stop : S

module _ {A S T : Type 0} where
  -- what comes next, and then the rest, which begins so many bytes further on
  abbrev pub chained : Next A S T → (ℕ → T → Stream A S) → Stream A S
  chained (item a n t) rest = record { items = a ∷ (rest n t).items; stop = (rest n t).stop }
  chained (halt s) rest = record { items = []; stop = s }

  -- the stream of some bytes, the first `skip` of which belong to the item before; `ended` is why it stops at their end
  unfoldable pub stream_from : (T → List ℕ → Next A S T) → S → List ℕ → ℕ → T → Stream A S
  stream_from next ended [] skip t = record { items = []; stop = ended }
  stream_from next ended (b ∷ l) (suc skip) t = stream_from next ended l skip t
  stream_from next ended (b ∷ l) zero t = chained (next t (b ∷ l)) (λ n u. stream_from next ended l (n - 1) u)

  -- of bytes that begin with an item
  abbrev pub stream_of : (T → List ℕ → Next A S T) → S → List ℕ → T → Stream A S
  stream_of next ended l t = stream_from next ended l 0 t

-- all items, of a stream that is read to its end; or why it is not
abbrev pub whole_by : {A : Type 0} → List A → Answer (Unit {0}) → Answer (List A)
whole_by items (given t) = given items
whole_by items (refused n at) = refused n at

abbrev pub whole : {A : Type 0} → Stream A (Answer (Unit {0})) → Answer (List A)
whole s = whole_by s.items s.stop
