-- Lists: what a store leaves, and what is kept of a list.
use Rattle.std.specs.Prelude.{ℕ, ◌+◌, Bool, true, false, cond, ◌&&◌, ◌≡◌, length, take, drop, eqb}
use mathlib.Core.List.{List, [], ◌∷◌, ◌++◌, flat_map}
use Rattle.std.proofs.lemmas.List.Edits.{sets}

module _ {A : Type 0} where
  -- l with the elements from place `at` on replaced by those given
  abbrev pub replaced : List A → ℕ → List A → List A
  replaced l at new = take at l ++ new ++ drop (at + length new) l

  -- the new elements first, and the rest of l as it was
  abbrev pub front : List A → List A → List A
  front new l = new ++ drop (length new) l

  -- those that pass a test, in order
  unfoldable pub keep : (A → Bool) → List A → List A
  keep test [] = []
  keep test (a ∷ l) = cond (test a) (a ∷ keep test l) (keep test l)

  -- the lists of a list, one after the other
  abbrev pub joined : List (List A) → List A
  joined ls = flat_map (λ (l : List A). l) ls

  -- each of a list is so
  abbrev pub All : (A → Type 0) → List A → Type 0
  All P [] = Unit {0}
  All P (a ∷ l) = P a × All P l

  -- the first of others
  pub record Prefix (a b : List A) : Type 0 where
    pub rest : List A
    pub is : b ≡ a ++ rest

-- whether these numbers stand first in l
unfoldable pub is_front : List ℕ → List ℕ → Bool
is_front [] l = true
is_front (a ∷ new) [] = false
is_front (a ∷ new) (b ∷ l) = eqb a b && is_front new l

-- a text is stored from the cursor `at` on, and `end` is the cursor after it
pub record Put (l l' : List ℕ) (at end : ℕ) (text : List ℕ) : Type 0 where
  pub cursor : end ≡ at + length text
  pub stored : l' ≡ sets l at text
