-- A text that is stored piece by piece: what a loop over its pieces keeps. Assumes nothing.
use mathlib.Core.Path.{◌≡◌, refl, sym, ap, ◌∙◌}
use Prim.Native.Nat.{ℕ, ◌+◌}
use native.Mathlib.Omega.{arith}
use mathlib.Core.List.{List, [], ◌++◌}
use lib.ListN.{length, length-append}
use lib.Seq.{sets, length-sets}
use Rattle.base.specs.Lists.{Put}
use Rattle.base.proofs.Lists.{sets_append}

-- what is left, stored from the cursor on, makes of l what the whole text, stored from `at` on, makes of l₀
pub record Storing (l₀ : List ℕ) (at : ℕ) (text l : List ℕ) (cursor : ℕ) (left : List ℕ) : Type 0 where
  pub same : length l ≡ length l₀
  pub ends : cursor + length left ≡ at + length text
  pub rest : sets l cursor left ≡ sets l₀ at text

pub storing_first : (l : List ℕ) (at : ℕ) (text : List ℕ) → Storing l at text l at text
storing_first l at text = record { same = refl; ends = refl; rest = refl }

-- a piece is stored
pub storing_next : {l₀ l l' text : List ℕ} {at cursor cursor' : ℕ} (piece left : List ℕ)
    → Storing l₀ at text l cursor (piece ++ left) → Put l l' cursor cursor' piece → Storing l₀ at text l' cursor' left
storing_next {l = l} {cursor = cursor} piece left s p =
    record {
      same = ap length p.stored ∙ length-sets l cursor piece ∙ s.same;
      ends = omega (arith, p.cursor, length-append piece left, s.ends);
      rest = rw (p.stored, p.cursor) (sym (sets_append l cursor piece left) ∙ s.rest);
    }

-- nothing is left
pub storing_done : {l₀ l text : List ℕ} {at cursor : ℕ} → Storing l₀ at text l cursor [] → Put l₀ l at cursor text
storing_done s = record { cursor = omega (arith, s.ends); stored = s.rest }
