-- Numbers put one after the other, each with its blank. Assumes nothing.
use mathlib.Core.Path.{◌≡◌, refl, sym, ap, subst, ◌∙◌}
use Prim.Native.Nat.{ℕ, ◌+◌, ◌*◌, ◌≤◌, ◌<◌}
use native.Mathlib.Numerals.{add-one}
use native.Mathlib.Omega.{arith}
use mathlib.Core.List.{List, [], ◌∷◌, ◌++◌, flat_map}
use lib.ListN.{length, get_or, take}
use lib.Seq.{take-suc}
use Rattle.base.specs.Lists.{Put}
use Rattle.base.proofs.Lists.{put_then, flat_map_append, flat_map_one}
use Rattle.turns.specs.Text.{most_digits}
use Rattle.listing.specs.Row.{column}

-- the first i numbers are put, and the cursor stands after them
pub record Columns (numbers l₀ l : List ℕ) (i at : ℕ) : Type 0 where
  pub done : i ≤ length numbers
  pub put : Put l₀ l 0 at (flat_map column (take i numbers))
  pub short : at ≤ i * (most_digits + 1)
  pub same : length l ≡ length l₀

pub no_columns : (numbers l : List ℕ) → Columns numbers l l 0 0
unfolding flat_map
no_columns numbers l = record { done = omega arith; put = record { cursor = refl; stored = refl }; short = omega arith; same = refl }

pub columns_next : {numbers l₀ l l' : List ℕ} {i at at' : ℕ} → Columns numbers l₀ l i at → i < length numbers
    → Put l l' at at' (column (get_or numbers i 0)) → at' ≤ at + most_digits + 1 → length l' ≡ length l → Columns numbers l₀ l' (i + 1) at'
columns_next {numbers} {l₀} {l} {l'} {i} {at} {at'} c more p short same =
    let text : flat_map column (take i numbers) ++ column (get_or numbers i 0) ≡ flat_map column (take (i + 1) numbers) =
    ap (λ (x : List ℕ). flat_map column (take i numbers) ++ x) (sym (flat_map_one column (get_or numbers i 0)))
    ∙ sym (flat_map_append column (take i numbers) (get_or numbers i 0 ∷ []))
    ∙ ap (flat_map column) (sym (rw add-one (take-suc numbers i 0 more))) in
    record {
      done = omega arith;
      put = subst (λ (x : List ℕ). Put l₀ l' 0 at' x) text (put_then c.put p);
      short = omega (arith, c.short);
      same = same ∙ c.same;
    }
