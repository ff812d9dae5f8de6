-- `padded` as a function on bytes: from an input of `pack` to a line for each unit that is packed (G17). It says what `pack` says.
use Rattle.std.specs.Prelude.{ℕ, List, [], ◌∷◌, ◌++◌}
use Rattle.base.specs.Words.{ascii}
use Rattle.obu.specs.Unit.{listed_of}
use Rattle.turns.specs.Text.{decimal, labelled}
use Rattle.turns.specs.Orders.{next_count}
use Rattle.packing.specs.Pack.{units_in}

-- how many size fields of a unit are padded (F6)
abbrev pub padded_in : List ℕ → ℕ
padded_in unit = (listed_of unit).padded

-- `0 2` and a newline: which unit it is, and how many
unfoldable pub line_of : ℕ → ℕ → List ℕ
line_of k padded = decimal k ++ (labelled (ascii " ") padded ++ ascii "\n")

-- the lines of units, from unit k on
unfoldable pub lines_from : ℕ → List (List ℕ) → List ℕ
lines_from k [] = []
lines_from k (unit ∷ units) = line_of k (padded_in unit) ++ lines_from (next_count k) units

-- all on standard output
abbrev pub padded_of : List ℕ → List ℕ
padded_of input = lines_from 0 (units_in input).items
