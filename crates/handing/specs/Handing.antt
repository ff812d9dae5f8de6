-- What goes out for finished OBUs, and their padded size fields (V9, V12, F6, R18).
use Rattle.std.specs.Prelude.{ℕ, List, [], ◌∷◌, ◌++◌, length}
use Rattle.base.specs.Answers.{Answer, given, refused}
use Rattle.base.specs.Lists.{keep}
use Rattle.obu.specs.Wire.{wire, padded_size}

-- L4
abbrev pub fragment_limit : ℕ
fragment_limit = 1048576

-- the bytes of one OBU and then those of the rest; the first refusal is the answer
abbrev pub before : Answer (List ℕ) → Answer (List ℕ) → Answer (List ℕ)
before (given a) (given b) = given (a ++ b)
before (given a) (refused n at) = refused n at
before (refused n at) rest = refused n at

unfoldable pub wires : List (List ℕ) → Answer (List ℕ)
wires [] = given []
wires (o ∷ os) = before (wire o) (wires os)

-- how many of them have a padded size field
abbrev pub padded_sizes : List (List ℕ) → ℕ
padded_sizes os = length (keep padded_size os)
