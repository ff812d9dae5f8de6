-- A run of `padded`: its steps in the loop of every program, from where `pack` begins.
use Rattle.std.specs.Prelude.{ℕ, List}
use Rattle.turns.specs.Loop.{Output, Program, loop}
use Rattle.packing.specs.Steps.{starts_with}
use Rattle.packing.specs.Run.{input_after}
use Rattle.packing.specs.declared.Place.{Place}
use Rattle.padding.specs.Steps.{told}

abbrev pub padded : Program Place (List ℕ)
padded = record { step = λ p a s. told p a (input_after a s); after = λ p a s. input_after a s }

-- of so many turns at most, over an input, whatever the store holds
abbrev pub run_of : ℕ → List ℕ → List ℕ → Output
run_of turns s input = loop padded turns starts_with s input
