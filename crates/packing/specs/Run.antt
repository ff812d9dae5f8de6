-- A run of `pack`: its steps in the loop of every program.
use Rattle.std.specs.Prelude.{ℕ, List}
use Rattle.base.specs.Lists.{front}
use Rattle.turns.specs.Orders.{Arrival, bytes, read_failed, write_failed}
use Rattle.turns.specs.Loop.{Output, Program, loop}
use Rattle.packing.specs.Steps.{starts_with, told}
use Rattle.packing.specs.declared.Place.{Place}

-- what arrives stands at the front of the input's store
abbrev pub input_after : Arrival → List ℕ → List ℕ
input_after (bytes l) input = front l input
input_after read_failed input = input
input_after write_failed input = input

abbrev pub pack : Program Place (List ℕ)
pack = record { step = λ p a s. told p a (input_after a s); after = λ p a s. input_after a s }

-- of so many turns at most, over an input, whatever the store holds
abbrev pub run_of : ℕ → List ℕ → List ℕ → Output
run_of turns s input = loop pack turns starts_with s input
