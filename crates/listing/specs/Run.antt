-- A run of `planlist`: its steps in the loop of every program.
use Rattle.std.specs.Prelude.{ℕ, List}
use Rattle.turns.specs.Loop.{Output, Program, loop}
use Rattle.listing.specs.Steps.{starts_with, told, unit_next}
use Rattle.listing.specs.declared.Place.{Place}

-- with the unit store
abbrev pub planlist : Program Place (List ℕ)
planlist = record { step = told; after = unit_next }

-- of so many turns at most, over a file
abbrev pub run_of : ℕ → List ℕ → List ℕ → Output
run_of turns unit file = loop planlist turns starts_with unit file
