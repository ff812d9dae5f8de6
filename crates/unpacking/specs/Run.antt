-- A run of `unpack`: its steps in the loop of every program.
use Rattle.std.specs.Prelude.{ℕ, List}
use Rattle.receiver.specs.Call.{After}
use Rattle.turns.specs.Orders.{Told, Arrival}
use Rattle.turns.specs.Loop.{Output, Program, loop}
use Rattle.unpacking.specs.Steps.{starts_with, stepped}
use Rattle.unpacking.specs.declared.Place.{Place}

-- fragment store and output, which a run begins with whatever they hold
pub record Stores : Type 0 where
  pub store : List ℕ
  pub out : List ℕ

-- what a step comes to, with these
abbrev pub step_on : Place → Arrival → Stores → After (Told Place)
step_on p a s = stepped p a s.store s.out

abbrev pub unpack : Program Place Stores
unpack =
    record {
      step = λ p a s. (step_on p a s).answer;
      after = λ p a s. record { store = (step_on p a s).store; out = (step_on p a s).output };
    }

-- of so many turns at most, over a file
abbrev pub run_of : ℕ → Stores → List ℕ → Output
run_of turns s file = loop unpack turns starts_with s file
