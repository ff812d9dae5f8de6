-- The steps of `padded`: those of `pack`, but that the line of a unit is written in place of its packets, and nothing else is (G17).
use Rattle.std.specs.Prelude.{◌≡◌, ℕ, ◌≤◌, List, [], length, take}
use Rattle.base.specs.Lists.{front}
use Rattle.turns.specs.Orders.{Told, Arrival}
use Rattle.turns.specs.declared.Turn.{Turn}
use Rattle.packing.specs.Steps as packing
use Rattle.packing.specs.Steps.{record_room, awaits}
use Rattle.packing.specs.declared.unit.Progress.{Progress}
use Rattle.packing.specs.declared.Wait.{Wait}
use Rattle.packing.specs.declared.Wait.TheVariants as wait
use Rattle.packing.specs.declared.Place.{Place}
use Rattle.padding.specs.Padded.{padded_in, line_of}

-- all packets of a unit count as written
abbrev pub passed : Progress → Progress
passed g = record { unit = g.unit; obus = g.obus; packets = g.packets; packet = g.packets }

-- where `pack` then waits for this, what `padded` waits for; and what is written: the line of unit k where its packets are next
abbrev pub wait_for : Wait → Wait
wait_for wait.Version = wait.Version
wait_for (wait.Head v) = wait.Head v
wait_for wait.Length = wait.Length
wait_for (wait.Unit s) = wait.Unit s
wait_for (wait.Packets g) = wait.Packets (passed g)
wait_for wait.Nothing = wait.Nothing

abbrev pub text_for : Wait → ℕ → List ℕ → List ℕ
text_for wait.Version k input = []
text_for (wait.Head v) k input = []
text_for wait.Length k input = []
text_for (wait.Unit s) k input = []
text_for (wait.Packets g) k input = line_of k (padded_in (take g.unit input))
text_for wait.Nothing k input = []

-- what is told in place of what `pack` is told: but for these two it is the same
abbrev pub place_for : Place → Place
place_for p = awaits p (wait_for p.wait)

abbrev pub written : Place → List ℕ → List ℕ
written p input = text_for p.wait p.count input

abbrev pub told_for : Told Place → List ℕ → Told Place
told_for t input = record { place = place_for t.place; more = t.more; written = written t.place input; said = t.said; read = t.read }

-- where the input's store holds this, what arrived first
abbrev pub told : Place → Arrival → List ℕ → Told Place
told p a input = told_for (packing.told p a input) input

-- the output's store then: what `pack` writes, and over it the line
abbrev pub out_after : Place → Arrival → List ℕ → List ℕ → List ℕ
out_after p a input out = front (told p a input).written (front (packing.told p a input).written out)

-- in place of a turn of `pack`, with the bytes to be written first in the output
pub record Instead (before turn : Turn Place) (input out out' : List ℕ) : Type 0 where
  pub place_is : turn.place ≡ place_for before.place
  pub order_is : turn.order ≡ record { more = before.order.more; write = length (written before.place input); say = before.order.say; read = before.order.read }
  pub stored : out' ≡ front (written before.place input) out
  pub fits : length (written before.place input) ≤ record_room
