-- Planning apart from writing (R31).
use Rattle.std.specs.Prelude.{◌≡◌, ℕ, ◌*◌, List, take}
use Rattle.base.specs.Answers.{given}
use Rattle.obu.specs.Unit.{obus_of}
use Rattle.obu.specs.Records.{obu_numbers, flat}
use Rattle.packetizer.specs.Call.{unit_plan, to_plan, plan_answer, same_plan}
use Rattle.packetizer.specs.Records.{plan_numbers, flat_plan}
use Rattle.packetizer.specs.declared.Planned.{Planned}

-- the first whole records of two lists, as many as p says, are those of the unit and of its plan
pub record Begin (mtu : ℕ) (unit obus plan : List ℕ) (p : Planned) : Type 0 where
  pub obus_are : take (p.obus * obu_numbers) obus ≡ flat (obus_of unit)
  pub plan_is : take (p.packets * plan_numbers) plan ≡ flat_plan (unit_plan mtu unit)

-- lists that are taken begin so
abbrev pub TakenBegin : Type 0
TakenBegin = (mtu : ℕ) (unit obus plan : List ℕ) (p : Planned) → given p ≡ same_plan mtu unit obus plan → Begin mtu unit obus plan p

-- and lists that begin so are taken, if the plan call plans the unit, with whatever lists
abbrev pub BeginTaken : Type 0
BeginTaken =
    (mtu : ℕ) (unit lent room : List ℕ) (p : Planned) → given p ≡ plan_answer (to_plan mtu unit lent room)
    → (obus plan : List ℕ) → Begin mtu unit obus plan p → given p ≡ same_plan mtu unit obus plan
