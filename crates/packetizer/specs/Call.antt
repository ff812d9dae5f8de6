-- The plan call: its answer, and what it leaves in the two lent lists (R1, R9, C2, C5, C6, C10).
use Rattle.std.specs.Prelude.{ℕ, ◌/◌, List, map, cond, length, ltb}
use Rattle.base.specs.Answers.{Answer, given, refused, stored, if_same}
use Rattle.base.specs.Lists.{is_front}
use Rattle.obu.specs.Unit.{obus_of, list_answer, list_after, same_list}
use Rattle.obu.specs.declared.Obu.{Obu}
use Rattle.obu.specs.declared.Listed.{Listed}
use Rattle.obu.specs.declared.compare.Kept.{Kept}
use Rattle.packetizer.specs.Plan.{plan_of}
use Rattle.packetizer.specs.Records.{plan_numbers, flat_plan}
use Rattle.packetizer.specs.declared.PacketMetadata.{PacketMetadata}
use Rattle.packetizer.specs.declared.Planned.{Planned}

-- L2
abbrev pub mtu_limit : ℕ
mtu_limit = 1048576

-- the sizes of OBUs; of a unit's kept OBUs, and its plan
abbrev pub sizes : List Obu → List ℕ
sizes os = map (λ (o : Obu). o.size) os

abbrev pub sizes_of : List ℕ → List ℕ
sizes_of unit = sizes (obus_of unit)

abbrev pub unit_plan : ℕ → List ℕ → List PacketMetadata
unit_plan mtu unit = plan_of mtu (sizes_of unit)

-- with space for so many records of the plan, by what the list call answers
abbrev pub planned : List PacketMetadata → ℕ → Answer Listed → Answer Planned
planned ps space (given l) =
    cond (ltb space (length ps)) (refused 9 0) (given (record { obus = l.obus; packets = length ps }))
planned ps space (refused n at) = refused n at

-- ---- what the call is given, and what comes of it: its answer, and the two lists afterwards

pub record Inputs : Type 0 where
  pub mtu : ℕ
  pub unit : List ℕ
  pub obus : List ℕ
  pub plan : List ℕ

pub record After : Type 0 where
  pub answer : Answer Planned
  pub obus : List ℕ
  pub plan : List ℕ

abbrev pub to_plan : ℕ → List ℕ → List ℕ → List ℕ → Inputs
to_plan mtu unit obus plan = record { mtu = mtu; unit = unit; obus = obus; plan = plan }

abbrev pub leaves : Answer Planned → List ℕ → List ℕ → After
leaves answer obus plan = record { answer = answer; obus = obus; plan = plan }

unfoldable pub plan_answer : Inputs → Answer Planned
plan_answer i =
    cond (ltb mtu_limit i.mtu)
    (refused 1 0)
    (planned (unit_plan i.mtu i.unit) (length i.plan / plan_numbers) (list_answer i.unit i.obus))

-- refusal 9 leaves the OBU list filled
abbrev pub plan_unit : Inputs → After
plan_unit i =
    record {
      answer = plan_answer i;
      obus = cond (ltb mtu_limit i.mtu) i.obus (list_after i.unit i.obus);
      plan = stored (plan_answer i) (flat_plan (unit_plan i.mtu i.unit)) i.plan;
    }

-- ---- lent lists that are to hold the records of the unit and of its plan (R31): refused as by the plan call, with space enough, and then if
-- the first of their numbers are others. What stands after the records is not looked at

-- a plan that is to hold these packets of so many OBUs
abbrev pub same_packets : List PacketMetadata → List ℕ → ℕ → Answer Planned
same_packets ps plan n = if_same (is_front (flat_plan ps) plan) (given (record { obus = n; packets = length ps }))

abbrev pub compared : List PacketMetadata → List ℕ → Answer Kept → Answer Planned
compared ps plan (given k) = same_packets ps plan k.obus
compared ps plan (refused n at) = refused n at

unfoldable pub same_plan : ℕ → List ℕ → List ℕ → List ℕ → Answer Planned
same_plan mtu unit obus plan = cond (ltb mtu_limit mtu) (refused 1 0) (compared (unit_plan mtu unit) plan (same_list unit obus))
