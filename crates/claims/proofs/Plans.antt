-- The plan.
use Rattle.packetizer.proofs.Fragments as fragments
use Rattle.packetizer.proofs.Leading as leading
use Rattle.packetizer.proofs.Laws as laws
use Rattle.packetizer.proofs.Pieces as pieces
use Rattle.packetizer.proofs.Starts as starts
use Rattle.packetizer.proofs.Totals as totals
use Rattle.packetizer.proofs.UnitLaws as units
use Rattle.claims.specs.Plans.{LargestIs, TakenOutOne, UnitPositive, PlanRuns, PlanSound, PlanInner, PlanShort, PlanAbuts, PlanStarts, PlanBytes, UnitJoined}

pub largest_is : LargestIs
largest_is = fragments.largest_is

pub taken_out_one : TakenOutOne
taken_out_one = leading.taken_out_one

pub unit_positive : UnitPositive
unit_positive = units.unit_positive

pub plan_runs : PlanRuns
plan_runs = laws.plan_runs

pub plan_sound : PlanSound
plan_sound = laws.plan_sound

pub plan_inner : PlanInner
plan_inner = pieces.plan_inner

pub plan_short : PlanShort
plan_short = totals.plan_short

pub plan_abuts : PlanAbuts
plan_abuts = starts.plan_abuts

pub plan_starts : PlanStarts
plan_starts = starts.plan_starts

pub plan_bytes : PlanBytes
plan_bytes = totals.plan_bytes

pub unit_joined : UnitJoined
unit_joined = units.unit_joined
