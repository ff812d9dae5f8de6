-- What each answer of the code stands for.
use Rattle.std.specs.Prelude.{Result, Ok, Err}
use Rattle.base.specs.Refusals.{number_of}
use Rattle.receiver.specs.Call.{Taken, received_of}
use Rattle.receiver.specs.declared.Received.{Received}
use Rattle.unpacking.specs.Unpack as unpack
use Rattle.unpacking.specs.declared.records.RecordFault.{RecordFault}
use Rattle.unpacking.specs.declared.records.RecordFault.TheVariants as fault

abbrev pub paper_step : Result Received RecordFault → unpack.Step Received
paper_step (Ok r) = unpack.takes r
paper_step (Err (fault.PassedOver r)) = unpack.passes (number_of r)
paper_step (Err (fault.Broken r)) = unpack.breaks (number_of r)

-- a taken packet, as the receive call answers
abbrev pub answered : unpack.Step Taken → unpack.Step Received
answered (unpack.takes t) = unpack.takes (received_of t)
answered (unpack.passes n) = unpack.passes n
answered (unpack.breaks n) = unpack.breaks n
