-- What each answer of the code stands for.
use Rattle.std.specs.Prelude.{ℕ, Option, Some, None, Result, Ok, Err}
use Rattle.base.specs.Refusals.{number_of}
use Rattle.packetizer.specs.declared.Planned.{Planned}
use Rattle.packing.specs.Pack as pack
use Rattle.packing.specs.declared.input.Cut.{Cut}
use Rattle.packing.specs.declared.input.InputVersion.{InputVersion}
use Rattle.packing.specs.declared.input.PackHead.{PackHead}
use Rattle.packing.specs.declared.unit.UnitFault.{UnitFault}
use Rattle.packing.specs.declared.unit.UnitFault.TheVariants as fault

abbrev pub paper_version : Option InputVersion → pack.Version
paper_version (Some v) = pack.known v
paper_version None = pack.other

abbrev pub paper_head : Option PackHead → pack.Head
paper_head (Some h) = pack.found h
paper_head None = pack.none

abbrev pub paper_length : Result (Option ℕ) Cut → pack.Length
paper_length (Ok None) = pack.over
paper_length (Ok (Some n)) = pack.stated n
paper_length (Err cut) = pack.cut

abbrev pub paper_unit : Result Planned UnitFault → pack.Unit'
paper_unit (Ok p) = pack.packed p
paper_unit (Err (fault.Refused r)) = pack.refused_by (number_of r)
paper_unit (Err fault.Cut) = pack.cut_short
