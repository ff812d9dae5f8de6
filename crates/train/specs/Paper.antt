-- The number and values that the rules have for each answer of the code.
use Rattle.std.specs.Prelude.{Option, Some, None, Result, Ok, Err}
use Rattle.base.specs.Refusals.{number_of}
use Rattle.base.specs.declared.Refusal.{Refusal}
use Rattle.train.specs.Train as train
use Rattle.train.specs.declared.RecordFields.{RecordFields}
use Rattle.train.specs.declared.RecordHead.{RecordHead}

abbrev pub paper_fields : Result (Option RecordFields) Refusal → train.Fields
paper_fields (Ok None) = train.over
paper_fields (Ok (Some f)) = train.before f
paper_fields (Err r) = train.bad (number_of r)

abbrev pub paper_record : Result (Option RecordHead) Refusal → train.Front
paper_record (Ok None) = train.ends
paper_record (Ok (Some h)) = train.holds h
paper_record (Err r) = train.stops (number_of r)
