-- The number and values that the rules have for each answer of the code.
use Rattle.std.specs.Prelude.{Result, Ok, Err}
use Rattle.base.specs.Refusals.{number_of}
use Rattle.base.specs.Answers.{Answer, given, refused}
use Rattle.base.specs.declared.Refusal.{Refusal}
use Rattle.obu.specs.Front as front
use Rattle.obu.specs.declared.Head.{Head}

abbrev pub paper_head : Head → front.Front
paper_head f =
    record {
      header = f.header;
      extension = f.extension;
      field = f.field;
      payload = f.payload;
    }

abbrev pub paper_read : Result Head Refusal → front.Seen
paper_read (Ok f) = front.found (paper_head f)
paper_read (Err r) = front.stopped (number_of r)

-- the same of an OBU of exactly these bytes
abbrev pub paper_whole : Result Head Refusal → Answer front.Front
paper_whole (Ok f) = given (paper_head f)
paper_whole (Err r) = refused (number_of r) 0
