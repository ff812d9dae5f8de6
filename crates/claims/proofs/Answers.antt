-- Answers: number and values tell the cases of each apart.
use Rattle.std.specs.Prelude.{ℕ}
use Rattle.base.specs.Answers.{paper, paper_at}
use Rattle.base.specs.Refusals.{number_of}
use Rattle.leb128.specs.declared.SizeField.{SizeField}
use Rattle.obu.specs.Paper as obu
use Rattle.obu.specs.declared.Listed.{Listed}
use Rattle.obu.specs.declared.compare.Kept.{Kept}
use Rattle.packetizer.specs.declared.Planned.{Planned}
use Rattle.payloader.specs.declared.Written.{Written}
use Rattle.element.specs.declared.Part.{Part}
use Rattle.element.specs.declared.Walked.{Walked}
use Rattle.handing.specs.declared.Handed.{Handed}
use Rattle.receiver.specs.declared.Received.{Received}
use Rattle.train.specs.Paper as train
use Rattle.train.specs.declared.TrainHead.{TrainHead}
use Rattle.base.proofs.Refusals as base
use Rattle.settled.proofs.Answers as answers
use Rattle.claims.specs.Answers.{TellsApart}

pub refusal : TellsApart number_of
refusal = base.number_one

pub size_read : TellsApart (paper {A = SizeField})
size_read = answers.answer_one

pub obu_read : TellsApart obu.paper_read
obu_read = answers.read_one

pub whole_obu_lem : TellsApart obu.paper_whole
whole_obu_lem = answers.whole_one

pub obu_list : TellsApart (paper_at {A = Listed})
obu_list = answers.placed_one

pub same_list_lem : TellsApart (paper_at {A = Kept})
same_list_lem = answers.placed_one

pub plan_answer_lem : TellsApart (paper_at {A = Planned})
plan_answer_lem = answers.placed_one

pub header_answer : TellsApart (paper {A = ℕ})
header_answer = answers.answer_one

pub write_answer : TellsApart (paper_at {A = Written})
write_answer = answers.placed_one

pub element_read : TellsApart (paper_at {A = Part})
element_read = answers.placed_one

pub walk : TellsApart (paper_at {A = Walked})
walk = answers.placed_one

pub handed_out_lem : TellsApart (paper {A = Handed})
handed_out_lem = answers.answer_one

pub receipt : TellsApart (paper {A = Received})
receipt = answers.answer_one

pub head_read : TellsApart (paper {A = TrainHead})
head_read = answers.answer_one

pub fields_read : TellsApart train.paper_fields
fields_read = answers.fields_one

pub record_read : TellsApart train.paper_record
record_read = answers.found_one
