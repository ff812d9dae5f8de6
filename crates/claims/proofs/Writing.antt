-- Planning apart from writing.
use Rattle.packetizer.proofs.Same as same
use Rattle.packetizer.proofs.Accepted as accepted
use Rattle.payload_laws.specs.Singly.{SingleWritten, OneByOne, RunWritten, WholeWritten, WholeAnswered, WriteRefusals, RefusalKeeps}
use Rattle.payload_laws.proofs.Singly as singly
use Rattle.claims.specs.Writing.{TakenBegin, BeginTaken}

-- R31: which lists are taken
pub taken_begin : TakenBegin
taken_begin mtu unit obus plan p e = let s = same.same_means e in record { obus_are = s.obus_same; plan_is = s.plan_same }

pub begin_taken : BeginTaken
begin_taken mtu unit lent room p e obus plan b = accepted.begin_taken mtu unit lent room p e obus plan b.obus_are b.plan_is

-- what the writing calls write, and that it is what one call for the whole unit would write
pub single_written : SingleWritten
single_written = singly.single_written

pub one_by_one : OneByOne
one_by_one = singly.one_by_one

pub run_written : RunWritten
run_written = singly.run_written

pub whole_written : WholeWritten
whole_written = singly.whole_written

pub whole_answered : WholeAnswered
whole_answered = singly.whole_answered

-- what they refuse
pub write_refusals : WriteRefusals
write_refusals = singly.write_refusals

pub refusal_keeps : RefusalKeeps
refusal_keeps = singly.refusal_keeps
