use Rattle.unpacking.proofs.Turning.{written_before}
use Rattle.unpacking.proofs.written_subject.Goals as goal

pub returns-else-k-eq0 : goal.returns-else-k-eq0
returns-else-k-eq0 c = written_before c.args.k c.if-k-eq0.false
