use Rattle.leb128.proofs.+read_tail.Given as goal

abbrev pub decreases-read_tail : goal.decreases-read_tail
decreases-read_tail l = l.left
