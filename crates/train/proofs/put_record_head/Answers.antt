use native.Mathlib.Omega.{arith}
use Rattle.train.proofs.Fields.{writable_word}
use Rattle.train.proofs.put_record_head.Goals as goal

pub overflow_add-size : goal.overflow_add-size
overflow_add-size c = omega (arith, writable_word c.requires)
