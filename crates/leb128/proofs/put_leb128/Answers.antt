use native.Mathlib.Omega.{arith}
use Rattle.leb128.proofs.Writing.{writing_first, writing_room, writing_next, writing_last, byte7}
use Rattle.leb128.proofs.put_leb128.Goals as goal

pub loop-rest-init : goal.loop-rest-init
loop-rest-init c = writing_first _ _ _ (omega arith) c.requires

pub bounds-out-i : goal.bounds-out-i
bounds-out-i c = writing_room _ _ _ _ _ _ c.loop-rest.invariant

pub overflow_add-i : goal.overflow_add-i
overflow_add-i c = let h = writing_room _ _ _ _ _ _ c.loop-rest.invariant in omega arith

pub loop-rest-preserved : goal.loop-rest-preserved
loop-rest-preserved c = rw byte7 (writing_next _ _ _ _ _ _ c.loop-rest.invariant c.loop-rest-test.true)

pub bounds-out-i-2 : goal.bounds-out-i-2
bounds-out-i-2 c = writing_room _ _ _ _ _ _ c.loop-rest.invariant

pub overflow_add-result : goal.overflow_add-result
overflow_add-result c = let h = writing_room _ _ _ _ _ _ c.loop-rest.invariant in omega arith

pub returns : goal.returns
returns c = writing_last _ _ _ _ _ _ c.loop-rest.invariant c.loop-rest-test.false
