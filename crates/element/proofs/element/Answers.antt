use native.Mathlib.Omega.{arith}
use Rattle.element.proofs.Walking.{kept_in}
use Rattle.element.proofs.element.Goals as goal

pub overflow_add-result : goal.overflow_add-result
overflow_add-result c = let h = kept_in c.args.payload.now c.args.k c.in-Ok.ensures in omega arith

pub slice_bounds-result-end-2 : goal.slice_bounds-result-end-2
slice_bounds-result-end-2 c = kept_in c.args.payload.now c.args.k c.in-Ok.ensures
