-- The lengths of what is lent are said one by one, so that a store of another length is refused for its own.
use Rattle.std.proofs.Common.{rules}
use Rattle.running.proofs.unpack.UnpackProgram.next.Goals as goal

pub step-self-requires : goal.step-self-requires
step-self-requires g c = record {
  input_is = search rules;
  store_is = search rules;
  out_is = search rules;
  line_is = search rules;
  came_within = search rules;
  possible = search rules;
}
