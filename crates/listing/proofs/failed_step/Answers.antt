use Rattle.turns.specs.Text.{line_bytes}
use Rattle.listing.specs.Input.{unit_store}
use Rattle.listing.proofs.failed_step.Goals as goal

pub returns : goal.returns
returns c = rw c.awaiting.ensures at (c.saying.ensures unit_store line_bytes)
