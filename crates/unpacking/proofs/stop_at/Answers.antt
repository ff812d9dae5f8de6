use mathlib.Core.Path.{sym, ap}
use Rattle.unpacking.specs.Steps.{broken_told}
use Rattle.unpacking.proofs.Turning.{gives_as}
use Rattle.unpacking.proofs.stop_at.Goals as goal

pub returns : goal.returns
returns c = gives_as (ap (broken_told c.args.place) (sym c.number.ensures)) c.say.ensures
