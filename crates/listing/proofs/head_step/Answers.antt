use Rattle.std.proofs.Common.{[], refl, sym, ap}
use Rattle.listing.specs.Input.{states}
use Rattle.listing.specs.Steps.{head_told}
use Rattle.listing.proofs.Inputs.{head_fits}
use Rattle.listing.proofs.Turning.{no_text, wrote}
use Rattle.listing.proofs.head_step.Goals as goal

pub returns : goal.returns
returns c = let p = c.args.place in
    let s = c.in-Some.stated in
    let e = rw c.in-Some.is at c.read_head.ensures in
    wrote (head_told p (states s)).place [] 0 s.length (ap (head_told p) (sym e)) refl c.ask.ensures no_text (head_fits c.args.got.now s e)
