use mathlib.Core.Path.{◌≡◌}
use mathlib.Core.List.{[]}
use mathlib.Core.Bool.{false}
use borrow.Author.Rules.{rules}
use Rattle.handing.specs.Inside.{handed_of}
use Rattle.handing.proofs.Turns.{handing_first, handing_end}
use Rattle.handing.proofs.FinishedObus.count.Goals as goal

pub returns-then-self : goal.returns-then-self
returns-then-self c =
    let e : c.default.result ≡ handed_of 0 [] = search rules in
    rw e (handing_end (handing_first c.args.self.finishing false []) c.args.self.finishing c.if-self.true).0
