use mathlib.Core.Path.{sym, ap, ◌∙◌}
use native.Mathlib.Omega.{arith}
use Rattle.turns.specs.declared.Subject.TheVariants as subject
use Rattle.turns.specs.declared.Word.TheVariants as word
use Rattle.turns.proofs.Turning.{said}
use Rattle.unpacking.specs.Unpack.{with_passed}
use Rattle.unpacking.specs.Steps.{fields_width, next, passed_told}
use Rattle.unpacking.proofs.Turning.{gives}
use Rattle.unpacking.proofs.passing.pass_over.Goals as goal

pub returns : goal.returns
returns c = let p = c.args.place in
    let new = next p p.state (with_passed p.losses) in
    let there = c.following.ensures ∙ ap (next p p.state) c.with_passed-lost.ensures in
    gives new there c.requires
    (said new (subject.Record p.count) (word.Refused c.number.result) (fields_width p.width) (ap (passed_told p) (sym c.number.ensures)) there c.say.ensures (omega (arith, c.requires)))
