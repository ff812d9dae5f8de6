use mathlib.Core.Path.{◌≡◌, refl, sym, ap, ◌∙◌}
use Prim.Native.Nat.{ℕ, ◌≤◌}
use native.Mathlib.Omega.{arith}
use mathlib.Core.List.{[]}
use Rattle.train.specs.Train.{long_head, head_of}
use Rattle.train.specs.declared.TrainHead.{TrainHead}
use Rattle.train.proofs.Reading.{head_width_lem, counted_within}
use Rattle.base.specs.Answers.{given, paper}
use Rattle.turns.specs.Orders.{says}
use Rattle.turns.specs.declared.Subject.TheVariants as subject
use Rattle.turns.specs.declared.Word.TheVariants as word
use Rattle.turns.proofs.Turning.{asked}
use Rattle.unpacking.specs.declared.Wait.TheVariants as wait
use Rattle.unpacking.specs.Steps.{fields_width, awaits, first, version_told}
use Rattle.unpacking.proofs.Turning.{gives, gives_as}
use Rattle.unpacking.proofs.version_step.Goals as goal

pub overflow_add-head : goal.overflow_add-head
overflow_add-head c =
    let head_at : TrainHead = c.in-Ok.head in
    let known : given (head_at) ≡ head_of c.args.got.now = sym (ap paper c.in-Ok.is) ∙ c.read_head.ensures in
    let narrow : (head_at).width ≤ long_head.width = omega (arith, head_width_lem c.args.got.now (known), counted_within (head_at).width) in
    omega (arith, narrow)

pub returns-in-Ok : goal.returns-in-Ok
returns-in-Ok c =
    let head_at : TrainHead = c.in-Ok.head in
    let known : given (head_at) ≡ head_of c.args.got.now = sym (ap paper c.in-Ok.is) ∙ c.read_head.ensures in
    let narrow : (head_at).width ≤ long_head.width = omega (arith, head_width_lem c.args.got.now (known), counted_within (head_at).width) in
    let place = c.args.place in
    let w = (head_at).width in
    let p = first place w in
    let there = c.beginning.ensures in
    gives p there (narrow)
    (asked p [] 0 (fields_width w) (ap (version_told place) (sym (known))) there c.ask.ensures refl (omega arith) (omega (arith, narrow)))

pub returns-in-Err : goal.returns-in-Err
returns-in-Err c = let p = c.args.place in
    let e = sym c.read_head.ensures ∙ ap paper c.in-Err.is in
    gives_as
    (ap (version_told p) e ∙ ap (λ (c : ℕ). says (awaits p wait.Close) subject.Train (word.Refused c) 0) (sym c.number.ensures))
    c.say.ensures
