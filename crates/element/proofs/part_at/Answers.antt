use mathlib.Core.Path.{◌≡◌, sym, ap, subst, ◌∙◌}
use mathlib.Core.Bool.{Bool, true}
use lib.ListN.{drop}
use borrow.Author.Rules.{rules}
use Rattle.base.proofs.Lists.{part_from}
use Rattle.leb128.specs.Field.{sized, size_field}
use Rattle.leb128.proofs.Padded.{read_says, unread_says}
use Rattle.element.specs.Elements.{element_at}
use Rattle.element.specs.Laws.{Stands}
use Rattle.element.proofs.Standing.{stands_sized, stands_readable, sized_within, stands_rest}
use Rattle.element.proofs.part_at.Goals as goal

pub overflow_add-start : goal.overflow_add-start
overflow_add-start c =
    let stands : Stands true c.args.at c.args.payload.now = subst (λ (t : Bool). Stands t c.args.at c.args.payload.now) c.if-field.true c.requires in
    let read : let a = c.args in let f = c.in-Ok.size in sized f.value f.used ≡ size_field (drop a.at a.payload.now) = read_says _ c.in-Ok.ensures ∙ ap size_field (part_from c.args.payload.now c.args.at c.requires.inside) in
    let h = sized_within (stands) _ _ (read) in search rules

pub overflow_add-result : goal.overflow_add-result
overflow_add-result c =
    let stands : Stands true c.args.at c.args.payload.now = subst (λ (t : Bool). Stands t c.args.at c.args.payload.now) c.if-field.true c.requires in
    let read : let a = c.args in let f = c.in-Ok.size in sized f.value f.used ≡ size_field (drop a.at a.payload.now) = read_says _ c.in-Ok.ensures ∙ ap size_field (part_from c.args.payload.now c.args.at c.requires.inside) in
    let h = sized_within (stands) _ _ (read) in search rules

pub returns-then-field : goal.returns-then-field
returns-then-field c =
    let stands : Stands true c.args.at c.args.payload.now = subst (λ (t : Bool). Stands t c.args.at c.args.payload.now) c.if-field.true c.requires in
    let read : let a = c.args in let f = c.in-Ok.size in sized f.value f.used ≡ size_field (drop a.at a.payload.now) = read_says _ c.in-Ok.ensures ∙ ap size_field (part_from c.args.payload.now c.args.at c.requires.inside) in
    stands_sized (stands) _ _ (read) ∙ ap (λ (b : Bool). element_at b c.args.at (drop c.args.at c.args.payload.now)) (sym c.if-field.true)

pub returns-in_default : goal.returns-in_default
returns-in_default c =
    let stands : Stands true c.args.at c.args.payload.now = subst (λ (t : Bool). Stands t c.args.at c.args.payload.now) c.if-field.true c.requires in
    absurd (stands_readable (stands) _ (unread_says _ c.in_default.ensures ∙ ap size_field (part_from c.args.payload.now c.args.at c.requires.inside)))

pub returns : goal.returns
returns c = let l = c.args.payload.now in
    stands_rest (subst (λ (t : Bool). Stands t c.args.at l) c.if-field.false c.requires)
    ∙ ap (λ (t : Bool). element_at t c.args.at (drop c.args.at l)) (sym c.if-field.false)
