use mathlib.Core.Path.{◌≡◌, sym, ◌∙◌}
use Prim.Native.Nat.{◌-◌}
use lib.ListN.{length, take, drop}
use Rattle.leb128.specs.Field.{sized, unreadable, size_field}
use Rattle.leb128.proofs.Padded.{read_says, unread_says}
use Rattle.element.specs.Elements.{counted, element_at}
use Rattle.element.proofs.Reading.{by_field_lem, field_inside, by_rest, field_zero, field_past, field_found, rest_none, rest_found}
use Rattle.element.proofs.read_element.Goals.{then-length-eq0-via-then-length-eq0, then-length-eq0-via-else-length-eq0+then-left-size}
use Rattle.element.proofs.read_element.Goals as goal

pub returns-then-length-eq0 : goal.returns-then-length-eq0
returns-then-length-eq0 c =
    let read : let a = c.args in let s = c.in-Ok.size in sized s.value s.used ≡ size_field (take (length a.payload.now - a.at) (drop a.at a.payload.now)) = read_says _ c.in-Ok.ensures in
    let told : let a = c.args in let s = c.in-Ok.size in counted a.at (length a.payload.now - a.at) (sized s.value s.used) ≡ element_at a.field a.at (drop a.at a.payload.now) = by_field_lem _ _ _ _ c.if-not-field.false c.requires (read) in
    elim c.then-length-eq0.branch [
      | then-length-eq0-via-then-length-eq0 w ↦ sym (field_zero _ _ _ _ w.if-length-eq0.true) ∙ told
      | then-length-eq0-via-else-length-eq0+then-left-size w ↦ sym (field_past _ _ _ _ w.if-length-eq0.false w.if-left-size.true) ∙ told
    ]

pub overflow_sub-left-else-length-eq0 : goal.overflow_sub-left-else-length-eq0
overflow_sub-left-else-length-eq0 c =
    let read : let a = c.args in let s = c.in-Ok.size in sized s.value s.used ≡ size_field (take (length a.payload.now - a.at) (drop a.at a.payload.now)) = read_says _ c.in-Ok.ensures in
    field_inside c.args.payload.now _ _ _ c.requires (read)

pub returns-then-left-eq0 : goal.returns-then-left-eq0
returns-then-left-eq0 c = sym (rest_none _ _ c.if-left-eq0.true) ∙ by_rest _ _ _ c.if-not-field.true

pub returns : goal.returns
returns c =
    let read : let a = c.args in let s = c.in-Ok.size in sized s.value s.used ≡ size_field (take (length a.payload.now - a.at) (drop a.at a.payload.now)) = read_says _ c.in-Ok.ensures in
    let told : let a = c.args in let s = c.in-Ok.size in counted a.at (length a.payload.now - a.at) (sized s.value s.used) ≡ element_at a.field a.at (drop a.at a.payload.now) = by_field_lem _ _ _ _ c.if-not-field.false c.requires (read) in
    sym (field_found _ _ _ _ c.if-length-eq0.false c.if-left-size.false) ∙ told

pub returns-in_default : goal.returns-in_default
returns-in_default c = by_field_lem _ _ _ (unreadable _) c.if-not-field.false c.requires (unread_says _ c.in_default.ensures)

pub returns-then-not-field : goal.returns-then-not-field
returns-then-not-field c = sym (rest_found _ _ c.if-left-eq0.false) ∙ by_rest _ _ _ c.if-not-field.true
