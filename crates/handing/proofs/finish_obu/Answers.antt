use mathlib.Core.Path.{◌≡◌, sym, ap, ap₂, subst, ◌∙◌}
use Prim.Native.Nat.{ℕ}
use native.Mathlib.Omega.{arith}
use mathlib.Core.List.{List}
use mathlib.Core.Bool.{true, false, cond}
use borrow.Author.Rules.{rules}
use lib.ListN.{length, length-append}
use lib.Dec.{ltb}
use Rattle.base.proofs.Tests.{as_number}
use Rattle.obu.specs.Header.{type_of, drops}
use Rattle.obu.specs.Front.{Front}
use Rattle.obu.specs.Paper.{paper_head}
use Rattle.handing.specs.Inside.{RoomAt}
use Rattle.handing.specs.Paper.{all_of}
use Rattle.handing.proofs.Framing.{out_length, field_most, whole_spans, wire_dropped, wire_kept, wire_broken, size_padded, finished_none, finished_bad, finished_some}
use Rattle.handing.proofs.finish_obu.Goals as goal

pub returns-in_err-head : goal.returns-in_err-head
returns-in_err-head g c =
    let a = c.args in
    let h = finished_bad _ a.out.now a.at g.O.Output.written (wire_broken (all_of a.o) _ _ c.in_err-head.ensures) in
    (search rules, h.1)

pub overflow_cast-head : goal.overflow_cast-head
overflow_cast-head g c =
    let o = c.args.o in
    let n = whole_spans (all_of o) _ c.in_ok-head.ensures in
    omega (arith, length-append o.stored.now o.element.now)

pub returns-then-should_ignore_obu_type : goal.returns-then-should_ignore_obu_type
returns-then-should_ignore_obu_type g c =
    let a = c.args in
    let o : List ℕ = all_of a.o in
    let f : Front = paper_head c.in_ok-head.head in
    let dropped : drops (type_of f.header) ≡ true = sym (c.should_ignore_obu_type.ensures ∙ ap drops c.obu_type.ensures) ∙ c.if-should_ignore_obu_type.true in
    finished_none _ a.out.now a.at g.O.Output.written (wire_dropped o f c.in_ok-head.ensures dropped) (size_padded o f c.in_ok-head.ensures (c.from-padded.ensures ∙ as_number _ ∙ ap (λ (m : ℕ). cond (ltb m f.field) 1 0) c.leb128_size-field.ensures))

pub put-requires-clause-spans : goal.put-requires-clause-spans
put-requires-clause-spans g c = whole_spans (all_of c.args.o) _ c.in_ok-head.ensures

pub put-requires-clause-fits : goal.put-requires-clause-fits
put-requires-clause-fits g c = λ t.
    let a = c.args in
    let o : List ℕ = all_of a.o in
    let f : Front = paper_head c.in_ok-head.head in
    let kept : drops (type_of f.header) ≡ false = sym (c.should_ignore_obu_type.ensures ∙ ap drops c.obu_type.ensures) ∙ c.if-should_ignore_obu_type.false in
    subst (RoomAt (length a.out.now) a.at) (wire_kept o f c.in_ok-head.ensures kept) (c.requires t)

pub overflow_add-bytes : goal.overflow_add-bytes
overflow_add-bytes g c =
    let o = c.args.o in
    let n = whole_spans (all_of o) _ c.in_ok-head.ensures in
    let m = length-append o.stored.now o.element.now in
    omega (arith, c.header_size.ensures, c.leb128_size-field.ensures, field_most c.in_ok-head.head.payload (omega arith))

pub overflow_add-bytes-2 : goal.overflow_add-bytes-2
overflow_add-bytes-2 g c =
    let o = c.args.o in
    let n = whole_spans (all_of o) _ c.in_ok-head.ensures in
    let m = length-append o.stored.now o.element.now in
    omega (arith, c.header_size.ensures, c.leb128_size-field.ensures, field_most c.in_ok-head.head.payload (omega arith))

pub returns : goal.returns
returns g c =
    let a = c.args in
    let o : List ℕ = all_of a.o in
    let f : Front = paper_head c.in_ok-head.head in
    let kept : drops (type_of f.header) ≡ false = sym (c.should_ignore_obu_type.ensures ∙ ap drops c.obu_type.ensures) ∙ c.if-should_ignore_obu_type.false in
    finished_some _ a.out.now a.at g.O.Output.written (wire_kept o f c.in_ok-head.ensures kept)
    (ap₂ (λ (n m : ℕ). record { bytes = n; padded = m })
    (omega (arith, out_length o f (whole_spans o f c.in_ok-head.ensures), c.header_size.ensures, c.leb128_size-field.ensures))
    (size_padded o f c.in_ok-head.ensures (c.from-padded.ensures ∙ as_number _ ∙ ap (λ (m : ℕ). cond (ltb m f.field) 1 0) c.leb128_size-field.ensures)))
    c.put.ensures
