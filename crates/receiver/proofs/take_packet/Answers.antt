use Rattle.std.proofs.Common.{rules, ◌≡◌, sym, ap, ◌∙◌, arith}
use Rattle.base.specs.Answers.{Answer, refused, paper}
use Rattle.base.specs.Refusals.{number_of}
use Rattle.handing.specs.Inside.{parts_of}
use Rattle.handing.proofs.Cursors.{payload_some, payload_small, elements_some}
use Rattle.receiver.specs.Call.{inputs, leaves, received}
use Rattle.receiver.specs.declared.Received.{Received}
use Rattle.receiver.proofs.Opens.{read_count}
use Rattle.receiver.proofs.Outcomes.{long_not}
use Rattle.receiver.proofs.Takes.{kept_most, finishing, left_it, room_for, taking_broken, taking_long, taking_output, taking_all}
use Rattle.receiver.proofs.take_packet.Goals as goal

pub bounds-payload-0 : goal.bounds-payload-0
bounds-payload-0 c = payload_some c.args.payload.now (parts_of c.args.payload.now) c.requires.read.whole

pub cut-cut-requires : goal.cut-cut-requires
cut-cut-requires c = omega (arith, elements_some c.args.payload.now (parts_of c.args.payload.now) c.requires.read.whole, read_count c.requires.read)

pub invariant_of-finished : goal.invariant_of-finished
invariant_of-finished c = record { finishing = finishing c.requires c.cut-cut.ensures }

pub returns-in_err-handed : goal.returns-in_err-handed
returns-in_err-handed c =
    let a = c.args in
    let e : leaves {A = Answer Received} (refused (number_of c.in_err-handed.field-0.0) 0) a.store.now a.out.now ≡ received (inputs a.state a.number a.payload.now a.store.now a.out.now) =
    taking_broken c.requires c.cut-cut.ensures (sym (ap paper c.in_err-handed.was) ∙ c.count.ensures) in
    search rules

pub overflow_add-open : goal.overflow_add-open
overflow_add-open c =
    let l = left_it c.requires c.cut-cut.ensures in
    omega (arith, l.kept_most, l.lies, kept_most c.requires c.cut-cut.ensures, payload_small _ _ c.requires.read.whole)

pub returns-then-too_long : goal.returns-then-too_long
returns-then-too_long c =
    taking_long c.requires c.cut-cut.ensures (sym (ap paper c.in_ok-handed.was) ∙ c.count.ensures)
    (sym c.too_long.ensures ∙ c.if-too_long.true)

pub returns-then-handed-out : goal.returns-then-handed-out
returns-then-handed-out c =
    taking_output c.requires c.cut-cut.ensures (sym (ap paper c.in_ok-handed.was) ∙ c.count.ensures)
    (sym c.too_long.ensures ∙ c.if-too_long.false) c.if-handed-out.true

pub write-requires : goal.write-requires
write-requires c = room_for c.requires c.cut-cut.ensures (sym (ap paper c.in_ok-handed.was) ∙ c.count.ensures) c.if-handed-out.false

pub copy_bytes-requires : goal.copy_bytes-requires
copy_bytes-requires c = ((left_it c.requires c.cut-cut.ensures).lies, (long_not (sym c.too_long.ensures ∙ c.if-too_long.false)).0)

pub returns : goal.returns
returns c =
    taking_all c.requires c.cut-cut.ensures (sym (ap paper c.in_ok-handed.was) ∙ c.count.ensures)
    (sym c.too_long.ensures ∙ c.if-too_long.false) c.if-handed-out.false c.copy_bytes.ensures.1 c.write.ensures
