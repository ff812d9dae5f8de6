use mathlib.Core.Path.{◌≡◌, sym, ap, ◌∙◌}
use native.Mathlib.Omega.{arith}
use Rattle.receiver.specs.Call.{Taken, state_of, After}
use Rattle.receiver.specs.declared.Received.{Received}
use Rattle.turns.proofs.Turning.{asked}
use Rattle.unpacking.specs.Unpack.{with_taken, Step, step_of}
use Rattle.unpacking.specs.Paper.{paper_step, answered}
use Rattle.unpacking.specs.declared.records.RecordFault.{RecordFault}
use Rattle.std.specs.Prelude.{Result, Err}
use Rattle.unpacking.specs.Steps.{fields_width, next, payload_told}
use Rattle.unpacking.proofs.Steps.{step_within, answered_breaks, answered_passes, answered_takes}
use Rattle.unpacking.proofs.Turning.{gives, gives_as, comes}
use Rattle.unpacking.proofs.payload_step.Goals as goal

pub overflow_add-place : goal.overflow_add-place
overflow_add-place c = omega (arith, c.requires.1)

pub returns-in-Ok : goal.returns-in-Ok
returns-in-Ok c =
    let came : After (Step Taken) = let a = c.args in step_of a.place.state a.fields a.got.now a.store.now a.out.now in
    let answers : (x : Result Received RecordFault) → c.unpack_record.result ≡ x → answered (came).answer ≡ paper_step x = λ (x : Result Received RecordFault) e. sym (ap (λ (x : After (Step Received)). x.answer) c.unpack_record.ensures) ∙ ap paper_step e in
    let p = c.args.place in
    let x = answered_takes (came).answer _ (answers _ c.in-Ok.is) in
    let new = next p (state_of x.0.held) (with_taken p.losses x.0.lost) in
    let there = c.following.ensures ∙ ap (next p c.in-Ok.taken.state) c.with_taken-lost.ensures
    ∙ ap (λ (y : Received). next p y.state (with_taken p.losses (record { fragment = y.fragment_lost; element = y.element_lost }))) x.2 in
    let bytes = ap (λ (y : Received). y.bytes) x.2 in
    let within = step_within p.state c.args.fields c.args.got.now c.args.store.now c.args.out.now (sym x.1) in
    comes (came) p c.unpack_record.ensures
    (gives new there c.requires.1
    (asked new x.0.bytes _ (fields_width p.width) (ap (payload_told p) x.1) there c.ask.ensures bytes (omega (arith, bytes, within, c.requires.0)) (omega (arith, c.requires.1))))

pub returns-in-Err-PassedOver : goal.returns-in-Err-PassedOver
returns-in-Err-PassedOver c =
    let came : After (Step Taken) = let a = c.args in step_of a.place.state a.fields a.got.now a.store.now a.out.now in
    let answers : (x : Result Received RecordFault) → c.unpack_record.result ≡ x → answered (came).answer ≡ paper_step x = λ (x : Result Received RecordFault) e. sym (ap (λ (x : After (Step Received)). x.answer) c.unpack_record.ensures) ∙ ap paper_step e in
    let p = c.args.place in
    comes (came) p c.unpack_record.ensures
    (gives_as (ap (payload_told p) (answered_passes (came).answer _ (answers _ (c.in-Err-PassedOver.is ∙ ap Err c.in-Err-PassedOver.field-0-is)))) c.pass_over.ensures)

pub returns-in-Err-Broken : goal.returns-in-Err-Broken
returns-in-Err-Broken c =
    let came : After (Step Taken) = let a = c.args in step_of a.place.state a.fields a.got.now a.store.now a.out.now in
    let answers : (x : Result Received RecordFault) → c.unpack_record.result ≡ x → answered (came).answer ≡ paper_step x = λ (x : Result Received RecordFault) e. sym (ap (λ (x : After (Step Received)). x.answer) c.unpack_record.ensures) ∙ ap paper_step e in
    let p = c.args.place in
    comes (came) p c.unpack_record.ensures
    (gives_as (ap (payload_told p) (answered_breaks (came).answer _ (answers _ (c.in-Err-Broken.is ∙ ap Err c.in-Err-Broken.field-0-is)))) c.stop_at.ensures)
