use mathlib.Core.Path.{◌≡◌, refl, sym, ap}
use lib.ListN.{length, take}
use Rattle.turns.specs.Orders.{says}
use Rattle.turns.specs.declared.Subject.{Subject}
use Rattle.turns.specs.declared.Word.TheVariants as word
use Rattle.turns.proofs.Orders.{came_part}
use Rattle.turns.proofs.Turning.{ended}
use Rattle.turns.specs.declared.Failure.TheVariants as failure
use Rattle.unpacking.specs.Steps.{awaits}
use Rattle.unpacking.specs.declared.Wait.TheVariants as wait
use Rattle.unpacking.proofs.Turning.{gives, stays, by_wait}
use Rattle.unpacking.proofs.step.Goals as goal

pub slice_bounds-version_step-end : goal.slice_bounds-version_step-end
slice_bounds-version_step-end c =
    let read : c.in-Ok.n ≡ length (take c.in-Ok.n c.args.input.now) = came_part c.args.input.now c.in-Ok.is c.requires.came_within c.requires.input_is in
    read

pub slice_bounds-fields_step-end : goal.slice_bounds-fields_step-end
slice_bounds-fields_step-end c =
    let read : c.in-Ok.n ≡ length (take c.in-Ok.n c.args.input.now) = came_part c.args.input.now c.in-Ok.is c.requires.came_within c.requires.input_is in
    read

pub slice_bounds-payload_step-end : goal.slice_bounds-payload_step-end
slice_bounds-payload_step-end c =
    let read : c.in-Ok.n ≡ length (take c.in-Ok.n c.args.input.now) = came_part c.args.input.now c.in-Ok.is c.requires.came_within c.requires.input_is in
    read

pub slice_bounds-away_step-end : goal.slice_bounds-away_step-end
slice_bounds-away_step-end c =
    let read : c.in-Ok.n ≡ length (take c.in-Ok.n c.args.input.now) = came_part c.args.input.now c.in-Ok.is c.requires.came_within c.requires.input_is in
    read

pub returns-in-Err-Read : goal.returns-in-Err-Read
returns-in-Err-Read c = let p = c.args.place in
    let failed : c.in-Err-Read.field-0 ≡ failure.Read = rw c.in-Err-Read.is at c.in-Err-Read.field-0-is in
    rw (c.in-Err-Read.is, failed)
    (stays (ap (λ (c : Subject). says (awaits p wait.Nothing) c word.ReadFailed 0) (sym c.read_subject-about.ensures)) c.say.ensures)

pub returns-in-Err-Write : goal.returns-in-Err-Write
returns-in-Err-Write c = let p = c.args.place in
    let failed : c.in-Err-Write.field-0 ≡ failure.Write = rw c.in-Err-Write.is at c.in-Err-Write.field-0-is in
    rw (c.in-Err-Write.is, failed)
    (stays (ap (λ (c : Subject). says (awaits p wait.Nothing) c word.WriteFailed 0) (sym c.written_subject-about.ensures)) c.say-in-Err-Write.ensures)

pub returns-in-Version : goal.returns-in-Version
returns-in-Version c = let a = c.args in
    by_wait a.place a.input.now a.store.now a.out.now c.in-Ok.is c.in-Version.is
    (stays refl c.version_step.ensures)

pub returns-in-Fields : goal.returns-in-Fields
returns-in-Fields c = let a = c.args in
    by_wait a.place a.input.now a.store.now a.out.now c.in-Ok.is c.in-Fields.is
    (stays refl c.fields_step.ensures)

pub returns-in-Payload : goal.returns-in-Payload
returns-in-Payload c = let a = c.args in
    by_wait a.place a.input.now a.store.now a.out.now c.in-Ok.is c.in-Payload.is
    c.payload_step.ensures

pub returns-in-Away : goal.returns-in-Away
returns-in-Away c = let a = c.args in
    by_wait a.place a.input.now a.store.now a.out.now c.in-Ok.is c.in-Away.is
    (stays refl c.away_step.ensures)

pub returns-in-Close : goal.returns-in-Close
returns-in-Close c = let a = c.args in
    by_wait a.place a.input.now a.store.now a.out.now c.in-Ok.is c.in-Close.is
    (stays refl c.close.ensures)

pub returns-in-Nothing : goal.returns-in-Nothing
returns-in-Nothing c = let a = c.args in
    by_wait a.place a.input.now a.store.now a.out.now c.in-Ok.is c.in-Nothing.is
    (stays refl (gives a.place refl c.requires.possible (ended a.place refl refl c.over.ensures)))
