use Rattle.std.proofs.Common.{[], length, take, length-take, le-ltb, refl, arith}
use Rattle.base.proofs.Lists.{put_front}
use Rattle.listing.specs.Steps.{awaits}
use Rattle.listing.specs.declared.Wait.TheVariants as wait
use Rattle.listing.proofs.Turning.{no_text, wrote}
use Rattle.listing.proofs.unit_step.Goals as goal

pub returns : goal.returns
returns c = let a = c.args in
    let e = le-ltb (length a.got.now) a.place.length c.if-got-place.false in
    rw e (
      wrote (awaits a.place wait.Further) [] 0 1 refl c.awaiting.ensures c.ask.ensures no_text (omega arith),
      (put_front {l = a.unit.now} {a = take a.place.length a.got.now} (record { cursor = refl; stored = c.copy_bytes.ensures.1 }) (omega (arith, length-take a.place.length a.got.now))).1,
    )
