use mathlib.Core.Path.{refl, sym, ap, ◌∙◌}
use Prim.Native.Nat.{ℕ}
use native.Mathlib.Omega.{arith}
use mathlib.Core.Bool.{true}
use lib.ListN.{length}
use Rattle.base.specs.Lists.{front}
use Rattle.unpacking.specs.declared.Wait.TheVariants as wait
use Rattle.turns.specs.Orders.{tells}
use Rattle.turns.proofs.Turning.{ended, turned}
use Rattle.unpacking.specs.Unpack.{with_open, is_none, losses_line}
use Rattle.unpacking.specs.Steps.{awaits}
use Rattle.unpacking.specs.declared.losses.Losses.{Losses}
use Rattle.unpacking.proofs.LossesLine.{losses_short}
use Rattle.unpacking.proofs.Turning.{gives}
use Rattle.unpacking.proofs.close.Goals as goal

pub returns-then-is_none : goal.returns-then-is_none
returns-then-is_none c = let p = awaits c.args.place wait.Nothing in
    let none = sym (c.is_none.ensures ∙ ap is_none c.with_open-lost.ensures) ∙ c.if-is_none.true in
    gives p c.awaiting-last.ensures c.requires (ended p (rw none refl) c.awaiting-last.ensures c.over.ensures)

pub returns : goal.returns
returns c = let p = awaits c.args.place wait.Nothing in
    let lost = with_open c.args.place.losses c.args.place.state.«open» in
    let some = sym (c.is_none.ensures ∙ ap is_none c.with_open-lost.ensures) ∙ c.if-is_none.false in
    gives p c.awaiting-last.ensures c.requires
    (turned (tells p (losses_line lost) 0) (rw some refl) c.awaiting-last.ensures
    (c.tell.ensures ∙ ap (λ (n : ℕ). record { more = true; write = 0; say = n; read = 0 }) (c.put_losses-said.ensures.0 ∙ ap (λ (l : Losses). length (losses_line l)) c.with_open-lost.ensures))
    (c.put_losses-said.ensures.1 ∙ ap (λ (l : Losses). front (losses_line l) c.args.line.now) c.with_open-lost.ensures)
    (omega arith) (omega arith) (losses_short lost))
