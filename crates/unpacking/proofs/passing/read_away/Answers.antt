use mathlib.Core.Path.{refl, ap, ◌∙◌}
use Prim.Native.Nat.{ℕ}
use native.Mathlib.Omega.{arith}
use mathlib.Core.Bool.{true}
use mathlib.Core.List.{[]}
use Rattle.turns.proofs.Turning.{asked}
use Rattle.unpacking.specs.Steps.{awaits, at_once}
use Rattle.unpacking.specs.declared.Wait.TheVariants as wait
use Rattle.unpacking.proofs.Turning.{gives, at_once_most}
use Rattle.unpacking.proofs.passing.read_away.Goals as goal

pub returns : goal.returns
returns c = let left = c.args.left in
    let p = awaits c.args.place (wait.Away left) in
    λ line.
    gives p c.awaiting.ensures c.requires
    (asked p [] 0 (at_once left) refl c.awaiting.ensures (c.ask.ensures ∙ ap (λ (n : ℕ). record { more = true; write = 0; say = 0; read = n }) c.at_once.ensures) refl (omega arith) (at_once_most left))
