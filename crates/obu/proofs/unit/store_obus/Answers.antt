use mathlib.Core.Path.{sym, ap, ◌∙◌}
use Prim.Native.Nat.{◌*◌}
use native.Mathlib.Omega.{arith}
use lib.Seq.{sets}
use Rattle.obu.specs.Records.{obu_numbers}
use Rattle.obu.proofs.Stores.{stored_first, stored_drop, stored_room, stored_keep, stored_never, stored_end}
use Rattle.obu.proofs.unit.store_obus.Goals as goal
use Rattle.obu.proofs.unit.store_obus.Goals.{then-not-is_dropped, else-not-is_dropped}

pub loop-at-init : goal.loop-at-init
loop-at-init c = stored_first

pub returns-in_default : goal.returns-in_default
returns-in_default c = absurd (stored_never c.loop-at.invariant c.requires.1 c.in_default.ensures.refused c.loop-at-test.true)

pub put_numbers-requires : goal.put_numbers-requires
put_numbers-requires c =
    omega (arith, stored_room c.loop-at.invariant c.in-Ok.ensures.found c.loop-at-test.true (sym c.is_dropped.ensures ∙ c.if-not-is_dropped.true) c.requires.2, c.loop-at.invariant.same)

pub loop-at-preserved : goal.loop-at-preserved
loop-at-preserved c =
    elim c.if-not-is_dropped.branch [
      | then-not-is_dropped w ↦
          rw (c.span-at.ensures, w.obus-is, w.n-is)
          (stored_keep c.loop-at.invariant c.in-Ok.ensures.found c.loop-at-test.true (sym c.is_dropped.ensures ∙ w.if-not-is_dropped.true) c.requires.2 w.record_at.ensures w.put_numbers.auto.list (w.put_numbers.ensures ∙ ap (sets c.loop-at.obus (c.loop-at.n * obu_numbers)) w.numbers.ensures))
      | else-not-is_dropped w ↦
          rw (c.span-at.ensures, w.obus-is, w.n-is)
          (stored_drop c.loop-at.invariant c.in-Ok.ensures.found c.loop-at-test.true (sym c.is_dropped.ensures ∙ w.if-not-is_dropped.false))
    ]

pub returns : goal.returns
returns c = stored_end c.loop-at.invariant c.loop-at-test.false
