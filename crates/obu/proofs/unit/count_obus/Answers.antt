use mathlib.Core.Path.{sym, ap, ◌∙◌}
use Rattle.std.specs.Int.{from_bool}
use Rattle.std.proofs.lemmas.Result.{err_from_is_err_and}
use Rattle.obu.proofs.Counts.{counted_first, counted_drop, counted_keep, counted_full, counted_stop, counted_end}
use Rattle.obu.proofs.unit.count_obus.Goals as goal
use Rattle.obu.proofs.unit.count_obus.Goals.{then-not-is_dropped+else-obus-space, else-not-is_dropped}

pub loop-at-init : goal.loop-at-init
loop-at-init c = counted_first

pub returns-in_err-head : goal.returns-in_err-head
returns-in_err-head c =
    let p = err_from_is_err_and c.from_residual.result c.from_residual.ensures.1 in
    rw (p.1, p.2, c.in_err-head.ensures.at) (counted_stop c.loop-at.invariant c.requires c.in_err-head.ensures.refused c.loop-at-test.true)

pub returns-then-obus-space : goal.returns-then-obus-space
returns-then-obus-space c =
    counted_full c.loop-at.invariant c.in_ok-head.ensures.found c.loop-at-test.true (sym c.is_dropped.ensures ∙ c.if-not-is_dropped.true) c.if-obus-space.true c.requires

pub loop-at-preserved : goal.loop-at-preserved
loop-at-preserved c =
    let counts = c.from-padded.ensures ∙ ap from_bool c.is_padded.ensures in
    elim c.if-not-is_dropped.branch [
      | then-not-is_dropped+else-obus-space w ↦
          rw (c.span-at.ensures, w.obus-is)
          (counted_keep c.loop-at.invariant c.in_ok-head.ensures.found c.loop-at-test.true counts (sym c.is_dropped.ensures ∙ w.if-not-is_dropped.true) w.if-obus-space.false)
      | else-not-is_dropped w ↦
          rw (c.span-at.ensures, w.obus-is)
          (counted_drop c.loop-at.invariant c.in_ok-head.ensures.found c.loop-at-test.true counts (sym c.is_dropped.ensures ∙ w.if-not-is_dropped.false))
    ]

pub returns : goal.returns
returns c = counted_end c.loop-at.invariant c.requires c.loop-at-test.false
