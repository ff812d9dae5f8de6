use mathlib.Core.Path.{sym, ◌∙◌}
use Rattle.std.proofs.lemmas.Result.{err_from_is_err_and}
use Rattle.obu.proofs.Compares.{compared_first, compared_drop, compared_keep, compared_stop, compared_end}
use Rattle.obu.proofs.compare.compare_obus.Goals as goal
use Rattle.obu.proofs.compare.compare_obus.Goals.{then-not-is_dropped, then-same, else-same, else-not-is_dropped}

pub loop-at-init : goal.loop-at-init
loop-at-init c = compared_first

pub returns-in_err-head : goal.returns-in_err-head
returns-in_err-head c =
    let p = err_from_is_err_and c.from_residual.result c.from_residual.ensures.1 in
    rw (p.1, p.2, c.in_err-head.ensures.at) (compared_stop c.loop-at.invariant c.requires c.in_err-head.ensures.refused c.loop-at-test.true)

pub loop-at-preserved : goal.loop-at-preserved
loop-at-preserved c =
    elim c.if-not-is_dropped.branch [
      | then-not-is_dropped w ↦ elim w.if-same.branch [
        | then-same v ↦
            rw (c.span-at.ensures, w.n-is)
            (compared_keep c.loop-at.invariant c.in_ok-head.ensures.found c.loop-at-test.true (sym c.is_dropped.ensures ∙ w.if-not-is_dropped.true) w.record_at.ensures
            (rw (w.same-is, v.same-is, v.if-same.true, ← w.numbers-numbers.ensures) v.same_numbers-same.ensures))
        | else-same v ↦
            rw (c.span-at.ensures, w.n-is)
            (compared_keep c.loop-at.invariant c.in_ok-head.ensures.found c.loop-at-test.true (sym c.is_dropped.ensures ∙ w.if-not-is_dropped.true) w.record_at.ensures
            (rw (w.same-is, v.same-is, v.if-same.false)))
      ]
      | else-not-is_dropped w ↦
          rw (c.span-at.ensures, w.same-is, w.n-is)
          (compared_drop c.loop-at.invariant c.in_ok-head.ensures.found c.loop-at-test.true (sym c.is_dropped.ensures ∙ w.if-not-is_dropped.false))
    ]

pub returns-then-not-same : goal.returns-then-not-same
returns-then-not-same c = rw c.into.ensures (rw c.if-not-same.true at (compared_end c.loop-at.invariant c.requires c.loop-at-test.false))

pub returns : goal.returns
returns c = rw c.if-not-same.false at (compared_end c.loop-at.invariant c.requires c.loop-at-test.false)
