use mathlib.Core.Path.{◌≡◌, sym, ap, ap₂, ◌∙◌}
use Prim.Native.Nat.{ℕ, ◌+◌, ◌≤◌}
use native.Mathlib.Omega.{arith}
use mathlib.Core.Bool.{Bool, cond}
use lib.Dec.{ltb}
use borrow.Author.Tests.{le-leb, lt-leb}
use Rattle.packetizer.specs.Plan.{most_counted, left_in, fourth_or_later, is_full}
use Rattle.packetizer.proofs.Steps.{charge_most}
use Rattle.packetizer.proofs.packet.is_full.Goals as goal
use Rattle.packetizer.proofs.packet.is_full.Goals.{then-p-ge-MAX_NUM_OBUS_TO_OMIT_SIZE, else-p-ge-MAX_NUM_OBUS_TO_OMIT_SIZE}

pub overflow_add-result : goal.overflow_add-result
overflow_add-result c =
    let low : c.if-p-ge-MAX_NUM_OBUS_TO_OMIT_SIZE.least ≤ 2 = elim c.if-p-ge-MAX_NUM_OBUS_TO_OMIT_SIZE.branch [
      | then-p-ge-MAX_NUM_OBUS_TO_OMIT_SIZE w ↦ omega (arith, w.least-is)
      | else-p-ge-MAX_NUM_OBUS_TO_OMIT_SIZE w ↦ omega (arith, w.least-is)
    ] in
    omega (arith, low, c.additional_bytes_for_previous_obu_element-charge.ensures, charge_most c.args.p)

pub returns : goal.returns
unfolding is_full
returns c =
    let least : c.if-p-ge-MAX_NUM_OBUS_TO_OMIT_SIZE.least ≡ cond (fourth_or_later c.args.p) 2 1 = elim c.if-p-ge-MAX_NUM_OBUS_TO_OMIT_SIZE.branch [
      | then-p-ge-MAX_NUM_OBUS_TO_OMIT_SIZE w ↦ w.least-is ∙ sym (ap (λ (t : Bool). cond t 2 1) (le-leb most_counted c.args.p.num_obu_elements w.if-p-ge-MAX_NUM_OBUS_TO_OMIT_SIZE.true))
      | else-p-ge-MAX_NUM_OBUS_TO_OMIT_SIZE w ↦ w.least-is ∙ sym (ap (λ (t : Bool). cond t 2 1) (lt-leb most_counted c.args.p.num_obu_elements w.if-p-ge-MAX_NUM_OBUS_TO_OMIT_SIZE.false))
    ] in
    ap₂ (λ (m n : ℕ). ltb (left_in c.args.room c.args.p) (m + n)) c.additional_bytes_for_previous_obu_element-charge.ensures least
