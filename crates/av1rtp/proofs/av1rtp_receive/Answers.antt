use mathlib.Core.Path.{◌≡◌, sym, ap, ◌∙◌}
use native.Mathlib.Omega.{arith}
use Rattle.base.specs.Answers.{Answer, given, paper}
use Rattle.receiver.specs.Call.{inputs, After, received}
use Rattle.receiver.specs.declared.Received.{Received}
use Rattle.receiver.proofs.Counts.{padded_within}
use Rattle.av1rtp.proofs.av1rtp_receive.Goals as goal

pub overflow_add-padded : goal.overflow_add-padded
overflow_add-padded c =
    let a = c.args in
    let asked = inputs c.state_in.result a.number a.payload.now a.store.now a.out.now in
    let taken : given c.in-Ok.received ≡ (received asked).answer = sym (ap paper c.in-Ok.is) ∙ ap (λ (x : After (Answer Received)). x.answer) c.receive.ensures in
    omega (arith, padded_within asked taken)
