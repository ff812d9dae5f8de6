use Rattle.std.proofs.Common.{◌≡◌, ℕ, ◌+◌, ◌≤◌, ◌<◌, List, length, drop, Result, Ok, Err, IfOk, sym, subst, arith, length-drop}
use Rattle.std.proofs.lemmas.Grind.{common_steps}
use Rattle.base.specs.declared.RefusedAt.{RefusedAt}
use Rattle.obu.specs.Front.{span_of, found, front_of}
use Rattle.obu.specs.Laws.{Spans}
use Rattle.obu.specs.Paper.{paper_head}
use Rattle.obu.specs.declared.Head.{Head}
use Rattle.obu.proofs.Fronts.{front_spans}
use Rattle.obu.proofs.head_at.Goals as goal

-- an OBU that is found lies in the unit
inside : (r : Result Head RefusedAt) (unit : List ℕ) (at : ℕ) → at < length unit
    → IfOk r (λ head. found (paper_head head) ≡ front_of (drop at unit)) → IfOk r (λ head. at + span_of (paper_head head) ≤ length unit)
inside (Ok head) unit at h e =
    let s : Spans (drop at unit) (found (paper_head head)) = subst (Spans (drop at unit)) (sym e) (front_spans (drop at unit)) in
    omega (arith, length-drop at unit)
inside (Err e) unit at h f = tt

pub returns-clause-inside : goal.returns-clause-inside
returns-clause-inside c = inside c.map_err.result c.args.unit.now c.args.at c.requires (grind (arith, common_steps))
