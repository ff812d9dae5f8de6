use Rattle.std.proofs.Common.{◌≡◌, ℕ, ◌-◌, List, take, sym, ap, ◌∙◌, arith}
use Rattle.receiver.specs.Call.{inputs, received}
use Rattle.base.specs.Answers.{paper}
use Rattle.unpacking.proofs.Steps.{step_cut, step_received}
use Rattle.unpacking.proofs.records.unpack_record.Goals as goal

pub returns-in_default : goal.returns-in_default
returns-in_default c = let a = c.args in
    step_cut a.state a.fields a.payload.now a.store.now a.out.now (omega (arith, c.in_default.ensures.lookup))

-- the part that was got is the first bytes
whole : (n : ℕ) (l : List ℕ) → take (n - 0) l ≡ take n l
whole n l = let same : n - 0 ≡ n = omega arith in ap (λ (k : ℕ). take k l) same

pub returns-in-Err : goal.returns-in-Err
returns-in-Err c = let a = c.args in
    let part = c.in-Some.ensures.lookup.0 in
    step_received a.state a.fields a.payload.now a.store.now a.out.now part.1 (sym (ap paper c.in-Err.is))
    (c.receive.ensures ∙ ap (λ (l : List ℕ). received (inputs a.state a.fields.number l a.store.now a.out.now)) (part.2 ∙ whole a.fields.length a.payload.now))

pub returns-in-Ok : goal.returns-in-Ok
returns-in-Ok c = let a = c.args in
    let part = c.in-Some.ensures.lookup.0 in
    step_received a.state a.fields a.payload.now a.store.now a.out.now part.1 (sym (ap paper c.in-Ok.is))
    (c.receive.ensures ∙ ap (λ (l : List ℕ). received (inputs a.state a.fields.number l a.store.now a.out.now)) (part.2 ∙ whole a.fields.length a.payload.now))
