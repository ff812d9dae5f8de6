use Rattle.std.proofs.Common.{◌≡◌, ◌+◌, ◌-◌, length, take, drop, refl, ap, ◌∙◌, arith, length-take, length-drop}
use Rattle.base.proofs.Lists.{part_put}
use Rattle.base.proofs.copy_bytes.Goals as goal

pub returns : goal.returns
returns c =
    let a = c.args in
    let k : a.start + a.n - a.start ≡ a.n = omega arith in
    let m : length (take a.n (drop a.start a.from.now)) ≡ a.n = length-take a.n (drop a.start a.from.now) ∙ omega (arith, length-drop a.start a.from.now) in
    (refl, part_put _ _ _ _ _ (c.copy_from_slice.ensures.after ∙ ap (λ n. take n (drop a.start a.from.now)) k) (omega arith) (omega arith))
