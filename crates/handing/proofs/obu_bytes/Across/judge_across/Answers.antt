use mathlib.Core.Path.{◌≡◌, sym, ap, ◌∙◌}
use Prim.Native.Nat.{ℕ, ◌+◌, ◌≤◌}
use native.Mathlib.Omega.{arith}
use mathlib.Core.List.{List}
use lib.ListN.{length, take, length-append, length-take}
use lib.Seq.{sets, sets-eq, length-sets}
use Rattle.base.specs.Lists.{replaced}
use Rattle.obu.specs.Front.{head_bytes}
use Rattle.handing.specs.Paper.{all_of}
use Rattle.handing.proofs.Across.{head_copied, head_same}
use Rattle.handing.proofs.obu_bytes.Across.judge_across.Goals as goal

-- what is stored replaces as many, where there is room for it
placed : (to new : List ℕ) (at : ℕ) (part : List ℕ) → at + length part ≤ length new → new ≡ sets to at part → new ≡ replaced to at part
placed to new at part h e = e ∙ sets-eq part to at (omega (arith, ap length e, length-sets to at part))

pub returns : goal.returns
returns c =
    let o = c.args.self in
    let i = length-take c.min-a.result o.stored.now in
    let j = length-take c.min-b.result o.element.now in
    c.whole_obu.ensures (all_of o)
    (head_same o.stored.now o.element.now _ _ c.min-a.ensures c.min-b.ensures
    ∙ ap (take head_bytes)
    (sym
    (head_copied o.stored.now o.element.now _ _ c.min-a.ensures c.min-b.ensures _
    (placed _ c.copy_bytes.new.to _ (take c.min-a.result o.stored.now) (omega arith) c.copy_bytes.ensures.1)
    (placed _ c.copy_bytes-2.new.to _ (take c.min-b.result o.element.now) (omega arith) c.copy_bytes-2.ensures.1))))
    (length-append o.stored.now o.element.now)
