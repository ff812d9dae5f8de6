use mathlib.Core.Path.{refl, ap}
use Prim.Native.Nat.{ℕ, ◌+◌}
use native.Mathlib.Omega.{arith}
use mathlib.Core.List.{List}
use Rattle.obu.specs.Paper.{paper_head}
use Rattle.handing.specs.Paper.{all_of}
use Rattle.handing.proofs.Framing.{out_length, out_put}
use Rattle.handing.proofs.WrittenOutput.put.Goals as goal

pub returns : goal.returns
returns c =
    let a = c.args in
    let o : List ℕ = all_of a.o in
    let l = out_length o (paper_head a.head) c.requires.spans in
    let room = c.requires.fits refl in
    out_put o (paper_head a.head) c.requires.spans a.out.now _ _ _ a.at _ _ _ (omega arith)
    c.put_header-field.ensures.0 c.put_header-field.ensures.1 c.put_leb128-body.ensures.0 c.put_leb128-body.ensures.1
    (ap (λ (n : ℕ). n + a.head.field) c.header_size.ensures) c.copy.ensures
