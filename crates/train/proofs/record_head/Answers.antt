use mathlib.Core.Path.{ap, ◌∙◌}
use Prim.Native.Nat.{ℕ}
use native.Mathlib.Omega.{arith}
use Rattle.base.specs.Lists.{front}
use Rattle.base.proofs.Lists.{put_front}
use Rattle.train.specs.Train.{record_fields}
use Rattle.train.proofs.Fields.{fields_length}
use Rattle.train.proofs.Reading.{counted_within}
use Rattle.train.proofs.record_head.Goals as goal

pub returns : goal.returns
returns c =
    let a = c.args in
    let w = c.counted_width-counted in
    let put = c.put_fields.ensures in
    let narrow = counted_within a.width in
    (put_front {a = record_fields w.result a.stated a.number} put (omega (arith, put.cursor, w.ensures, narrow, fields_length w.result a.stated a.number))).1
    ∙ ap (λ (n : ℕ). front (record_fields n a.stated a.number) a.head.now) w.ensures
