use Rattle.std.proofs.Common.{◌≡◌, ℕ, sym, ap, ◌∙◌, arith}
use Rattle.std.proofs.lemmas.List.Edits.{sets}
use Rattle.base.specs.BigEndian.{big_endian}
use Rattle.base.proofs.BigEndian.{big_length, big_more, big_none}
use Rattle.base.proofs.big_endian.put_number.Goals as goal

pub loop-i-preserved : goal.loop-i-preserved
loop-i-preserved c = let v = c.loop-i in
    sym (big_more v.i v.high c.args.at v.out (omega arith)) ∙ v.invariant

pub returns : goal.returns
returns c = let v = c.loop-i in
    let a = c.args in
    let none : v.i ≡ 0 = omega arith in
    record {
      cursor = omega (arith, big_length a.width a.value);
      stored = sym (ap (λ (n : ℕ). sets v.out a.at (big_endian n v.high)) none ∙ big_none v.high a.at v.out) ∙ v.invariant;
    }
