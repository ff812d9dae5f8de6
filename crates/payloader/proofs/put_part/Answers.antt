use mathlib.Core.Path.{◌≡◌, sym, ap, ◌∙◌}
use Prim.Native.Nat.{ℕ, ◌+◌, ◌-◌, min}
use native.Mathlib.Omega.{arith}
use lib.ListN.{length, take, drop, length-drop}
use lib.Seq.{sets, length-take-le}
use Rattle.base.proofs.Lists.{sets_append}
use Rattle.obu.specs.Header.{header_length}
use Rattle.payloader.proofs.Parts.{head_of, head_length, in_head, part_split}
use Rattle.payloader.proofs.put_part.Goals as goal

pub returns : goal.returns
returns c = let o = c.args.o in
    let from = c.args.from in
    let n = c.args.n in
    let u = c.args.unit.now in
    let out = c.args.out.now in
    let at = c.args.at in
    let e : c.min-inside.result ≡ in_head o from n =
    c.min-inside.ensures ∙ ap (min n) (c.saturating_sub.ensures ∙ ap (λ (x : ℕ). x - from) c.header_size-head.ensures) in
    let s : o.start + c.saturating_sub-2.result ≡ o.start + (from - header_length o.header) =
    ap (λ (x : ℕ). o.start + x) (c.saturating_sub-2.ensures ∙ ap (λ (x : ℕ). from - x) c.header_size-head.ensures) in
    let k : length (take (in_head o from n) (drop from (head_of o))) ≡ in_head o from n =
    length-take-le (in_head o from n) (drop from (head_of o)) (omega (arith, length-drop from (head_of o), head_length o)) in (
      omega (arith, c.copy_bytes.ensures.0, e),
      c.copy_bytes.ensures.1
          ∙ rw (s, c.put_head.ensures, e)
          (ap (λ (x : ℕ). sets (sets out at (take (in_head o from n) (drop from (head_of o)))) x (take (n - in_head o from n) (drop (o.start + (from - header_length o.header)) u))) (ap (λ (x : ℕ). at + x) (sym k))
          ∙ sym (sets_append out at (take (in_head o from n) (drop from (head_of o))) (take (n - in_head o from n) (drop (o.start + (from - header_length o.header)) u)))
          ∙ ap (sets out at) (part_split u o from n c.requires.1)),
    )
