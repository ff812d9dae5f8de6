use mathlib.Core.Path.{◌≡◌, sym, ap, ◌∙◌}
use Prim.Native.Nat.{ℕ, ◌+◌, ◌*◌, ◌%◌, ◌<◌}
use native.Mathlib.Omega.{arith}
use mathlib.Core.Bool.{Bool, not}
use lib.ListN.{length, get_or}
use borrow.Author.Tests.{le-ltb}
use Rattle.std.proofs.lemmas.Result.{err_from_is_err_and}
use Rattle.base.specs.Answers.{given}
use Rattle.leb128.specs.Field.{Field, sized, capped, encode, is_padded, answer_by, longest_field}
use Rattle.leb128.proofs.Reading.{field_last, field_two, capped_small, capped_large}
use Rattle.leb128.proofs.Writing.{encode_pos}
use Rattle.leb128.proofs.Padded.{two_shortest}
use Rattle.leb128.proofs.read_leb128.Goals as goal

-- the answer for a field that was read
answers : (v n : ℕ) {p : Bool} {f : Field} → p ≡ is_padded v n → sized v n ≡ f → given (record { value = v; used = n; shortest = not p }) ≡ answer_by f
answers v n e q = ap (λ (b : Bool). given (record { value = v; used = n; shortest = not b })) e ∙ ap answer_by q

pub returns-in-len1-up : goal.returns-in-len1-up
returns-in-len1-up c = let l = c.args.bytes.now in
    let v : get_or l 0 0 ≡ get_or l 0 0 % 128 = omega (arith, c.if-first-lt128.true) in
    answers _ _ (sym (le-ltb (length (encode (get_or l 0 0))) 1 (encode_pos 5 (get_or l 0 0) (omega arith))))
    (capped_small l _ 1
    (ap (λ (n : ℕ). sized n 1) v ∙ sym (field_last longest_field l (λ z. omega arith) (λ z. omega (arith, c.in-len1-up.len_at_least)) (omega (arith, c.if-first-lt128.true))))
    (omega (arith, c.if-first-lt128.true)))

pub returns-in-len2-up : goal.returns-in-len2-up
returns-in-len2-up c = let l = c.args.bytes.now in
    let small : get_or l 1 0 < 128 = c.if-second-lt128.true in
    ap given c.of_two.ensures
    ∙ ap (λ (b : Bool). given (record { value = get_or l 0 0 % 128 + 128 * get_or l 1 0; used = 2; shortest = b })) (two_shortest (get_or l 0 0) (get_or l 1 0) small)
    ∙ ap answer_by (capped_small l _ 2 (sym (field_two 6 l c.in-len2-up.len_at_least c.if-first-lt128.false small)) (omega arith))

pub returns : goal.returns
returns c = answers _ _ c.is_padded.ensures (capped_small _ _ _ c.in_ok-tail.ensures (omega (arith, c.if-tail-gt-LARGEST_VALUE.false)))

pub returns-then-tail-gt-LARGEST_VALUE : goal.returns-then-tail-gt-LARGEST_VALUE
returns-then-tail-gt-LARGEST_VALUE c = ap answer_by (capped_large _ _ _ c.in_ok-tail.ensures (omega (arith, c.if-tail-gt-LARGEST_VALUE.true)))

pub returns-in_err-tail : goal.returns-in_err-tail
returns-in_err-tail c =
    let p = err_from_is_err_and c.from_residual.result c.from_residual.ensures.1 in
    rw (p.1, p.2) (ap answer_by (ap capped c.in_err-tail.ensures))
