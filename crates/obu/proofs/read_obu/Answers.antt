use mathlib.Core.Path.{◌≡◌, refl, sym, ap, ◌∙◌}
use Prim.Native.Nat.{ℕ, ◌-◌}
use native.Mathlib.Omega.{arith}
use mathlib.Core.List.{List}
use mathlib.Core.Bool.{cond}
use lib.ListN.{length, get_or, take, drop, length-drop}
use lib.Dec.{eqb}
use Rattle.std.proofs.lemmas.Result.{err_from_is_err_and}
use Rattle.base.proofs.Lists.{part_from}
use Rattle.leb128.specs.Field.{answer_by, size_answer}
use Rattle.leb128.proofs.Reading.{size_within}
use Rattle.leb128.proofs.Padded.{read_says, unread_says}
use Rattle.obu.specs.Header.{extension_bit}
use Rattle.obu.specs.Front.{head_bytes, headed, front_of}
use Rattle.obu.proofs.Fronts.{same_first, same_field, front_3, front_headed, front_4, front_rest, front_in, front_past, front_bad}
use Rattle.obu.proofs.read_obu.Goals as goal
use Rattle.obu.proofs.read_obu.Goals.{After-obu_has_size, After-read_leb128}

-- the OBU by its header bytes, which are read
known : (c : After-obu_has_size) → (all : List ℕ) → take head_bytes all ≡ take head_bytes c.args.bytes.now → length all ≡ c.args.total
    → front_of all ≡ headed (get_or c.args.bytes.now 0 0) c.extension_byte-extension.result (drop c.header_size-after.result all)
known c all e l =
    let b = c.args.bytes.now in
    front_headed all (get_or b 0 0) c.extension_byte-extension.result c.header_size-after.result (sym (same_first all b e 0 (omega arith)))
    c.header_size-after.ensures (omega arith)
    (c.extension_byte-extension.ensures ∙ ap (λ (x : ℕ). cond (eqb (extension_bit (get_or b 0 0)) 1) x 0) (sym (same_first all b e 1 (omega arith))))

-- how many bytes follow them
left : (c : After-obu_has_size) → (all : List ℕ) → length all ≡ c.args.total → length (drop c.header_size-after.result all) ≡ c.args.total - c.header_size-after.result
left c all l = length-drop c.header_size-after.result all ∙ ap (λ (n : ℕ). n - c.header_size-after.result) l

-- the size field in the bytes that there are is that of the OBU
field : (c : After-read_leb128) → (all : List ℕ) → take head_bytes all ≡ take head_bytes c.args.bytes.now
    → size_answer (take (length c.args.bytes.now - c.header_size-after.result) (drop c.header_size-after.result c.args.bytes.now)) ≡ size_answer (drop c.header_size-after.result all)
field c all e =
    ap size_answer (part_from c.args.bytes.now c.header_size-after.result (omega arith))
    ∙ ap answer_by (sym (same_field all c.args.bytes.now e c.header_size-after.result (omega arith)))

pub returns-then-total-after : goal.returns-then-total-after
returns-then-total-after c = λ all e l.
    let b = c.args.bytes.now in
    let h : get_or all 0 0 ≡ get_or b 0 0 = same_first all b e 0 (omega arith) in
    sym (front_3 all (omega arith) (rw h (omega arith)))

pub returns-then-not-obu_has_size : goal.returns-then-not-obu_has_size
returns-then-not-obu_has_size c =
    let h = (goal.at.returns-then-not-obu_has_size c).After-obu_has_size in
    λ all e l. front_rest all _ _ c.header_size-after.result _ (known h all e l) (left h all l) (sym c.obu_has_size.ensures ∙ c.if-not-obu_has_size.true)

pub returns-then-left-eq0 : goal.returns-then-left-eq0
returns-then-left-eq0 c =
    let h = (goal.at.returns-then-left-eq0 c).After-obu_has_size in
    λ all e l. front_4 all _ _ c.header_size-after.result _ (known h all e l) (left h all l) (sym c.obu_has_size.ensures ∙ c.if-not-obu_has_size.false) c.if-left-eq0.true

pub overflow_sub-left-2 : goal.overflow_sub-left-2
overflow_sub-left-2 c =
    let v = c.in_ok-size.size in
    let f = field (goal.at.overflow_sub-left-2 c).After-read_leb128 c.args.bytes.now refl in
    omega (arith, size_within _ v.value v.used (read_says _ (c.in_ok-size.ensures ∙ f)), length-drop c.header_size-after.result c.args.bytes.now)

pub returns-in_err-size : goal.returns-in_err-size
returns-in_err-size c =
    let h = (goal.at.returns-in_err-size c).After-obu_has_size in
    let f = field (goal.at.returns-in_err-size c).After-read_leb128 in
    let p = err_from_is_err_and c.from_residual.result c.from_residual.ensures.1 in
    rw (p.1, p.2)
    (λ all e l.
    front_bad all _ _ c.header_size-after.result _ (known h all e l) (left h all l) (sym c.obu_has_size.ensures ∙ c.if-not-obu_has_size.false) c.if-left-eq0.false _
    (unread_says _ (c.in_err-size.ensures ∙ f all e)))

pub returns-then-payload-left : goal.returns-then-payload-left
returns-then-payload-left c =
    let h = (goal.at.returns-then-payload-left c).After-obu_has_size in
    let f = field (goal.at.returns-then-payload-left c).After-read_leb128 in
    let v = c.in_ok-size.size in
    λ all e l.
    front_past all _ _ c.header_size-after.result _ (known h all e l) (left h all l) (sym c.obu_has_size.ensures ∙ c.if-not-obu_has_size.false) c.if-left-eq0.false v.value v.used
    (read_says _ (c.in_ok-size.ensures ∙ f all e)) c.if-payload-left.true

pub returns : goal.returns
returns c =
    let h = (goal.at.returns c).After-obu_has_size in
    let f = field (goal.at.returns c).After-read_leb128 in
    let v = c.in_ok-size.size in
    λ all e l.
    front_in all _ _ c.header_size-after.result _ (known h all e l) (left h all l) (sym c.obu_has_size.ensures ∙ c.if-not-obu_has_size.false) c.if-left-eq0.false v.value v.used
    (read_says _ (c.in_ok-size.ensures ∙ f all e)) c.if-payload-left.false
