-- A part of what is sent of an OBU: some of its header bytes, and then bytes of the unit. Assumes nothing.
use mathlib.Core.Path.{◌≡◌, sym, ap, ◌∙◌}
use Prim.Native.Nat.{ℕ, ◌+◌, ◌-◌, ◌≤◌, ◌<◌, min}
use native.Mathlib.Omega.{arith}
use mathlib.Core.List.{List, ◌∷◌, ◌++◌}
use lib.ListN.{length, take, drop, length-drop}
use lib.Seq.{take_all, take-take, drop-drop, sets, sets-eq}
use lib.Dec.{leb}
use borrow.Author.Tests.{leb-true, leb-false}
use Rattle.base.specs.Lists.{replaced}
use Rattle.base.proofs.Lists.{take_drop, take_append, drop_append, sets_append}
use Rattle.base.proofs.Tests.{split_on}
use Rattle.obu.specs.Header.{header_length, cleared}
use Rattle.obu.specs.Wire.{extension_bytes, payload_of, sent}
use Rattle.obu.specs.declared.Obu.{Obu}
use Rattle.obu.proofs.Theorems.{extension_length}

abbrev pub head_of : Obu → List ℕ
head_of o = cleared o.header ∷ extension_bytes o.header o.extension

pub head_length : (o : Obu) → length (head_of o) ≡ header_length o.header
head_length o = omega (arith, extension_length o.header o.extension)

take_min : (n : ℕ) (l : List ℕ) → take n l ≡ take (min n (length l)) l
take_min n l =
    split_on (leb n (length l))
    (λ t. let h : n ≤ length l = leb-true n (length l) t in let e : min n (length l) ≡ n = omega arith in rw e)
    (λ t.
    let h : length l < n = leb-false n (length l) t in
    let e : min n (length l) ≡ length l = omega arith in
    rw e (take_all n l (omega arith) ∙ sym (take_all (length l) l (omega arith))))

-- bytes of the payload are bytes of the unit
payload_part : (unit : List ℕ) (o : Obu) (m k : ℕ) → k + m ≤ o.length → take m (drop k (payload_of unit o)) ≡ take m (drop (o.start + k) unit)
payload_part unit o m k h =
    let e : k + (o.length - k) ≡ o.length = omega arith in
    ap (λ (n : ℕ). take m (drop k (take n (drop o.start unit)))) (sym e)
    ∙ ap (take m) (sym (take_drop (o.length - k) k (drop o.start unit)))
    ∙ take-take m (o.length - k) (drop k (drop o.start unit)) (omega arith)
    ∙ ap (take m) (drop-drop k o.start unit)

-- how many header bytes are in the part
abbrev pub in_head : Obu → ℕ → ℕ → ℕ
in_head o from n = min n (header_length o.header - from)

pub part_split : (unit : List ℕ) (o : Obu) (from n : ℕ) → from + n ≤ header_length o.header + o.length
    → take (in_head o from n) (drop from (head_of o)) ++ take (n - in_head o from n) (drop (o.start + (from - header_length o.header)) unit)
    ≡ take n (drop from (sent unit o))
part_split unit o from n h =
    let hs : ℕ = header_length o.header in
    let l : length (head_of o) ≡ hs = head_length o in
    let d : length (drop from (head_of o)) ≡ hs - from = length-drop from (head_of o) ∙ ap (λ (x : ℕ). x - from) l in
    let m : n - (hs - from) ≡ n - in_head o from n = omega arith in
    sym
    (ap (take n) (drop_append from (head_of o) (payload_of unit o))
    ∙ take_append n (drop from (head_of o)) (drop (from - length (head_of o)) (payload_of unit o))
    ∙ rw (take_min n (drop from (head_of o)), d, l, m)
    (ap (λ (x : List ℕ). take (in_head o from n) (drop from (head_of o)) ++ x) (payload_part unit o (n - in_head o from n) (from - hs) (omega arith))))

-- a part stored behind what is stored already
pub put_behind : (out l part : List ℕ) (at : ℕ) {next : ℕ} {out₁ out₂ : List ℕ} → at + length l ≤ length out → next ≡ at + length l → out₁ ≡ replaced out at l
    → out₂ ≡ sets out₁ next part → out₂ ≡ sets out at (l ++ part)
put_behind out l part at room e f g = g ∙ rw (f, e, ← sets-eq l out at room) (sym (sets_append out at l part))
