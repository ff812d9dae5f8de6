-- The bytes of an OBU across store and payload: copied, and their first ten. Assumes nothing.
use mathlib.Core.Path.{◌≡◌, sym, ap, ap₂, ◌∙◌}
use Prim.Native.Nat.{ℕ, ◌+◌, ◌-◌, ◌≤◌, ◌<◌, min}
use native.Mathlib.Omega.{arith}
use mathlib.Core.List.{List, ◌++◌}
use lib.ListN.{length, take, drop, length-append, length-drop}
use lib.Seq.{sets, sets-eq, length-take-le, take_all, take_at, take-take, take-append-le, take-append-add, drop-append-add, drop-append-le}
use lib.Dec.{leb}
use borrow.Author.Tests.{leb-true, leb-false}
use Rattle.base.specs.Lists.{replaced}
use Rattle.base.proofs.Tests.{split_on}
use Rattle.obu.specs.Front.{head_bytes}
use Rattle.handing.specs.Inside.{across}
use Rattle.handing.proofs.Lists.{replaced_more}

-- what a copy of all of a list leaves, where there is room for it
pub copied : (to : List ℕ) (at : ℕ) (l : List ℕ) {new : List ℕ} {n : ℕ} → n ≡ length l → at + n ≤ length to → new ≡ sets to at (take n l) → new ≡ replaced to at l
copied to at l {new} {n} e h g = g ∙ ap (sets to at) (take_all n l (omega arith)) ∙ sets-eq l to at (omega arith)

module _ (store payload : List ℕ) (kept start size : ℕ) (h : kept ≤ length store) (p : start + size ≤ length payload) where
  pub across_length : length (across store kept payload start size) ≡ kept + size
  across_length =
      length-append (take kept store) (take size (drop start payload))
      ∙ ap₂ ◌+◌ (length-take-le kept store h) (length-take-le size (drop start payload) (omega (arith, length-drop start payload)))

-- the bytes of the store, and those of the payload
module _ (a b : List ℕ) where
  -- ---- copied from byte `skip` on

  drop_last : (skip : ℕ) → length a ≤ skip → drop skip (a ++ b) ≡ drop (skip - length a) b
  drop_last skip s =
      let n : length a + (skip - length a) ≡ skip = omega arith in
      ap (λ (i : ℕ). drop i (a ++ b)) (sym n) ∙ drop-append-add a b (skip - length a)

  module _ (to : List ℕ) (at skip : ℕ) where
    pub copied_both : {one two : List ℕ} {next : ℕ} → skip < length a → at ≤ length to → one ≡ replaced to at (drop skip a)
        → next ≡ at + (length a - skip) → two ≡ replaced one next b → two ≡ replaced to at (drop skip (a ++ b))
    copied_both {one} {two} {next} s r e n g =
        let m : next ≡ at + length (drop skip a) = omega (arith, length-drop skip a) in
        g
        ∙ ap₂ (λ (l : List ℕ) (k : ℕ). replaced l k b) e m
        ∙ replaced_more to at (drop skip a) b r
        ∙ ap (replaced to at) (sym (drop-append-le skip a b (omega arith)))

    pub copied_last : {one : List ℕ} → length a ≤ skip → one ≡ replaced to at (drop (skip - length a) b) → one ≡ replaced to at (drop skip (a ++ b))
    copied_last s e = e ∙ ap (replaced to at) (sym (drop_last skip s))

  -- ---- the first ten

  module _ (i j : ℕ) (ei : i ≡ min (length a) head_bytes) (ej : j ≡ min (length b) (head_bytes - i)) where
    -- they are copied into an array, one after the other
    pub head_copied : (zeros : List ℕ) {one two : List ℕ} → one ≡ replaced zeros 0 (take i a) → two ≡ replaced one i (take j b)
        → take (i + j) two ≡ take i a ++ take j b
    head_copied zeros {one} {two} e g =
        let li : length (take i a) ≡ i = length-take-le i a (omega arith) in
        let lj : length (take j b) ≡ j = length-take-le j b (omega arith) in
        let t : take i one ≡ take i a = ap (take i) e ∙ take_at (take i a) (drop (0 + length (take i a)) zeros) i li in
        let n : length (take i one ++ take j b) ≡ i + j = length-append (take i one) (take j b) ∙ ap₂ ◌+◌ (ap length t ∙ li) lj in
        ap (take (i + j)) g
        ∙ take_at (take i one ++ take j b) (drop (i + length (take j b)) one) (i + j) n
        ∙ ap (λ (l : List ℕ). l ++ take j b) t

    pub head_same : take head_bytes (a ++ b) ≡ take head_bytes (take i a ++ take j b)
    head_same = split_on (leb head_bytes (length a))
        (λ t.
        let k : head_bytes ≤ length a = leb-true head_bytes (length a) t in
        let x : i ≡ head_bytes = omega arith in
        let y : length (take i a) ≡ i = length-take-le i a (omega arith) in
        take-append-le head_bytes a b k
        ∙ sym (take-take head_bytes i a (omega arith))
        ∙ sym (take-append-le head_bytes (take i a) (take j b) (omega arith)))
        (λ t.
        let k : length a < head_bytes = leb-false head_bytes (length a) t in
        let m : ℕ = head_bytes - length a in
        let n : length a + m ≡ head_bytes = omega arith in
        let x : take i a ≡ a = take_all i a (omega arith) in
        ap (λ (c : ℕ). take c (a ++ b)) (sym n)
        ∙ take-append-add a b m
        ∙ ap (λ (l : List ℕ). a ++ l) (part_same m (omega arith))
        ∙ sym (take-append-add a (take j b) m)
        ∙ ap₂ (λ (c : ℕ) (l : List ℕ). take c (l ++ take j b)) n (sym x))
      where
        part_same : (m : ℕ) → j ≡ min (length b) m → take m b ≡ take m (take j b)
        part_same m e = split_on (leb (length b) m)
            (λ t. let i : length b ≤ m = leb-true (length b) m t in ap (take m) (sym (take_all j b (omega arith))))
            (λ t.
            let i : m < length b = leb-false (length b) m t in
            let x : m ≡ j = omega arith in
            sym (take-take m m b (omega arith)) ∙ ap (λ (c : ℕ). take m (take c b)) x)
