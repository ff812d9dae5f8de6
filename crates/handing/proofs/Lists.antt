-- Laws of lists: what is replaced in a list, piece after piece. Assumes nothing.
use mathlib.Core.Path.{◌≡◌, sym, ap, ◌∙◌}
use Prim.Native.Nat.{ℕ, ◌+◌, ◌≤◌}
use native.Mathlib.Nat.{add-zero}
use native.Mathlib.Omega.{arith}
use mathlib.Core.List.{List, [], ◌++◌, append-nil, append_assoc}
use lib.ListN.{length, take, drop, length-append, length-drop, take-append-drop}
use lib.Seq.{length-take-le, take_at, drop-append-add, drop-drop}
use Rattle.base.specs.Lists.{replaced, front}

module _ {A : Type 0} where
  pub replaced_none : (l : List A) (at : ℕ) → replaced l at [] ≡ l
  replaced_none l at = rw (append-nil (take at l), add-zero at) (take-append-drop at l)

  -- new elements, and right after them more
  pub replaced_more : (l : List A) (at : ℕ) (a b : List A) → at ≤ length l → replaced (replaced l at a) (at + length a) b ≡ replaced l at (a ++ b)
  replaced_more l at a b h =
      let n : length (take at l ++ a) ≡ at + length a = length-append (take at l) a ∙ ap (λ (k : ℕ). k + length a) (length-take-le at l h) in
      let t : take (at + length a) (replaced l at a) ≡ take at l ++ a = take_at (take at l ++ a) (drop (at + length a) l) (at + length a) n in
      let d : drop (at + length a + length b) (replaced l at a) ≡ drop (at + length (a ++ b)) l =
      ap (λ (k : ℕ). drop (k + length b) (replaced l at a)) (sym n)
      ∙ drop-append-add (take at l ++ a) (drop (at + length a) l) (length b)
      ∙ drop-drop (length b) (at + length a) l
      ∙ ap (λ (k : ℕ). drop k l) (sum (length-append a b)) in
      rw (t, d) (ap (λ (x : List A). x ++ drop (at + length (a ++ b)) l) (append_assoc (take at l) a b))
    where
      sum : length (a ++ b) ≡ length a + length b → at + length a + length b ≡ at + length (a ++ b)
      sum e = omega arith

  pub front_length : (new l : List A) → length new ≤ length l → length (front new l) ≡ length l
  front_length new l h = simp (length-append, length-drop) (omega arith)
