use Rattle.std.proofs.Common.{◌≡◌, ℕ, ◌+◌, ◌≤◌, List, ◌++◌, length, take, sym, ap, ◌∙◌, subst, rules, length-take-le}
use Rattle.std.proofs.KnownBytes.{Consumes-trans}
use Rattle.std.proofs.Math.Seq.{take-append-add}
use Rattle.std.proofs.lemmas.List.{take-append-le}
use Rattle.std.specs.Io.KnownBytes.{Consumes}
use borrow.Rule.Slice.PartMut.{put_mid, post_of}
use Rattle.running.proofs.read_all.Goals as goal

-- what a read put behind the first a
take_read : (a k n : ℕ) (xs ys : List ℕ) → a ≤ length xs → n ≤ length ys → take a xs ++ take n ys ≡ take (a + n) (put_mid a k xs ys)
take_read a k n xs ys h i =
    let after = post_of a k xs in
    sym
    (ap (λ m. take (m + n) (put_mid a k xs ys)) (sym (length-take-le a xs h)) ∙ take-append-add (take a xs) (ys ++ after) n ∙ ap (λ l. take a xs ++ l) (take-append-le n ys after i))

pub loop-done-preserved : goal.loop-done-preserved
loop-done-preserved g c =
    let (within, same, read) = c.loop-done.invariant in (
      search rules,
      search rules,
      subst (Consumes _ _) (take_read c.loop-done.done _ c.in-Ok.count c.loop-done.input c.read_once.new.input (search rules) c.in-Ok.ensures.within.0)
          (Consumes-trans _ _ _ _ _ read c.in-Ok.ensures.ok),
    )
