-- A reader of version 1 alone. Assumes nothing.
--     short-refuses   it answers R21 to every file of version 2
--     short-agrees    of every other file it makes what the reader of both makes
use mathlib.Core.Path.{◌≡◌, refl}
use Prim.Native.Nat.{ℕ}
use native.Mathlib.Omega.{arith}
use mathlib.Core.List.{List, [], ◌∷◌}
use lib.Dec.{eqb}
use Rattle.base.specs.Answers.{given, refused}
use Rattle.base.proofs.Tests.{split_on}
use Rattle.train.specs.Train.{short_head, long_head, head_with, head_of, train_in, short_head_of, short_train_in}

pub short_refuses : (file : List ℕ) → head_of file ≡ given long_head → short_train_in file ≡ refused 21 0
unfolding head_of head_with short_head_of
short_refuses [] e = refl
short_refuses (v ∷ l) e = split_on (eqb v short_head.version)
    (λ t.
    let s : given short_head ≡ given long_head = rw t at e in
    let z : ◌≡◌ {A = ℕ} 1 2 = cc in
    absurd (omega arith))
    (λ t. rw t)

pub short_agrees : (file : List ℕ) → (head_of file ≡ given long_head → ⊥) → short_train_in file ≡ train_in file
unfolding head_of head_with short_head_of
short_agrees [] n = refl
short_agrees (v ∷ l) n = split_on (eqb v short_head.version)
    (λ t. rw t)
    (λ t. split_on (eqb v long_head.version)
    (λ u. absurd (n (rw (t, u))))
    (λ u. rw (t, u)))
