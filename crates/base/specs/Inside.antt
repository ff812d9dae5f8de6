-- What a function below `put_words` promises; no other contract cites this.
use Rattle.std.specs.Prelude.{ℕ, ◌+◌, List, [], ◌∷◌, ◌++◌, cond, eqb}
use Prim.Native.String as string
use Rattle.base.specs.Words.{ascii}

-- texts, a line each
unfoldable pub lines : List string.String → List ℕ
lines [] = []
lines (s ∷ l) = ascii s ++ (10 ∷ lines l)

-- what stands on line n of a text whose first byte is on line k
unfoldable pub line_from : ℕ → ℕ → List ℕ → List ℕ
line_from n k [] = []
line_from n k (b ∷ l) = cond (eqb b 10) (line_from n (k + 1) l) (cond (eqb k n) (b ∷ line_from n k l) (line_from n k l))
