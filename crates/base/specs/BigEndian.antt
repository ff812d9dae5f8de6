-- Numbers as bytes, the highest first.
use Rattle.std.specs.Prelude.{ℕ, zero, suc, ◌+◌, ◌*◌, ◌/◌, ◌%◌, ◌^◌, ◌≤◌, ◌<◌, ◌≡◌, List, [], ◌∷◌, ◌++◌, length, take, drop}

-- v in n bytes: what stands before its last byte, and the last byte
unfoldable pub big_endian : ℕ → ℕ → List ℕ
big_endian zero v = []
big_endian (suc n) v = big_endian n (v / 256) ++ (v % 256 ∷ [])

-- the number that bytes form, after a number that stands before them
unfoldable pub value_after : ℕ → List ℕ → ℕ
value_after v [] = v
value_after v (b ∷ l) = value_after (v * 256 + b) l

abbrev pub value_of : List ℕ → ℕ
value_of l = value_after 0 l

-- the number of `width` bytes of l from place `at` on
abbrev pub value_at : List ℕ → ℕ → ℕ → ℕ
value_at l at width = value_of (take width (drop at l))

-- the bytes of a number that is read: they are there, and no more than a word has
pub record Readable (l : List ℕ) (at width : ℕ) : Type 0 where
  pub there : at + width ≤ length l
  pub short : width ≤ 8

-- r is their number
pub record Reads (l : List ℕ) (at width r : ℕ) : Type 0 where
  pub is : r ≡ value_at l at width
  pub below : r < 256 ^ width
