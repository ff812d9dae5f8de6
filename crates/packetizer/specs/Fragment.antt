-- The length field of an element, and the largest fragment that fits with its own (P12).
use Rattle.std.specs.Prelude.{ℕ, ◌+◌, ◌-◌, ◌≤◌, ◌≡◌, Bool, cond, length, leb}
use Rattle.leb128.specs.Field.{encode}

-- how many bytes the length field of an element of n bytes has
abbrev pub field_size : ℕ → ℕ
field_size n = length (encode n)

-- n bytes and their length field take at most r bytes
abbrev pub fits_in : ℕ → ℕ → Bool
fits_in r n = leb (n + field_size n) r

-- a length field has one to five bytes: the first of these that fits is the largest
unfoldable pub largest_fragment : ℕ → ℕ
largest_fragment r =
    cond (fits_in r (r - 1))
    (r - 1)
    (cond (fits_in r (r - 2))
    (r - 2)
    (cond (fits_in r (r - 3)) (r - 3) (cond (fits_in r (r - 4)) (r - 4) (r - 5))))

-- n is the largest that fits r bytes with its length field, and is 0 for 0 and 1
pub record Largest (r n : ℕ) : Type 0 where
  pub fits : 2 ≤ r → n + field_size n ≤ r
  pub most : (m : ℕ) → m + field_size m ≤ r → m ≤ n
  pub none : r ≤ 1 → n ≡ 0
