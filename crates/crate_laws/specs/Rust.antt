-- What the steps of a Rust function give, with the panic where an index, a slice or a difference has one. Numbers are whole
-- numbers, cut to the width of their type where a shift or a cast can meet its end; lengths and sums of them cannot, as usize has
-- 64 bits. x >> k is x / 2 ^ k, with the power written out.
use Rattle.std.specs.Prelude.{ℕ, zero, suc, ◌-◌, ◌*◌, ◌%◌, ◌^◌, List, [], ◌∷◌, ◌++◌, cond, ◌&&◌, length, take, drop, leb}

-- the crate's errors that its functions can return
pub data Error : Type 0 where
  ErrPayloadTooSmallForObuExtensionHeader : Error
  ErrPayloadTooSmallForObuPayloadSize : Error

pub data Outcome (A : Type 0) : Type 0 where
  ok : A → Outcome A
  err : Error → Outcome A
  panic : Outcome A

-- a statement and those after it: an error that is returned, and a panic, end the function
infixl 20 ◌>>=◌
abbrev pub ◌>>=◌ : {A B : Type 0} → Outcome A → (A → Outcome B) → Outcome B
◌>>=◌ (ok a) next = next a
◌>>=◌ (err e) next = err e
◌>>=◌ panic next = panic

module _ {A : Type 0} where
  -- list[i]
  unfoldable pub at : List A → ℕ → Outcome A
  at [] i = panic
  at (a ∷ l) zero = ok a
  at (a ∷ l) (suc i) = at l i

  -- list.push(a), and list.pop().unwrap() with what is left of the list
  abbrev pub push : List A → A → List A
  push l a = l ++ (a ∷ [])

  unfoldable pub pop : List A → Outcome (List A × A)
  pop [] = panic
  pop (a ∷ []) = ok ([], a)
  pop (a ∷ b ∷ l) = do
    (rest, last) ← pop (b ∷ l)
    ok (a ∷ rest, last)

  -- list.slice(from..to)
  unfoldable pub slice : List A → ℕ → ℕ → Outcome (List A)
  slice l from to = cond (leb from to && leb to (length l)) (ok (take (to - from) (drop from l))) panic

-- a - b of type usize, in a build that tests for overflow; where it does not panic, any build gives the same
unfoldable pub minus : ℕ → ℕ → Outcome ℕ
minus a b = cond (leb b a) (ok (a - b)) panic

-- n as u8, n as u32; and x << k of type u8, u32 and u64: the low bits
abbrev pub as_u8 : ℕ → ℕ
as_u8 n = n % 256

abbrev pub as_u32 : ℕ → ℕ
as_u32 n = n % 4294967296

abbrev pub shl_u8 : ℕ → ℕ → ℕ
shl_u8 x k = x * 2 ^ k % 256

abbrev pub shl_u32 : ℕ → ℕ → ℕ
shl_u32 x k = x * 2 ^ k % 4294967296

abbrev pub shl_u64 : ℕ → ℕ → ℕ
shl_u64 x k = x * 2 ^ k % 18446744073709551616
