-- A fact of a choice, from what it is in either case. Assumes nothing.
use mathlib.Core.Path.{◌≡◌, refl}
use mathlib.Core.Bool.{Bool, true, false, cond, ◌||◌}
use mir.Val.{bool_byte}

pub by_cond : {A : Type 0} (P : A → Type 0) (t : Bool) (a b : A) → (t ≡ true → P a) → (t ≡ false → P b) → P (cond t a b)
by_cond P true a b f g = f refl
by_cond P false a b f g = g refl

-- by what a test says, with the test's equation in hand
pub split_on : {P : Type 0} (t : Bool) → (t ≡ true → P) → (t ≡ false → P) → P
split_on true f g = f refl
split_on false f g = g refl

-- a choice between the same
pub cond_same : {A : Type 0} (t : Bool) (a : A) → cond t a a ≡ a
cond_same true a = refl
cond_same false a = refl

pub or_second : (a b : Bool) → a || b ≡ false → b ≡ false
or_second true b e = cc
or_second false b e = e

-- a test as a number
pub as_number : (t : Bool) → bool_byte t ≡ cond t 1 0
as_number true = refl
as_number false = refl
