-- What the laws of size fields are stated with.
use Rattle.std.specs.Prelude.{ℕ, zero, suc, ◌*◌, ◌≤◌, ◌<◌, List, get_or}
use Rattle.base.specs.Lists.{All}

-- numbers that are bytes
abbrev pub Bytes : List ℕ → Type 0
Bytes l = (i : ℕ) → get_or l i 0 < 256

-- every byte has the top bit set
abbrev pub Unending : List ℕ → Type 0
Unending l = All (λ (b : ℕ). 128 ≤ b) l

-- 128 to the n: the values below it have a form of n bytes
abbrev pub cap : ℕ → ℕ
cap zero = 1
cap (suc n) = 128 * cap n
