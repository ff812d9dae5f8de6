-- The header byte of an OBU, in plain arithmetic (O2, O3, W4).
use Rattle.std.specs.Prelude.{ℕ, ◌+◌, ◌-◌, ◌*◌, ◌/◌, ◌%◌, Bool, ◌||◌, eqb}

-- bits 3 to 6
abbrev pub type_of : ℕ → ℕ
type_of h = h / 8 % 16

-- bit 2: an extension byte follows
abbrev pub extension_bit : ℕ → ℕ
extension_bit h = h / 4 % 2

-- bit 1: a size field follows
abbrev pub size_bit : ℕ → ℕ
size_bit h = h / 2 % 2

-- how many header bytes there are
abbrev pub header_length : ℕ → ℕ
header_length h = 1 + extension_bit h

-- bit 1 cleared, and bit 1 set
abbrev pub cleared : ℕ → ℕ
cleared h = h - size_bit h * 2

abbrev pub marked : ℕ → ℕ
marked h = cleared h + 2

-- types 2, 8 and 15 are dropped
abbrev pub drops : ℕ → Bool
drops t = eqb t 2 || eqb t 8 || eqb t 15
