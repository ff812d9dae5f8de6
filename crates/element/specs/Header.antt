-- The aggregation header byte, in plain arithmetic (H1, E1). Its low three bits are ignored.
use Rattle.std.specs.Prelude.{ℕ, ◌/◌, ◌%◌}

-- bit 7: the first element goes on with an OBU that began before
abbrev pub z_bit : ℕ → ℕ
z_bit h = h / 128 % 2

-- bit 6: the last element's OBU goes on in the next packet
abbrev pub y_bit : ℕ → ℕ
y_bit h = h / 64 % 2

-- bits 4 and 5: how many elements there are, or 0
abbrev pub w_of : ℕ → ℕ
w_of h = h / 16 % 4

-- bit 3: a new coded video sequence begins
abbrev pub n_bit : ℕ → ℕ
n_bit h = h / 8 % 2
