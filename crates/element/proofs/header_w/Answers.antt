use mathlib.Core.Path.{◌≡◌, ap, ◌∙◌}
use Prim.Native.Nat.{ℕ, ◌/◌, ◌%◌}
use native.Mathlib.Omega.{arith}
use lib.Bits.{bit_and, and_high}
use Rattle.element.proofs.header_w.Goals as goal

-- the mask and the shift
bits : (h : ℕ) → bit_and h 48 / 16 ≡ h / 16 % 4
bits h = ap (λ (x : ℕ). x / 16) (and_high h 2 4) ∙ omega arith

pub returns : goal.returns
returns c = bits c.args.header
