-- What stands before a payload: how long it is, and that its length fits a word. Assumes nothing.
use mathlib.Core.Path.{◌≡◌, ◌∙◌}
use Prim.Native.Nat.{ℕ, ◌+◌, ◌^◌, ◌≤◌, ◌<◌}
use native.Mathlib.Nat.{pow-le-pow_right}
use native.Mathlib.Omega.{arith}
use mathlib.Core.List.{List}
use lib.ListN.{length, length-append}
use Rattle.base.specs.BigEndian.{big_endian}
use Rattle.base.proofs.BigEndian.{big_length}
use Rattle.train.specs.Train.{number_width, record_fields}
use Rattle.train.specs.Laws.{Writable}

module _ (w stated number : ℕ) where
  pub fields_length : length (record_fields w stated number) ≡ w + number_width
  fields_length =
      length-append (big_endian w stated) (big_endian number_width number) ∙ omega (arith, big_length w stated, big_length number_width number)

-- a length that a field can state fits a word
pub writable_word : {l : List ℕ} {at w size : ℕ} → Writable l at w size → number_width + size < 256 ^ 8
writable_word {w = w} s =
    let p : 256 ^ w ≤ 256 ^ 8 = pow-le-pow_right {n = 256} (omega arith) {i = w} {j = 8} s.wide in
    omega (arith, s.short)
