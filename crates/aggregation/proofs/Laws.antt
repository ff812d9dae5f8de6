-- The header byte of a record, as the layers above cite it. Assumes nothing.
use mathlib.Core.Path.{◌≡◌}
use Prim.Native.Nat.{ℕ, ◌+◌, ◌*◌, ◌/◌, ◌%◌, ◌≤◌, ◌<◌}
use native.Mathlib.Omega.{arith}
use mathlib.Core.List.{List}
use mathlib.Core.Bool.{Bool, cond, ◌&&◌}
use lib.Dec.{ltb, leb, eqb}
use lib.ListN.{get_or}
use lib.Bits.{bit_or}
use borrow.Author.Tests.{leb-true}
use Rattle.base.proofs.Tests.{by_cond}
use Rattle.obu.specs.Records.{no_obu}
use Rattle.obu.specs.declared.Obu.{Obu}
use Rattle.packetizer.specs.Plan.{most_counted}
use Rattle.packetizer.specs.declared.PacketMetadata.{PacketMetadata}
use Rattle.aggregation.specs.New.{new_sequence, n_of}
use Rattle.aggregation.specs.Header.{last_obu, last_start, z_of, y_of, w_of, byte_of}
use Rattle.aggregation.proofs.Bits.{or_sum, below_256, bit_z, bit_y, bits_w, bit_n, low_clear}

pub w_few : (p : PacketMetadata) → w_of p ≤ 3
w_few p =
    by_cond (λ w. w ≤ 3) (leb p.num_obu_elements most_counted) p.num_obu_elements 0
    (λ t. leb-true p.num_obu_elements most_counted t) (λ f. omega arith)

module _ (unit : List ℕ) (obus : List Obu) (p : PacketMetadata) (k : ℕ) where
  -- the tests of Z, Y and N
  abbrev pub continues : Bool
  continues = ltb 0 p.first_obu_offset

  abbrev pub is_cut : Bool
  is_cut = ltb (last_start p + p.last_obu_size) (get_or obus (last_obu p) no_obu).size

  abbrev pub is_new : Bool
  is_new = eqb k 0 && new_sequence unit obus

  pub or_byte : bit_or (bit_or (bit_or (z_of p) (y_of p (get_or obus (last_obu p) no_obu).size)) (16 * w_of p)) (n_of unit obus k) ≡ byte_of unit obus p k
  unfolding n_of byte_of
  or_byte = or_sum continues is_cut is_new (w_of p) (w_few p)

  pub byte_below : byte_of unit obus p k < 256
  unfolding n_of byte_of
  byte_below = below_256 continues is_cut is_new (w_of p) (w_few p)

  pub byte_z : byte_of unit obus p k / 128 % 2 ≡ cond continues 1 0
  unfolding n_of byte_of
  byte_z = bit_z continues is_cut is_new (w_of p) (w_few p)

  pub byte_y : byte_of unit obus p k / 64 % 2 ≡ cond is_cut 1 0
  unfolding n_of byte_of
  byte_y = bit_y continues is_cut is_new (w_of p) (w_few p)

  pub byte_w : byte_of unit obus p k / 16 % 4 ≡ w_of p
  unfolding n_of byte_of
  byte_w = bits_w continues is_cut is_new (w_of p) (w_few p)

  pub byte_n : byte_of unit obus p k / 8 % 2 ≡ cond is_new 1 0
  unfolding n_of byte_of
  byte_n = bit_n continues is_cut is_new (w_of p) (w_few p)

  pub byte_low : byte_of unit obus p k % 8 ≡ 0
  unfolding n_of byte_of
  byte_low = low_clear continues is_cut is_new (w_of p) (w_few p)
