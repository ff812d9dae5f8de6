-- A lawful train by example: the payloads of U7, the first with N, and of U9, and one of another sender, with a padded length field; computed. Assumes nothing.
use mathlib.Core.Path.{◌≡◌, refl}
use Prim.Native.Nat.{ℕ}
use native.Mathlib.Omega.{arith}
use mathlib.Core.List.{List, [], ◌∷◌, map}
use mathlib.Core.Bool.{true, false}
use Rattle.leb128.specs.Field.{field_in, form}
use Rattle.obu.specs.Front.{front_of, headed}
use Rattle.obu.specs.Wire.{whole_of}
use Rattle.lawful.specs.Train.{Piece, cut, inner, final, closed, packets, packets_of_pieces, obus, obus_of_pieces, join}
use Rattle.lawful.specs.Payload.{Holds, bare, last, more, each, exact}
use Rattle.lawful.specs.Lawful.{Lawful}

unfoldable pub example : List Piece
example =
    cut (0x08 ∷ 0x11 ∷ [])
    ∷ final (0x22 ∷ 0x33 ∷ [])
    ∷ cut (0x30 ∷ 0xa1 ∷ [])
    ∷ cut (0xa2 ∷ 0xa3 ∷ [])
    ∷ final (0xa4 ∷ 0xa5 ∷ [])
    ∷ inner (0x30 ∷ [])
    ∷ inner (0x30 ∷ [])
    ∷ inner (0x30 ∷ [])
    ∷ final (0x30 ∷ [])
    ∷ inner (0x30 ∷ 0xb1 ∷ [])
    ∷ final (0x34 ∷ 0x08 ∷ [])
    ∷ []

unfoldable pub payloads : List (List ℕ)
payloads =
    (0x58 ∷ 0x08 ∷ 0x11 ∷ [])
    ∷ (0x90 ∷ 0x22 ∷ 0x33 ∷ [])
    ∷ (0x50 ∷ 0x30 ∷ 0xa1 ∷ [])
    ∷ (0xd0 ∷ 0xa2 ∷ 0xa3 ∷ [])
    ∷ (0x90 ∷ 0xa4 ∷ 0xa5 ∷ [])
    ∷ (0x00 ∷ 1 ∷ 0x30 ∷ 1 ∷ 0x30 ∷ 1 ∷ 0x30 ∷ 1 ∷ 0x30 ∷ [])
    ∷ (0x27 ∷ 0x82 ∷ 0x80 ∷ 0x00 ∷ 0x30 ∷ 0xb1 ∷ 0x34 ∷ 0x08 ∷ [])
    ∷ []

-- its packets, the second with Z, the third with Y, the fourth with both
run :
    packets_of_pieces example
    ≡ record { z = false; y = true; elements = (0x08 ∷ 0x11 ∷ []) ∷ [] }
    ∷ record { z = true; y = false; elements = (0x22 ∷ 0x33 ∷ []) ∷ [] }
    ∷ record { z = false; y = true; elements = (0x30 ∷ 0xa1 ∷ []) ∷ [] }
    ∷ record { z = true; y = true; elements = (0xa2 ∷ 0xa3 ∷ []) ∷ [] }
    ∷ record { z = true; y = false; elements = (0xa4 ∷ 0xa5 ∷ []) ∷ [] }
    ∷ record { z = false; y = false; elements = (0x30 ∷ []) ∷ (0x30 ∷ []) ∷ (0x30 ∷ []) ∷ (0x30 ∷ []) ∷ [] }
    ∷ record { z = false; y = false; elements = (0x30 ∷ 0xb1 ∷ []) ∷ (0x34 ∷ 0x08 ∷ []) ∷ [] }
    ∷ []
unfolding example packets
run = refl

-- its OBUs
whole_obus_lem :
    map join (obus_of_pieces example)
    ≡ (0x08 ∷ 0x11 ∷ 0x22 ∷ 0x33 ∷ [])
    ∷ (0x30 ∷ 0xa1 ∷ 0xa2 ∷ 0xa3 ∷ 0xa4 ∷ 0xa5 ∷ [])
    ∷ (0x30 ∷ []) ∷ (0x30 ∷ []) ∷ (0x30 ∷ []) ∷ (0x30 ∷ [])
    ∷ (0x30 ∷ 0xb1 ∷ [])
    ∷ (0x34 ∷ 0x08 ∷ [])
    ∷ []
unfolding example obus join
whole_obus_lem = refl

pub lawful : Lawful example payloads
unfolding example payloads closed packets obus join form whole_of front_of headed field_in
lawful =
    record {
      full = (omega arith, (omega arith, (omega arith, (omega arith, (omega arith, (omega arith, (omega arith, (omega arith, (omega arith, (omega arith, (omega arith, tt)))))))))));
      ends = refl;
      well_formed = (tt, (tt, (tt, (tt, (tt, (tt, (tt, (tt, tt))))))));
      carried = (
        record { short = omega arith; z_is = refl; y_is = refl; n_clear = refl; counted = exact refl bare },
        (
          record { short = omega arith; z_is = refl; y_is = refl; n_clear = refl; counted = exact refl bare },
          (
            record { short = omega arith; z_is = refl; y_is = refl; n_clear = refl; counted = exact refl bare },
            (
              record { short = omega arith; z_is = refl; y_is = refl; n_clear = refl; counted = exact refl bare },
              (
                record { short = omega arith; z_is = refl; y_is = refl; n_clear = refl; counted = exact refl bare },
                (
                  record { short = omega arith; z_is = refl; y_is = refl; n_clear = refl; counted = each (more {e = one} 0 field (more {e = one} 0 field (more {e = one} 0 field (last {e = one} 0 field)))) },
                  (
                    record { short = omega arith; z_is = refl; y_is = refl; n_clear = refl; counted = exact refl (more {e = 0x30 ∷ 0xb1 ∷ []} 2 (omega arith, omega arith) bare) },
                    tt,
                  ),
                ),
              ),
            ),
          ),
        ),
      );
    }
  where
    one : List ℕ
    one = 0x30 ∷ []

    field : Holds 0 1
    field = (omega arith, omega arith)
