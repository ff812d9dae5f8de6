-- The rows of U that refuse or keep nothing odd, on the list call; computed. Assumes nothing.
use mathlib.Core.Path.{◌≡◌, refl}
use Prim.Native.Nat.{ℕ}
use mathlib.Core.List.{List, [], ◌∷◌, map, flat_map}
use Rattle.base.specs.Answers.{Answer, given, refused}
use Rattle.base.specs.Lists.{keep}
use Rattle.base.specs.Streams.{stream_from}
use Rattle.leb128.specs.Field.{field_in, encode_in}
use Rattle.obu.specs.Front.{front_of, headed}
use Rattle.obu.specs.Unit.{listed, obus_of}
use Rattle.obu.specs.Wire.{whole_of, wire}
use Rattle.obu.specs.declared.Listed.{Listed}
use Rattle.obu.specs.Records.{flat}

units : List (List ℕ)
units =
    []
    ∷ (0x12 ∷ 0 ∷ 0x0a ∷ 3 ∷ 0x11 ∷ 0x22 ∷ 0x33 ∷ 0x32 ∷ 5 ∷ 0xa1 ∷ 0xa2 ∷ 0xa3 ∷ 0xa4 ∷ 0xa5 ∷ [])
    ∷ (0x34 ∷ 8 ∷ [])
    ∷ (0x36 ∷ 8 ∷ 1 ∷ 0xc1 ∷ [])
    ∷ (0x32 ∷ 0x80 ∷ 0x80 ∷ 0x80 ∷ 0x80 ∷ 0x80 ∷ 0x80 ∷ 0x80 ∷ 0 ∷ [])
    ∷ (0x32 ∷ 0 ∷ 0x32 ∷ 0 ∷ 0x32 ∷ 2 ∷ 0xa1 ∷ [])
    ∷ (0x36 ∷ [])
    ∷ (0x32 ∷ [])
    ∷ (0x36 ∷ 8 ∷ [])
    ∷ (0x32 ∷ 0xff ∷ [])
    ∷ (0x32 ∷ 2 ∷ 0xa1 ∷ [])
    ∷ (0x32 ∷ 0x80 ∷ 0x80 ∷ 0x80 ∷ 0x80 ∷ 0x10 ∷ [])
    ∷ (0x32 ∷ 0 ∷ 0x7a ∷ 0 ∷ 0x32 ∷ [])
    ∷ (0x32 ∷ 0x80 ∷ 0 ∷ 0x12 ∷ 0x81 ∷ 0 ∷ 1 ∷ [])
    ∷ (0x32 ∷ 0 ∷ [])
    ∷ (0x12 ∷ 0x80 ∷ 0 ∷ [])
    ∷ []

-- a unit of so many kept OBUs, and of all of so many padded size fields
lists : ℕ → ℕ → Answer Listed
lists n p = given (record { obus = n; padded = p })

table :
    map (listed 2) units
    ≡ lists 0 0 ∷ lists 2 0 ∷ lists 1 0 ∷ lists 1 0 ∷ lists 1 1 ∷ refused 7 4
    ∷ refused 3 0 ∷ refused 4 0 ∷ refused 4 0 ∷ refused 5 0 ∷ refused 7 0 ∷ refused 6 0 ∷ refused 4 4
    ∷ lists 1 2 ∷ lists 1 0 ∷ lists 0 1 ∷ []
unfolding units lists listed stream_from front_of headed field_in encode_in keep
table = refl

-- with space for one record, the second kept OBU is refused before the third is looked at
early : listed 1 (0x32 ∷ 0 ∷ 0x32 ∷ 0 ∷ 0x32 ∷ 2 ∷ 0xa1 ∷ []) ≡ refused 8 2
unfolding listed stream_from front_of headed field_in keep
early = refl

flattened :
    flat (obus_of (0x12 ∷ 0 ∷ 0x0a ∷ 3 ∷ 0x11 ∷ 0x22 ∷ 0x33 ∷ 0x36 ∷ 8 ∷ 1 ∷ 0xc1 ∷ []))
    ≡ 10 ∷ 0 ∷ 4 ∷ 3 ∷ 4 ∷ 54 ∷ 8 ∷ 10 ∷ 1 ∷ 3 ∷ []
unfolding stream_from front_of headed field_in keep flat_map
flattened = refl

-- an OBU of exactly these bytes: broken, or handed out with bit 1 set and a size field; dropped types hand out nothing
finished : List (List ℕ)
finished = (0x30 ∷ 0xa1 ∷ []) ∷ (0x34 ∷ 8 ∷ []) ∷ (0x32 ∷ 0x81 ∷ 0 ∷ 0xa1 ∷ []) ∷ (0x10 ∷ []) ∷ (0x12 ∷ []) ∷ (0x32 ∷ 0x80 ∷ []) ∷ (0x34 ∷ []) ∷ (0x32 ∷ 0 ∷ 0xa1 ∷ []) ∷ []

handed :
    map wire finished
    ≡ given (0x32 ∷ 1 ∷ 0xa1 ∷ []) ∷ given (0x36 ∷ 8 ∷ 0 ∷ []) ∷ given (0x32 ∷ 1 ∷ 0xa1 ∷ []) ∷ given []
    ∷ refused 18 0 ∷ refused 18 0 ∷ refused 18 0 ∷ refused 18 0 ∷ []
unfolding finished wire whole_of front_of headed field_in encode_in
handed = refl
