-- The rows of H10: N of packet 0 of a unit. Computed; assumes nothing.
use mathlib.Core.Path.{◌≡◌, refl}
use Prim.Native.Nat.{ℕ}
use mathlib.Core.List.{List, [], ◌∷◌, map}
use Rattle.base.specs.Lists.{keep}
use Rattle.base.specs.Streams.{stream_from}
use Rattle.leb128.specs.Field.{field_in}
use Rattle.obu.specs.Front.{front_of, headed}
use Rattle.obu.specs.Unit.{obus_of}
use Rattle.aggregation.specs.New.{before_frame, from_frame, n_of}

pub record Row : Type 0 where
  unit : List ℕ
  pub new : ℕ

set : List ℕ → Row
set unit = record { unit = unit; new = 8 }

clear : List ℕ → Row
clear unit = record { unit = unit; new = 0 }

pub new_of : Row → ℕ
new_of r = n_of r.unit (obus_of r.unit) 0

pub rows : List Row
rows =
    -- a shown key frame; show_frame 0; frame_type 1; show_existing_frame 1
    set (0x0a ∷ 0x01 ∷ 0x00 ∷ 0x32 ∷ 0x01 ∷ 0x10 ∷ [])
    ∷ clear (0x0a ∷ 0x01 ∷ 0x00 ∷ 0x32 ∷ 0x01 ∷ 0x00 ∷ [])
    ∷ clear (0x0a ∷ 0x01 ∷ 0x00 ∷ 0x32 ∷ 0x01 ∷ 0x30 ∷ [])
    ∷ clear (0x0a ∷ 0x01 ∷ 0x00 ∷ 0x32 ∷ 0x01 ∷ 0x90 ∷ [])
    -- reduced still pictures; of two sequence headers the last before the frame header counts, and none behind it
    ∷ set (0x0a ∷ 0x01 ∷ 0x08 ∷ 0x32 ∷ 0x01 ∷ 0xff ∷ [])
    ∷ clear (0x0a ∷ 0x01 ∷ 0x08 ∷ 0x0a ∷ 0x01 ∷ 0x00 ∷ 0x32 ∷ 0x01 ∷ 0xff ∷ [])
    ∷ set (0x0a ∷ 0x01 ∷ 0x00 ∷ 0x0a ∷ 0x01 ∷ 0x08 ∷ 0x32 ∷ 0x01 ∷ 0xff ∷ [])
    ∷ clear (0x32 ∷ 0x01 ∷ 0x10 ∷ 0x0a ∷ 0x01 ∷ 0x00 ∷ [])
    -- empty payloads
    ∷ clear (0x0a ∷ 0x00 ∷ 0x32 ∷ 0x01 ∷ 0x10 ∷ [])
    ∷ clear (0x0a ∷ 0x01 ∷ 0x00 ∷ 0x0a ∷ 0x00 ∷ 0x32 ∷ 0x01 ∷ 0x10 ∷ [])
    ∷ clear (0x0a ∷ 0x01 ∷ 0x00 ∷ 0x32 ∷ 0x00 ∷ [])
    ∷ clear (0x0a ∷ 0x01 ∷ 0x08 ∷ 0x32 ∷ 0x00 ∷ [])
    -- temporal_id 1; spatial_id 3; types 7 and 3; no frame header, no OBU
    ∷ clear (0x0a ∷ 0x01 ∷ 0x00 ∷ 0x36 ∷ 0x20 ∷ 0x01 ∷ 0x10 ∷ [])
    ∷ set (0x0a ∷ 0x01 ∷ 0x00 ∷ 0x36 ∷ 0x18 ∷ 0x01 ∷ 0x10 ∷ [])
    ∷ clear (0x0a ∷ 0x01 ∷ 0x00 ∷ 0x3a ∷ 0x01 ∷ 0x10 ∷ [])
    ∷ set (0x0a ∷ 0x01 ∷ 0x00 ∷ 0x1a ∷ 0x01 ∷ 0x10 ∷ [])
    ∷ clear (0x0a ∷ 0x01 ∷ 0x08 ∷ [])
    ∷ clear []
    ∷ []

pub table : map new_of rows ≡ map (λ (r : Row). r.new) rows
unfolding new_of set clear rows n_of before_frame from_frame keep stream_from front_of headed field_in
table = refl
