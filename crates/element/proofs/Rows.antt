-- Payloads of E5 and of the rows of U, read; computed. Assumes nothing.
use mathlib.Core.Path.{◌≡◌, refl}
use Prim.Native.Nat.{ℕ}
use mathlib.Core.List.{List, [], ◌∷◌, map}
use Rattle.base.specs.Answers.{Answer, given, refused}
use Rattle.base.specs.Streams.{stream_from}
use Rattle.leb128.specs.Field.{field_in}
use Rattle.element.specs.Elements.{bytes_of, element_at, exactly, counting, elements_of, payload_elements, element_of}
use Rattle.element.specs.declared.Part.{Part}

-- a payload's elements as bytes
abbrev read : List ℕ → Answer (List (List ℕ))
read payload = bytes (payload_elements payload)
  where
    bytes : Answer (List Part) → Answer (List (List ℕ))
    bytes (given es) = given (map (bytes_of payload) es)
    bytes (refused n at) = refused n at

-- refusals, and the place that each carries
bad : List (List ℕ)
bad =
    []
    ∷ (0x88 ∷ 0 ∷ [])
    ∷ (0x00 ∷ [])
    ∷ (0x10 ∷ [])
    ∷ (0x20 ∷ [])
    ∷ (0x30 ∷ [])
    ∷ (0x20 ∷ 1 ∷ 0x30 ∷ [])
    ∷ (0x30 ∷ 1 ∷ 0x30 ∷ [])
    ∷ (0x00 ∷ 1 ∷ 0x30 ∷ 0 ∷ [])
    ∷ (0x00 ∷ 1 ∷ 0x30 ∷ 2 ∷ 0x30 ∷ [])
    ∷ (0x00 ∷ 1 ∷ 0x30 ∷ 0x80 ∷ [])
    ∷ (0x20 ∷ 0x80 ∷ 0x80 ∷ 0x80 ∷ 0x80 ∷ 0x10 ∷ 0x30 ∷ [])
    ∷ (0x20 ∷ 0 ∷ 0x30 ∷ [])
    ∷ []

refusals :
    map read bad
    ≡ refused 13 0 ∷ refused 15 0 ∷ refused 17 1 ∷ refused 17 1 ∷ refused 16 1 ∷ refused 16 1 ∷ refused 17 3 ∷ refused 16 3
    ∷ refused 17 3 ∷ refused 17 3 ∷ refused 16 3 ∷ refused 16 1 ∷ refused 17 1 ∷ []
unfolding bad payload_elements elements_of counting stream_from exactly element_at field_in
refusals = refl

-- the payloads of U3, U6, U8 and U9, one of a padded length field, and one with every bit set that is ignored
good : List (List ℕ)
good =
    (0x00 ∷ 1 ∷ 0x30 ∷ [])
    ∷ (0x50 ∷ 8 ∷ [])
    ∷ (0x90 ∷ 0x7f ∷ [])
    ∷ (0x20 ∷ 4 ∷ 8 ∷ 0x11 ∷ 0x22 ∷ 0x33 ∷ 0x30 ∷ 0xa1 ∷ 0xa2 ∷ 0xa3 ∷ 0xa4 ∷ 0xa5 ∷ [])
    ∷ (0x30 ∷ 1 ∷ 0x30 ∷ 1 ∷ 0x31 ∷ 0x32 ∷ [])
    ∷ (0x00 ∷ 1 ∷ 0x30 ∷ 1 ∷ 0x31 ∷ 1 ∷ 0x32 ∷ 1 ∷ 0x33 ∷ [])
    ∷ (0x27 ∷ 0x82 ∷ 0x80 ∷ 0 ∷ 0x30 ∷ 0xa1 ∷ 0x31 ∷ [])
    ∷ []

elements :
    map read good
    ≡ given ((0x30 ∷ []) ∷ [])
    ∷ given ((8 ∷ []) ∷ [])
    ∷ given ((0x7f ∷ []) ∷ [])
    ∷ given ((8 ∷ 0x11 ∷ 0x22 ∷ 0x33 ∷ []) ∷ (0x30 ∷ 0xa1 ∷ 0xa2 ∷ 0xa3 ∷ 0xa4 ∷ 0xa5 ∷ []) ∷ [])
    ∷ given ((0x30 ∷ []) ∷ (0x31 ∷ []) ∷ (0x32 ∷ []) ∷ [])
    ∷ given ((0x30 ∷ []) ∷ (0x31 ∷ []) ∷ (0x32 ∷ []) ∷ (0x33 ∷ []) ∷ [])
    ∷ given ((0x30 ∷ 0xa1 ∷ []) ∷ (0x31 ∷ []) ∷ [])
    ∷ []
unfolding good payload_elements elements_of counting stream_from exactly element_at field_in
elements = refl

-- element 1 of U6, and none where the last element is bad
one :
    map (λ (payload : List ℕ). element_of payload 1)
    ((0x20 ∷ 4 ∷ 8 ∷ 0x11 ∷ 0x22 ∷ 0x33 ∷ 0x30 ∷ 0xa1 ∷ [])
    ∷ (0x00 ∷ 1 ∷ 0x30 ∷ 1 ∷ 0x31 ∷ 0 ∷ [])
    ∷ (0x10 ∷ 0x30 ∷ [])
    ∷ [])
    ≡ record { start = 6; length = 2; next = 8 } ∷ record { start = 0; length = 0; next = 0 } ∷ record { start = 0; length = 0; next = 0 } ∷ []
unfolding payload_elements elements_of counting stream_from exactly element_at field_in
one = refl
