-- The headers of the rows of U and of G13, and odd lists: computed. Assumes nothing.
use mathlib.Core.Path.{◌≡◌, refl}
use Prim.Native.Nat.{ℕ}
use mathlib.Core.List.{List, [], ◌∷◌, map}
use Rattle.base.specs.Answers.{Answer, given, refused}
use Rattle.base.specs.Lists.{keep}
use Rattle.base.specs.Records.{records_from}
use Rattle.obu.specs.Records.{obus_in}
use Rattle.packetizer.specs.Records.{packets_in}
use Rattle.aggregation.specs.New.{before_frame, from_frame, n_of}
use Rattle.aggregation.specs.Header.{byte_of, any_outside, header_of}

-- of packets 0 to 5
headers : List ℕ → List ℕ → List ℕ → List (Answer ℕ)
headers unit obus plan = map (header_of unit (obus_in obus) (packets_in plan)) (0 ∷ 1 ∷ 2 ∷ 3 ∷ 4 ∷ 5 ∷ [])

none : Answer ℕ
none = refused 11 0

units :
    -- U5 (G13)
    headers (0x0a ∷ 0x01 ∷ 0x7f ∷ 0x32 ∷ 0x00 ∷ []) (0x0a ∷ 0 ∷ 2 ∷ 1 ∷ 2 ∷ 0x32 ∷ 0 ∷ 5 ∷ 0 ∷ 1 ∷ [])
    (0 ∷ 1 ∷ 0 ∷ 2 ∷ 2 ∷ 0 ∷ 1 ∷ 1 ∷ 0 ∷ 1 ∷ 1 ∷ 3 ∷ [])
    -- U6 and U7
    ∷ headers (0x12 ∷ 0 ∷ 0x0a ∷ 3 ∷ 0x11 ∷ 0x22 ∷ 0x33 ∷ 0x32 ∷ 5 ∷ 0xa1 ∷ 0xa2 ∷ 0xa3 ∷ 0xa4 ∷ 0xa5 ∷ [])
    (0x0a ∷ 0 ∷ 4 ∷ 3 ∷ 4 ∷ 0x32 ∷ 0 ∷ 9 ∷ 5 ∷ 6 ∷ []) (0 ∷ 2 ∷ 0 ∷ 6 ∷ 11 ∷ 0 ∷ [])
    ∷ headers (0x12 ∷ 0 ∷ 0x0a ∷ 3 ∷ 0x11 ∷ 0x22 ∷ 0x33 ∷ 0x32 ∷ 5 ∷ 0xa1 ∷ 0xa2 ∷ 0xa3 ∷ 0xa4 ∷ 0xa5 ∷ [])
    (0x0a ∷ 0 ∷ 4 ∷ 3 ∷ 4 ∷ 0x32 ∷ 0 ∷ 9 ∷ 5 ∷ 6 ∷ [])
    (0 ∷ 1 ∷ 0 ∷ 2 ∷ 2 ∷ 0 ∷ 0 ∷ 1 ∷ 2 ∷ 2 ∷ 2 ∷ 3 ∷ 1 ∷ 1 ∷ 0 ∷ 2 ∷ 2 ∷ 6 ∷ 1 ∷ 1 ∷ 2 ∷ 2 ∷ 2 ∷ 9 ∷ 1 ∷ 1 ∷ 4 ∷ 2 ∷ 2 ∷ 12 ∷ [])
    -- U8, U9 and U10
    ∷ headers (0x32 ∷ 0 ∷ 0x32 ∷ 0 ∷ 0x32 ∷ 0 ∷ [])
    (0x32 ∷ 0 ∷ 2 ∷ 0 ∷ 1 ∷ 0x32 ∷ 0 ∷ 4 ∷ 0 ∷ 1 ∷ 0x32 ∷ 0 ∷ 6 ∷ 0 ∷ 1 ∷ []) (0 ∷ 3 ∷ 0 ∷ 1 ∷ 5 ∷ 0 ∷ [])
    ∷ headers (0x32 ∷ 0 ∷ 0x32 ∷ 0 ∷ 0x32 ∷ 0 ∷ 0x32 ∷ 0 ∷ [])
    (0x32 ∷ 0 ∷ 2 ∷ 0 ∷ 1 ∷ 0x32 ∷ 0 ∷ 4 ∷ 0 ∷ 1 ∷ 0x32 ∷ 0 ∷ 6 ∷ 0 ∷ 1 ∷ 0x32 ∷ 0 ∷ 8 ∷ 0 ∷ 1 ∷ []) (0 ∷ 4 ∷ 0 ∷ 1 ∷ 8 ∷ 0 ∷ [])
    ∷ headers (0x34 ∷ 8 ∷ []) (0x34 ∷ 8 ∷ 2 ∷ 0 ∷ 2 ∷ []) (0 ∷ 1 ∷ 0 ∷ 1 ∷ 1 ∷ 0 ∷ 0 ∷ 1 ∷ 1 ∷ 1 ∷ 1 ∷ 2 ∷ [])
    ∷ []
    ≡ (given 0x10 ∷ given 0x10 ∷ none ∷ none ∷ none ∷ none ∷ [])
    ∷ (given 0x20 ∷ none ∷ none ∷ none ∷ none ∷ none ∷ [])
    ∷ (given 0x50 ∷ given 0x90 ∷ given 0x50 ∷ given 0xd0 ∷ given 0x90 ∷ none ∷ [])
    ∷ (given 0x30 ∷ none ∷ none ∷ none ∷ none ∷ none ∷ [])
    ∷ (given 0x00 ∷ none ∷ none ∷ none ∷ none ∷ none ∷ [])
    ∷ (given 0x50 ∷ given 0x90 ∷ none ∷ none ∷ none ∷ none ∷ [])
    ∷ []
unfolding headers none header_of any_outside byte_of n_of before_frame from_frame keep records_from
units = refl

-- header numbers above 255, Z and N both, a sum beyond 32 bits; OBUs beyond the list, no element, an unfinished record
odd :
    headers (0x00 ∷ 0x10 ∷ []) (0x10a ∷ 0 ∷ 0 ∷ 1 ∷ 4294967295 ∷ 0x132 ∷ 0x120 ∷ 1 ∷ 1 ∷ 0 ∷ 0x32 ∷ 0 ∷ 0 ∷ 0 ∷ [])
    (0 ∷ 1 ∷ 4294967295 ∷ 4294967295 ∷ 0 ∷ 0 ∷ 0 ∷ 3 ∷ 0 ∷ 1 ∷ 1 ∷ 0 ∷ 4294967295 ∷ 1 ∷ 0 ∷ 1 ∷ 1 ∷ 0 ∷ 0 ∷ 0 ∷ 0 ∷ 1 ∷ 1 ∷ 0 ∷ 0 ∷ 1 ∷ 0 ∷ 1 ∷ 1 ∷ [])
    ≡ given 0x98 ∷ none ∷ none ∷ none ∷ none ∷ none ∷ []
unfolding headers none header_of any_outside byte_of n_of before_frame from_frame keep records_from
odd = refl

-- a payload that ends at the limit, and some that end beyond it: by one, by a packet size of 32 bits, by both
starts :
    headers (0x0a ∷ 0x01 ∷ 0x7f ∷ []) (0x0a ∷ 0 ∷ 2 ∷ 1 ∷ 2 ∷ [])
    (0 ∷ 1 ∷ 0 ∷ 2 ∷ 2 ∷ 4294967292 ∷ 0 ∷ 1 ∷ 0 ∷ 2 ∷ 2 ∷ 4294967293 ∷ 0 ∷ 1 ∷ 0 ∷ 2 ∷ 4294967295 ∷ 0 ∷ 0 ∷ 1 ∷ 0 ∷ 2 ∷ 4294967295 ∷ 4294967295 ∷ 0 ∷ 1 ∷ 0 ∷ 2 ∷ 4294967294 ∷ 0 ∷ [])
    ≡ given 0x10 ∷ none ∷ none ∷ none ∷ given 0x10 ∷ none ∷ []
unfolding headers none header_of any_outside byte_of n_of before_frame from_frame keep records_from
starts = refl

-- the second OBU, which packet 0 does not use: it ends with the unit, is empty behind it, ends one byte beyond it, is empty one byte
-- beyond it, or its start and length have a sum beyond 32 bits
outsides :
    map (λ (second : List ℕ). header_of (0x32 ∷ 0x01 ∷ 0x00 ∷ []) (obus_in (0x32 ∷ 0 ∷ 2 ∷ 1 ∷ 2 ∷ second)) (packets_in (0 ∷ 1 ∷ 0 ∷ 2 ∷ 2 ∷ 0 ∷ [])) 0)
    ((0x32 ∷ 0 ∷ 0 ∷ 3 ∷ 4 ∷ []) ∷ (0x32 ∷ 0 ∷ 3 ∷ 0 ∷ 1 ∷ []) ∷ (0x32 ∷ 0 ∷ 0 ∷ 4 ∷ 5 ∷ []) ∷ (0x32 ∷ 0 ∷ 4 ∷ 0 ∷ 1 ∷ []) ∷ (0x32 ∷ 0 ∷ 4294967295 ∷ 1 ∷ 2 ∷ []) ∷ [])
    ≡ given 0x10 ∷ given 0x10 ∷ none ∷ none ∷ none ∷ []
unfolding none header_of any_outside byte_of n_of before_frame from_frame keep records_from
outsides = refl
