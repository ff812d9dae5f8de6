-- N: packet 0 of a unit that begins a new coded video sequence (H5), by the unit and its OBU records. The names of the fields are those of
-- the AV1 specification, sections 5.3.3, 5.5.1 and 5.9.2.
use Rattle.std.specs.Prelude.{ℕ, ◌*◌, ◌/◌, ◌%◌, List, [], ◌∷◌, Bool, false, cond, ◌&&◌, ◌||◌, get_or, ltb, eqb}
use Rattle.base.specs.Lists.{keep}
use Rattle.obu.specs.Header.{type_of, extension_bit}
use Rattle.obu.specs.declared.Obu.{Obu}

-- ---- a sequence header that comes before the first frame header

abbrev pub is_sequence_header : Obu → Bool
is_sequence_header o = eqb (type_of o.header) 1

-- a frame header, alone (type 3) or at the front of its frame (type 6)
abbrev pub is_frame_header : Obu → Bool
is_frame_header o = eqb (type_of o.header) 3 || eqb (type_of o.header) 6

-- the OBUs before the first frame header; and it, with those behind it
unfoldable pub before_frame : List Obu → List Obu
before_frame [] = []
before_frame (o ∷ os) = cond (is_frame_header o) [] (o ∷ before_frame os)

unfoldable pub from_frame : List Obu → List Obu
from_frame [] = []
from_frame (o ∷ os) = cond (is_frame_header o) (o ∷ os) (from_frame os)

-- the last of some, the first of which is s
abbrev pub last_of : Obu → List Obu → Obu
last_of s [] = s
last_of s (t ∷ ts) = last_of t ts

-- ---- what is read of the two

abbrev pub first_byte : List ℕ → Obu → ℕ
first_byte unit o = get_or unit o.start 0

-- one, two and one bits of a frame header's first byte, from the top
abbrev pub show_existing_frame : ℕ → ℕ
show_existing_frame b = b / 128 % 2

abbrev pub frame_type : ℕ → ℕ
frame_type b = b / 32 % 4

abbrev pub show_frame : ℕ → ℕ
show_frame b = b / 16 % 2

-- bit 4 of a sequence header's first byte, from the top
abbrev pub reduced_still_picture : ℕ → ℕ
reduced_still_picture b = b / 8 % 2

-- the top three bits of the extension byte, 0 where there is none
abbrev pub temporal_id : Obu → ℕ
temporal_id o = extension_bit o.header * (o.extension / 32 % 8)

-- a key frame that is shown
abbrev pub shown_key : ℕ → Bool
shown_key b = eqb (show_existing_frame b) 0 && (eqb (frame_type b) 0 && eqb (show_frame b) 1)

-- ---- N

-- by the last sequence header and the frame header behind it: of a reduced still picture the frame header's bits are not read
abbrev pub begins : List ℕ → Obu → Obu → Bool
begins unit s f =
    (eqb (reduced_still_picture (first_byte unit s)) 1 || shown_key (first_byte unit f))
    && (eqb (temporal_id f) 0 && (ltb 0 s.length && ltb 0 f.length))

-- by the sequence headers before the first frame header, and it with what stands behind it
abbrev pub new_by : List ℕ → List Obu → List Obu → Bool
new_by unit [] frames = false
new_by unit (s ∷ ss) [] = false
new_by unit (s ∷ ss) (f ∷ fs) = begins unit (last_of s ss) f

abbrev pub new_sequence : List ℕ → List Obu → Bool
new_sequence unit obus = new_by unit (keep is_sequence_header (before_frame obus)) (from_frame obus)

unfoldable pub n_of : List ℕ → List Obu → ℕ → ℕ
n_of unit obus k = cond (eqb k 0 && new_sequence unit obus) 8 0
