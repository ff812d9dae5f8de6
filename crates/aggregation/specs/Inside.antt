-- What functions below the header calls promise: N by one OBU after the other; no other contract cites this.
use Rattle.std.specs.Prelude.{ℕ, List, [], ◌∷◌, Bool, true, false, cond, ◌&&◌, ltb, eqb}
use Rattle.obu.specs.declared.Obu.{Obu}
use Rattle.aggregation.specs.New.{is_sequence_header, is_frame_header, first_byte, reduced_still_picture, temporal_id, shown_key}
use Rattle.aggregation.specs.Header.{outside}
use Rattle.aggregation.specs.declared.Seen.{Seen}
use Rattle.aggregation.specs.declared.Seen.TheVariants.{Nothing, Plain, Reduced, Clear, New, Outside}

-- no OBU that comes can change it, but one outside the unit
abbrev pub settled : Seen → Bool
settled Nothing = false
settled Plain = false
settled Reduced = false
settled Clear = true
settled New = true
settled Outside = true

abbrev pub is_new : Seen → Bool
is_new Nothing = false
is_new Plain = false
is_new Reduced = false
is_new Clear = false
is_new New = true
is_new Outside = false

abbrev pub is_outside : Seen → Bool
is_outside Nothing = false
is_outside Plain = false
is_outside Reduced = false
is_outside Clear = false
is_outside New = false
is_outside Outside = true

-- a sequence header before the first frame header
abbrev pub seen_sequence : List ℕ → Obu → Seen
seen_sequence unit s =
    cond (eqb s.length 0) Nothing (cond (eqb (reduced_still_picture (first_byte unit s)) 1) Reduced Plain)

-- whether the bits of a frame header begin a new sequence, by what was seen of the last sequence header
abbrev pub opens : List ℕ → Seen → Obu → Bool
opens unit Nothing f = false
opens unit Plain f = shown_key (first_byte unit f)
opens unit Reduced f = true
opens unit Clear f = false
opens unit New f = false
opens unit Outside f = false

-- the first frame header
abbrev pub seen_frame : List ℕ → Seen → Obu → Seen
seen_frame unit seen f = cond (opens unit seen f && (eqb (temporal_id f) 0 && ltb 0 f.length)) New Clear

-- one OBU more, in the unit; and one that may be outside
abbrev pub seen_inside : List ℕ → Seen → Obu → Seen
seen_inside unit seen o =
    cond (settled seen)
    seen
    (cond (is_sequence_header o)
    (seen_sequence unit o)
    (cond (is_frame_header o) (seen_frame unit seen o) seen))

abbrev pub seen_next : List ℕ → Seen → Obu → Seen
seen_next unit seen o = cond (outside unit o) Outside (seen_inside unit seen o)

unfoldable pub seen_after : List ℕ → Seen → List Obu → Seen
seen_after unit seen [] = seen
seen_after unit seen (o ∷ os) = seen_after unit (seen_next unit seen o) os
