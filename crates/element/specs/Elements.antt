-- The elements of a payload, their padded length fields, and element k (E1 to E8, F6, R13, R15 to R17).
use Rattle.std.specs.Prelude.{ℕ, zero, suc, ◌+◌, ◌-◌, List, [], ◌∷◌, Bool, true, cond, not, ◌&&◌, length, get_or, take, drop, ltb, eqb}
use Rattle.base.specs.Answers.{Answer, given, refused}
use Rattle.base.specs.Streams.{Next, item, halt, Stream, stream_of, whole}
use Rattle.leb128.specs.Field.{Field, sized, unreadable, size_field, is_padded}
use Rattle.element.specs.Header.{z_bit, w_of, n_bit}
use Rattle.element.specs.declared.Part.{Part}

-- L3
abbrev pub payload_limit : ℕ
payload_limit = 1048576

-- the bytes of an element
abbrev pub bytes_of : List ℕ → Part → List ℕ
bytes_of payload p = take p.length (drop p.start payload)

-- ---- one element, which begins at `at`, with so many bytes left

-- by its length field
abbrev pub counted : ℕ → ℕ → Field → Answer Part
counted at left (sized v n) =
    cond (eqb v 0)
    (refused 17 at)
    (cond (ltb (left - n) v) (refused 17 at) (given (record { start = at + n; length = v; next = at + n + v })))
counted at left (unreadable k) = refused 16 at

-- all that is left
abbrev pub remaining : ℕ → ℕ → Answer Part
remaining at left = cond (eqb left 0) (refused 17 at) (given (record { start = at; length = left; next = at + left }))

-- these bytes being left: with a length field, or without one
unfoldable pub element_at : Bool → ℕ → List ℕ → Answer Part
element_at field at l = cond field (counted at (length l) (size_field l)) (remaining at (length l))

-- ---- all elements, in order, or the leftmost fault

-- an element, and then those from its next cursor on
abbrev pub first : Part → Answer (List Part) → Answer (List Part)
first p (given ps) = given (p ∷ ps)
first p (refused n at) = refused n at

abbrev pub followed : Answer Part → (ℕ → Answer (List Part)) → Answer (List Part)
followed (given p) rest = first p (rest p.next)
followed (refused n at) rest = refused n at

-- an element at `at` as an item of a stream: its cursor is known before it
abbrev pub element_by : ℕ → Answer Part → Next Part (Answer (Unit {0})) ℕ
element_by at (given p) = item p (p.next - at) p.next
element_by at (refused n a) = halt (refused n a)

abbrev pub element_next : ℕ → List ℕ → Next Part (Answer (Unit {0})) ℕ
element_next at l = element_by at (element_at true at l)

-- E2: of the bytes from `at` on, elements with a length field until the end
abbrev pub read_from : List ℕ → ℕ → Stream Part (Answer (Unit {0}))
read_from l at = stream_of element_next (given tt) l at

abbrev pub until_end : List ℕ → ℕ → Answer (List Part)
until_end l at = whole (read_from l at)

-- E3: so many elements, each but the last with a length field
unfoldable pub exactly : ℕ → List ℕ → ℕ → Answer (List Part)
exactly zero l at = given []
exactly (suc n) l at = followed (element_at (not (eqb n 0)) at l) (λ next. exactly n (drop (next - at) l) next)

-- E5: by W, on the bytes after the header
unfoldable pub counting : ℕ → List ℕ → Answer (List Part)
counting w l = cond (eqb w 0) (cond (eqb (length l) 0) (refused 17 1) (until_end l 1)) (exactly w l 1)

-- of a payload, whose first byte is its header: R15, then the elements
unfoldable pub elements_of : List ℕ → Answer (List Part)
elements_of [] = refused 13 0
elements_of (h ∷ l) = cond (eqb (z_bit h) 1 && eqb (n_bit h) 1) (refused 15 0) (counting (w_of h) l)

-- the same after R13
unfoldable pub payload_elements : List ℕ → Answer (List Part)
payload_elements payload = cond (ltb payload_limit (length payload)) (refused 13 0) (elements_of payload)

-- ---- padded length fields (F6): the bytes of a length field stand between its element's cursor and its start

-- of an element that begins at `at`: one, or none
abbrev pub padded_at : ℕ → Part → ℕ
padded_at at p = cond (is_padded p.length (p.start - at)) 1 0

-- of elements the first of which begins at `at`
abbrev pub padded_from : ℕ → List Part → ℕ
padded_from at [] = 0
padded_from at (p ∷ ps) = padded_at at p + padded_from p.next ps

abbrev pub padded_by : Answer (List Part) → ℕ
padded_by (given ps) = padded_from 1 ps
padded_by (refused n at) = 0

-- of a payload
abbrev pub padded_lengths : List ℕ → ℕ
padded_lengths payload = padded_by (payload_elements payload)

-- ---- what a walk from element to element goes by

-- after n elements, with so many bytes left: whether a further one is due
abbrev pub is_due : ℕ → ℕ → ℕ → Bool
is_due w n left = cond (eqb w 0) (ltb 0 left) (ltb n w)

-- whether element n has a length field
abbrev pub has_field : ℕ → ℕ → Bool
has_field w n = not (eqb (n + 1) w)

-- ---- element k (E7, E8)

-- the empty part at the payload's start
abbrev pub nowhere : Part
nowhere = record { start = 0; length = 0; next = 0 }

abbrev pub chosen : ℕ → Answer (List Part) → Part
chosen k (given ps) = get_or ps k nowhere
chosen k (refused n at) = nowhere

abbrev pub element_of : List ℕ → ℕ → Part
element_of payload k = chosen k (payload_elements payload)

-- so many bytes behind a place in memory, which is a block and an offset in it
abbrev pub place_at : ℕ × ℕ → ℕ → ℕ × ℕ
place_at p n = (p.0, n + p.1)
