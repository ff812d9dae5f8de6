-- A kept OBU as it is sent, and what a receiver hands out for an OBU of exactly these bytes (O10 to O12, F6, R18).
use Rattle.std.specs.Prelude.{ℕ, List, [], ◌∷◌, ◌++◌, Bool, false, cond, length, take, drop, eqb}
use Rattle.base.specs.Answers.{Answer, given, refused}
use Rattle.leb128.specs.Field.{encode, is_padded}
use Rattle.obu.specs.Header.{type_of, extension_bit, cleared, marked, drops}
use Rattle.obu.specs.Front.{Front, start_of, span_of, Seen, found, stopped, front_of}
use Rattle.obu.specs.declared.Obu.{Obu}

-- the extension byte e where the header byte h says that there is one
abbrev pub extension_bytes : ℕ → ℕ → List ℕ
extension_bytes h e = cond (eqb (extension_bit h) 1) (e ∷ []) []

abbrev pub payload_of : List ℕ → Obu → List ℕ
payload_of unit o = take o.length (drop o.start unit)

-- bit 1 cleared, and no size field
abbrev pub sent : List ℕ → Obu → List ℕ
sent unit o = cleared o.header ∷ (extension_bytes o.header o.extension ++ payload_of unit o)

-- an OBU of exactly these bytes
abbrev pub exactly : List ℕ → Seen → Answer Front
exactly bytes (found f) = cond (eqb (span_of f) (length bytes)) (given f) (refused 18 0)
exactly bytes (stopped n) = refused 18 0

unfoldable pub whole_of : List ℕ → Answer Front
whole_of bytes = exactly bytes (front_of bytes)

-- whether its size field is padded (F6)
abbrev pub padded_by : Answer Front → Bool
padded_by (given f) = is_padded f.payload f.field
padded_by (refused n at) = false

unfoldable pub padded_size : List ℕ → Bool
padded_size bytes = padded_by (whole_of bytes)

-- bit 1 set, extension byte, shortest size field, payload
abbrev pub framed : ℕ → ℕ → List ℕ → List ℕ
framed h e payload = marked h ∷ (extension_bytes h e ++ (encode (length payload) ++ payload))

-- nothing for the dropped types
abbrev pub handed_out : List ℕ → Answer Front → Answer (List ℕ)
handed_out bytes (given f) =
    given (cond (drops (type_of f.header)) [] (framed f.header f.extension (drop (start_of f) bytes)))
handed_out bytes (refused n at) = refused n at

unfoldable pub wire : List ℕ → Answer (List ℕ)
wire bytes = handed_out bytes (whole_of bytes)

-- what comes out at the other end for a kept OBU of a unit
abbrev pub wire_of : List ℕ → Obu → List ℕ
wire_of unit o = framed o.header o.extension (payload_of unit o)
