-- The OBU at the front of some bytes (O3, O4, R3 to R7).
use Rattle.std.specs.Prelude.{ℕ, ◌+◌, ◌-◌, List, [], ◌∷◌, cond, length, leb, eqb}
use Rattle.leb128.specs.Field.{Field, sized, unreadable, size_field}
use Rattle.obu.specs.Header.{extension_bit, size_bit, header_length}

-- an OBU's header bytes and its size field are ten bytes at most
abbrev pub head_bytes : ℕ
head_bytes = 10

-- its header byte, its extension byte (0 without one), and how many bytes its size field and its payload have
pub record Front : Type 0 where
  pub header : ℕ
  pub extension : ℕ
  pub field : ℕ
  pub payload : ℕ

-- where its payload starts, and how many bytes it takes in all
abbrev pub start_of : Front → ℕ
start_of f = header_length f.header + f.field

abbrev pub span_of : Front → ℕ
span_of f = start_of f + f.payload

pub data Seen : Type 0 where
  found : Front → Seen
  stopped : ℕ → Seen

-- by its size field, with `left` bytes after the header
abbrev pub sized_by : ℕ → ℕ → ℕ → Field → Seen
sized_by h e left (sized v n) =
    cond (leb v (left - n)) (found (record { header = h; extension = e; field = n; payload = v })) (stopped 7)
sized_by h e left (unreadable n) = stopped n

-- with the header byte h and the extension byte e: a size field, or all that is left
unfoldable pub headed : ℕ → ℕ → List ℕ → Seen
headed h e rest =
    cond (eqb (size_bit h) 1)
    (cond (eqb (length rest) 0) (stopped 4) (sized_by h e (length rest) (size_field rest)))
    (found (record { header = h; extension = e; field = 0; payload = length rest }))

abbrev pub extended : ℕ → List ℕ → Seen
extended h [] = stopped 3
extended h (e ∷ rest) = headed h e rest

unfoldable pub front_of : List ℕ → Seen
front_of [] = stopped 3
front_of (h ∷ rest) = cond (eqb (extension_bit h) 1) (extended h rest) (headed h 0 rest)
