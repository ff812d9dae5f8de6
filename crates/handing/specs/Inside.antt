-- What the functions that hand out ask and promise; the contract of the receive call cites none of this.
use Rattle.std.specs.Prelude.{◌≡◌, ℕ, ◌+◌, ◌-◌, ◌≤◌, List, [], ◌∷◌, ◌++◌, map, cond, length, get_or, take, drop, eqb}
use Rattle.base.specs.Answers.{Answer, given, refused}
use Rattle.base.specs.Lists.{replaced, front}
use Rattle.element.specs.Elements.{nowhere, bytes_of, payload_elements}
use Rattle.element.specs.declared.Part.{Part}
use Rattle.obu.specs.Wire.{wire, padded_size}
use Rattle.handing.specs.Handing.{fragment_limit, wires, padded_sizes}
use Rattle.handing.specs.declared.Handed.{Handed}

-- ---- bytes across store and payload

-- so many bytes of the store, and then an element of the payload
abbrev pub across : List ℕ → ℕ → List ℕ → ℕ → ℕ → List ℕ
across store kept payload start size = take kept store ++ take size (drop start payload)

-- how many bytes go out, with so many padded size fields; and for two together
abbrev pub handed_of : ℕ → List ℕ → Handed
handed_of padded bytes = record { bytes = length bytes; padded = padded }

abbrev pub both : Handed → Handed → Handed
both a b = record { bytes = a.bytes + b.bytes; padded = a.padded + b.padded }

abbrev pub counted : ℕ → Answer (List ℕ) → Answer Handed
counted padded (given bytes) = given (handed_of padded bytes)
counted padded (refused n at) = refused n at

-- for one OBU, and for these
abbrev pub counted_one : List ℕ → Answer Handed
counted_one o = counted (cond (padded_size o) 1 0) (wire o)

abbrev pub counted_all : List (List ℕ) → Answer Handed
counted_all os = counted (padded_sizes os) (wires os)

-- they are given, and from `at` on there is room for them
abbrev pub RoomAt : ℕ → ℕ → Answer (List ℕ) → Type 0
RoomAt room at (given bytes) = at + length bytes ≤ room
RoomAt room at (refused n a) = ⊥

-- a list with them stored from `at` on, and with them first
abbrev pub put_at : List ℕ → ℕ → Answer (List ℕ) → List ℕ
put_at l at (given bytes) = replaced l at bytes
put_at l at (refused n a) = l

abbrev pub put_first : List ℕ → Answer (List ℕ) → List ℕ
put_first l (given bytes) = front bytes l
put_first l (refused n a) = l

-- ---- elements

abbrev pub parts_by : Answer (List Part) → List Part
parts_by (given ps) = ps
parts_by (refused n at) = []

abbrev pub parts_of : List ℕ → List Part
parts_of payload = parts_by (payload_elements payload)

-- the cursor of element i
abbrev pub cursor_of : List Part → ℕ → ℕ
cursor_of ps i = cond (eqb i 0) 1 (get_or ps (i - 1) nowhere).next

-- some bytes put in front of the first
abbrev pub led : List ℕ → List (List ℕ) → List (List ℕ)
led bytes [] = []
led bytes (e ∷ es) = (bytes ++ e) ∷ es

-- elements `from` up to `to`, the first of them with `kept` bytes of the store in front
abbrev pub between : List ℕ → ℕ → List ℕ → ℕ → ℕ → List (List ℕ)
between store kept payload from to =
    take (to - from) (led (take kept store) (drop from (map (bytes_of payload) (parts_of payload))))

-- what is asked of elements `from` up to `to` before they are handed out: the payload has been read, `cursor` is that of the first of them,
-- and `joined` bytes of the store go in front of it
pub record Finishing (payload : List ℕ) (cursor from to : ℕ) (store : List ℕ) (joined : ℕ) : Type 0 where
  pub whole : payload_elements payload ≡ given (parts_of payload)
  pub cursor_is : cursor ≡ cursor_of (parts_of payload) from
  pub from_in : from ≤ length (parts_of payload)
  pub to_in : to ≤ length (parts_of payload)
  pub stored : joined ≤ length store
  pub small : joined ≤ fragment_limit
