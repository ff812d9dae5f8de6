-- What the laws of OBUs are stated with.
use Rattle.std.specs.Prelude.{◌≡◌, ℕ, ◌+◌, ◌≤◌, ◌<◌, List, ◌⊎◌, length}
use Rattle.leb128.specs.Field.{encode}
pub use Rattle.leb128.specs.Laws.{Bytes}
use Rattle.obu.specs.Header.{header_length}
use Rattle.obu.specs.Front.{span_of, Seen, found, stopped}
use Rattle.obu.specs.Unit.{Placed}
use Rattle.obu.specs.declared.Obu.{Obu}

-- what is found at the front of the bytes lies in them; and its size field is no shorter than the shortest, or it is the last
abbrev pub Spans : List ℕ → Seen → Type 0
Spans l (found f) = (span_of f ≤ length l) × ((length (encode f.payload) ≤ f.field) ⊎ (span_of f ≡ length l))
Spans l (stopped n) = Unit {0}

-- a found OBU: where its payload starts, that it ends in a unit of so many bytes, and its size
pub record Inside (total : ℕ) (p : Placed) : Type 0 where
  pub start : p.obu.start ≡ p.at + (header_length p.obu.header + p.field)
  pub within : p.obu.start + p.obu.length ≤ total
  pub size : p.obu.size ≡ header_length p.obu.header + p.obu.length

-- its header and extension byte are bytes
pub record Small (p : Placed) : Type 0 where
  pub header : p.obu.header < 256
  pub extension : p.obu.extension < 256

-- an OBU of a unit, by its record alone: all of these
pub record Lies (unit : List ℕ) (o : Obu) : Type 0 where
  pub header : o.header < 256
  pub extension : o.extension < 256
  pub within : o.start + o.length ≤ length unit
  pub size : o.size ≡ header_length o.header + o.length
