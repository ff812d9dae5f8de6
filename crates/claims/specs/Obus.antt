-- OBUs (O1, O4 to O6, O10 to O12).
use Rattle.std.specs.Prelude.{◌≡◌, ℕ, ◌+◌, ◌≤◌, false, length, drop}
use mathlib.Core.List.{List, ◌∷◌, flat_map}
use Rattle.base.specs.Answers.{given}
use Rattle.base.specs.Lists.{All}
use Rattle.obu.specs.Header.{type_of, drops}
use Rattle.obu.specs.Front.{Front, span_of, found, front_of}
use Rattle.obu.specs.Unit.{unit_limit, Placed, placed, scan_from, kept_of, obus_of}
use Rattle.obu.specs.Wire.{sent, wire, wire_of}
use Rattle.obu.specs.Laws.{Spans, Inside}
use Rattle.obu.specs.declared.Obu.{Obu}

-- O4: what is found lies in the bytes
abbrev pub FrontSpans : Type 0
FrontSpans = (l : List ℕ) → Spans l (front_of l)

-- O1: an OBU that is found, and then the scan of what follows it
abbrev pub ScanFound : Type 0
ScanFound =
    (l : List ℕ) (at : ℕ) (f : Front) → found f ≡ front_of l → 1 ≤ length l
    → scan_from l at
    ≡ record {
      items = placed at f ∷ (scan_from (drop (span_of f) l) (at + span_of f)).items;
      stop = (scan_from (drop (span_of f) l) (at + span_of f)).stop;
    }

-- O6, O7: every kept OBU lies in its unit; its size is 1 to the unit's length
abbrev pub KeptInside : Type 0
KeptInside = (unit : List ℕ) → All (Inside (length unit)) (kept_of unit)

abbrev pub InsideSize : Type 0
InsideSize = (total : ℕ) (p : Placed) → Inside total p → (1 ≤ p.obu.size) × (p.obu.size ≤ total)

-- O10: what is sent of an OBU has its size
abbrev pub SentLength : Type 0
SentLength = (unit : List ℕ) (p : Placed) → Inside (length unit) p → length (sent unit p.obu) ≡ p.obu.size

-- O11, O12: what comes out for it; and for a unit that is at most its length plus 3
abbrev pub WireSent : Type 0
WireSent = (unit : List ℕ) (o : Obu) → drops (type_of o.header) ≡ false → wire (sent unit o) ≡ given (wire_of unit o)

abbrev pub WireSmall : Type 0
WireSmall = (unit : List ℕ) → length unit ≤ unit_limit → length (flat_map (wire_of unit) (obus_of unit)) ≤ length unit + 3
