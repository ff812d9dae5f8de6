-- The OBUs of a unit, and the list call (O1, O5 to O9, F6, R2, R8, C1).
use Rattle.std.specs.Prelude.{ℕ, ◌+◌, ◌/◌, List, map, Bool, cond, not, length, get_or, ltb}
use Rattle.base.specs.Answers.{Answer, given, refused, stored, if_same}
use Rattle.base.specs.Lists.{keep, is_front}
use Rattle.base.specs.Streams.{Next, item, halt, Stream, stream_of}
use Rattle.leb128.specs.Field.{is_padded}
use Rattle.obu.specs.Header.{type_of, header_length, drops}
use Rattle.obu.specs.Front.{Front, start_of, span_of, Seen, found, stopped, front_of}
use Rattle.obu.specs.Records.{obu_numbers, flat}
use Rattle.obu.specs.declared.Obu.{Obu}
use Rattle.obu.specs.declared.Listed.{Listed}
use Rattle.obu.specs.declared.compare.Kept.{Kept}

-- L1
abbrev pub unit_limit : ℕ
unit_limit = 1048576

-- an OBU in its unit: the offset of its header byte, the length of its size field, its record
pub record Placed : Type 0 where
  pub at : ℕ
  pub field : ℕ
  pub obu : Obu

abbrev pub placed : ℕ → Front → Placed
placed at f =
    record {
      at = at;
      field = f.field;
      obu =
          record {
            header = f.header;
            extension = f.extension;
            start = at + start_of f;
            length = f.payload;
            size = header_length f.header + f.payload;
          };
    }

-- all OBUs up to the end, or up to the first that is refused
pub data ScanEnd : Type 0 where
  ended : ScanEnd
  refused_by : ℕ → ℕ → ScanEnd

abbrev pub Scan : Type 0
Scan = Stream Placed ScanEnd

-- what stands at the front of the bytes from `at` on, as an item of a stream: its offset is known before it
abbrev pub obu_by : ℕ → Seen → Next Placed ScanEnd ℕ
obu_by at (found f) = item (placed at f) (span_of f) (at + span_of f)
obu_by at (stopped n) = halt (refused_by n at)

abbrev pub obu_next : ℕ → List ℕ → Next Placed ScanEnd ℕ
obu_next at l = obu_by at (front_of l)

-- the OBUs of the bytes from `at` on, and of a unit
abbrev pub scan_from : List ℕ → ℕ → Scan
scan_from l at = stream_of obu_next ended l at

abbrev pub scan_of : List ℕ → Scan
scan_of unit = scan_from unit 0

abbrev pub is_kept : Placed → Bool
is_kept p = not (drops (type_of p.obu.header))

-- the kept OBUs, in order
abbrev pub kept_of : List ℕ → List Placed
kept_of unit = keep is_kept (scan_of unit).items

abbrev pub obus_of : List ℕ → List Obu
obus_of unit = map (λ (p : Placed). p.obu) (kept_of unit)

-- whether the size field of an OBU is padded (F6)
abbrev pub has_padded : Placed → Bool
has_padded p = is_padded p.obu.length p.field

-- ---- the list call, with space for so many records

-- what is said of a unit that is listed: how many OBUs are kept, and of all, the dropped ones too, how many size fields are padded
abbrev pub listed_of : List ℕ → Listed
listed_of unit = record { obus = length (kept_of unit); padded = length (keep has_padded (scan_of unit).items) }

abbrev pub at_stop : ScanEnd → Listed → Answer Listed
at_stop ended l = given l
at_stop (refused_by k at) l = refused k at

unfoldable pub listed : ℕ → List ℕ → Answer Listed
listed space unit =
    cond (ltb unit_limit (length unit))
    (refused 2 0)
    (cond (ltb space (length (kept_of unit)))
    (refused 8 (get_or (map (λ (p : Placed). p.at) (kept_of unit)) space 0))
    (at_stop (scan_of unit).stop (listed_of unit)))

-- the answer for a lent list of numbers, and that list afterwards
abbrev pub list_answer : List ℕ → List ℕ → Answer Listed
list_answer unit l = listed (length l / obu_numbers) unit

abbrev pub list_after : List ℕ → List ℕ → List ℕ
list_after unit l = stored (list_answer unit l) (flat (obus_of unit)) l

-- ---- a lent list that is to hold the unit's records (R31): refused as by the list call, with space enough (a unit has no more OBUs than
-- bytes), and then if the first of its numbers are others. What stands after the records is not looked at

-- the kept OBUs alone of what is listed
abbrev pub kept_only : Answer Listed → Answer Kept
kept_only (given l) = given (record { obus = l.obus })
kept_only (refused n at) = refused n at

unfoldable pub same_list : List ℕ → List ℕ → Answer Kept
same_list unit l = if_same (is_front (flat (obus_of unit)) l) (kept_only (listed (length unit) unit))
