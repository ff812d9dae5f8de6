-- `pack` as functions on bytes: from its input to the train that it writes, and to what it says (G1 to G4, G6, G7, L12 to L14, T1, T2).
use Rattle.std.specs.Prelude.{ℕ, ◌+◌, ◌%◌, cond, ◌||◌, List, [], ◌∷◌, length, take, drop, ◌==◌, nat_lt}
use mathlib.Core.List.{flat_map}
use Rattle.base.specs.Numbers.{packet_numbers}
use Rattle.base.specs.Answers.{Answer, given, refused}
use Rattle.base.specs.BigEndian.{value_of, value_at}
use Rattle.base.specs.Streams.{Next, item, halt, Stream, stream_of}
use Rattle.obu.specs.Unit.{listed}
use Rattle.packetizer.specs.Call.{mtu_limit, unit_plan, planned}
use Rattle.packetizer.specs.declared.Planned.{Planned}
use Rattle.payloader.specs.Payload.{payloads_of}
use Rattle.train.specs.Train.{head_for, number_width, Numbered, record_bytes, train_of}
pub use Rattle.turns.specs.Stores.{unit_store, list_records, output_bytes}
use Rattle.turns.specs.Text.{line_text}
use Rattle.turns.specs.Orders.{next_count}
use Rattle.turns.specs.declared.Subject.TheVariants as subject
use Rattle.turns.specs.declared.Word.TheVariants as word
use Rattle.packing.specs.declared.input.InputVersion.{InputVersion}
use Rattle.packing.specs.declared.input.InputVersion.TheVariants as version
use Rattle.packing.specs.declared.input.PackHead.{PackHead}

-- how many bytes the version and a unit's length have
abbrev pub version_width : ℕ
version_width = 1

abbrev pub unit_width : ℕ
unit_width = 4

-- ---- the head (G2, G6): a version byte, an mtu, and the first number

-- the two versions: the version byte of each, and how many bytes its mtu has
abbrev pub version_byte : InputVersion → ℕ
version_byte version.Short = 1
version_byte version.Long = 2

abbrev pub mtu_width : InputVersion → ℕ
mtu_width version.Short = 2
mtu_width version.Long = 4

-- what a version byte tells, and the first byte of an input
pub data Version : Type 0 where
  known : InputVersion → Version
  other : Version

unfoldable pub version_with : ℕ → Version
version_with b =
    cond (b == version_byte version.Short)
    (known version.Short)
    (cond (b == version_byte version.Long) (known version.Long) other)

unfoldable pub version_in : List ℕ → Version
version_in [] = other
version_in (b ∷ l) = version_with b

-- mtu and first number, which stand behind the version byte, if they are whole
pub data Head : Type 0 where
  found : PackHead → Head
  none : Head

abbrev pub rest_width : InputVersion → ℕ
rest_width v = mtu_width v + number_width

unfoldable pub head_after : InputVersion → List ℕ → Head
head_after v l =
    cond (nat_lt (length l) (rest_width v))
    none
    (found (record { mtu = value_at l 0 (mtu_width v); first = value_at l (mtu_width v) number_width }))

abbrev pub head_by : List ℕ → Version → Head
head_by l (known v) = head_after v l
head_by l other = none

-- those of an input; and what stands behind them
abbrev pub head_in : List ℕ → Head
head_in input = head_by (drop version_width input) (version_in input)

abbrev pub behind_by : List ℕ → Version → List ℕ
behind_by l (known v) = drop (rest_width v) l
behind_by l other = []

abbrev pub behind_head : List ℕ → List ℕ
behind_head input = behind_by (drop version_width input) (version_in input)

-- ---- the length of a unit (G2, G4): one over the store counts as cut

pub data Length : Type 0 where
  over : Length
  stated : ℕ → Length
  cut : Length

unfoldable pub length_in : List ℕ → Length
length_in [] = over
length_in (b ∷ l) =
    cond (nat_lt (length (b ∷ l)) unit_width || nat_lt unit_store (value_of (take unit_width (b ∷ l))))
    cut
    (stated (value_of (take unit_width (b ∷ l))))

-- ---- one unit (G3, G4)

-- the number after n
abbrev pub next_number : ℕ → ℕ
next_number n = (n + 1) % packet_numbers

-- payloads with their numbers, the first n and each further one 1 higher; and the number after the last
unfoldable pub numbered : ℕ → List (List ℕ) → List Numbered
numbered n [] = []
numbered n (p ∷ ps) = record { number = n; payload = p } ∷ numbered (next_number n) ps

unfoldable pub number_after : ℕ → List (List ℕ) → ℕ
number_after n [] = n
number_after n (p ∷ ps) = number_after (next_number n) ps

-- the records of payloads, the first of which has the number n, with length fields of this width
abbrev pub written_records : ℕ → ℕ → List (List ℕ) → List ℕ
written_records w n payloads = flat_map (record_bytes w) (numbered n payloads)

-- the plan call with space for so many OBUs and packets
abbrev pub answer_in : ℕ → ℕ → ℕ → List ℕ → Answer Planned
answer_in obus packets mtu unit = cond (nat_lt mtu_limit mtu) (refused 1 0) (planned (unit_plan mtu unit) packets (listed obus unit))

-- a unit is cut, or refused with a number, or packed: so many OBUs, into so many packets
pub data Unit' : Type 0 where
  cut_short : Unit'
  refused_by : ℕ → Unit'
  packed : Planned → Unit'

abbrev pub packed_by : Answer Planned → Unit'
packed_by (given p) = packed p
packed_by (refused k at) = refused_by k

-- the unit of s bytes at the front of some bytes, which the plan call answers so
unfoldable pub unit_in : (ℕ → List ℕ → Answer Planned) → ℕ → ℕ → List ℕ → Unit'
unit_in answer mtu s l = cond (nat_lt (length l) s) cut_short (packed_by (answer mtu (take s l)))

-- ---- all units, up to the end or to the first that is cut or refused

-- with the unit, counted from 0
pub data PackEnd : Type 0 where
  ended : PackEnd
  cut_at : ℕ → PackEnd
  refused_at : ℕ → ℕ → PackEnd

abbrev pub Units : Type 0
Units = Stream (List ℕ) PackEnd

-- unit i as an item of a stream, which is packed or refused; with its length it has so many bytes
abbrev pub unit_by : ℕ → ℕ → List ℕ → Answer Planned → Next (List ℕ) PackEnd ℕ
unit_by i span unit (given p) = item unit span (next_count i)
unit_by i span unit (refused k at) = halt (refused_at i k)

-- by its length
abbrev pub unit_after : ℕ → ℕ → List ℕ → Length → Next (List ℕ) PackEnd ℕ
unit_after mtu i l over = halt ended
unit_after mtu i l cut = halt (cut_at i)
unit_after mtu i l (stated s) =
    cond (nat_lt (length (drop unit_width l)) s)
    (halt (cut_at i))
    (unit_by i (unit_width + s) (take s (drop unit_width l)) (answer_in list_records list_records mtu (take s (drop unit_width l))))

abbrev pub unit_next : ℕ → ℕ → List ℕ → Next (List ℕ) PackEnd ℕ
unit_next mtu i l = unit_after mtu i l (length_in l)

-- the units of some bytes, from unit i on
abbrev pub units_from : ℕ → ℕ → List ℕ → Units
units_from mtu i l = stream_of (unit_next mtu) ended l i

abbrev pub units_by : List ℕ → Head → Units
units_by l (found h) = units_from h.mtu 0 l
units_by l none = record { items = []; stop = ended }

-- those of an input, and what stops it
abbrev pub units_in : List ℕ → Units
units_in input = units_by (behind_head input) (head_in input)

-- ---- the train

-- their packets, in one run (L7)
abbrev pub packets_of : PackHead → List (List ℕ) → List Numbered
packets_of h units = numbered h.first (flat_map (payloads_of h.mtu) units)

abbrev pub train_by : List (List ℕ) → Head → List ℕ
train_by units (found h) = train_of (head_for h.mtu) (packets_of h units)
train_by units none = []

abbrev pub pack_of : List ℕ → List ℕ
pack_of input = train_by (units_in input).items (head_in input)

-- ---- what is said of it (G6, G7): that it has no head, or why it stops

abbrev pub said_at : PackEnd → List ℕ
said_at ended = []
said_at (cut_at i) = line_text (subject.Unit i) word.Cut
said_at (refused_at i k) = line_text (subject.Unit i) (word.Refused k)

abbrev pub said_by : PackEnd → Head → List ℕ
said_by stop (found h) = said_at stop
said_by stop none = line_text subject.Input word.NoHead

-- all on standard error
abbrev pub pack_says : List ℕ → List ℕ
pack_says input = said_by (units_in input).stop (head_in input)
