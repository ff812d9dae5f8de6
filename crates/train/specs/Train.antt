-- The train file, over the width in bytes of its length fields (T1 to T3, R21 to R23, C4, L11, L18).
use Rattle.std.specs.Prelude.{ℕ, ◌+◌, ◌-◌, cond, length, take, drop, ltb, eqb}
use mathlib.Core.List.{List, [], ◌∷◌, ◌++◌, flat_map}
use Rattle.base.specs.Answers.{Answer, given, refused}
use Rattle.base.specs.BigEndian.{big_endian, value_at}
use Rattle.base.specs.Streams.{Next, item, halt, Stream, stream_of}
use Rattle.train.specs.declared.TrainHead.{TrainHead}
use Rattle.train.specs.declared.RecordFields.{RecordFields}
use Rattle.train.specs.declared.RecordHead.{RecordHead}

-- ---- the head

-- the two versions: the version byte, and the width of the length fields of such a train
abbrev pub short_head : TrainHead
short_head = record { version = 1; width = 2 }

abbrev pub long_head : TrainHead
long_head = record { version = 2; width = 4 }

-- what a version byte tells, or R21
unfoldable pub head_with : ℕ → Answer TrainHead
head_with v = cond (eqb v short_head.version) (given short_head) (cond (eqb v long_head.version) (given long_head) (refused 21 0))

-- the head of a file
unfoldable pub head_of : List ℕ → Answer TrainHead
head_of [] = refused 21 0
head_of (v ∷ l) = head_with v

-- the width that a number given from outside counts as: 4, and else 2
abbrev pub counted_width : ℕ → ℕ
counted_width w = cond (eqb w long_head.width) long_head.width short_head.width

-- the longest payload that a record of version 1 has room for (L18), and the head of a train whose payloads have at most so many bytes
abbrev pub short_payload : ℕ
short_payload = 65533

abbrev pub head_for : ℕ → TrainHead
head_for most = cond (ltb short_payload most) long_head short_head

-- ---- written

-- the bytes of a number, and the least that a record may state (L11)
abbrev pub number_width : ℕ
number_width = 2

abbrev pub least_stated : ℕ
least_stated = 3

-- a payload with its number
pub record Numbered : Type 0 where
  pub number : ℕ
  pub payload : List ℕ

-- what stands before a payload: the length of number and payload, and the number
abbrev pub record_fields : ℕ → ℕ → ℕ → List ℕ
record_fields w stated number = big_endian w stated ++ big_endian number_width number

abbrev pub record_bytes : ℕ → Numbered → List ℕ
record_bytes w p = record_fields w (number_width + length p.payload) p.number ++ p.payload

abbrev pub train_of : TrainHead → List Numbered → List ℕ
train_of h packets = h.version ∷ flat_map (record_bytes h.width) packets

-- ---- one record, at the front of some bytes

-- what stands before its payload: the number, and how many bytes the payload has; or the end of the train, or R22 or R23
pub data Fields : Type 0 where
  over : Fields
  before : RecordFields → Fields
  bad : ℕ → Fields

unfoldable pub fields_of : ℕ → List ℕ → Fields
fields_of w [] = over
fields_of w (b ∷ l) =
    cond (ltb (length (b ∷ l)) w)
    (bad 22)
    (cond (ltb (value_at (b ∷ l) 0 w) least_stated)
    (bad 23)
    (cond (ltb (length (b ∷ l)) (w + number_width))
    (bad 22)
    (before (record { number = value_at (b ∷ l) w number_width; length = value_at (b ∷ l) 0 w - number_width }))))

-- where it holds a packet: number, and start and length of the payload
pub data Front : Type 0 where
  ends : Front
  holds : RecordHead → Front
  stops : ℕ → Front

-- behind these fields: the payload, if it is whole
unfoldable pub held_by : ℕ → ℕ → List ℕ → RecordFields → Front
held_by w at l f =
    cond (ltb (length l) (w + number_width + f.length))
    (stops 22)
    (holds (record { number = f.number; start = at + w + number_width; length = f.length }))

abbrev pub front_by : ℕ → ℕ → List ℕ → Fields → Front
front_by w at l over = ends
front_by w at l (before f) = held_by w at l f
front_by w at l (bad k) = stops k

-- of bytes that begin at `at`
abbrev pub front_of : ℕ → ℕ → List ℕ → Front
front_of w at l = front_by w at l (fields_of w l)

-- ---- all records, up to the end or to the first that is bad

pub data TrainEnd : Type 0 where
  ended : TrainEnd
  refused_by : ℕ → TrainEnd

abbrev pub Records : Type 0
Records = Stream Numbered TrainEnd

-- the packet that a head speaks of
abbrev pub packet_in : List ℕ → RecordHead → Numbered
packet_in l h = record { number = h.number; payload = take h.length (drop h.start l) }

-- what stands at the front of these bytes, as an item of a stream: nothing is known before it
abbrev pub record_by : List ℕ → Front → Next Numbered TrainEnd (Unit {0})
record_by l ends = halt ended
record_by l (stops k) = halt (refused_by k)
record_by l (holds h) = item (packet_in l h) (h.start + h.length) tt

abbrev pub record_next : ℕ → Unit {0} → List ℕ → Next Numbered TrainEnd (Unit {0})
record_next w t l = record_by l (front_of w 0 l)

abbrev pub records_of : ℕ → List ℕ → Records
records_of w l = stream_of (record_next w) ended l tt

-- ---- a file: its records, by the width that its head tells, or R21

abbrev pub train_by : List ℕ → Answer TrainHead → Answer Records
train_by l (given h) = given (records_of h.width l)
train_by l (refused n at) = refused n at

abbrev pub train_in : List ℕ → Answer Records
train_in file = train_by (drop 1 file) (head_of file)

-- the packets that stand
abbrev pub standing : Answer Records → List Numbered
standing (given t) = t.items
standing (refused n at) = []

-- ---- a reader of version 1 alone

unfoldable pub short_head_of : List ℕ → Answer TrainHead
short_head_of [] = refused 21 0
short_head_of (v ∷ l) = cond (eqb v short_head.version) (given short_head) (refused 21 0)

abbrev pub short_train_in : List ℕ → Answer Records
short_train_in file = train_by (drop 1 file) (short_head_of file)
