-- The steps of `pack`: what each turn tells the program, by what came of the one before (G2 to G4, G6, G7, G14).
use Rattle.std.specs.Prelude.{◌≡◌, ℕ, ◌+◌, ◌*◌, ◌/◌, ◌<◌, ◌≤◌, List, [], ◌∷◌, length, take, drop}
use Rattle.base.specs.Answers.{given}
use Rattle.obu.specs.Unit.{obus_of, listed_of, listed}
use Rattle.obu.specs.Records.{obu_numbers, flat}
use Rattle.packetizer.specs.Call.{mtu_limit, unit_plan}
use Rattle.packetizer.specs.Records.{plan_numbers, flat_plan}
use Rattle.packetizer.specs.declared.Planned.{Planned}
use Rattle.payloader.specs.Payload.{payload_at, payloads_of}
use Rattle.payloader.specs.Inside as payloader
use Rattle.train.specs.Train.{long_head, head_for, number_width, record_bytes}
use Rattle.train.specs.Laws.{Writable}
use Rattle.turns.specs.Text.{line_bytes}
use Rattle.turns.specs.Orders.{next_count, Told, ends, asks, says, Within, Turned, Arrival, bytes, read_failed, write_failed, Came, CameWithin}
use Rattle.turns.specs.declared.Order.{Order}
use Rattle.turns.specs.declared.Turn.{Turn}
use Rattle.turns.specs.declared.Subject.{Subject}
use Rattle.turns.specs.declared.Subject.TheVariants as subject
use Rattle.turns.specs.declared.Word.TheVariants as word
use Rattle.packing.specs.Pack.{unit_store, list_records, output_bytes, version_width, unit_width, Version, known, other, version_in, Head, found, none, rest_width, head_after, Length, over, stated, cut, length_in, next_number, answer_in, Unit', cut_short, refused_by, packed, unit_in}
use Rattle.packing.specs.declared.unit.Progress.{Progress}
use Rattle.packing.specs.declared.Wait.{Wait}
use Rattle.packing.specs.declared.Wait.TheVariants as wait
use Rattle.packing.specs.declared.Place.{Place}

-- the numbers of the OBU list and of the plan list, and the bytes that are lent for a record: those of one with as long a payload as
-- the output holds (L14)
abbrev pub obu_list_numbers : ℕ
obu_list_numbers = list_records * obu_numbers

abbrev pub plan_list_numbers : ℕ
plan_list_numbers = list_records * plan_numbers

abbrev pub record_room : ℕ
record_room = long_head.width + number_width + output_bytes

-- the same unit, with this to wait for; and the next unit
abbrev pub awaits : Place → Wait → Place
awaits p w = record { wait = w; count = p.count; mtu = p.mtu; number = p.number }

abbrev pub next : Place → Place
next p = record { wait = wait.Length; count = next_count p.count; mtu = p.mtu; number = p.number }

-- ---- what is told after each arrival

-- what a run begins with
abbrev pub starts_with : Told Place
starts_with = asks (record { wait = wait.Version; count = 0; mtu = 0; number = 0 }) [] version_width

-- after the version byte: the rest of the head comes, or there is none
abbrev pub version_told : Place → Version → Told Place
version_told p (known v) = asks (awaits p (wait.Head v)) [] (rest_width v)
version_told p other = says (awaits p wait.Nothing) subject.Input word.NoHead 0

-- after the head: the version byte of the train is written; or there is none
abbrev pub head_told : Place → Head → Told Place
head_told p (found h) = asks (record { wait = wait.Length; count = p.count; mtu = h.mtu; number = h.first }) ((head_for h.mtu).version ∷ []) unit_width
head_told p none = says (awaits p wait.Nothing) subject.Input word.NoHead 0

-- after a length: the end, or a unit that is cut or over the store
abbrev pub length_told : Place → Length → Told Place
length_told p over = ends (awaits p wait.Nothing)
length_told p (stated s) = asks (awaits p (wait.Unit s)) [] s
length_told p cut = says (awaits p wait.Nothing) (subject.Unit p.count) word.Cut 0

-- the first packet of a unit of s bytes, planned so, is next
abbrev pub begins : ℕ → Planned → Progress
begins s p = record { unit = s; obus = p.obus; packets = p.packets; packet = 0 }

-- after a unit of s bytes: its packets come, or the run stops
abbrev pub unit_told : Place → ℕ → Unit' → Told Place
unit_told p s (packed q) = asks (awaits p (wait.Packets (begins s q))) [] 0
unit_told p s (refused_by k) = says (awaits p wait.Nothing) (subject.Unit p.count) (word.Refused k) 0
unit_told p s cut_short = says (awaits p wait.Nothing) (subject.Unit p.count) word.Cut 0

-- the step on a unit of s bytes, of which these were read
abbrev pub step_in : ℕ → ℕ → List ℕ → Unit'
step_in = unit_in (answer_in list_records list_records)

-- with these payloads left: the record of the first is written; or the next unit is read
abbrev pub after : Progress → Progress
after g = record { unit = g.unit; obus = g.obus; packets = g.packets; packet = g.packet + 1 }

abbrev pub left_told : Place → Progress → List (List ℕ) → Told Place
left_told p g [] = asks (next p) [] unit_width
left_told p g (x ∷ more) =
    asks
    (record { wait = wait.Packets (after g); count = p.count; mtu = p.mtu; number = next_number p.number })
    (record_bytes (head_for p.mtu).width (record { number = p.number; payload = x })) 0

abbrev pub packet_told : Place → Progress → List (List ℕ) → Told Place
packet_told p g payloads = left_told p g (drop g.packet payloads)

abbrev pub told_by : Wait → Place → List ℕ → List ℕ → Told Place
told_by wait.Version p l input = version_told p (version_in l)
told_by (wait.Head v) p l input = head_told p (head_after v l)
told_by wait.Length p l input = length_told p (length_in l)
told_by (wait.Unit s) p l input = unit_told p s (step_in p.mtu s l)
told_by (wait.Packets g) p l input = packet_told p g (payloads_of p.mtu (take g.unit input))
told_by wait.Nothing p l input = ends p

-- after a read or a write that failed: a line, and then nothing more (G14). What was being read, and what was written before
abbrev pub read_of : Wait → ℕ → Subject
read_of wait.Version k = subject.Input
read_of (wait.Head v) k = subject.Input
read_of wait.Length k = subject.Unit k
read_of (wait.Unit s) k = subject.Unit k
read_of (wait.Packets g) k = subject.Unit k
read_of wait.Nothing k = subject.Unit k

abbrev pub written_of : Wait → ℕ → Subject
written_of wait.Version k = subject.Train
written_of (wait.Head v) k = subject.Train
written_of wait.Length k = subject.Train
written_of (wait.Unit s) k = subject.Unit k
written_of (wait.Packets g) k = subject.Unit k
written_of wait.Nothing k = subject.Unit k

-- where the input's store holds this, what arrived first
abbrev pub told : Place → Arrival → List ℕ → Told Place
told p (bytes l) input = told_by p.wait p l input
told p read_failed input = says (awaits p wait.Nothing) (read_of p.wait p.count) word.ReadFailed 0
told p write_failed input = says (awaits p wait.Nothing) (written_of p.wait p.count) word.WriteFailed 0

-- ---- what a step asks, and what it gives

-- the unit is listed in this much space, and list and plan are its own
pub record Ready (mtu : ℕ) (g : Progress) (unit obus plan : List ℕ) : Type 0 where
  pub unit_is : length unit ≡ g.unit
  pub small : length unit ≤ unit_store
  pub most : mtu ≤ mtu_limit
  pub listing : given (listed_of unit) ≡ listed (length obus / obu_numbers) unit
  pub obus_room : g.obus * obu_numbers ≤ length obus
  pub obus_is : take (g.obus * obu_numbers) obus ≡ flat (obus_of unit)
  pub packets_is : g.packets ≡ length (unit_plan mtu unit)
  pub plan_room : g.packets * plan_numbers ≤ length plan
  pub plan_is : take (g.packets * plan_numbers) plan ≡ flat_plan (unit_plan mtu unit)

-- what is lent where packets of this unit are written: the whole OBU list, and space for a record
pub record LentPackets (mtu : ℕ) (g : Progress) (unit obus plan written : List ℕ) : Type 0 where
  pub ready : Ready mtu g unit obus plan
  pub obus_all : length obus ≡ obu_list_numbers
  pub written_is : length written ≡ record_room

-- a packet that is there, and space for its record, whose length field can state its payload
pub record Recordable (mtu : ℕ) (unit obus plan : List ℕ) (k w : ℕ) (records : List ℕ) : Type 0 where
  pub lent : payloader.Lent mtu unit obus plan
  pub there : k < length (unit_plan mtu unit)
  pub writable : Writable records 0 w (length (payload_at mtu unit k))
  pub room : w + number_width + length (payload_at mtu unit k) ≤ length records

-- what has to hold of the stores where a run stands: a unit that is read fits; that whose packets are written stands first in the input
abbrev pub ReadyBy : Wait → ℕ → List ℕ → List ℕ → List ℕ → Type 0
ReadyBy wait.Version mtu input obus plan = Unit {0}
ReadyBy (wait.Head v) mtu input obus plan = Unit {0}
ReadyBy wait.Length mtu input obus plan = Unit {0}
ReadyBy (wait.Unit s) mtu input obus plan = s ≤ unit_store
ReadyBy (wait.Packets g) mtu input obus plan = Ready mtu g (take g.unit input) obus plan
ReadyBy wait.Nothing mtu input obus plan = Unit {0}

abbrev pub ReadyAt : Place → List ℕ → List ℕ → List ℕ → Type 0
ReadyAt p input obus plan = ReadyBy p.wait p.mtu input obus plan

-- what is lent to a step: exactly the stores of L12 to L14
pub record Lent (p : Place) (c : Came) (input obus plan written line : List ℕ) : Type 0 where
  pub input_is : length input ≡ unit_store
  pub obus_is : length obus ≡ obu_list_numbers
  pub plan_is : length plan ≡ plan_list_numbers
  pub written_is : length written ≡ record_room
  pub line_is : length line ≡ line_bytes
  pub came_within : CameWithin c unit_store
  pub ready : ReadyAt p input obus plan

-- while packets are written nothing is read, so the unit stays where it is
abbrev pub Still : Wait → Order → Type 0
Still wait.Version o = Unit {0}
Still (wait.Head v) o = Unit {0}
Still wait.Length o = Unit {0}
Still (wait.Unit s) o = Unit {0}
Still (wait.Packets g) o = o.read ≡ 0
Still wait.Nothing o = Unit {0}

-- the turn is the one told
pub record Gives (t : Told Place) (turn : Turn Place) (line line' : List ℕ) : Type 0 where
  pub turned : Turned t turn.place turn.order line line' unit_store record_room
  pub still : Still turn.place.wait turn.order

-- from here the program can go on: its order can be carried out, and the stores are ready for the next step
pub record Goes (turn : Turn Place) (input obus plan : List ℕ) : Type 0 where
  pub within : Within turn.order unit_store record_room
  pub still : Still turn.place.wait turn.order
  pub ready : ReadyAt turn.place input obus plan
