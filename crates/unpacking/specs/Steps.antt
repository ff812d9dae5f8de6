-- The steps of `unpack`: what each turn tells the program, by what came of the one before (G5 to G7, G14 to G16, T3).
use Rattle.std.specs.Prelude.{ℕ, zero, suc, ◌+◌, ◌-◌, ◌≤◌, ◌≡◌, List, [], cond, length, ltb}
use Rattle.base.specs.Answers.{Answer, given, refused}
use Rattle.train.specs.Train.{long_head, counted_width, number_width, Fields, over, before, bad, fields_of, head_of}
use Rattle.train.specs.declared.TrainHead.{TrainHead}
use Rattle.receiver.specs.Joining.{fresh}
use Rattle.receiver.specs.Call.{Taken, state_of, After, leaves, answering}
use Rattle.receiver.specs.declared.State.{State}
use Rattle.turns.specs.Text.{line_bytes}
use Rattle.turns.specs.Orders.{next_count, Told, ends, asks, tells, says, Within, Turned, Arrival, bytes, read_failed, write_failed, Came, CameWithin}
use Rattle.turns.specs.declared.Subject.{Subject}
use Rattle.turns.specs.declared.Subject.TheVariants as subject
use Rattle.turns.specs.declared.Word.TheVariants as word
use Rattle.unpacking.specs.Unpack.{payload_bytes, output_bytes, fragment_store, no_losses, with_taken, with_passed, with_open, is_none, losses_line, Step, takes, passes, breaks, step_of}
use Rattle.unpacking.specs.declared.losses.Losses.{Losses}
use Rattle.unpacking.specs.declared.Wait.{Wait}
use Rattle.unpacking.specs.declared.Wait.TheVariants as wait
use Rattle.unpacking.specs.declared.Place.{Place}
use Rattle.turns.specs.declared.Turn.{Turn}

-- the bytes of the version
abbrev pub version_bytes : ℕ
version_bytes = 1

-- the same record, with this to wait for; the first record of a train with length fields of this width; and the next record, with this
-- state and these losses
abbrev pub awaits : Place → Wait → Place
awaits p w = record { wait = w; count = p.count; width = p.width; state = p.state; losses = p.losses }

abbrev pub first : Place → ℕ → Place
first p w = record { wait = wait.Fields; count = p.count; width = w; state = p.state; losses = p.losses }

abbrev pub next : Place → State → Losses → Place
next p s c = record { wait = wait.Fields; count = next_count p.count; width = p.width; state = s; losses = c }

-- ---- what is told after each arrival

-- what a run begins with: no width is known yet
abbrev pub starts_with : Told Place
starts_with = asks (record { wait = wait.Version; count = 0; width = 0; state = state_of fresh; losses = no_losses }) [] version_bytes

-- at the end: what was lost, if anything was (G15)
abbrev pub losses_told : Place → Losses → Told Place
losses_told p c = cond (is_none c) (ends (awaits p wait.Nothing)) (tells (awaits p wait.Nothing) (losses_line c) 0)

abbrev pub close_told : Place → Told Place
close_told p = losses_told p (with_open p.losses p.state.«open»)

-- how many bytes stand before a payload
abbrev pub fields_width : ℕ → ℕ
fields_width w = w + number_width

-- after the version byte: what stands before a payload, with a length field of the width that it tells; or the train is refused as a
-- whole (R21)
abbrev pub version_told : Place → Answer TrainHead → Told Place
version_told p (given h) = asks (first p h.width) [] (fields_width h.width)
version_told p (refused n at) = says (awaits p wait.Close) subject.Train (word.Refused n) 0

-- at a bad record reading stops (T3); a refused packet is passed over (G5)
abbrev pub broken_told : Place → ℕ → Told Place
broken_told p n = says (awaits p wait.Close) (subject.Record p.count) (word.Refused n) 0

abbrev pub passed_told : Place → ℕ → Told Place
passed_told p n = says (next p p.state (with_passed p.losses)) (subject.Record p.count) (word.Refused n) (fields_width p.width)

-- G16: so many bytes of a payload over the store are left; they are read away, a store at a time
abbrev pub at_once : ℕ → ℕ
at_once left = cond (ltb payload_bytes left) payload_bytes left

abbrev pub away_told : Place → ℕ → Told Place
away_told p left = asks (awaits p (wait.Away left)) [] (at_once left)

-- after what stands before a payload: the end, or the payload
abbrev pub fields_told : Place → Fields → Told Place
fields_told p over = close_told p
fields_told p (before f) = cond (ltb payload_bytes f.length) (away_told p f.length) (asks (awaits p (wait.Payload f)) [] f.length)
fields_told p (bad n) = broken_told p n

-- after a payload: what is handed out is written
abbrev pub payload_told : Place → Step Taken → Told Place
payload_told p (takes t) = asks (next p (state_of t.held) (with_taken p.losses t.lost)) t.bytes (fields_width p.width)
payload_told p (passes n) = passed_told p n
payload_told p (breaks n) = broken_told p n

-- after so many bytes more of one over the store: it is cut, or there is more of it, or its packet is passed over (R13)
abbrev pub left_told : Place → ℕ → ℕ → Told Place
left_told p left got =
    cond (ltb got (at_once left))
    (broken_told p 22)
    (cond (ltb payload_bytes left) (away_told p (left - payload_bytes)) (passed_told p 13))

-- after a read or a write that failed: a line, and then nothing more (G14). What was being read, and whose bytes were written before
-- what stands before the payload of record k was read
abbrev pub read_of : Wait → ℕ → Subject
read_of wait.Version k = subject.Train
read_of wait.Fields k = subject.Record k
read_of (wait.Payload f) k = subject.Record k
read_of (wait.Away n) k = subject.Record k
read_of wait.Close k = subject.Record k
read_of wait.Nothing k = subject.Record k

abbrev pub written_of : ℕ → Subject
written_of zero = subject.Train
written_of (suc k) = subject.Record k

-- what a step comes to, by what was waited for: what is told, and store and output after it, which a payload alone changes
abbrev pub stepped_by : Wait → Place → List ℕ → List ℕ → List ℕ → After (Told Place)
stepped_by wait.Version p l store out = leaves (version_told p (head_of l)) store out
stepped_by wait.Fields p l store out = leaves (fields_told p (fields_of (counted_width p.width) l)) store out
stepped_by (wait.Payload f) p l store out = answering (payload_told p) (step_of p.state f l store out)
stepped_by (wait.Away n) p l store out = leaves (left_told p n (length l)) store out
stepped_by wait.Close p l store out = leaves (close_told p) store out
stepped_by wait.Nothing p l store out = leaves (ends p) store out

abbrev pub stepped : Place → Arrival → List ℕ → List ℕ → After (Told Place)
stepped p (bytes l) store out = stepped_by p.wait p l store out
stepped p read_failed store out = leaves (says (awaits p wait.Nothing) (read_of p.wait p.count) word.ReadFailed 0) store out
stepped p write_failed store out = leaves (says (awaits p wait.Nothing) (written_of p.count) word.WriteFailed 0) store out

-- ---- what a step asks, and what it gives

-- the width, before a head told it or after, is none that is wider than that of version 2
abbrev pub Possible : Place → Type 0
Possible p = p.width ≤ long_head.width

-- what is lent to a step: exactly the stores of L14 and L15
pub record Lent (p : Place) (c : Came) (input store out line : List ℕ) : Type 0 where
  pub input_is : length input ≡ payload_bytes
  pub store_is : length store ≡ fragment_store
  pub out_is : length out ≡ output_bytes
  pub line_is : length line ≡ line_bytes
  pub came_within : CameWithin c payload_bytes
  pub possible : Possible p

-- the turn is the one told, and the next step can start from it
pub record Gives (t : Told Place) (turn : Turn Place) (line line' : List ℕ) : Type 0 where
  pub turned : Turned t turn.place turn.order line line' payload_bytes output_bytes
  pub possible : Possible turn.place

-- the step comes to this: that turn, and these bytes in store and output
pub record Comes (x : After (Told Place)) (turn : Turn Place) (line line' store out : List ℕ) : Type 0 where
  pub gives : Gives x.answer turn line line'
  pub store_is : store ≡ x.store
  pub out_is : out ≡ x.output

-- from here the program can go on: its order can be carried out, and the next step can start
pub record Goes (turn : Turn Place) : Type 0 where
  pub within : Within turn.order payload_bytes output_bytes
  pub possible : Possible turn.place
