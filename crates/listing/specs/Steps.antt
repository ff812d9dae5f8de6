-- The steps of `planlist`: what each turn orders, by what came of the one before (G8 to G14).
use Rattle.std.specs.Prelude.{ℕ, ◌+◌, ◌*◌, ◌≤◌, ◌≡◌, List, [], ◌∷◌, cond, length, take, ltb}
use Rattle.base.specs.Lists.{front}
use Rattle.obu.specs.Unit.{obus_of}
use Rattle.obu.specs.Records.{obu_numbers, flat}
use Rattle.packetizer.specs.Call.{unit_plan}
use Rattle.packetizer.specs.Records.{plan_numbers, flat_plan}
use Rattle.turns.specs.Text.{line_bytes}
use Rattle.turns.specs.Orders.{Told, ends, asks, says, Within, Turned, Arrival, bytes, read_failed, write_failed, Came, CameWithin}
use Rattle.turns.specs.declared.Turn.{Turn}
use Rattle.turns.specs.declared.Subject.{Subject}
use Rattle.turns.specs.declared.Subject.TheVariants as subject
use Rattle.turns.specs.declared.Word.{Word}
use Rattle.turns.specs.declared.Word.TheVariants as word
use Rattle.listing.specs.Input.{head_width, unit_store, obu_list_numbers, plan_list_numbers, Head, bad, states, head_of}
use Rattle.listing.specs.Row.{row_of, row_text}
use Rattle.listing.specs.Listing as listing
use Rattle.listing.specs.Listing.{Listing, refused_by, lists, unit_listing, bad_text, refused_text, counts_text}
use Rattle.listing.specs.declared.Wait.{Wait}
use Rattle.listing.specs.declared.Wait.TheVariants as wait
use Rattle.listing.specs.declared.Place.{Place}

-- the same numbers, with this to wait for
abbrev pub awaits : Place → Wait → Place
awaits p w = record { wait = w; mtu = p.mtu; length = p.length; obus = p.obus; packets = p.packets }

-- the unit, where it has been read
abbrev pub unit_in : Place → List ℕ → List ℕ
unit_in p unit = take p.length unit

-- ---- the turn after each arrival

-- what a run begins with
abbrev pub starts_with : Told Place
starts_with = asks (record { wait = wait.Head; mtu = 0; length = 0; obus = 0; packets = 0 }) [] head_width

-- a text is written, and the run is over
abbrev pub prints : Place → List ℕ → Told Place
prints p text = asks (awaits p wait.Nothing) text 0

-- after the head
abbrev pub head_told : Place → Head → Told Place
head_told p bad = prints p bad_text
head_told p (states s) = asks (record { wait = wait.Unit; mtu = s.mtu; length = s.length; obus = p.obus; packets = p.packets }) [] s.length

-- after the unit, of which bytes may be missing; and the unit store then
abbrev pub unit_told : Place → List ℕ → Told Place
unit_told p l = cond (ltb (length l) p.length) (prints p bad_text) (asks (awaits p wait.Further) [] 1)

abbrev pub unit_after : Place → List ℕ → List ℕ → List ℕ
unit_after p l unit = cond (ltb (length l) p.length) unit (front (take p.length l) unit)

-- a refusal, or the counts of a plan, whose lines come next
abbrev pub counted : Place → ℕ → ℕ → Place
counted p obus packets = record { wait = wait.Row 0; mtu = p.mtu; length = p.length; obus = obus; packets = packets }

abbrev pub listing_told : Place → Listing → Told Place
listing_told p listing.bad = prints p bad_text
listing_told p (refused_by n at) = prints p (refused_text n at)
listing_told p (lists n rows) = asks (counted p n (length rows)) (counts_text n (length rows)) 0

-- after the byte behind the unit, which is left over
abbrev pub further_told : Place → List ℕ → List ℕ → Told Place
further_told p [] unit = listing_told p (unit_listing p.mtu (unit_in p unit))
further_told p (b ∷ l) unit = listing_told p listing.bad

-- the line of packet k, as long as there is one
abbrev pub row_told : Place → ℕ → List ℕ → Told Place
row_told p k unit =
    cond (ltb k p.packets)
    (asks (awaits p (wait.Row (k + 1))) (row_text (row_of (unit_in p unit) (obus_of (unit_in p unit)) (unit_plan p.mtu (unit_in p unit)) k)) 0)
    (ends (awaits p wait.Nothing))

-- after a read or a write that failed (G14): what was being read; a line, and then nothing more
abbrev pub read_of : Wait → Subject
read_of wait.Head = subject.Input
read_of wait.Unit = subject.Unit 0
read_of wait.Further = subject.Unit 0
read_of (wait.Row k) = subject.Unit 0
read_of wait.Nothing = subject.Unit 0

abbrev pub failed : Place → Subject → Word → Told Place
failed p s w = says (awaits p wait.Nothing) s w 0

abbrev pub told_by : Wait → Place → List ℕ → List ℕ → Told Place
told_by wait.Head p l unit = head_told p (head_of l)
told_by wait.Unit p l unit = unit_told p l
told_by wait.Further p l unit = further_told p l unit
told_by (wait.Row k) p l unit = row_told p k unit
told_by wait.Nothing p l unit = ends p

abbrev pub told : Place → Arrival → List ℕ → Told Place
told p (bytes l) unit = told_by p.wait p l unit
told p read_failed unit = failed p (read_of p.wait) word.ReadFailed
told p write_failed unit = failed p (subject.Unit 0) word.WriteFailed

-- the unit store after it: a unit that was read stands first
abbrev pub unit_by : Wait → Place → List ℕ → List ℕ → List ℕ
unit_by wait.Head p l unit = unit
unit_by wait.Unit p l unit = unit_after p l unit
unit_by wait.Further p l unit = unit
unit_by (wait.Row k) p l unit = unit
unit_by wait.Nothing p l unit = unit

abbrev pub unit_next : Place → Arrival → List ℕ → List ℕ
unit_next p (bytes l) unit = unit_by p.wait p l unit
unit_next p read_failed unit = unit
unit_next p write_failed unit = unit

-- ---- what a step asks, and what it promises

-- the first records of the lists are the OBUs and the plan of the unit
pub record Filled (p : Place) (unit obus plan : List ℕ) : Type 0 where
  pub within : p.length ≤ unit_store
  pub obus_are : p.obus ≡ length (obus_of (unit_in p unit))
  pub packets_are : p.packets ≡ length (unit_plan p.mtu (unit_in p unit))
  pub obus_is : take (p.obus * obu_numbers) obus ≡ flat (obus_of (unit_in p unit))
  pub plan_is : take (p.packets * plan_numbers) plan ≡ flat_plan (unit_plan p.mtu (unit_in p unit))

-- what the stores hold where this is waited for
abbrev pub ReadyBy : Wait → Place → List ℕ → List ℕ → List ℕ → Type 0
ReadyBy wait.Head p unit obus plan = Unit {0}
ReadyBy wait.Unit p unit obus plan = Unit {0}
ReadyBy wait.Further p unit obus plan = p.length ≤ unit_store
ReadyBy (wait.Row k) p unit obus plan = Filled p unit obus plan
ReadyBy wait.Nothing p unit obus plan = Unit {0}

abbrev pub Ready : Place → List ℕ → List ℕ → List ℕ → Type 0
Ready p unit obus plan = ReadyBy p.wait p unit obus plan

-- what is lent to a step: exactly the stores of L12 and L13, ready for it
pub record Lent (p : Place) (c : Came) (input unit obus plan out line : List ℕ) : Type 0 where
  pub input_is : length input ≡ unit_store
  pub unit_is : length unit ≡ unit_store
  pub obus_is : length obus ≡ obu_list_numbers
  pub plan_is : length plan ≡ plan_list_numbers
  pub out_is : length out ≡ line_bytes
  pub line_is : length line ≡ line_bytes
  pub came_within : CameWithin c unit_store
  pub ready : Ready p unit obus plan

-- a text stands first in the output, and has so many bytes
pub record Printed (text : List ℕ) (n : ℕ) (out out' : List ℕ) : Type 0 where
  pub count : n ≡ length text
  pub stored : out' ≡ front text out
  pub fits : n ≤ line_bytes

-- a turn that leaves the line as it is, with the bytes to be written first in the output
pub record Writes (t : Told Place) (r : Turn Place) (out out' : List ℕ) : Type 0 where
  pub turned : (line : List ℕ) → Turned t r.place r.order line line unit_store line_bytes
  pub out_is : out' ≡ front t.written out

-- from here the program can go on: its order can be carried out, and the stores are ready for the next step
pub record Goes (turn : Turn Place) (unit obus plan : List ℕ) : Type 0 where
  pub within : Within turn.order unit_store line_bytes
  pub ready : Ready turn.place unit obus plan
