-- What a step's order asks of the program, and what comes of it.
use Rattle.std.specs.Prelude.{◌≡◌, ℕ, ◌+◌, ◌%◌, ◌^◌, ◌≤◌, Bool, true, false, List, [], length, take, Result, Ok, Err}
use Rattle.base.specs.Lists.{front}
use Rattle.turns.specs.Text.{line_bytes, line_text}
use Rattle.turns.specs.declared.Order.{Order}
use Rattle.turns.specs.declared.Subject.{Subject}
use Rattle.turns.specs.declared.Word.{Word}
use Rattle.turns.specs.declared.Failure.{Failure}
use Rattle.turns.specs.declared.Failure.TheVariants as failure

-- the number of what comes after the k-th, in 64 bits
abbrev pub next_count : ℕ → ℕ
next_count k = (k + 1) % 2 ^ 64

-- ---- what a step tells the program to do

-- where the run then stands; whether there is more to do; the bytes for standard output; the text for standard error; how many bytes
-- are then read
pub record Told (Place : Type 0) : Type 0 where
  pub place : Place
  pub more : Bool
  pub written : List ℕ
  pub said : List ℕ
  pub read : ℕ

module _ {Place : Type 0} where
  -- the run is over
  abbrev pub ends : Place → Told Place
  ends p = record { place = p; more = false; written = []; said = []; read = 0 }

  -- bytes are written, or none, and bytes are read, or none
  abbrev pub asks : Place → List ℕ → ℕ → Told Place
  asks p w r = record { place = p; more = true; written = w; said = []; read = r }

  -- a text is said, and bytes are read, or none
  abbrev pub tells : Place → List ℕ → ℕ → Told Place
  tells p t r = record { place = p; more = true; written = []; said = t; read = r }

  abbrev pub says : Place → Subject → Word → ℕ → Told Place
  says p s w r = tells p (line_text s w) r

  -- the order for it: bytes are counted, which stand first in output and line
  abbrev pub order_of : Told Place → Order
  order_of t = record { more = t.more; write = length t.written; say = length t.said; read = t.read }

-- an order that can be carried out: it asks for no more than input, output and line hold
pub record Within (o : Order) (input out : ℕ) : Type 0 where
  pub read : o.read ≤ input
  pub write : o.write ≤ out
  pub say : o.say ≤ line_bytes

module _ {Place : Type 0} where
  -- a step tells so: where the run then stands, its order, and every byte of its line
  pub record Tells (t : Told Place) (place : Place) (order : Order) (line line' : List ℕ) : Type 0 where
    pub place_is : place ≡ t.place
    pub order_is : order ≡ order_of t
    pub line_is : line' ≡ front t.said line

  -- and the program can carry the order out with so much input and output
  abbrev pub Turned : Told Place → Place → Order → List ℕ → List ℕ → ℕ → ℕ → Type 0
  Turned t place order line line' input out = Tells t place order line line' × Within order input out

-- ---- what comes of it

-- how many bytes were read, or what failed
abbrev pub Came : Type 0
Came = Result ℕ Failure

-- what arrives at the next step
pub data Arrival : Type 0 where
  bytes : List ℕ → Arrival
  read_failed : Arrival
  write_failed : Arrival

-- where the input's first bytes are those that were read
abbrev pub arrival : Came → List ℕ → Arrival
arrival (Ok n) input = bytes (take n input)
arrival (Err failure.Read) input = read_failed
arrival (Err failure.Write) input = write_failed

-- no more was read than so many bytes
abbrev pub CameWithin : Came → ℕ → Type 0
CameWithin (Ok n) most = n ≤ most
CameWithin (Err failed) most = Unit {0}
