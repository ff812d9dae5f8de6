-- What an order does to the bytes that a reader has left and that a writer holds, where these are known.
use Rattle.std.specs.Prelude.{ℕ, ◌<◌, ◌≤◌, List, length, take, Ok, Err}
use Rattle.std.specs.Io.KnownBytes.{Keeps, Appends, Consumes, IsAtEnd}
use Rattle.std.specs.declared.option.Option.{Option}
use Rattle.turns.specs.Orders.{Came}
use Rattle.turns.specs.declared.Failure.TheVariants as failure

-- a front of these bytes was written, maybe all of them
abbrev pub FrontWritten : Option (List ℕ) → Option (List ℕ) → List ℕ → Type 0
FrontWritten old new bytes = (n : ℕ) × (n ≤ length bytes) × Appends old new (take n bytes)

-- these bytes were written; where a write failed, a front of them
abbrev pub Written : Came → Option (List ℕ) → Option (List ℕ) → List ℕ → Type 0
Written (Ok n) old new bytes = Appends old new bytes
Written (Err failure.Read) old new bytes = Appends old new bytes
Written (Err failure.Write) old new bytes = FrontWritten old new bytes

-- the first bytes of the input are those that were read: as many as were asked for, or all to the end; fewer where a read failed
abbrev pub Arrived : Came → Option (List ℕ) → Option (List ℕ) → List ℕ → ℕ → Type 0
Arrived (Ok n) old new input asked = Consumes old new (take n input) × (n < asked → IsAtEnd new)
Arrived (Err failure.Read) old new input asked = (n : ℕ) × (n < asked) × Consumes old new (take n input)
Arrived (Err failure.Write) old new input asked = Keeps old new
