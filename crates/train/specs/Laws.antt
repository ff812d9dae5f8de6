-- What the laws of trains, and the writer's contract, are stated with.
use Rattle.std.specs.Prelude.{◌≡◌, ℕ, ◌+◌, ◌^◌, ◌≤◌, ◌<◌, List, length}
use Rattle.base.specs.Numbers.{packet_numbers}
use Rattle.base.specs.Answers.{given}
use Rattle.base.specs.Lists.{All}
use Rattle.train.specs.Train.{Numbered, number_width, head_with}
use Rattle.train.specs.declared.TrainHead.{TrainHead}

-- a head that the reader takes
abbrev pub Known : TrainHead → Type 0
Known h = head_with h.version ≡ given h

-- a packet that a record of this width can hold: a 16-bit number, one byte or more, and a length that the field can state
pub record Fits (w : ℕ) (p : Numbered) : Type 0 where
  pub numbered : p.number < packet_numbers
  pub some : 1 ≤ length p.payload
  pub short : number_width + length p.payload < 256 ^ w

abbrev pub AllFit : ℕ → List Numbered → Type 0
AllFit w ps = All (Fits w) ps

-- there is space at the cursor for what stands before a payload of so many bytes, and the length field can state it
pub record Writable (l : List ℕ) (at w size : ℕ) : Type 0 where
  pub there : at + w + number_width ≤ length l
  pub wide : w ≤ 8
  pub short : number_width + size < 256 ^ w
