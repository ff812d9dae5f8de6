-- The train file, over the width of its length fields (T1 to T3).
use Rattle.std.specs.Prelude.{◌≡◌, ℕ, take}
use mathlib.Core.List.{List, ◌++◌, flat_map}
use Rattle.base.specs.Answers.{given, refused}
use Rattle.base.specs.Lists.{Prefix}
use Rattle.train.specs.Train.{long_head, head_of, head_for, Numbered, record_bytes, ended, records_of, train_of, train_in, standing, short_train_in}
use Rattle.train.specs.Laws.{Known, AllFit}
use Rattle.train.specs.declared.TrainHead.{TrainHead}

-- T2: records of any width read back, and reading goes on with what stands behind them
abbrev pub RecordsThen : Type 0
RecordsThen =
    (w : ℕ) (ps : List Numbered) (rest : List ℕ) → AllFit w ps
    → records_of w (flat_map (record_bytes w) ps ++ rest)
    ≡ record { items = ps ++ (records_of w rest).items; stop = (records_of w rest).stop }

-- T1: the heads that are written are taken
abbrev pub HeadTaken : Type 0
HeadTaken = (most : ℕ) → Known (head_for most)

-- R21: a reader of version 1 alone refuses every file of version 2; of every other it makes what the reader of both makes
abbrev pub ShortRefuses : Type 0
ShortRefuses = (file : List ℕ) → head_of file ≡ given long_head → short_train_in file ≡ refused 21 0

abbrev pub ShortAgrees : Type 0
ShortAgrees = (file : List ℕ) → (head_of file ≡ given long_head → ⊥) → short_train_in file ≡ train_in file

-- T1, T2: what is written under a head that is taken reads back
abbrev pub WrittenRead : Type 0
WrittenRead = (h : TrainHead) (ps : List Numbered) → Known h → AllFit h.width ps → train_in (train_of h ps) ≡ given (record { items = ps; stop = ended })

-- T3: a cut file gives a prefix of its packets
abbrev pub CutPrefix : Type 0
CutPrefix = (file : List ℕ) (n : ℕ) → Prefix (standing (train_in (take n file))) (standing (train_in file))
