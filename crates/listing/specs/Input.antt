-- The input of `planlist` (G1, G8, L12, L13).
use Rattle.std.specs.Prelude.{ℕ, ◌+◌, ◌*◌, List, Bool, cond, not, ◌||◌, length, get_or, drop, ltb, eqb}
use Rattle.base.specs.BigEndian.{value_at}
use Rattle.obu.specs.Records.{obu_numbers}
use Rattle.packetizer.specs.Records.{plan_numbers}
pub use Rattle.turns.specs.Stores.{unit_store, list_records}
use Rattle.listing.specs.declared.Stated.{Stated}

-- the version byte; the bytes of the head, of its mtu and of its length
abbrev pub version : ℕ
version = 1

abbrev pub head_width : ℕ
head_width = 7

abbrev pub mtu_width : ℕ
mtu_width = 2

abbrev pub length_width : ℕ
length_width = 4

-- the numbers of the OBU list, and of the plan list
abbrev pub obu_list_numbers : ℕ
obu_list_numbers = list_records * obu_numbers

abbrev pub plan_list_numbers : ℕ
plan_list_numbers = list_records * plan_numbers

-- what a head states: an mtu, and how long the unit is
pub data Head : Type 0 where
  bad : Head
  states : Stated → Head

abbrev pub mtu_in : List ℕ → ℕ
mtu_in l = value_at l 1 mtu_width

abbrev pub length_in : List ℕ → ℕ
length_in l = value_at l (1 + mtu_width) length_width

-- cut, of another version, or with a unit over the store
abbrev pub is_bad : List ℕ → Bool
is_bad l = ltb (length l) head_width || not (eqb (get_or l 0 0) version) || ltb unit_store (length_in l)

unfoldable pub head_of : List ℕ → Head
head_of l = cond (is_bad l) bad (states (record { mtu = mtu_in l; length = length_in l }))

-- the mtu, if the input is good
pub data Input : Type 0 where
  bad_input : Input
  good : ℕ → Input

-- by its head, with so many bytes after it
abbrev pub input_by : ℕ → Head → Input
input_by n bad = bad_input
input_by n (states s) = cond (eqb n s.length) (good s.mtu) bad_input

-- an input as a whole: nothing is missing, and nothing is left over
unfoldable pub input_of : List ℕ → Input
input_of l = input_by (length (drop head_width l)) (head_of l)
