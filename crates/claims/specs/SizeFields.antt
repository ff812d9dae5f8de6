-- Size fields (F1 to F6, R5, R6).
use Rattle.std.specs.Prelude.{◌≡◌, ℕ, suc, ◌+◌, ◌≤◌, ◌<◌, List, ◌++◌, ◌⊎◌, false, not, length, take, eqb}
use Rattle.leb128.specs.Field.{longest_field, largest_value, sized, unreadable, field_in, size_field, form, encode, is_padded}
use Rattle.leb128.specs.Laws.{Bytes, Unending, cap}

-- F2, L5: eight bytes decide
abbrev pub FirstEight : Type 0
FirstEight = (l : List ℕ) → size_field (take longest_field l) ≡ size_field l

-- F2: every form of up to eight bytes reads as its value
abbrev pub PaddedRead : Type 0
PaddedRead =
    (n v : ℕ) (l : List ℕ) → n < longest_field → v < cap (suc n) → v ≤ largest_value → size_field (form n v ++ l) ≡ sized v (n + 1)

-- F4: what is encoded reads back; and no field that reads as the value is shorter
abbrev pub ReadBack : Type 0
ReadBack = (v : ℕ) (l : List ℕ) → v ≤ largest_value → size_field (encode v ++ l) ≡ sized v (length (encode v))

abbrev pub NoneShorter : Type 0
NoneShorter = (v n : ℕ) (l : List ℕ) → sized v n ≡ size_field l → length (encode v) ≤ n

-- F4: n + 1 bytes for values from 128 to the n on and below 128 to the n + 1
abbrev pub SizeIs : Type 0
SizeIs = (n v : ℕ) → v ≤ largest_value → ((n ≡ 0 → ⊥) → cap n ≤ v) → v < cap (suc n) → length (encode v) ≡ n + 1

-- F6: a field is padded exactly if it has not as many bytes as the shortest form; and of bytes the shortest form alone is not padded
abbrev pub PaddedIs : Type 0
PaddedIs = (l : List ℕ) (v n : ℕ) → sized v n ≡ size_field l → is_padded v n ≡ not (eqb n (length (encode v)))

abbrev pub OnlyShortest : Type 0
OnlyShortest = (l : List ℕ) (v n : ℕ) → sized v n ≡ size_field l → Bytes l → is_padded v n ≡ false → take n l ≡ encode v

abbrev pub ShortestNot : Type 0
ShortestNot = (l : List ℕ) (v n : ℕ) → sized v n ≡ size_field l → take n l ≡ encode v → is_padded v n ≡ false

-- R5: fewer than eight bytes, all with the top bit set; and only then
abbrev pub FiveWhen : Type 0
FiveWhen = (l : List ℕ) → length l < longest_field → Unending l → size_field l ≡ unreadable 5

abbrev pub FiveOnly : Type 0
FiveOnly = (l : List ℕ) → size_field l ≡ unreadable 5 → (length l < longest_field) × Unending l

-- R6: eight bytes with the top bit set, or a value over the largest; and only then
abbrev pub SixWhen : Type 0
SixWhen = (l : List ℕ) → longest_field ≤ length l → Unending (take longest_field l) → size_field l ≡ unreadable 6

abbrev pub SixOver : Type 0
SixOver = (l : List ℕ) (v u : ℕ) → field_in longest_field l ≡ sized v u → largest_value < v → size_field l ≡ unreadable 6

abbrev pub SixOnly : Type 0
SixOnly =
    (l : List ℕ) → size_field l ≡ unreadable 6
    → ((longest_field ≤ length l) × Unending (take longest_field l)) ⊎ ((v : ℕ) × (u : ℕ) × (field_in longest_field l ≡ sized v u) × (largest_value < v))
