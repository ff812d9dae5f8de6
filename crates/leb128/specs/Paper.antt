-- The number and values that the rules have for each answer of the code.
use Rattle.std.specs.Prelude.{ℕ, ◌+◌, ◌*◌, ◌%◌, ltb, Result, Ok, Err}
use Rattle.base.specs.Refusals.{number_of}
use Rattle.base.specs.declared.Refusal.{Refusal}
use Rattle.leb128.specs.Field.{Field, sized, unreadable}
use Rattle.leb128.specs.declared.SizeField.{SizeField}
use Rattle.leb128.specs.declared.Tail.{Tail}

-- the field before the test of the value
abbrev pub paper_tail : Result Tail Refusal → Field
paper_tail (Ok t) = sized t.value t.used
paper_tail (Err r) = unreadable (number_of r)

-- what is read of two bytes, the first with its top bit set
abbrev pub of_two : ℕ → ℕ → SizeField
of_two first second = record { value = first % 128 + 128 * second; used = 2; shortest = ltb 0 second }
