-- The lines for standard error (G7, G14).
use Rattle.std.specs.Prelude.{ℕ, zero, suc, ◌+◌, ◌/◌, ◌%◌, cond, List, [], ◌∷◌, ◌++◌, nat_lt}
use Rattle.base.specs.Words.{ascii, words_of}
use Rattle.turns.specs.declared.Subject.{Subject}
use Rattle.turns.specs.declared.Subject.TheVariants as subject
use Rattle.turns.specs.declared.Word.{Word}
use Rattle.turns.specs.declared.Word.TheVariants as word

-- the bytes of a program's line, and the most digits of a number of 64 bits
abbrev pub line_bytes : ℕ
line_bytes = 2048

abbrev pub most_digits : ℕ
most_digits = 20

-- a number in decimal: its last digit after those of a tenth of it; of so many digits at most
unfoldable pub decimal_in : ℕ → ℕ → List ℕ
decimal_in zero n = []
decimal_in (suc most) n = cond (nat_lt n 10) ((48 + n) ∷ []) (decimal_in most (n / 10) ++ ((48 + n % 10) ∷ []))

abbrev pub decimal : ℕ → List ℕ
decimal n = decimal_in most_digits n

-- some words, and then a number
abbrev pub labelled : List ℕ → ℕ → List ℕ
labelled words n = words ++ decimal n

abbrev pub subject_text : Subject → List ℕ
subject_text subject.Input = ascii "input"
subject_text subject.Train = ascii "train"
subject_text (subject.Unit n) = labelled (ascii "unit ") n
subject_text (subject.Record n) = labelled (ascii "record ") n

-- a refusal has its words behind its number, in brackets
abbrev pub refusal_text : ℕ → List ℕ
refusal_text n = decimal n ++ (ascii " (" ++ (words_of n ++ ascii ")"))

abbrev pub word_text : Word → List ℕ
word_text (word.Refused n) = refusal_text n
word_text word.NoHead = ascii "no head"
word_text word.Cut = ascii "cut"
word_text word.ReadFailed = ascii "read failed"
word_text word.WriteFailed = ascii "write failed"

-- `record 3: 22 (the train ends inside a record)` and a newline
unfoldable pub line_text : Subject → Word → List ℕ
line_text s w = subject_text s ++ (ascii ": " ++ (word_text w ++ ascii "\n"))
