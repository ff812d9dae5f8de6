-- How long a line is. Assumes nothing.
use Rattle.std.proofs.Common.{ℕ, ◌+◌, ◌≤◌, ◌++◌, length, arith, length-append}
use Rattle.base.specs.Words.{ascii, words_of, words_most}
use Rattle.base.proofs.Words.{words_short}
use Rattle.turns.specs.Text.{line_bytes, most_digits, decimal, subject_text, refusal_text, word_text, line_text}
use Rattle.turns.specs.declared.Subject.{Subject}
use Rattle.turns.specs.declared.Subject.TheVariants as subject
use Rattle.turns.specs.declared.Word.{Word}
use Rattle.turns.specs.declared.Word.TheVariants as word
use Rattle.turns.proofs.Digits.{decimal_short}

-- the most bytes of a subject and of a word
abbrev pub subject_most : ℕ
subject_most = 7 + most_digits

abbrev pub word_most : ℕ
word_most = most_digits + words_most + 3

pub subject_short : (s : Subject) → length (subject_text s) ≤ subject_most
subject_short subject.Input = omega arith
subject_short subject.Train = omega arith
subject_short (subject.Unit n) = omega (arith, decimal_short n)
subject_short (subject.Record n) = omega (arith, decimal_short n)

refusal_short : (n : ℕ) → length (refusal_text n) ≤ word_most
refusal_short n =
    omega (arith, length-append (decimal n) (ascii " (" ++ (words_of n ++ ascii ")")), length-append (words_of n) (ascii ")"), decimal_short n, words_short n)

pub word_short : (w : Word) → length (word_text w) ≤ word_most
word_short (word.Refused n) = refusal_short n
word_short word.NoHead = omega arith
word_short word.Cut = omega arith
word_short word.ReadFailed = omega arith
word_short word.WriteFailed = omega arith

pub line_short : (s : Subject) (w : Word) → length (line_text s w) ≤ line_bytes
unfolding line_text
line_short s w =
    omega (arith, length-append (subject_text s) (ascii ": " ++ (word_text w ++ ascii "\n")), length-append (word_text w) (ascii "\n"), subject_short s, word_short w)
