-- Some lines; computed. Assumes nothing.
use Rattle.std.proofs.Common.{◌≡◌, refl}
use Rattle.base.specs.Words.{ascii, words, words_of}
use Rattle.turns.specs.Text.{decimal_in, line_text}
use Rattle.turns.specs.declared.Subject.TheVariants as subject
use Rattle.turns.specs.declared.Word.TheVariants as word

cut_record : line_text (subject.Record 48) (word.Refused 22) ≡ ascii "record 48: 22 (the train ends inside a record)\n"
unfolding line_text decimal_in words words_of
cut_record = refl

first_refusal : line_text (subject.Unit 0) (word.Refused 1) ≡ ascii "unit 0: 1 (the mtu is over its limit)\n"
unfolding line_text decimal_in words words_of
first_refusal = refl

no_head_lem : line_text subject.Input word.NoHead ≡ ascii "input: no head\n"
unfolding line_text
no_head_lem = refl

write_failed_lem : line_text (subject.Unit 10) word.WriteFailed ≡ ascii "unit 10: write failed\n"
unfolding line_text decimal_in
write_failed_lem = refl
