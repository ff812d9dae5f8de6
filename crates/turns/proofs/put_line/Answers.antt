use Rattle.std.proofs.Common.{arith}
use Rattle.base.specs.Lists.{Put}
use Rattle.base.proofs.Lists.{put_then, put_front}
use Rattle.turns.specs.Text.{line_text}
use Rattle.turns.proofs.Lines.{subject_short, word_short, line_short}
use Rattle.turns.proofs.put_line.Goals as goal

pub put_text-at-requires : goal.put_text-at-requires
put_text-at-requires c = omega (arith, c.put_subject-colon.ensures.cursor, subject_short c.args.subject)

pub put_word-end-requires : goal.put_word-end-requires
put_word-end-requires c = omega (arith, c.put_subject-colon.ensures.cursor, c.put_text-at.ensures.cursor, subject_short c.args.subject)

pub put_text-requires : goal.put_text-requires
put_text-requires c = omega (arith, c.put_subject-colon.ensures.cursor, c.put_text-at.ensures.cursor, c.put_word-end.ensures.cursor, subject_short c.args.subject, word_short c.args.word)

pub returns : goal.returns
unfolding line_text
returns c = let a = c.args in
    let all : Put a.line.now _ 0 _ (line_text a.subject a.word) =
    put_then c.put_subject-colon.ensures (put_then c.put_text-at.ensures (put_then c.put_word-end.ensures c.put_text.ensures)) in
    put_front all (omega (arith, all.cursor, line_short a.subject a.word))
