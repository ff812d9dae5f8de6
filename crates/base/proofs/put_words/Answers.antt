use Rattle.base.specs.Words.{words}
use Rattle.base.specs.Inside.{lines}
use Rattle.base.proofs.Words.{words_put}
use Rattle.base.proofs.put_words.Goals as goal

pub returns : goal.returns
unfolding words lines
returns c = words_put c.args.number c.put_line_of.ensures
