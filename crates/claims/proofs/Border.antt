-- How answers and states cross to C and Rust.
use Rattle.base.proofs.Refusals as refusals
use Rattle.av1rtp.specs.Calls as border
use Rattle.av1rtp.proofs.Laws as laws
use Rattle.claims.specs.Answers.{TellsApart}
use Rattle.claims.specs.Border.{NeverZero, ToldApart, StateFresh, StateBack}

pub never_zero : NeverZero
never_zero = refusals.never_zero

pub told_apart : ToldApart
told_apart = λ A. laws.told_apart

pub one_word : TellsApart border.one
one_word = laws.one_apart

pub listed_words_lem : TellsApart border.listed_words
listed_words_lem = laws.listed_apart

pub planned_words_lem : TellsApart border.planned_words
planned_words_lem = laws.planned_apart

pub written_words_lem : TellsApart border.written_words
written_words_lem = laws.written_apart

pub field_words_lem : TellsApart border.field_words
field_words_lem = laws.field_apart

pub head_words_lem : TellsApart border.head_words
head_words_lem = laws.head_apart

pub record_words_lem : TellsApart border.record_words
record_words_lem = laws.record_apart

pub state_fresh : StateFresh
state_fresh = laws.state_fresh

pub state_back : StateBack
state_back = laws.state_back
