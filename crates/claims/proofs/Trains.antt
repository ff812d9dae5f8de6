-- The train file.
use Rattle.train.proofs.Written as written
use Rattle.train.proofs.Cut as cut
use Rattle.train.proofs.Versions as versions
use Rattle.claims.specs.Trains.{RecordsThen, HeadTaken, ShortRefuses, ShortAgrees, WrittenRead, CutPrefix}

pub records_then : RecordsThen
records_then = written.records_then

pub head_taken : HeadTaken
head_taken = written.head_taken

pub short_refuses : ShortRefuses
short_refuses = versions.short_refuses

pub short_agrees : ShortAgrees
short_agrees = versions.short_agrees

pub written_read : WrittenRead
written_read = written.written_read

pub cut_prefix : CutPrefix
cut_prefix = cut.cut_prefix
