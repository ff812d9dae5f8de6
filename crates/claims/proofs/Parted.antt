-- Where the crate and the port part (X3 to X8).
use Rattle.crate_laws.specs.Parted.{RefusedSame, UnendingRead, LowRead, LastRead, ShortLengths, LongLengths, NeverSame, ThreeHundred, Outgrows}
use Rattle.crate_laws.proofs.Refused as refused
use Rattle.crate_laws.proofs.Fields as fields
use Rattle.crate_laws.proofs.Lengths as lengths
use Rattle.crate_laws.proofs.Rows as rows

-- units that we refuse, and size fields

pub refused_same : RefusedSame
refused_same = refused.refused_same

pub unending_read : UnendingRead
unending_read = fields.unending_read

pub low_read : LowRead
low_read = fields.low_read

pub last_read : LastRead
last_read = fields.last_read

-- lengths written

pub short_lengths : ShortLengths
short_lengths = lengths.short_lengths

pub long_lengths : LongLengths
long_lengths = lengths.long_lengths

pub never_same : NeverSame
never_same = lengths.never_same

pub three_hundred : ThreeHundred
three_hundred = lengths.three_hundred

pub outgrows : Outgrows
outgrows = rows.outgrows
