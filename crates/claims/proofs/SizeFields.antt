-- Size fields: docs/CLAIMS.md, first chapter.
use Rattle.leb128.proofs.Theorems as theorems
use Rattle.leb128.proofs.Padded as padded
use Rattle.leb128.proofs.Refused as refused
use Rattle.claims.specs.SizeFields.{FirstEight, PaddedRead, ReadBack, NoneShorter, SizeIs, PaddedIs, OnlyShortest, ShortestNot, FiveWhen, FiveOnly, SixWhen, SixOver, SixOnly}

pub first_eight : FirstEight
first_eight = theorems.first_eight

pub padded_read : PaddedRead
padded_read = theorems.padded_read

pub read_back_lem : ReadBack
read_back_lem = theorems.read_back_lem

pub none_shorter : NoneShorter
none_shorter = theorems.none_shorter

pub size_is : SizeIs
size_is = theorems.size_is

pub padded_is : PaddedIs
padded_is = padded.padded_is

pub only_shortest : OnlyShortest
only_shortest = padded.only_shortest

pub shortest_not : ShortestNot
shortest_not = padded.shortest_not

pub five_when : FiveWhen
five_when = refused.five_when

pub five_only : FiveOnly
five_only = refused.five_only

pub six_when : SixWhen
six_when = refused.six_when

pub six_over : SixOver
six_over = refused.six_over

pub six_only : SixOnly
six_only = refused.six_only
