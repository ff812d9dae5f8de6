-- What the answer of the code stands for.
use Rattle.std.specs.Prelude.{Option, Some, None}
use Rattle.listing.specs.Input as input
use Rattle.listing.specs.declared.Stated.{Stated}

abbrev pub paper_head : Option Stated → input.Head
paper_head None = input.bad
paper_head (Some s) = input.states s
