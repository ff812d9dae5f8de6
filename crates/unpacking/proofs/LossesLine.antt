-- How long the line of the losses is. Assumes nothing.
use Prim.Native.Nat.{◌≤◌}
use native.Mathlib.Omega.{arith}
use mathlib.Core.List.{◌++◌}
use lib.ListN.{length, length-append}
use Rattle.base.specs.Words.{ascii}
use Rattle.turns.specs.Text.{line_bytes, decimal, labelled}
use Rattle.turns.proofs.Digits.{decimal_short}
use Rattle.unpacking.specs.Unpack.{losses_line}
use Rattle.unpacking.specs.declared.losses.Losses.{Losses}

pub losses_short : (c : Losses) → length (losses_line c) ≤ line_bytes
unfolding losses_line
losses_short c =
    let end = ascii " leading elements\n" in
    let e = labelled (ascii " open fragments, ") c.elements ++ end in
    let f = labelled (ascii " packets passed over, ") c.fragments ++ e in
    omega (
      arith,
      length-append (decimal c.packets) f,
      length-append (decimal c.fragments) e,
      length-append (decimal c.elements) end,
      decimal_short c.packets,
      decimal_short c.fragments,
      decimal_short c.elements,
    )
