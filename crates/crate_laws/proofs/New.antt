-- N of the crate and ours (D2, X9): they differ on packet 0 alone, if at all; and what follows. Assumes nothing.
--     same-later       header bytes are the same after packet 0
--     equal-payloads   payloads are, byte for byte, where N of packet 0 is the same and no length of 128 or more is written
use mathlib.Core.Path.{◌≡◌, sym, ap, ◌∙◌}
use Prim.Native.Nat.{ℕ, zero, suc, ◌+◌, ◌≤◌}
use native.Mathlib.Omega.{arith}
use mathlib.Core.List.{List, [], ◌∷◌}
use lib.ListN.{get_or}
use borrow.Author.Tests.{ne_eqb}
use Rattle.base.specs.Answers.{given}
use Rattle.obu.specs.Unit.{obus_of}
use Rattle.obu.specs.declared.Obu.{Obu}
use Rattle.packetizer.specs.Call.{unit_plan}
use Rattle.packetizer.specs.Records.{no_packet}
use Rattle.aggregation.specs.New.{n_of}
use Rattle.crate_laws.specs.Rust.{Outcome, ok}
use Rattle.crate_laws.specs.Obu.{CrateObu}
use Rattle.crate_laws.specs.Packetizer.{sets_n}
use Rattle.crate_laws.specs.Pieces.{crate_new, zyw_of, pieces_of}
use Rattle.crate_laws.specs.Same.{crate_obus, SameLater, NewAgrees, EqualPayloads}
use Rattle.crate_laws.proofs.Pieces.{equal_pieces}
use Rattle.crate_laws.proofs.Same.{same_units}

-- after packet 0 neither sets N, whatever their lists
new_later : (crate : List CrateObu) (unit : List ℕ) (obus : List Obu) (k : ℕ) → 1 ≤ k → crate_new crate k ≡ n_of unit obus k
unfolding sets_n n_of
new_later [] unit obus k after = rw (ne_eqb k 0 (λ e. omega arith))
new_later (first ∷ crate) unit obus k after = rw (ne_eqb k 0 (λ e. omega arith))

pub same_later : SameLater
same_later mtu unit bytes a k after there =
    let s = (same_units mtu unit bytes a).headers k there in
    let zyw : ℕ = zyw_of (obus_of unit) (get_or (unit_plan mtu unit) k no_packet) in (
      zyw + crate_new (crate_obus unit) k,
      s.theirs,
      s.ours ∙ ap (λ (n : ℕ). given (zyw + n)) (sym (new_later (crate_obus unit) unit (obus_of unit) k after)),
    )

-- the same on packet 0, and so on all
new_same : (unit : List ℕ) → NewAgrees unit → (k : ℕ) → crate_new (crate_obus unit) k ≡ n_of unit (obus_of unit) k
new_same unit agrees zero = agrees
new_same unit agrees (suc k) = new_later (crate_obus unit) unit (obus_of unit) (suc k) (omega arith)

pub equal_payloads : EqualPayloads
equal_payloads mtu unit bytes a short agrees =
    let s = same_units mtu unit bytes a in
    s.payloads
    ∙ ap {B = Outcome (List (List ℕ))} ok
    (equal_pieces (crate_obus unit) unit (obus_of unit) (pieces_of mtu unit) (new_same unit agrees) short ∙ sym s.ours)
