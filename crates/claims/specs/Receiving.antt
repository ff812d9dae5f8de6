-- The receive call (R14).
use Rattle.std.specs.Prelude.{◌≡◌, ℕ, ◌≤◌, false, length}
use Rattle.base.specs.Answers.{refused}
use Rattle.element.specs.Elements.{payload_limit}
use Rattle.handing.specs.Handing.{fragment_limit}
use Rattle.receiver.specs.Joining.{ahead}
use Rattle.receiver.specs.Call.{held_in, Inputs, received}

-- R14: a packet that is not ahead, where neither R12 nor R13 comes before it; and no other
abbrev pub FourteenWhen : Type 0
FourteenWhen =
    (i : Inputs)
    → i.state.«open» ≤ length i.store → i.state.«open» ≤ fragment_limit
    → 1 ≤ length i.packet.payload → length i.packet.payload ≤ payload_limit
    → ahead (held_in i.state i.store) i.packet.label ≡ false
    → (received i).answer ≡ refused 14 0

abbrev pub FourteenOnly : Type 0
FourteenOnly =
    (i : Inputs) (at : ℕ)
    → (received i).answer ≡ refused 14 at
    → ahead (held_in i.state i.store) i.packet.label ≡ false
