-- What the functions below the receive call ask and promise; its own contract cites none of this.
use Rattle.std.specs.Prelude.{◌≡◌, ℕ, ◌-◌, Bool, true, false, cond, ◌&&◌, List, length, ◌==◌, nat_lt}
use Rattle.base.specs.Answers.{given}
use Rattle.element.specs.Elements.{payload_elements}
use Rattle.element.specs.Paper.{walked_of}
use Rattle.element.specs.declared.Walked.{Walked}
use Rattle.handing.specs.Inside.{across, parts_of}
use Rattle.receiver.specs.declared.Fragment.{Fragment}
use Rattle.receiver.specs.Joining.{Label, ahead, follows}
use Rattle.receiver.specs.Call.{Inputs, too_long, last_of, held_in}
use Rattle.receiver.specs.declared.State.{State}
use Rattle.receiver.specs.declared.Cut.{Cut}

-- the bytes of a fragment
abbrev pub fragment_of : List ℕ → List ℕ → Fragment → List ℕ
fragment_of store payload f = across store f.kept payload f.start f.size

-- how many bytes of the store the first element joins
abbrev pub kept_bytes : State → Label → Bool → ℕ
kept_bytes state l z = cond (z && follows state.begun (last_of state) l) state.«open» 0

-- how many elements are thrown away
abbrev pub thrown : Bool → ℕ → ℕ
thrown z kept = cond (z && kept == 0) 1 0

-- up to which element they are finished
abbrev pub finished_end : Bool → ℕ → ℕ
finished_end y n = cond y (n - 1) n

-- what is left open of the elements from `from` on: with Y the last, and the joined bytes in front of it if it is the only one
abbrev pub left_open : Bool → ℕ → Walked → ℕ → Fragment
left_open y from all joined =
    cond (y && nat_lt from all.elements)
    (record { kept = cond (all.elements - from == 1) joined 0; start = all.last.start; size = all.last.length })
    (record { kept = 0; start = 0; size = 0 })

-- how the elements of a packet with these flags are cut
pub record IsCut (state : State) (l : Label) (z y : Bool) (all : Walked) (c : Cut) : Type 0 where
  pub joined_is : c.joined ≡ kept_bytes state l z
  pub from_is : c.from ≡ thrown z c.joined
  pub cursor_is : c.cursor ≡ cond (c.from == 0) 1 all.kept.next
  pub to_is : c.to ≡ finished_end y all.elements
  pub left_is : c.left ≡ left_open y c.from all c.joined

-- the payload has been read, and this is what its elements are
pub record Read (payload : List ℕ) (all : Walked) : Type 0 where
  pub whole : payload_elements payload ≡ given (parts_of payload)
  pub is : all ≡ walked_of 0 (parts_of payload)

-- the state is possible, and the packet ahead and read
pub record Opened (i : Inputs) (all : Walked) : Type 0 where
  pub possible : too_long (length i.store) i.state.«open» ≡ false
  pub forward : ahead (held_in i.state i.store) i.packet.label ≡ true
  pub read : Read i.packet.payload all
