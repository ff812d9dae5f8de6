-- The receive call: its answer, and what it leaves in store and output (R12 to R20, C3, C8, C11, V12 to V14, V18).
use Rattle.std.specs.Prelude.{ℕ, Bool, cond, ◌||◌, List, length, take, ◌==◌, nat_lt}
use Rattle.base.specs.Answers.{Answer, given, refused}
use Rattle.base.specs.Lists.{front}
use Rattle.element.specs.Elements.{payload_limit, padded_lengths}
use Rattle.handing.specs.Handing.{fragment_limit, wires, padded_sizes}
use Rattle.receiver.specs.Packet.{Packet, packet_of}
use Rattle.receiver.specs.Joining.{Label, label, Held, Lost, ahead, lost, next, out}
use Rattle.receiver.specs.declared.Padded.{Padded}
use Rattle.receiver.specs.declared.State.{State}
use Rattle.receiver.specs.declared.Received.{Received}

-- ---- a packet

-- as it comes
pub record Incoming : Type 0 where
  pub label : Label
  pub payload : List ℕ

-- what it leads to if it is taken: what is then held, the bytes handed out, its padded fields, and what was thrown away
pub record Taken : Type 0 where
  pub held : Held
  pub bytes : List ℕ
  pub padded : Padded
  pub lost : Lost

-- so many open bytes are more than the space of the store, or than a fragment may have (L4)
abbrev pub too_long : ℕ → ℕ → Bool
too_long space size = nat_lt space size || nat_lt fragment_limit size

-- R19, then R20: so much space is in the store, and so much room in the output
abbrev pub fitted : ℕ → ℕ → Taken → Answer Taken
fitted space room t =
    cond (too_long space (length t.held.fragment))
    (refused 19 0)
    (cond (nat_lt room (length t.bytes)) (refused 20 0) (given t))

-- V18: the padded length fields of all its elements, and the padded size fields of the OBUs that it finishes
abbrev pub padded_in : Incoming → List (List ℕ) → Padded
padded_in p finished = record { lengths = padded_lengths p.payload; sizes = padded_sizes finished }

-- a packet, taken apart as q, where these bytes go out for the OBUs that it finishes
abbrev pub leads_to : Held → Incoming → Packet → List ℕ → Taken
leads_to h p q bytes =
    record {
      held = next h p.label q;
      bytes = bytes;
      padded = padded_in p (out h p.label q);
      lost = lost h p.label q;
    }

-- R18, then these
abbrev pub wired : ℕ → ℕ → Held → Incoming → Packet → Answer (List ℕ) → Answer Taken
wired space room h p q (given bytes) = fitted space room (leads_to h p q bytes)
wired space room h p q (refused n at) = refused n at

-- R15 to R17, then these
abbrev pub opened : ℕ → ℕ → Held → Incoming → Answer Packet → Answer Taken
opened space room h p (given q) = wired space room h p q (wires (out h p.label q))
opened space room h p (refused n at) = refused n at

-- R13, then R14, then the rest
unfoldable pub taken : ℕ → ℕ → Held → Incoming → Answer Taken
taken space room h p =
    cond (length p.payload == 0 || nat_lt payload_limit (length p.payload))
    (refused 13 0)
    (cond (ahead h p.label) (opened space room h p (packet_of p.payload)) (refused 14 0))

-- ---- state and store (V1)

-- the label of the last packet taken, as a state keeps it
abbrev pub last_of : State → Label
last_of state = label state.last

-- what the two hold together
abbrev pub held_in : State → List ℕ → Held
held_in state store = record { begun = state.begun; last = last_of state; fragment = take state.«open» store }

-- and back, without the fragment's bytes
abbrev pub state_by : Bool → Label → ℕ → State
state_by begun l size = record { begun = begun; last = l.number; «open» = size }

abbrev pub state_of : Held → State
state_of h = state_by h.begun h.last (length h.fragment)

-- ---- the call

-- what it is given: the state, a packet, the store and the output
pub record Inputs : Type 0 where
  pub state : State
  pub packet : Incoming
  pub store : List ℕ
  pub output : List ℕ

-- these, from the arguments of the code
abbrev pub inputs : State → ℕ → List ℕ → List ℕ → List ℕ → Inputs
inputs state number payload store output =
    record { state = state; packet = record { label = label number; payload = payload }; store = store; output = output }

-- R12, then the rest
unfoldable pub outcome : Inputs → Answer Taken
outcome i =
    cond (too_long (length i.store) i.state.«open»)
    (refused 12 0)
    (taken (length i.store) (length i.output) (held_in i.state i.store) i.packet)

-- what a call leaves: its answer, and every byte of store and output
pub record After (A : Type 0) : Type 0 where
  pub answer : A
  pub store : List ℕ
  pub output : List ℕ

abbrev pub leaves : {A : Type 0} → A → List ℕ → List ℕ → After A
leaves answer store output = record { answer = answer; store = store; output = output }

-- the same, answered by this function of the answer
abbrev pub answering : {A B : Type 0} → (A → B) → After A → After B
answering f x = leaves (f x.answer) x.store x.output

-- the fragment first in the store, and the bytes handed out first in the output; a refusal leaves both as they were
abbrev pub after : Answer Taken → List ℕ → List ℕ → After (Answer Taken)
after (given t) store output = leaves (given t) (front t.held.fragment store) (front t.bytes output)
after (refused n at) store output = leaves (refused n at) store output

abbrev pub after_taking : Inputs → After (Answer Taken)
after_taking i = after (outcome i) i.store i.output

-- the new state, the number of bytes handed out, the padded fields and what was thrown away
abbrev pub received_of : Taken → Received
received_of t =
    record {
      state = state_of t.held;
      bytes = length t.bytes;
      padded = t.padded;
      fragment_lost = t.lost.fragment;
      element_lost = t.lost.element;
    }

abbrev pub answered : Answer Taken → Answer Received
answered (given t) = given (received_of t)
answered (refused n at) = refused n at

abbrev pub received : Inputs → After (Answer Received)
received i = answering answered (after_taking i)
