-- The payloads of U fed back, and the receiver's refusals in their order; computed. Assumes nothing.
use Rattle.std.proofs.Common.{◌≡◌, ℕ, ◌+◌, ◌%◌, Bool, true, false, List, [], ◌∷◌, ◌++◌, map, refl}
use Rattle.base.specs.Answers.{Answer, given, refused}
use Rattle.base.specs.Lists.{keep}
use Rattle.base.specs.Streams.{stream_from}
use Rattle.leb128.specs.Field.{field_in, encode_in}
use Rattle.obu.specs.Front.{front_of, headed}
use Rattle.obu.specs.Wire.{whole_of, wire, padded_size}
use Rattle.element.specs.Elements.{element_at, exactly, counting, elements_of, payload_elements}
use Rattle.handing.specs.Handing.{wires}
use Rattle.receiver.specs.Joining.{label, Held, fresh, is_ahead, is_in_step, follows, with_fragment, lost, finished, left, handed, kept_open, next, out}
use Rattle.receiver.specs.Call.{Taken, taken, state_by, state_of, Inputs, inputs, outcome, received}
use Rattle.receiver.specs.declared.State.{State}
use Rattle.receiver.specs.declared.Received.{Received}

-- all that goes out for payloads numbered in one run from `number` on, with 64 bytes of space each, refused ones passed over
after : Held → Answer Taken → Held
after h (given t) = t.held
after h (refused n at) = h

bytes : Answer Taken → List ℕ
bytes (given t) = t.bytes
bytes (refused n at) = []

feed : Held → ℕ → List (List ℕ) → List ℕ
feed h number [] = []
feed h number (p ∷ ps) =
    let a = taken 64 64 h (record { label = label number; payload = p }) in
    bytes a ++ feed (after h a) ((number + 1) % 65536) ps

-- U3, U4, U5, U6, U7, U8, U9, U10, U11, U17, U18
trains : List (List (List ℕ))
trains =
    ((0x50 ∷ 8 ∷ []) ∷ (0x90 ∷ 0x7f ∷ []) ∷ [])
    ∷ ((0x10 ∷ 8 ∷ 0x7f ∷ []) ∷ [])
    ∷ ((0x10 ∷ 8 ∷ 0x7f ∷ []) ∷ (0x10 ∷ 0x30 ∷ []) ∷ [])
    ∷ ((0x20 ∷ 4 ∷ 8 ∷ 0x11 ∷ 0x22 ∷ 0x33 ∷ 0x30 ∷ 0xa1 ∷ 0xa2 ∷ 0xa3 ∷ 0xa4 ∷ 0xa5 ∷ []) ∷ [])
    ∷ ((0x50 ∷ 8 ∷ 0x11 ∷ []) ∷ (0x90 ∷ 0x22 ∷ 0x33 ∷ []) ∷ (0x50 ∷ 0x30 ∷ 0xa1 ∷ []) ∷ (0xd0 ∷ 0xa2 ∷ 0xa3 ∷ []) ∷ (0x90 ∷ 0xa4 ∷ 0xa5 ∷ []) ∷ [])
    ∷ ((0x30 ∷ 1 ∷ 0x30 ∷ 1 ∷ 0x30 ∷ 0x30 ∷ []) ∷ [])
    ∷ ((0x00 ∷ 1 ∷ 0x30 ∷ 1 ∷ 0x30 ∷ 1 ∷ 0x30 ∷ 1 ∷ 0x30 ∷ []) ∷ [])
    ∷ ((0x50 ∷ 0x34 ∷ []) ∷ (0x90 ∷ 8 ∷ []) ∷ [])
    ∷ ((0x50 ∷ 0x34 ∷ 8 ∷ []) ∷ (0x90 ∷ 0xc1 ∷ []) ∷ [])
    ∷ ((0x10 ∷ 0x30 ∷ []) ∷ [])
    ∷ ((0x30 ∷ 1 ∷ 0x30 ∷ 1 ∷ 0x30 ∷ 0x30 ∷ []) ∷ (0x50 ∷ 0x30 ∷ 0xa1 ∷ 0xa1 ∷ 0xa1 ∷ 0xa1 ∷ 0xa1 ∷ []) ∷ (0x90 ∷ 0xa1 ∷ []) ∷ [])
    ∷ []

-- the kept OBUs of the units, each with bit 1 set and a shortest size field; the numbers wrap
units :
    map (feed fresh 65535) trains
    ≡ (0x0a ∷ 1 ∷ 0x7f ∷ [])
    ∷ (0x0a ∷ 1 ∷ 0x7f ∷ [])
    ∷ (0x0a ∷ 1 ∷ 0x7f ∷ 0x32 ∷ 0 ∷ [])
    ∷ (0x0a ∷ 3 ∷ 0x11 ∷ 0x22 ∷ 0x33 ∷ 0x32 ∷ 5 ∷ 0xa1 ∷ 0xa2 ∷ 0xa3 ∷ 0xa4 ∷ 0xa5 ∷ [])
    ∷ (0x0a ∷ 3 ∷ 0x11 ∷ 0x22 ∷ 0x33 ∷ 0x32 ∷ 5 ∷ 0xa1 ∷ 0xa2 ∷ 0xa3 ∷ 0xa4 ∷ 0xa5 ∷ [])
    ∷ (0x32 ∷ 0 ∷ 0x32 ∷ 0 ∷ 0x32 ∷ 0 ∷ [])
    ∷ (0x32 ∷ 0 ∷ 0x32 ∷ 0 ∷ 0x32 ∷ 0 ∷ 0x32 ∷ 0 ∷ [])
    ∷ (0x36 ∷ 8 ∷ 0 ∷ [])
    ∷ (0x36 ∷ 8 ∷ 1 ∷ 0xc1 ∷ [])
    ∷ (0x32 ∷ 0 ∷ [])
    ∷ (0x32 ∷ 0 ∷ 0x32 ∷ 0 ∷ 0x32 ∷ 0 ∷ 0x32 ∷ 6 ∷ 0xa1 ∷ 0xa1 ∷ 0xa1 ∷ 0xa1 ∷ 0xa1 ∷ 0xa1 ∷ [])
    ∷ []
unfolding feed after bytes trains taken payload_elements elements_of counting stream_from exactly element_at field_in encode_in is_ahead is_in_step follows with_fragment finished left handed kept_open next out wires wire whole_of front_of headed
units = refl

-- ---- calls: a state, a number, a payload, a store, an output

-- begun at number 7, with so many bytes open
at7 : ℕ → State
at7 n = state_by true (label 7) n

begin : State
begin = state_of fresh

answers : List Inputs → List (Answer Received)
answers is = map (λ (i : Inputs). (received i).answer) is

-- a refusal, in the order of C3
bad : List Inputs
bad =
    inputs (at7 1) 7 [] [] []
    ∷ inputs (at7 0) 7 [] [] []
    ∷ inputs (at7 0) 7 (0x98 ∷ []) [] []
    ∷ inputs (at7 0) 32775 (0x98 ∷ []) [] []
    ∷ inputs begin 0 (0x98 ∷ []) [] []
    ∷ inputs begin 0 (0x20 ∷ []) [] []
    ∷ inputs begin 0 (0x10 ∷ []) [] []
    ∷ inputs begin 0 (0x60 ∷ 1 ∷ 0x12 ∷ 0x30 ∷ []) [] []
    ∷ inputs begin 0 (0x10 ∷ 0x12 ∷ []) [] []
    ∷ inputs begin 0 (0x10 ∷ 0x32 ∷ 0x80 ∷ []) [] []
    ∷ inputs (at7 1) 8 (0x90 ∷ 0x80 ∷ []) (0x32 ∷ []) []
    ∷ inputs begin 0 (0x60 ∷ 1 ∷ 0x30 ∷ 0x30 ∷ []) [] []
    ∷ inputs (at7 1) 8 (0xd0 ∷ 0xa1 ∷ []) (0x30 ∷ []) []
    ∷ inputs begin 0 (0x60 ∷ 1 ∷ 0x30 ∷ 0x30 ∷ []) (0 ∷ []) (0 ∷ [])
    ∷ []

refusals :
    answers bad
    ≡ map (λ (n : ℕ). refused n 0) (12 ∷ 13 ∷ 14 ∷ 14 ∷ 15 ∷ 16 ∷ 17 ∷ 18 ∷ 18 ∷ 18 ∷ 18 ∷ 19 ∷ 19 ∷ 20 ∷ [])
unfolding bad at7 begin answers outcome taken payload_elements elements_of counting stream_from exactly element_at field_in encode_in is_ahead is_in_step follows with_fragment finished left handed kept_open next out wires wire whole_of front_of headed
refusals = refl

-- a packet taken: thrown away where nothing is open or it is not in step; joined and left open; dropped types; the furthest that is ahead;
-- three bytes open, and then Z clear, Z not in step, Z in step; Z in step and nothing open
good : List Inputs
good =
    inputs begin 9 (0x90 ∷ 0x34 ∷ []) (1 ∷ []) (1 ∷ [])
    ∷ inputs (at7 1) 9 (0xd0 ∷ 0xa1 ∷ []) (0x30 ∷ 1 ∷ []) []
    ∷ inputs (at7 1) 8 (0xd0 ∷ 0xa1 ∷ []) (0x30 ∷ 1 ∷ 1 ∷ []) []
    ∷ inputs (at7 2) 8 (0x90 ∷ 0xa2 ∷ []) (0x30 ∷ 0xa1 ∷ 1 ∷ []) (1 ∷ 1 ∷ 1 ∷ 1 ∷ 1 ∷ [])
    ∷ inputs (at7 1) 8 (0x10 ∷ 0x10 ∷ []) (0x30 ∷ 1 ∷ []) []
    ∷ inputs (at7 0) 32774 (0x50 ∷ 0x78 ∷ []) (1 ∷ 1 ∷ []) []
    ∷ inputs (at7 3) 8 (0x10 ∷ 0x32 ∷ 0 ∷ []) (0x30 ∷ 0xa1 ∷ 0xa2 ∷ []) (1 ∷ 1 ∷ [])
    ∷ inputs (at7 3) 9 (0x90 ∷ 0xa3 ∷ []) (0x30 ∷ 0xa1 ∷ 0xa2 ∷ []) []
    ∷ inputs (at7 3) 8 (0x90 ∷ 0xa3 ∷ []) (0x30 ∷ 0xa1 ∷ 0xa2 ∷ []) (1 ∷ 1 ∷ 1 ∷ 1 ∷ 1 ∷ [])
    ∷ inputs (at7 0) 8 (0x90 ∷ 0xa3 ∷ []) [] []
    ∷ []

-- this number taken, so many bytes open, so many handed out, nothing padded; whether a fragment and an element were thrown away
got : ℕ → ℕ → ℕ → Bool → Bool → Answer Received
got last size count fragment element =
    given
    (record {
      state = state_by true (label last) size;
      bytes = count;
      padded = record { lengths = 0; sizes = 0 };
      fragment_lost = fragment;
      element_lost = element;
    })

states :
    answers good
    ≡ got 9 0 0 false true
    ∷ got 9 0 0 true true
    ∷ got 8 2 0 false false
    ∷ got 8 0 4 false false
    ∷ got 8 0 0 true false
    ∷ got 32774 1 0 false false
    ∷ got 8 0 2 true false
    ∷ got 9 0 0 true true
    ∷ got 8 0 5 false false
    ∷ got 8 0 0 false true
    ∷ []
unfolding good got at7 begin answers outcome taken payload_elements elements_of counting stream_from exactly element_at field_in encode_in is_ahead is_in_step follows with_fragment lost finished left handed kept_open next out wires wire keep padded_size whole_of front_of headed
states = refl

stores :
    map (λ (i : Inputs). (received i).store) good
    ≡ (1 ∷ []) ∷ (0x30 ∷ 1 ∷ []) ∷ (0x30 ∷ 0xa1 ∷ 1 ∷ []) ∷ (0x30 ∷ 0xa1 ∷ 1 ∷ []) ∷ (0x30 ∷ 1 ∷ []) ∷ (0x78 ∷ 1 ∷ []) ∷ (0x30 ∷ 0xa1 ∷ 0xa2 ∷ []) ∷ (0x30 ∷ 0xa1 ∷ 0xa2 ∷ []) ∷ (0x30 ∷ 0xa1 ∷ 0xa2 ∷ []) ∷ [] ∷ []
unfolding good at7 begin outcome taken payload_elements elements_of counting stream_from exactly element_at field_in encode_in is_ahead is_in_step follows with_fragment finished left handed kept_open next out wires wire whole_of front_of headed
stores = refl

outputs :
    map (λ (i : Inputs). (received i).output) good
    ≡ (1 ∷ []) ∷ [] ∷ [] ∷ (0x32 ∷ 2 ∷ 0xa1 ∷ 0xa2 ∷ 1 ∷ []) ∷ [] ∷ [] ∷ (0x32 ∷ 0 ∷ []) ∷ [] ∷ (0x32 ∷ 3 ∷ 0xa1 ∷ 0xa2 ∷ 0xa3 ∷ []) ∷ [] ∷ []
unfolding good at7 begin outcome taken payload_elements elements_of counting stream_from exactly element_at field_in encode_in is_ahead is_in_step follows with_fragment finished left handed kept_open next out wires wire whole_of front_of headed
outputs = refl

-- ---- padded fields

-- two length fields and the size field of the last element; the length field of an element thrown away, and of one left open; a size field
-- cut over three packets, counted in the last; that of a dropped type; fields of one byte
fields : List Inputs
fields =
    inputs begin 0 (0x30 ∷ 0x81 ∷ 0 ∷ 0x30 ∷ 0x81 ∷ 0 ∷ 0x30 ∷ 0x32 ∷ 0x80 ∷ 0 ∷ []) [] (1 ∷ 1 ∷ 1 ∷ 1 ∷ 1 ∷ 1 ∷ [])
    ∷ inputs begin 0 (0xa0 ∷ 0x81 ∷ 0 ∷ 0xa1 ∷ 0x30 ∷ []) [] (1 ∷ 1 ∷ [])
    ∷ inputs begin 0 (0x40 ∷ 0x81 ∷ 0 ∷ 0x30 ∷ []) (1 ∷ []) []
    ∷ inputs begin 6 (0x50 ∷ 0x32 ∷ []) (1 ∷ 1 ∷ []) []
    ∷ inputs (at7 1) 8 (0xd0 ∷ 0x80 ∷ []) (0x32 ∷ 1 ∷ []) []
    ∷ inputs (at7 2) 8 (0x90 ∷ 0 ∷ []) (0x32 ∷ 0x80 ∷ []) (1 ∷ 1 ∷ [])
    ∷ inputs begin 0 (0x10 ∷ 0x12 ∷ 0x80 ∷ 0 ∷ []) [] []
    ∷ inputs begin 0 (0x20 ∷ 2 ∷ 0x32 ∷ 0 ∷ 0x32 ∷ 0 ∷ []) [] (1 ∷ 1 ∷ 1 ∷ 1 ∷ [])
    ∷ []

-- the bytes handed out, the padded length fields and the padded size fields
counts : Answer Received → List ℕ
counts (given r) = r.bytes ∷ r.padded.lengths ∷ r.padded.sizes ∷ []
counts (refused n at) = []

padded :
    map counts (answers fields)
    ≡ (6 ∷ 2 ∷ 1 ∷ []) ∷ (2 ∷ 1 ∷ 0 ∷ []) ∷ (0 ∷ 1 ∷ 0 ∷ []) ∷ (0 ∷ 0 ∷ 0 ∷ []) ∷ (0 ∷ 0 ∷ 0 ∷ []) ∷ (2 ∷ 0 ∷ 1 ∷ []) ∷ (0 ∷ 0 ∷ 1 ∷ []) ∷ (4 ∷ 0 ∷ 0 ∷ []) ∷ []
unfolding fields counts at7 begin answers outcome taken payload_elements elements_of counting stream_from exactly element_at field_in encode_in is_ahead is_in_step follows with_fragment lost finished left handed kept_open next out wires wire keep padded_size whole_of front_of headed
padded = refl
