-- A packet that is taken or refused: the call's definition, by what the code finds. Assumes nothing.
use Rattle.std.proofs.Common.{◌≡◌, ℕ, ◌+◌, ◌-◌, ◌<◌, ◌≤◌, Bool, true, false, cond, ◌&&◌, eqb, ltb, List, [], ◌++◌, map, length, get_or, take, drop, sym, refl, ap, ◌∙◌, subst, ap₂, arith, length-append, length-take-le, le-ltb, lt-ltb}
use lib.ListN.{length-map, length-drop}
use lib.Seq.{sets, sets-eq}
use Rattle.base.specs.Answers.{Answer, given, refused}
use Rattle.base.specs.Lists.{front}
use Rattle.base.proofs.Tests.{by_cond}
use Rattle.element.specs.Header.{z_bit, y_bit}
use Rattle.element.specs.Elements.{bytes_of, padded_by, padded_lengths}
use Rattle.element.specs.declared.Walked.{Walked}
use Rattle.handing.specs.Handing.{fragment_limit, wires, padded_sizes}
use Rattle.handing.specs.Inside.{parts_of, led, between, put_first, handed_of, counted_all, RoomAt, Finishing}
use Rattle.receiver.specs.declared.Fragment.{Fragment}
use Rattle.handing.specs.declared.Handed.{Handed}
use Rattle.handing.proofs.Turns.{counted_given, counted_refused}
use Rattle.handing.proofs.Across.{across_length}
use Rattle.handing.proofs.Cursors.{elements_some}
use Rattle.receiver.specs.Packet.{Packet, packet_by}
use Rattle.receiver.specs.Joining.{Held, holding, follows, joinable, with_fragment, lost, finished, left, handed, kept_open, next, out}
use Rattle.receiver.specs.Call.{Taken, too_long, fitted, padded_in, wired, opened, last_of, held_in, state_by, Inputs, outcome, After, leaves, received}
use Rattle.receiver.specs.Inside.{fragment_of, IsCut, Opened}
use Rattle.receiver.specs.declared.Cut.{Cut}
use Rattle.receiver.specs.declared.Received.{Received}
use Rattle.receiver.proofs.Opens.{LeftOpen, left_is, read_count, read_first, joined_is, lost_is, finished_is}
use Rattle.receiver.proofs.Outcomes.{long_not, leaves_refused, outcome_opened}

-- ---- R19, R20

module _ (space room : ℕ) (t : Taken) where
  fitted_long : too_long space (length t.held.fragment) ≡ true → fitted space room t ≡ refused 19 0
  fitted_long h = rw h

  module _ (h : too_long space (length t.held.fragment) ≡ false) where
    fitted_output : room < length t.bytes → fitted space room t ≡ refused 20 0
    fitted_output r = rw (h, lt-ltb room (length t.bytes) r)

    pub fitted_all : length t.bytes ≤ room → fitted space room t ≡ given t
    fitted_all r = rw (h, le-ltb room (length t.bytes) r)

-- ---- a packet that is taken: z, y its flags, k bytes of the store joined, `from` elements thrown away, those up to `to` finished, r left open

abbrev CutBy : Inputs → Walked → Cut → Type 0
CutBy i all c =
    IsCut i.state i.packet.label (eqb (z_bit (get_or i.packet.payload 0 0)) 1) (eqb (y_bit (get_or i.packet.payload 0 0)) 1) all c

module _ {i : Inputs} {all : Walked} {c : Cut} (opening : Opened i all) (s : CutBy i all c) where
  abbrev payload : List ℕ
  payload = i.packet.payload

  abbrev z : Bool
  z = eqb (z_bit (get_or payload 0 0)) 1

  abbrev y : Bool
  y = eqb (y_bit (get_or payload 0 0)) 1

  abbrev k : ℕ
  k = c.joined

  abbrev from : ℕ
  from = c.from

  abbrev to : ℕ
  to = c.to

  abbrev r : Fragment
  r = c.left

  abbrev store : List ℕ
  store = i.store

  abbrev space : ℕ
  space = length store

  abbrev room : ℕ
  room = length i.output

  abbrev es : List (List ℕ)
  es = map (bytes_of payload) (parts_of payload)

  abbrev js : List (List ℕ)
  js = led (take k store) (drop from es)

  abbrev before : Held
  before = held_in i.state store

  abbrev goes : Bool
  goes = follows i.state.begun (last_of i.state) i.packet.label

  open_in : (i.state.«open» ≤ space) × (i.state.«open» ≤ fragment_limit)
  open_in = long_not opening.possible

  -- what the packet leads to, where these bytes go out
  abbrev leads : List ℕ → Taken
  leads bytes =
      record {
        held = holding i.packet.label (left y js);
        bytes = bytes;
        padded = record { lengths = all.padded; sizes = padded_sizes (between store k payload from to) };
        lost = record { fragment = ltb k i.state.«open»; element = ltb 0 from };
      }

  abbrev wired_by : Answer (List ℕ) → Answer Taken
  wired_by (given bytes) = fitted space room (leads bytes)
  wired_by (refused n at) = refused n at

  -- the packet taken apart
  abbrev apart : Packet
  apart = record { z = z; y = y; elements = es }

  taken_lost : lost before i.packet.label apart ≡ (leads []).lost
  unfolding lost
  taken_lost =
      let l = lost_is store i.state.«open» z goes k from open_in.0 s.joined_is s.from_is in
      ap₂ (λ (f e : Bool). record { fragment = f; element = e }) l.0 l.1

  taken_joined : with_fragment (joinable before i.packet.label) z es ≡ js
  taken_joined = joined_is store i.state.«open» z goes es k from open_in.0 s.joined_is s.from_is

  taken_finished : finished y js ≡ between store k payload from to
  taken_finished =
      finished_is y (take k store) es from all.elements (read_count opening.read ∙ sym (length-map (parts_of payload) (bytes_of payload)))
      ∙ ap (λ (m : ℕ). take (m - from) js) (sym s.to_is)

  taken_next : next before i.packet.label apart ≡ (leads []).held
  unfolding next kept_open
  taken_next = rw (opening.forward, taken_joined)

  taken_out : out before i.packet.label apart ≡ between store k payload from to
  unfolding out handed
  taken_out = rw (opening.forward, taken_joined) taken_finished

  taken_padded : padded_in i.packet (out before i.packet.label apart) ≡ (leads []).padded
  taken_padded =
      let r = opening.read in
      let l : padded_lengths payload ≡ all.padded = ap padded_by r.whole ∙ sym (ap (λ (w : Walked). w.padded) r.is) in
      ap₂ (λ (m n : ℕ). record { lengths = m; sizes = n }) l (ap padded_sizes taken_out)

  outcome_is : outcome i ≡ wired_by (wires (between store k payload from to))
  outcome_is =
      outcome_opened i opening
      ∙ ap (λ (a : Answer (List _)). opened space room before i.packet (packet_by payload a)) opening.read.whole
      ∙ go (wires (out before i.packet.label apart))
      ∙ ap (λ (os : List (List ℕ)). wired_by (wires os)) taken_out
    where
      go : (a : Answer (List ℕ)) → wired space room before i.packet apart a ≡ wired_by a
      go (given bytes) = rw (taken_next, taken_lost, taken_padded)
      go (refused n at) = refl

  pub kept_most : (k ≤ space) × (k ≤ fragment_limit)
  kept_most = go (z && goes) s.joined_is
    where
      go : (t : Bool) → k ≡ cond t i.state.«open» 0 → (k ≤ space) × (k ≤ fragment_limit)
      go true e = (omega (arith, open_in), omega (arith, open_in))
      go false e = (omega arith, omega arith)

  pub from_most : from ≤ 1
  from_most = rw s.from_is (by_cond (λ (m : ℕ). m ≤ 1) (z && eqb k 0) 1 0 (λ t. omega arith) (λ t. omega arith))

  to_most : to ≤ all.elements
  to_most = rw s.to_is (by_cond (λ (m : ℕ). m ≤ all.elements) y (all.elements - 1) all.elements (λ t. omega arith) (λ t. omega arith))

  -- what is asked before it is handed out
  pub finishing : Finishing payload c.cursor from to store k
  finishing =
      let o = opening.read in
      let d : from - 1 ≡ 0 = omega (arith, from_most) in
      record {
        whole = o.whole;
        cursor_is = s.cursor_is ∙ rw (d, read_first o);
        from_in = omega (arith, from_most, elements_some _ _ o.whole);
        to_in = omega (arith, to_most, read_count o);
        stored = kept_most.0;
        small = kept_most.1;
      }

  pub left_it : LeftOpen payload y from k r
  left_it = subst (LeftOpen payload y from k) (sym s.left_is) (left_is opening.read from k y)

  -- what goes out is counted: a refusal
  pub taking_broken : {m a : ℕ} → refused m a ≡ counted_all (between store k payload from to) → leaves (refused m a) store i.output ≡ received i
  taking_broken e = leaves_refused i (outcome_is ∙ ap wired_by (counted_refused _ _ e))

  -- or so many bytes
  module _ {had : Handed} (e : given had ≡ counted_all (between store k payload from to)) where
    -- they go out
    given_bytes : (b : List ℕ) × (wires (between store k payload from to) ≡ given b) × (had ≡ handed_of (padded_sizes (between store k payload from to)) b)
    given_bytes = counted_given _ e

    abbrev bytes : List ℕ
    bytes = given_bytes.0

    bytes_length : had.bytes ≡ length bytes
    bytes_length = ap (λ (x : Handed). x.bytes) given_bytes.2

    pub room_for : {room : ℕ} → had.bytes ≤ room → RoomAt room 0 (wires (between store k payload from to))
    room_for {room} o = subst (RoomAt room 0) (sym given_bytes.1) (omega (arith, bytes_length))

    fragment_length : r.kept + r.size ≡ length (left y js)
    fragment_length =
        sym (across_length store payload r.kept r.start r.size (omega (arith, left_it.kept_most, kept_most.0)) left_it.lies)
        ∙ ap length (left_it.bytes store)

    outcome_given : outcome i ≡ fitted space room (leads bytes)
    outcome_given = outcome_is ∙ ap wired_by given_bytes.1

    pub taking_long : too_long space (r.kept + r.size) ≡ true → leaves (refused 19 0) store i.output ≡ received i
    taking_long h = leaves_refused i (outcome_given ∙ fitted_long space room (leads bytes) (rw fragment_length at h))

    module _ (h : too_long space (r.kept + r.size) ≡ false) where
      fits : too_long space (length (left y js)) ≡ false
      fits = rw fragment_length at h

      pub taking_output : room < had.bytes → leaves (refused 20 0) store i.output ≡ received i
      taking_output o = leaves_refused i (outcome_given ∙ fitted_output space room (leads bytes) fits (omega (arith, bytes_length)))

      -- the bytes of the fragment stored, behind those that are there already
      kept_stored : {store' : List ℕ} → store' ≡ sets store r.kept (take r.size (drop r.start payload)) → store' ≡ front (left y js) store
      kept_stored f =
          let b : List ℕ = take r.size (drop r.start payload) in
          let q : length (take r.kept store) ≡ r.kept = length-take-le r.kept store (omega (arith, left_it.kept_most, kept_most.0)) in
          let m : r.kept + length b ≡ length (fragment_of store payload r) = omega (arith, length-append (take r.kept store) b) in
          f
          ∙ sets-eq b store r.kept (omega (arith, long_not {size = r.kept + r.size} h, length-take-le r.size (drop r.start payload), length-drop r.start payload, left_it.lies))
          ∙ ap (λ (x : ℕ). fragment_of store payload r ++ drop x store) m
          ∙ ap (λ (x : List ℕ). front x store) (left_it.bytes store)

      pub taking_all : {store' output : List ℕ} → had.bytes ≤ room
          → store' ≡ sets store r.kept (take r.size (drop r.start payload)) → output ≡ put_first i.output (wires (between store k payload from to))
          → leaves
          (given
          (record {
            state = state_by true i.packet.label (r.kept + r.size);
            bytes = had.bytes;
            padded = record { lengths = all.padded; sizes = had.padded };
            fragment_lost = ltb k i.state.«open»;
            element_lost = ltb 0 from;
          }))
          store' output ≡ received i
      taking_all {output = output} o g p =
          let t : outcome i ≡ given (leads bytes) =
          outcome_given ∙ fitted_all space room (leads bytes) fits (omega (arith, bytes_length)) in
          let q : output ≡ front bytes i.output = p ∙ ap (put_first i.output) given_bytes.1 in
          rw (t, kept_stored g, q, fragment_length)
          (ap (λ (x : Handed). gives x.bytes x.padded) given_bytes.2)
        where
          gives : ℕ → ℕ → After (Answer Received)
          gives count sizes =
              leaves
              (given
              (record {
                state = state_by true i.packet.label (length (left y js));
                bytes = count;
                padded = record { lengths = all.padded; sizes = sizes };
                fragment_lost = ltb k i.state.«open»;
                element_lost = ltb 0 from;
              }))
              (front (left y js) store) (front bytes i.output)
