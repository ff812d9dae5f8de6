-- 14 is given to a packet that is not ahead and to no other (R14). Assumes nothing.
--     fourteen-when    a packet that is not ahead gets 14, where neither 12 nor 13 comes before it
--     fourteen-only    and no other does
use Rattle.std.proofs.Common.{◌≡◌, ℕ, zero, suc, ◌-◌, ◌≤◌, Bool, true, false, not, ◌&&◌, ◌||◌, eqb, ltb, List, [], ◌∷◌, length, drop, sym, refl, subst, arith}
use Rattle.base.specs.Answers.{Answer, given, refused}
use Rattle.base.specs.Streams.{Stream, chained, whole}
use Rattle.base.proofs.Tests.{by_cond, split_on}
use Rattle.base.proofs.Streams.{After, stream_each}
use Rattle.leb128.specs.Field.{Field, sized, unreadable, size_field}
use Rattle.obu.specs.Front.{Front, Seen, found, stopped, front_of, span_of}
use Rattle.obu.specs.Wire.{whole_of, handed_out, wire}
use Rattle.obu.specs.Wire as obu
use Rattle.element.specs.Header.{z_bit, w_of, n_bit}
use Rattle.element.specs.Elements.{payload_limit, payload_elements, elements_of, counting, element_by, element_next, read_from, until_end, exactly, element_at, counted, first, followed}
use Rattle.element.specs.declared.Part.{Part}
use Rattle.element.proofs.Laws.{element_some, whole_more}
use Rattle.handing.specs.Handing.{fragment_limit, before, wires}
use Rattle.receiver.specs.Packet.{Packet, packet_by, packet_of}
use Rattle.receiver.specs.Joining.{Held, ahead, out}
use Rattle.receiver.specs.Call.{Incoming, Taken, too_long, fitted, leads_to, wired, opened, taken, held_in, Inputs, outcome, after, answered, received}
use Rattle.receiver.proofs.Outcomes.{not_long, outcome_behind}

-- it is not 14
abbrev Other : {A : Type 0} → Answer A → Type 0
Other (given a) = Unit {0}
Other (refused n at) = n ≡ 14 → ⊥

-- ---- elements: 13, 15, 16, 17

counted_other : (at left : ℕ) (f : Field) → Other (counted at left f)
counted_other at left (unreadable k) = λ e. omega arith
counted_other at left (sized v n) =
    by_cond Other (eqb v 0) _ _ (λ t. λ e. omega arith) (λ t. by_cond Other (ltb (left - n) v) _ _ (λ u. λ e. omega arith) (λ u. tt))

element_other : (field : Bool) (at : ℕ) (l : List ℕ) → Other (element_at field at l)
unfolding element_at
element_other true at l = counted_other at (length l) (size_field l)
element_other false at l = by_cond Other (eqb (length l) 0) _ _ (λ t. λ e. omega arith) (λ t. tt)

first_other : (p : Part) (x : Answer (List Part)) → Other x → Other (first p x)
first_other p (given ps) h = tt
first_other p (refused n at) h = h

followed_other : (x : Answer Part) (f : ℕ → Answer (List Part)) → Other x → ((n : ℕ) → Other (f n)) → Other (followed x f)
followed_other (given p) f h g = first_other p (f p.next) (g p.next)
followed_other (refused n at) f h g = h

-- of a stream of elements
abbrev WholeOther : List ℕ → ℕ → Stream Part (Answer (Unit {0})) → Type 0
WholeOther l at s = Other (whole s)

other_next : (at : ℕ) (l : List ℕ) (x : Answer Part) → Other x → After WholeOther read_from l (element_by at x)
    → WholeOther l at (chained (element_by at x) (λ n next. read_from (drop n l) next))
other_next at l (refused n a) h r = h
other_next at l (given p) h r =
    subst Other (sym (whole_more p (read_from (drop (p.next - at) l) p.next))) (first_other p (until_end (drop (p.next - at) l) p.next) r)

until_other : (l : List ℕ) (at : ℕ) → Other (until_end l at)
until_other = stream_each element_next (given tt) element_some WholeOther (λ at. tt) (λ at l h r. other_next at l (element_at true at l) (element_other true at l) r)

exactly_other : (n : ℕ) (l : List ℕ) (at : ℕ) → Other (exactly n l at)
unfolding exactly
exactly_other zero l at = tt
exactly_other (suc n) l at =
    followed_other (element_at (not (eqb n 0)) at l) _ (element_other (not (eqb n 0)) at l) (λ m. exactly_other n (drop (m - at) l) m)

elements_other : (payload : List ℕ) → Other (elements_of payload)
unfolding elements_of counting
elements_other [] = λ e. omega arith
elements_other (h ∷ l) =
    by_cond Other (eqb (z_bit h) 1 && eqb (n_bit h) 1) _ _
    (λ t. λ e. omega arith)
    (λ t.
    by_cond Other (eqb (w_of h) 0) _ _
    (λ u. by_cond Other (eqb (length l) 0) _ _ (λ v. λ e. omega arith) (λ v. until_other l 1))
    (λ u. exactly_other (w_of h) l 1))

payload_other : (payload : List ℕ) → Other (payload_elements payload)
unfolding payload_elements
payload_other payload = by_cond Other (ltb payload_limit (length payload)) _ _ (λ t. λ e. omega arith) (λ t. elements_other payload)

packet_other : (payload : List ℕ) (x : Answer (List Part)) → Other x → Other (packet_by payload x)
packet_other payload (given ps) h = tt
packet_other payload (refused n at) h = h

-- ---- finished OBUs: 18

whole_other : (bytes : List ℕ) → Other (whole_of bytes)
unfolding whole_of
whole_other bytes = go (front_of bytes)
  where
    go : (s : Seen) → Other (obu.exactly bytes s)
    go (stopped n) = λ e. omega arith
    go (found f) = by_cond Other (eqb (span_of f) (length bytes)) _ _ (λ t. tt) (λ t. λ e. omega arith)

wire_other : (bytes : List ℕ) → Other (wire bytes)
unfolding wire
wire_other bytes = go (whole_of bytes) (whole_other bytes)
  where
    go : (x : Answer Front) → Other x → Other (handed_out bytes x)
    go (given f) h = tt
    go (refused n at) h = h

before_other : (x y : Answer (List ℕ)) → Other x → Other y → Other (before x y)
before_other (refused n at) y h k = h
before_other (given a) (given b) h k = tt
before_other (given a) (refused n at) h k = k

wires_other : (os : List (List ℕ)) → Other (wires os)
unfolding wires
wires_other [] = tt
wires_other (o ∷ os) = before_other (wire o) (wires os) (wire_other o) (wires_other os)

-- ---- the call

fitted_other : (space room : ℕ) (t : Taken) → Other (fitted space room t)
fitted_other space room t =
    by_cond Other (too_long space (length t.held.fragment)) _ _
    (λ e. λ z. omega arith)
    (λ e. by_cond Other (ltb room (length t.bytes)) _ _ (λ f. λ z. omega arith) (λ f. tt))

wired_other : (space room : ℕ) (h : Held) (p : Incoming) (q : Packet) (w : Answer (List ℕ)) → Other w → Other (wired space room h p q w)
wired_other space room h p q (given bytes) k = fitted_other space room (leads_to h p q bytes)
wired_other space room h p q (refused n at) k = k

opened_other : (space room : ℕ) (h : Held) (p : Incoming) (x : Answer Packet) → Other x → Other (opened space room h p x)
opened_other space room h p (given q) k = wired_other space room h p q (wires (out h p.label q)) (wires_other (out h p.label q))
opened_other space room h p (refused n at) k = k

taken_other : (space room : ℕ) (h : Held) (p : Incoming) → ahead h p.label ≡ true → Other (taken space room h p)
unfolding taken
taken_other space room h p t =
    rw t
    (by_cond Other (eqb (length p.payload) 0 || ltb payload_limit (length p.payload)) _ _
    (λ u. λ e. omega arith)
    (λ u. opened_other space room h p (packet_of p.payload) (packet_other p.payload (payload_elements p.payload) (payload_other p.payload))))

module _ (i : Inputs) where
  after_other : (x : Answer Taken) → Other x → Other (answered (after x i.store i.output).answer)
  after_other (given t) h = tt
  after_other (refused n at) h = h

  pub fourteen_only : (at : ℕ) → (received i).answer ≡ refused 14 at → ahead (held_in i.state i.store) i.packet.label ≡ false
  unfolding outcome
  fourteen_only at =
      by_cond (λ (x : Answer Taken). answered (after x i.store i.output).answer ≡ refused 14 at → ahead (held_in i.state i.store) i.packet.label ≡ false)
      (too_long (length i.store) i.state.«open») _ _
      (λ t e. absurd (subst Other e (λ z. omega arith) refl))
      (λ t e. split_on (ahead (held_in i.state i.store) i.packet.label)
      (λ u. absurd (subst Other e (after_other (taken (length i.store) (length i.output) (held_in i.state i.store) i.packet) (taken_other (length i.store) (length i.output) (held_in i.state i.store) i.packet u)) refl))
      (λ u. u))

  pub fourteen_when : i.state.«open» ≤ length i.store → i.state.«open» ≤ fragment_limit → 1 ≤ length i.packet.payload → length i.packet.payload ≤ payload_limit
      → ahead (held_in i.state i.store) i.packet.label ≡ false → (received i).answer ≡ refused 14 0
  fourteen_when h k l m e = rw (outcome_behind i (not_long h k) (λ z. omega arith) m _ refl e)
