-- The calls one after the other, against the receiver by places: what they hand out, and which arrivals get R14. Assumes nothing.
use mathlib.Core.Path.{◌≡◌, refl, sym, ap, ap₂, subst, ◌∙◌}
use Prim.Native.Nat.{ℕ, zero, suc, ◌+◌, ◌*◌, ◌≤◌, ◌<◌}
use native.Mathlib.Nat.{max-eq_left, max-eq_right}
use native.Mathlib.Omega.{arith}
use mathlib.Core.List.{List, [], ◌∷◌, ◌++◌, map, flat_map}
use mathlib.Core.Bool.{Bool, true, false, cond}
use lib.ListN.{length, get_or, drop}
use lib.Seq.{take-append_seam}
use lib.Dec.{ltb, eqb}
use borrow.Author.Tests.{ltb-true, ltb-false, le-ltb}
use Rattle.base.specs.Answers.{Answer, given, refused}
use Rattle.base.specs.Lists.{front, All}
use Rattle.base.proofs.Tests.{by_cond, split_on, cond_same}
use Rattle.base.proofs.Lists.{flat_map_append, all_left, all_right}
use Rattle.handing.specs.Handing.{fragment_limit}
use Rattle.handing.proofs.Lists.{front_length}
use Rattle.receiver.specs.Packet.{Packet, packet_of}
use Rattle.receiver.specs.Joining.{Held, fresh, is_ahead, is_in_step, ahead, follows, joinable, handed, kept_open, holding}
use Rattle.receiver.specs.Call.{Incoming, Taken, state_of, answering, after, answered}
use Rattle.receiver.specs.declared.State.{State}
use Rattle.receiver.proofs.Laws.{Holding, holding_fresh, held_again}
use Rattle.receiver.proofs.Sizes.{output_enough}
use Rattle.lawful.specs.Train.{NonEmpty}
use Rattle.lawful.specs.Payload.{CarryAll}
use Rattle.lawful.specs.Lawful.{WellFormed}
use Rattle.delivery.specs.Arrivals.{NearTo, Near}
use Rattle.delivery.specs.Calls.{Arrival, arrived_packets, Call, state_after, Verdict, takes, refuses, taken_or_14, Run, packet_at, call_by, calls, fresh_calls, handed_out, verdicts}
use Rattle.delivery.proofs.Open.{noted, Small}
use Rattle.delivery.proofs.Numbers as numbers
use Rattle.delivery.proofs.Numbers.{not_ahead, is_ahead_lem, is_in_step_lem}
use Rattle.delivery.proofs.Follow.{no_packet, joins, follow}
use Rattle.delivery.proofs.Timely.{advances}
use Rattle.delivery.proofs.OneCall.{leading, carried_packet, wire_bytes, wires_given, call_late, call_taken}

-- ---- the payload at a place of the run is read as the packet there

pub record Place (mtu : ℕ) (payload : List ℕ) (p : Packet) : Type 0 where
  pub read : packet_of payload ≡ given p
  pub short : length payload ≤ mtu

pub place_at_lem : (mtu : ℕ) (payloads : List (List ℕ)) (run : List Packet) → CarryAll payloads run → All (λ p. All NonEmpty p.elements) run → All (λ b. length b ≤ mtu) payloads
    → (a : ℕ) → a < length payloads → Place mtu (get_or payloads a []) (get_or run a no_packet)
place_at_lem mtu [] run c f s a l = absurd (omega arith)
place_at_lem mtu (b ∷ payloads) [] c f s a l = absurd c
place_at_lem mtu (b ∷ payloads) (p ∷ run) c f s zero l = record { read = carried_packet b p c.0 f.0; short = s.0 }
place_at_lem mtu (b ∷ payloads) (p ∷ run) c f s (suc a) l = place_at_lem mtu payloads run c.1 f.1 s.1 a (omega arith)

-- ---- what the calls come to

pub record Agrees (cs : List Call) (os : List (List ℕ)) (bs : List Bool) : Type 0 where
  pub out : handed_out cs ≡ flat_map wire_bytes os
  pub says : verdicts cs ≡ map taken_or_14 bs

module _ (sent : Run) (run : List Packet) (size mtu : ℕ) (limit : size ≤ fragment_limit) (places : (a : ℕ) → a < length sent.payloads → Place mtu (get_or sent.payloads a []) (get_or run a no_packet)) where
  -- a call by what comes of it
  by_outcome : State → List ℕ → Arrival → List Arrival → Answer Taken → List Call
  by_outcome state store a rest t =
      let x = answering answered (after t store a.output) in
      call_by x ∷ calls sent (state_after state x.answer) x.store rest

  -- a call for packet a, before which h is held
  module _ (h : Held) (store : List ℕ) (a : Arrival) (rest : List Arrival) (s : Holding h store) (l : a.packet < length sent.payloads) where
    abbrev came : Incoming
    came = packet_at sent a.packet

    abbrev p : Packet
    p = get_or run a.packet no_packet

    late : (os : List (List ℕ)) (bs : List Bool) → ahead h came.label ≡ false
        → Agrees (calls sent (state_of h) store rest) os bs → Agrees (calls sent (state_of h) store (a ∷ rest)) os (false ∷ bs)
    unfolding calls by_outcome flat_map
    late os bs e g =
        let x : calls sent (state_of h) store (a ∷ rest) ≡ by_outcome (state_of h) store a rest (refused 14 0) =
        ap (by_outcome (state_of h) store a rest) (call_late h came store a.output s p (places a.packet l).read e) in
        record { out = ap handed_out x ∙ g.out; says = ap verdicts x ∙ ap (λ (v : List Verdict). refuses 14 ∷ v) g.says }

    -- it may join o
    module _ (o : List ℕ) where
      abbrev held : Held
      held = holding came.label (kept_open o p)

      took : (os : List (List ℕ)) (bs : List Bool) → ahead h came.label ≡ true → joinable h came.label ≡ o → Small size o → size ≤ length store → size + 4 * mtu ≤ length a.output
          → All WellFormed (handed o p) → Small size (kept_open o p)
          → (Holding held (front (kept_open o p) store) → size ≤ length (front (kept_open o p) store) → Agrees (calls sent (state_of held) (front (kept_open o p) store) rest) os bs)
          → Agrees (calls sent (state_of h) store (a ∷ rest)) (handed o p ++ os) (true ∷ bs)
      unfolding calls by_outcome flat_map
      took os bs e j i sp room f k g =
          let b : List ℕ = flat_map wire_bytes (handed o p) in
          let w = wires_given (handed o p) f in
          let q = places a.packet l in
          let x : calls sent (state_of h) store (a ∷ rest) ≡ by_outcome (state_of h) store a rest (given (leading h came p held b)) =
          ap (by_outcome (state_of h) store a rest)
          (call_taken h came store a.output s p q.read o b e j w (omega arith) (omega arith) (omega (arith, output_enough came.payload o p b q.read (omega arith) w, q.short))) in
          let m : length (front (kept_open o p) store) ≡ length store = front_length (kept_open o p) store (omega arith) in
          let r = g (record { stands = held_again held store; within = rw m (omega arith); limited = omega arith }) (rw m sp) in
          record {
            out = ap handed_out x ∙ ap₂ ◌++◌ (take-append_seam b (drop (length b) a.output)) r.out ∙ sym (flat_map_append wire_bytes (handed o p) os);
            says = ap verdicts x ∙ ap (λ (v : List Verdict). takes ∷ v) r.says;
          }

  -- the calls after packet m, with the fragment o open
  begun : (arrivals : List Arrival) (m : ℕ) (o store : List ℕ) → NearTo (length sent.payloads) m (arrived_packets arrivals) → Holding (numbers.after sent m o) store → Small size o → size ≤ length store
      → All (λ a. size + 4 * mtu ≤ length a.output) arrivals → All WellFormed (follow handed run (suc m) o (arrived_packets arrivals))
      → All (Small size) (follow noted run (suc m) o (arrived_packets arrivals))
      → Agrees (calls sent (state_of (numbers.after sent m o)) store arrivals) (follow handed run (suc m) o (arrived_packets arrivals)) (advances (suc m) (arrived_packets arrivals))
  unfolding calls follow advances flat_map
  begun [] m o store near s i sp room f k = record { out = refl; says = refl }
  begun (a ∷ rest) m o store near s i sp room f k =
      let r : List ℕ = arrived_packets rest in
      let h : Held = numbers.after sent m o in
      let x : List ℕ = joins a.packet (suc m) o in
      let q : Packet = get_or run a.packet no_packet in
      split_on (ltb a.packet (suc m))
      (λ t.
      let l : a.packet < suc m = ltb-true a.packet (suc m) t in
      rw t
      (late h store a rest s near.0 (follow handed run (suc m) o r) (advances (suc m) r) (not_ahead sent m a.packet o (omega arith) near.2)
      (begun rest m o store (subst (λ (y : ℕ). NearTo (length sent.payloads) y r) (max-eq_left (omega arith)) near.3) s i sp room.1 (rw t at f) (rw t at k))))
      (λ t.
      let l : m < a.packet = ltb-false a.packet (suc m) t in
      let f' = rw t at f in
      let k' = rw t at k in
      rw t
      (took h store a rest s near.0 x (follow handed run (suc a.packet) (kept_open x q) r) (advances (suc a.packet) r)
      (is_ahead_lem sent m a.packet o l near.1) (ap (λ (b : Bool). cond b o []) (is_in_step_lem sent m a.packet o l near.1))
      (by_cond (Small size) (eqb a.packet (suc m)) o [] (λ y. i) (λ y. omega arith)) sp room.0
      (all_left WellFormed (handed x q) (follow handed run (suc a.packet) (kept_open x q) r) f') k'.0
      (λ s' sp'.
      begun rest a.packet (kept_open x q) (front (kept_open x q) store) (subst (λ (y : ℕ). NearTo (length sent.payloads) y r) (max-eq_right (omega arith)) near.3) s' k'.0 sp' room.1
      (all_right WellFormed (handed x q) (follow handed run (suc a.packet) (kept_open x q) r) f') k'.1)))

  -- a fresh receiver takes the first arrival, whatever its number
  pub begins : (arrivals : List Arrival) (store : List ℕ) → Near (length sent.payloads) (arrived_packets arrivals) → size ≤ length store → All (λ a. size + 4 * mtu ≤ length a.output) arrivals
      → All WellFormed (follow handed run 0 [] (arrived_packets arrivals)) → All (Small size) (follow noted run 0 [] (arrived_packets arrivals))
      → Agrees (fresh_calls sent store arrivals) (follow handed run 0 [] (arrived_packets arrivals)) (advances 0 (arrived_packets arrivals))
  unfolding calls follow advances flat_map is_ahead is_in_step follows
  begins [] store near sp room f k = record { out = refl; says = refl }
  begins (a ∷ rest) store near sp room f k =
      let r : List ℕ = arrived_packets rest in
      let q : Packet = get_or run a.packet no_packet in
      let t : ltb a.packet 0 ≡ false = le-ltb a.packet 0 (omega arith) in
      let e : joins a.packet 0 [] ≡ [] = cond_same (eqb a.packet 0) [] in
      let f' = rw (t, e) at f in
      let k' = rw (t, e) at k in
      rw (t, e)
      (took fresh store a rest (holding_fresh store) near.0 []
      (follow handed run (suc a.packet) (kept_open [] q) r) (advances (suc a.packet) r) refl refl (omega arith) sp room.0
      (all_left WellFormed (handed [] q) (follow handed run (suc a.packet) (kept_open [] q) r) f') k'.0
      (λ s' sp'.
      begun rest a.packet (kept_open [] q) (front (kept_open [] q) store) near.1 s' k'.0 sp' room.1
      (all_right WellFormed (handed [] q) (follow handed run (suc a.packet) (kept_open [] q) r) f') k'.1))
