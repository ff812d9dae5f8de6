-- One packet after the other, by what is held: the calls of a run with no loss, and how little the output's length matters. Assumes nothing.
use mathlib.Core.Path.{◌≡◌, refl, sym, ap, ap₂, ◌∙◌}
use Prim.Native.Nat.{ℕ, zero, suc, ◌+◌, ◌≤◌}
use native.Mathlib.Omega.{arith}
use mathlib.Core.List.{List, [], ◌∷◌, ◌++◌, map, flat_map}
use mathlib.Core.Bool.{Bool, true, false, cond, ◌||◌}
use lib.ListN.{length, get_or, drop, length-append}
use lib.Seq.{get_or-drop, drop-drop, take-append_seam}
use lib.Dec.{ltb, eqb}
use borrow.Author.Tests.{le-ltb}
use Rattle.base.specs.Answers.{Answer, given, refused}
use Rattle.base.specs.Lists.{front, All}
use Rattle.element.specs.Elements.{payload_limit}
use Rattle.train.specs.Train.{Numbered}
use Rattle.packing.specs.Pack.{next_number, numbered}
use Rattle.handing.specs.Handing.{wires}
use Rattle.receiver.specs.Packet as apart
use Rattle.receiver.specs.Packet.{packet_of}
use Rattle.receiver.specs.Joining.{Held, ahead, out}
use Rattle.receiver.specs.Call.{Incoming, Taken, too_long, fitted, leads_to, wired, opened, taken, state_of, outcome, answering, after, answered}
use Rattle.receiver.proofs.Laws.{Holding, inputs_by, outcome_holding, holding_next}
use Rattle.unpacking.specs.Unpack.{payload_bytes, fragment_store, output_bytes, incoming, held_after, written_for, unpacked_from}
use Rattle.delivery.specs.Arrivals.{number, in_order}
use Rattle.delivery.specs.Calls.{Arrival, arrived_packets, Call, state_after, takes, Run, call_by, calls, handed_out, verdicts}

-- ---- what is made of each packet, with so much space in the store and so much room in the output

unfoldable pub turns : ℕ → ℕ → Held → List Numbered → List (Answer Taken)
turns space room h [] = []
turns space room h (p ∷ ps) = taken space room h (incoming p) ∷ turns space room (held_after h (taken space room h (incoming p))) ps

-- what is held after them
pub held_then : ℕ → ℕ → Held → List Numbered → Held
held_then space room h [] = h
held_then space room h (p ∷ ps) = held_then space room (held_after h (taken space room h (incoming p))) ps

pub turns_append : (space room : ℕ) (h : Held) (ps qs : List Numbered) → turns space room h (ps ++ qs) ≡ turns space room h ps ++ turns space room (held_then space room h ps) qs
unfolding turns held_then
turns_append space room h [] qs = refl
turns_append space room h (p ∷ ps) qs =
    let a : Answer Taken = taken space room h (incoming p) in
    ap (λ (l : List (Answer Taken)). a ∷ l) (turns_append space room (held_after h a) ps qs)

-- where no payload is over the store of `unpack`
pub unpacked_turns : (h : Held) (ps : List Numbered) → All (λ p. length p.payload ≤ payload_bytes) ps
    → unpacked_from h ps ≡ flat_map written_for (turns fragment_store output_bytes h ps)
unfolding turns unpacked_from flat_map
unpacked_turns h [] s = refl
unpacked_turns h (p ∷ ps) s =
    let a : Answer Taken = taken fragment_store output_bytes h (incoming p) in
    rw (le-ltb payload_bytes (length p.payload) s.0) (ap (λ (l : List ℕ). written_for a ++ l) (unpacked_turns (held_after h a) ps s.1))

-- ---- a shorter output does as well, if what goes out has room in it

abbrev pub Goes : ℕ → Answer Taken → Type 0
Goes room (given t) = length t.bytes ≤ room
Goes room (refused n at) = ⊥

module _ (space room room' : ℕ) where
  fitted_room : (t : Taken) → Goes room' (fitted space room t) → fitted space room' t ≡ fitted space room t
  fitted_room t g = go (too_long space (length t.held.fragment)) (ltb room (length t.bytes)) g
    where
      go : (a b : Bool) → Goes room' (cond a (refused 19 0) (cond b (refused 20 0) (given t)))
          → cond a (refused 19 0) (cond (ltb room' (length t.bytes)) (refused 20 0) (given t)) ≡ cond a (refused 19 0) (cond b (refused 20 0) (given t))
      go true b f = absurd f
      go false true f = absurd f
      go false false f = rw (le-ltb room' (length t.bytes) f)

  wired_room : (h : Held) (p : Incoming) (q : apart.Packet) (w : Answer (List ℕ)) → Goes room' (wired space room h p q w) → wired space room' h p q w ≡ wired space room h p q w
  wired_room h p q (given bytes) g = fitted_room (leads_to h p q bytes) g
  wired_room h p q (refused n at) g = refl

  opened_room : (h : Held) (p : Incoming) (x : Answer apart.Packet) → Goes room' (opened space room h p x) → opened space room' h p x ≡ opened space room h p x
  opened_room h p (given q) g = wired_room h p q (wires (out h p.label q)) g
  opened_room h p (refused k at) g = refl

  taken_room : (h : Held) (p : Incoming) → Goes room' (taken space room h p) → taken space room' h p ≡ taken space room h p
  unfolding taken
  taken_room h p g = go (eqb (length p.payload) 0 || ltb payload_limit (length p.payload)) (ahead h p.label) g
    where
      go : (a b : Bool) → Goes room' (cond a (refused 13 0) (cond b (opened space room h p (packet_of p.payload)) (refused 14 0)))
          → cond a (refused 13 0) (cond b (opened space room' h p (packet_of p.payload)) (refused 14 0))
          ≡ cond a (refused 13 0) (cond b (opened space room h p (packet_of p.payload)) (refused 14 0))
      go true b f = absurd f
      go false true f = opened_room h p (packet_of p.payload) f
      go false false f = absurd f

  pub turns_room : (h : Held) (ps : List Numbered) → All (Goes room') (turns space room h ps) → turns space room' h ps ≡ turns space room h ps
  unfolding turns
  turns_room h [] g = refl
  turns_room h (p ∷ ps) g =
      let a : Answer Taken = taken space room h (incoming p) in
      rw (taken_room h (incoming p) g.0) (ap (λ (l : List (Answer Taken)). a ∷ l) (turns_room (held_after h a) ps g.1))

-- ---- the calls of a run with no loss

-- packet k and the n − 1 after it, each with the same output
pub arriving : List ℕ → ℕ → ℕ → List Arrival
arriving out k n = map (λ (i : ℕ). record { packet = i; output = out }) (in_order k n)

pub arriving_packets : (out : List ℕ) (k n : ℕ) → arrived_packets (arriving out k n) ≡ in_order k n
unfolding arriving in_order
arriving_packets out k zero = refl
arriving_packets out k (suc n) = ap (λ (l : List ℕ). k ∷ l) (arriving_packets out (suc k) n)

pub arriving_outputs : (P : List ℕ → Type 0) (out : List ℕ) (k n : ℕ) → P out → All (λ (a : Arrival). P a.output) (arriving out k n)
unfolding arriving in_order
arriving_outputs P out k zero p = tt
arriving_outputs P out k (suc n) p = (p, arriving_outputs P out (suc k) n p)

abbrev pub turn_call : Answer Taken → Call
turn_call a = record { answer = answered a; bytes = written_for a }

module _ (sent : Run) (output : List ℕ) where
  -- a call by its outcome, and the calls after it
  by_outcome : Held → List ℕ → List Arrival → Answer Taken → List Call
  by_outcome h store rest a =
      let x = answering answered (after a store output) in
      call_by x ∷ calls sent (state_after (state_of h) x.answer) x.store rest

  pub calls_turns : (ps : List (List ℕ)) (k : ℕ) (h : Held) (store : List ℕ) → drop k sent.payloads ≡ ps → Holding h store
      → calls sent (state_of h) store (arriving output k (length ps)) ≡ map turn_call (turns (length store) (length output) h (numbered (number sent.first k) ps))
  unfolding calls arriving in_order turns numbered by_outcome
  calls_turns [] k h store d s = refl
  calls_turns (p ∷ ps) k h store d s =
      ap (by_outcome h store (arriving output (suc k) (length ps))) (ap (λ (b : List ℕ). outcome (inputs_by h (incoming (record { number = n; payload = b })) store output)) here ∙ held)
      ∙ go (λ h' store' s'. calls_turns ps (suc k) h' store' rest s') (taken (length store) (length output) h (incoming (record { number = n; payload = p }))) refl
    where
      n : ℕ
      n = number sent.first k

      here : get_or sent.payloads k [] ≡ p
      here = let z : k + 0 ≡ k = omega arith in sym (get_or-drop k sent.payloads 0 [] ∙ ap (λ (i : ℕ). get_or sent.payloads i []) z) ∙ ap (λ (l : List (List ℕ)). get_or l 0 []) d

      rest : drop (suc k) sent.payloads ≡ ps
      rest = let z : k + 1 ≡ suc k = omega arith in sym (drop-drop 1 k sent.payloads ∙ ap (λ (i : ℕ). drop i sent.payloads) z) ∙ ap (drop 1) d

      counts : number sent.first (suc k) ≡ next_number n
      counts = omega arith

      came : Incoming
      came = incoming (record { number = n; payload = p })

      held : outcome (inputs_by h came store output) ≡ taken (length store) (length output) h came
      held = outcome_holding h came store output s

      go : ((h' : Held) (store' : List ℕ) → Holding h' store'
          → calls sent (state_of h') store' (arriving output (suc k) (length ps)) ≡ map turn_call (turns (length store') (length output) h' (numbered (number sent.first (suc k)) ps)))
          → (a : Answer Taken) → taken (length store) (length output) h came ≡ a
          → by_outcome h store (arriving output (suc k) (length ps)) a
          ≡ turn_call a ∷ map turn_call (turns (length store) (length output) (held_after h a) (numbered (next_number n) ps))
      go again (given t) e =
          let f = holding_next h came store output s t e in
          ap₂ (λ (b : List ℕ) (l : List Call). record { answer = answered (given t); bytes = b } ∷ l)
          (take-append_seam t.bytes (drop (length t.bytes) output))
          (again t.held (front t.held.fragment store) f.0
          ∙ ap₂ (λ (m i : ℕ). map turn_call (turns m (length output) t.held (numbered i ps))) f.1 counts)
      go again (refused x at) e =
          ap (λ (l : List Call). turn_call (refused x at) ∷ l)
          (again h store s ∙ ap (λ (i : ℕ). map turn_call (turns (length store) (length output) h (numbered i ps))) counts)

-- what they hand out, and what they say

pub turns_out : (l : List (Answer Taken)) → handed_out (map turn_call l) ≡ flat_map written_for l
unfolding flat_map
turns_out [] = refl
turns_out (a ∷ l) = ap (λ (b : List ℕ). written_for a ++ b) (turns_out l)

-- where none is refused, each hands out a part of what all hand out
pub turns_go : (room : ℕ) (l : List (Answer Taken)) → All (λ v. v ≡ takes) (verdicts (map turn_call l)) → length (flat_map written_for l) ≤ room → All (Goes room) l
unfolding flat_map
turns_go room [] v m = tt
turns_go room (given t ∷ l) v m = (omega (arith, length-append t.bytes (flat_map written_for l)), turns_go room l v.1 (omega (arith, length-append t.bytes (flat_map written_for l))))
turns_go room (refused n at ∷ l) v m = let z : ◌≡◌ {A = ℕ} 0 1 = let e = v.0 in cc in absurd (omega arith)
