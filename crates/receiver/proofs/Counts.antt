-- How many padded fields a packet can have. Assumes nothing.
--     padded-within    of each kind no more than L3
use Rattle.std.proofs.Common.{◌≡◌, ℕ, ◌≤◌, Bool, true, false, ◌||◌, eqb, ltb, List, [], ◌∷◌, length, refl, arith}
use lib.ListN.{length-map}
use Rattle.base.specs.Answers.{Answer, given, refused}
use Rattle.base.proofs.Tests.{by_cond}
use Rattle.element.specs.Elements.{payload_limit, payload_elements, bytes_of}
use Rattle.element.specs.declared.Part.{Part}
use Rattle.element.proofs.Padded.{elements_few, padded_most}
use Rattle.handing.specs.Handing.{wires}
use Rattle.handing.proofs.Wires.{sizes_few}
use Rattle.receiver.specs.Packet.{Packet, packet_by}
use Rattle.receiver.specs.Joining.{Held, ahead, joinable, with_fragment, finished, handed, out}
use Rattle.receiver.specs.Call.{Incoming, Taken, too_long, fitted, leads_to, wired, opened, taken, held_in, Inputs, outcome, after, answered, received}
use Rattle.receiver.specs.declared.Received.{Received}
use Rattle.receiver.specs.declared.Padded.{Padded}

-- ---- a packet finishes no more OBUs than it has elements

joined_few : (fragment : List ℕ) (z : Bool) (es : List (List ℕ)) → length (with_fragment fragment z es) ≤ length es
unfolding with_fragment
joined_few fragment false es = omega arith
joined_few fragment true [] = omega arith
joined_few [] true (e ∷ es) = omega arith
joined_few (b ∷ fragment) true (e ∷ es) = omega arith

finished_few : (y : Bool) (js : List (List ℕ)) → length (finished y js) ≤ length js
unfolding finished
finished_few false js = omega arith
finished_few true [] = omega arith
finished_few true (j ∷ []) = omega arith
finished_few true (j ∷ i ∷ js) = omega (arith, finished_few true (i ∷ js))

out_few : (h : Held) (p : Incoming) (q : Packet) → length (out h p.label q) ≤ length q.elements
unfolding out handed
out_few h p q =
    by_cond (λ (os : List (List ℕ)). length os ≤ length q.elements) (ahead h p.label) _ _
    (λ t. omega (arith, finished_few q.y (with_fragment (joinable h p.label) q.z q.elements), joined_few (joinable h p.label) q.z q.elements))
    (λ t. omega arith)

-- ---- the call

abbrev Within : Padded → Type 0
Within p = (p.lengths ≤ payload_limit) × (p.sizes ≤ payload_limit)

abbrev Few : Answer Taken → Type 0
Few (given t) = Within t.padded
Few (refused n at) = Unit {0}

fitted_few : (space room : ℕ) (t : Taken) → Within t.padded → Few (fitted space room t)
fitted_few space room t h =
    by_cond Few (too_long space (length t.held.fragment)) _ _ (λ e. tt) (λ e. by_cond Few (ltb room (length t.bytes)) _ _ (λ f. tt) (λ f. h))

wired_few : (space room : ℕ) (h : Held) (p : Incoming) (q : Packet) (w : Answer (List ℕ)) → length q.elements ≤ payload_limit → Few (wired space room h p q w)
wired_few space room h p q (given bytes) k =
    fitted_few space room (leads_to h p q bytes) (padded_most p.payload, omega (arith, k, out_few h p q, sizes_few (out h p.label q)))
wired_few space room h p q (refused n at) k = tt

taken_few : (space room : ℕ) (h : Held) (p : Incoming) → Few (taken space room h p)
unfolding taken
taken_few space room h p =
    by_cond Few (eqb (length p.payload) 0 || ltb payload_limit (length p.payload)) _ _
    (λ t. tt)
    (λ t. by_cond Few (ahead h p.label) _ _ (λ u. opened_few (payload_elements p.payload) refl) (λ u. tt))
  where
    opened_few : (x : Answer (List Part)) → payload_elements p.payload ≡ x → Few (opened space room h p (packet_by p.payload x))
    opened_few (given ps) e =
        wired_few space room h p _ (wires (out h p.label _)) (omega (arith, length-map ps (bytes_of p.payload), elements_few p.payload ps e))
    opened_few (refused n at) e = tt

outcome_few : (i : Inputs) → Few (outcome i)
unfolding outcome
outcome_few i =
    by_cond Few (too_long (length i.store) i.state.«open») _ _
    (λ t. tt)
    (λ t. taken_few (length i.store) (length i.output) (held_in i.state i.store) i.packet)

pub padded_within : (i : Inputs) {r : Received} → given r ≡ (received i).answer → (r.padded.lengths ≤ payload_limit) × (r.padded.sizes ≤ payload_limit)
padded_within i {r} = go (outcome i) (outcome_few i)
  where
    go : (a : Answer Taken) → Few a → given r ≡ answered (after a i.store i.output).answer → Within r.padded
    go (given t) f e = let p : r.padded ≡ t.padded = cc in rw p f
    go (refused n at) f e = let z : ◌≡◌ {A = ℕ} 0 1 = cc in absurd (omega arith)
