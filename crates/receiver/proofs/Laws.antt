-- What holds of the receive call, for the layer above. Assumes nothing.
--     taken-all        a packet that is ahead, read, not broken and with room enough is taken, and this is what it leads to
--     taken-behind     one that is not ahead is refused by 14
--                      (Behind: and no other is)
--     taken-fits       what is taken has room
--     Holding          state and store hold something: outcome-holding, holding-next, holding-fresh
--     held-again       state and store, as a call leaves them, hold what the call leads to
--     answer-within    what goes out is within the output
--     store_length, output-length    store and output keep their lengths
use Rattle.std.proofs.Common.{◌≡◌, ℕ, ◌≤◌, true, false, cond, ◌||◌, eqb, ltb, List, length, drop, refl, ap, ◌∙◌, subst, arith, ltb-false, le-ltb, ne_eqb}
use lib.Seq.{take-append_seam}
use Rattle.base.specs.Answers.{Answer, given, refused}
use Rattle.base.specs.Lists.{front}
use Rattle.base.proofs.Tests.{by_cond}
use Rattle.element.specs.Elements.{payload_limit, payload_elements}
use Rattle.element.specs.declared.Part.{Part}
use Rattle.handing.specs.Handing.{fragment_limit, wires}
use Rattle.handing.proofs.Cursors.{payload_some, payload_small}
use Rattle.handing.proofs.Lists.{front_length}
use Rattle.receiver.specs.Packet.{Packet, packet_by, packet_of}
use Rattle.receiver.specs.Joining.{Held, fresh, ahead, next, out}
use Rattle.receiver.specs.Call.{Incoming, Taken, too_long, fitted, leads_to, wired, opened, taken, held_in, state_of, Inputs, outcome, after, answered, received}
use Rattle.receiver.specs.declared.Received.{Received}
use Rattle.receiver.proofs.Outcomes.{not_long, long_not, outcome_held}
use Rattle.receiver.proofs.Takes.{fitted_all}

-- ---- a packet that was read

module _ (space room : ℕ) (h : Held) (p : Incoming) (q : Packet) (read : packet_of p.payload ≡ given q) where
  fits : (1 ≤ length p.payload) × (length p.payload ≤ payload_limit)
  fits = go (payload_elements p.payload) refl read
    where
      go : (x : Answer (List Part)) → payload_elements p.payload ≡ x → packet_by p.payload x ≡ given q → (1 ≤ length p.payload) × (length p.payload ≤ payload_limit)
      go (given ps) e f = (payload_some p.payload ps e, payload_small p.payload ps e)
      go (refused n at) e f = let z : ◌≡◌ {A = ℕ} 0 1 = cc in absurd (omega arith)

  by_ahead : taken space room h p
      ≡ cond (ahead h p.label) (wired space room h p q (wires (out h p.label q))) (refused 14 0)
  unfolding taken
  by_ahead =
      rw (ne_eqb (length p.payload) 0 (λ e. omega (arith, fits)), le-ltb payload_limit (length p.payload) fits.1, read)

  pub taken_behind : ahead h p.label ≡ false → taken space room h p ≡ refused 14 0
  taken_behind t = by_ahead ∙ rw t

  pub taken_all : ahead h p.label ≡ true → (bytes : List ℕ) → wires (out h p.label q) ≡ given bytes
      → length (next h p.label q).fragment ≤ space → length (next h p.label q).fragment ≤ fragment_limit → length bytes ≤ room
      → taken space room h p ≡ given (leads_to h p q bytes)
  taken_all t bytes w a b c = by_ahead ∙ rw (t, w) (fitted_all space room (leads_to h p q bytes) (not_long a b) c)

-- ---- what is taken has room

abbrev Fits : ℕ → ℕ → Answer Taken → Type 0
Fits space room (given t) = (length t.held.fragment ≤ space) × (length t.held.fragment ≤ fragment_limit) × (length t.bytes ≤ room)
Fits space room (refused n at) = Unit {0}

fitted_fits : (space room : ℕ) (t : Taken) → Fits space room (fitted space room t)
fitted_fits space room t =
    by_cond (Fits space room) (too_long space (length t.held.fragment)) _ _
    (λ e. tt)
    (λ e. let f = long_not e in by_cond (Fits space room) (ltb room (length t.bytes)) _ _ (λ g. tt) (λ g. (f.0, f.1, ltb-false room (length t.bytes) g)))

wired_fits : (space room : ℕ) (h : Held) (p : Incoming) (q : Packet) (w : Answer (List ℕ)) → Fits space room (wired space room h p q w)
wired_fits space room h p q (given bytes) = fitted_fits space room (leads_to h p q bytes)
wired_fits space room h p q (refused n at) = tt

opened_fits : (space room : ℕ) (h : Held) (p : Incoming) (x : Answer Packet) → Fits space room (opened space room h p x)
opened_fits space room h p (given q) = wired_fits space room h p q (wires (out h p.label q))
opened_fits space room h p (refused n at) = tt

taken_room : (space room : ℕ) (h : Held) (p : Incoming) → Fits space room (taken space room h p)
unfolding taken
taken_room space room h p =
    by_cond (Fits space room) (eqb (length p.payload) 0 || ltb payload_limit (length p.payload)) _ _
    (λ t. tt)
    (λ t. by_cond (Fits space room) (ahead h p.label) _ _ (λ u. opened_fits space room h p (packet_of p.payload)) (λ u. tt))

pub taken_fits : (space room : ℕ) (h : Held) (p : Incoming) (t : Taken) → taken space room h p ≡ given t
    → (length t.held.fragment ≤ space) × (length t.held.fragment ≤ fragment_limit) × (length t.bytes ≤ room)
taken_fits space room h p t e = subst (Fits space room) e (taken_room space room h p)

-- ---- states and stores

module _ (i : Inputs) where
  outcome_fits : Fits (length i.store) (length i.output) (outcome i)
  unfolding outcome
  outcome_fits =
      by_cond (Fits (length i.store) (length i.output)) (too_long (length i.store) i.state.«open») _ _
      (λ t. tt)
      (λ t. taken_room (length i.store) (length i.output) (held_in i.state i.store) i.packet)

  pub store_length : length (received i).store ≡ length i.store
  store_length = go (outcome i) outcome_fits
    where
      go : (t : Answer Taken) → Fits (length i.store) (length i.output) t → length (after t i.store i.output).store ≡ length i.store
      go (given t) f = front_length t.held.fragment i.store f.0
      go (refused n at) f = refl

  pub output_length : length (received i).output ≡ length i.output
  output_length = go (outcome i) outcome_fits
    where
      go : (t : Answer Taken) → Fits (length i.store) (length i.output) t → length (after t i.store i.output).output ≡ length i.output
      go (given t) f = front_length t.bytes i.output f.2
      go (refused n at) f = refl

  pub answer_within : (r : Received) → given r ≡ (received i).answer → r.bytes ≤ length i.output
  answer_within r e = go (outcome i) outcome_fits e
    where
      go : (a : Answer Taken) → Fits (length i.store) (length i.output) a → given r ≡ answered (after a i.store i.output).answer → r.bytes ≤ length i.output
      go (given t) f q =
          let same : r.bytes ≡ length t.bytes = cc in
          omega (arith, f.2)
      go (refused n at) f q = let z : ◌≡◌ {A = ℕ} 0 1 = cc in absurd (omega arith)

pub held_again : (h : Held) (store : List ℕ) → held_in (state_of h) (front h.fragment store) ≡ h
held_again h store =
    ap (λ (f : List ℕ). record { begun = h.begun; last = h.last; fragment = f }) (take-append_seam h.fragment (drop (length h.fragment) store))

-- state and store hold h, and the open fragment has the size that it may have
pub record Holding (h : Held) (store : List ℕ) : Type 0 where
  pub stands : held_in (state_of h) store ≡ h
  pub within : length h.fragment ≤ length store
  pub limited : length h.fragment ≤ fragment_limit

pub holding_fresh : (store : List ℕ) → Holding fresh store
holding_fresh store = record { stands = refl; within = omega arith; limited = omega arith }

-- a call with what is held
abbrev pub inputs_by : Held → Incoming → List ℕ → List ℕ → Inputs
inputs_by h p store output = record { state = state_of h; packet = p; store = store; output = output }

module _ (h : Held) (p : Incoming) (store output : List ℕ) (s : Holding h store) where
  pub outcome_holding : outcome (inputs_by h p store output) ≡ taken (length store) (length output) h p
  outcome_holding =
      outcome_held (inputs_by h p store output) (not_long s.within s.limited)
      ∙ ap (λ (x : Held). taken (length store) (length output) x p) s.stands

  pub holding_next : (t : Taken) → taken (length store) (length output) h p ≡ given t
      → Holding t.held (front t.held.fragment store) × (length (front t.held.fragment store) ≡ length store)
  holding_next t e =
      let f = taken_fits (length store) (length output) h p t e in
      let l = front_length t.held.fragment store f.0 in
      (record { stands = held_again t.held store; within = rw l f.0; limited = f.1 }, l)
