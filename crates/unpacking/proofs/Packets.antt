-- One packet in a run of `unpack`: given to the receiver, or passed over as its payload is over the store. Assumes nothing.
use mathlib.Core.Path.{◌≡◌, refl, sym, ap, ap₂, subst, ◌∙◌}
use Prim.Native.Nat.{ℕ, zero, suc, ◌+◌, ◌-◌, ◌≤◌, ◌<◌}
use native.Mathlib.Omega.{arith}
use mathlib.Core.List.{List, [], ◌++◌, append-nil, append_assoc}
use mathlib.Core.Bool.{true}
use lib.ListN.{length, take, drop, length-take, length-drop}
use lib.Dec.{ltb}
use lib.Seq.{drop-drop, length-take-le}
use borrow.Author.Tests.{le-ltb, ltb-true, ltb-false}
use Rattle.base.specs.Answers.{Answer, given, refused}
use Rattle.base.specs.Lists.{front}
use Rattle.base.proofs.Tests.{split_on}
use Rattle.train.specs.Train.{counted_width, Numbered, Records, records_of}
use Rattle.train.specs.declared.RecordFields.{RecordFields}
use Rattle.train.proofs.Stepping.{chain}
use Rattle.handing.proofs.Lists.{front_length}
use Rattle.receiver.specs.Joining.{Held}
use Rattle.receiver.specs.Call.{Taken, taken, state_of, outcome, after}
use Rattle.receiver.proofs.Laws.{taken_fits, Holding, inputs_by, outcome_holding, holding_next}
use Rattle.turns.specs.Text.{line_text}
use Rattle.turns.specs.Orders as orders
use Rattle.turns.specs.Orders.{next_count, Told, says}
use Rattle.turns.specs.Loop.{Output, nothing, also, loop}
use Rattle.turns.specs.declared.Subject.{Subject}
use Rattle.turns.specs.declared.Subject.TheVariants as subject
use Rattle.turns.specs.declared.Word.{Word}
use Rattle.turns.specs.declared.Word.TheVariants as word
use Rattle.unpacking.specs.Unpack.{payload_bytes, output_bytes, fragment_store, turn, held_after, written_for, unpacked_from, with_passed, with_open, losses_after, losses_from, is_none, losses_line, said_for, said_from, said_of, incoming, step_by}
use Rattle.unpacking.specs.Steps.{awaits, losses_told, fields_width, at_once, away_told, payload_told, left_told}
use Rattle.unpacking.specs.Run.{Stores, unpack}
use Rattle.unpacking.specs.declared.losses.Losses.{Losses}
use Rattle.unpacking.specs.declared.Wait.TheVariants as wait
use Rattle.unpacking.specs.declared.Place.{Place}
use Rattle.unpacking.proofs.Turning.{at_once_over, at_once_less, left_cut, left_more, left_done}

abbrev pub run : ℕ → Told Place → Stores → List ℕ → Output
run = loop unpack

-- ---- the end of a run

run_ends : (n : ℕ) (p : Place) (s : Stores) (l : List ℕ) → run n (orders.ends p) s l ≡ nothing
unfolding loop
run_ends zero p s l = refl
run_ends (suc n) p s l = refl

abbrev pub only : List ℕ → Output
only text = record { written = []; said = text }

-- what was lost is said, if anything was
pub run_losses : (n : ℕ) → 1 ≤ n → (p : Place) (c : Losses) (s : Stores) (l : List ℕ) → run n (losses_told p c) s l ≡ only (said_of c)
unfolding loop
run_losses zero h p c s l = absurd (omega arith)
run_losses (suc n) h p c s l = split_on (is_none c)
    (λ t. rw t refl)
    (λ t. rw t (ap (also [] (losses_line c)) (run_ends n (awaits p wait.Nothing) _ l) ∙ ap only (append-nil (losses_line c))))

-- a line is said before it
pub run_stops : (n : ℕ) → 2 ≤ n → (p : Place) (x : Subject) (w : Word) (s : Stores) (l : List ℕ)
    → run n (says (awaits p wait.Close) x w 0) s l ≡ only (line_text x w ++ said_of (with_open p.losses p.state.«open»))
unfolding loop
run_stops zero h p x w s l = absurd (omega arith)
run_stops (suc n) h p x w s l =
    ap (also [] (line_text x w)) (run_losses n (omega arith) (awaits p wait.Close) (with_open p.losses p.state.«open») _ l)

-- ---- from a record on

-- what is to come
abbrev pub output_for : ℕ → Held → Losses → Records → Output
output_for k h c t = record { written = unpacked_from h t.items; said = said_from k h t.items t.stop ++ said_of (losses_from c h t.items) }

-- store and output of the length that they have throughout, and what is held
pub record Ready (h : Held) (s : Stores) : Type 0 where
  pub holding : Holding h s.store
  pub store_is : length s.store ≡ fragment_store
  pub out_is : length s.out ≡ output_bytes

-- what is to come of a packet and those after it, by what the receiver makes of it
pub packet_out : (k : ℕ) (h : Held) (c : Losses) (p : Numbered) (t : Records) (a : Answer Taken) → turn h p ≡ a
    → also (written_for a) (said_for k a) (output_for (next_count k) (held_after h a) (losses_after c a) t) ≡ output_for k h c (chain p t)
unfolding unpacked_from said_from losses_from
packet_out k h c p t a e =
    rw (← e)
    (ap (λ (said : List ℕ). record { written = written_for (turn h p) ++ unpacked_from (held_after h (turn h p)) t.items; said = said })
    (sym (append_assoc (said_for k (turn h p)) _ _)))

-- where length fields of this width are read
module _ (width : ℕ) (counted : counted_width width ≡ width) where
  -- record k is next, h is held, and c was lost; and its payload is read
  abbrev pub at_fields : ℕ → Held → Losses → Place
  at_fields k h c = record { wait = wait.Fields; count = k; width = width; state = state_of h; losses = c }

  abbrev pub at_payload : ℕ → Held → Losses → RecordFields → Place
  at_payload k h c f = awaits (at_fields k h c) (wait.Payload f)

  -- bytes are written or a text is said, and what stands before a payload is read
  abbrev pub onward : ℕ → Held → Losses → List ℕ → List ℕ → Told Place
  onward k h c w y = record { place = at_fields k h c; more = true; written = w; said = y; read = fields_width width }

  -- a run of n turns does it, from any record on; and so does a longer one
  abbrev pub Comes : ℕ → List ℕ → Type 0
  Comes n l =
      (k : ℕ) (h : Held) (c : Losses) (s : Stores) → Ready h s → (w y : List ℕ)
      → run n (onward k h c w y) s l ≡ also w y (output_for k h c (records_of width l))

  abbrev pub Again : ℕ → List ℕ → Type 0
  Again most l = (n : ℕ) → n ≤ most → length l + 4 ≤ n → Comes n l

  -- a packet is passed over as one over the store, and these bytes come after it; or reading stops, as it is cut
  abbrev pub passed : ℕ → Held → Losses → List ℕ → Output
  passed k h c l = also [] (said_for k (refused 13 0)) (output_for (next_count k) h (with_passed c) (records_of width l))

  abbrev pub stopped : ℕ → Held → Losses → Output
  stopped k h c = only (line_text (subject.Record k) (word.Refused 22) ++ said_of (with_open c (length h.fragment)))

  -- ---- one packet

  module _ (k : ℕ) (h : Held) (c : Losses) (s : Stores) (r : Ready h s) where
    -- its payload is within the store: it is given to the receiver
    module _ (n : ℕ) (f : RecordFields) (p : Numbered) (small : length p.payload ≤ payload_bytes) (l : List ℕ) (again : Comes n l) where
      turned : outcome (inputs_by h (incoming p) s.store s.out) ≡ turn h p
      turned =
          outcome_holding h (incoming p) s.store s.out r.holding
          ∙ ap₂ (λ (a b : ℕ). taken a b h (incoming p)) r.store_is r.out_is
          ∙ rw (le-ltb payload_bytes (length p.payload) small)

      -- what becomes of it, where the receiver says so
      abbrev RunBy : Answer Taken → Output
      RunBy a =
          let x = after a s.store s.out in
          run n (payload_told (at_payload k h c f) (step_by x.answer)) (record { store = x.store; out = x.output }) l

      by_turn : (a : Answer Taken) → turn h p ≡ a
          → RunBy a ≡ also (written_for a) (said_for k a) (output_for (next_count k) (held_after h a) (losses_after c a) (records_of width l))
      by_turn (refused j at) e = again (next_count k) h (losses_after c (refused j at)) s r [] (said_for k (refused j at))
      by_turn (given t) e =
          let same = outcome_holding h (incoming p) s.store s.out r.holding in
          let g = taken_fits (length s.store) (length s.out) h (incoming p) t (sym same ∙ turned ∙ e) in
          let i = holding_next h (incoming p) s.store s.out r.holding t (sym same ∙ turned ∙ e) in
          again (next_count k) t.held (losses_after c (given t)) (record { store = front t.held.fragment s.store; out = front t.bytes s.out })
          (record { holding = i.0; store_is = i.1 ∙ r.store_is; out_is = front_length t.bytes s.out g.2 ∙ r.out_is }) t.bytes []

      pub packet_run : RunBy (outcome (inputs_by h (incoming p) s.store s.out)) ≡ output_for k h c (chain p (records_of width l))
      packet_run = ap RunBy turned ∙ by_turn (turn h p) refl ∙ packet_out k h c p (records_of width l) (turn h p) refl

    -- it is over the store, and so many bytes are left of it: they are read away, in turns
    away_turn : (left got n : ℕ) (l : List ℕ) → at_once left ≡ got
        → run (suc n) (away_told (at_fields k h c) left) s l ≡ run n (left_told (at_fields k h c) left (length (take got l))) s (drop got l)
    unfolding loop
    away_turn left got n l e = ap (λ (i : ℕ). run n (left_told (at_fields k h c) left (length (take i l))) s (drop i l)) e

    away_more : (left n : ℕ) (l : List ℕ) → payload_bytes < left → payload_bytes ≤ length l
        → run (suc n) (away_told (at_fields k h c) left) s l ≡ run n (away_told (at_fields k h c) (left - payload_bytes)) s (drop payload_bytes l)
    away_more left n l more there =
        away_turn left payload_bytes n l (at_once_over left more)
        ∙ ap (λ (x : Told Place). run n x s (drop payload_bytes l))
        (left_more (at_fields k h c) left (length (take payload_bytes l)) more (omega (arith, length-take-le payload_bytes l there)))

    pub away_cut : (most left n : ℕ) → left ≤ most → (l : List ℕ) → length l < left → length l + 4 ≤ n
        → run n (away_told (at_fields k h c) left) s l ≡ stopped k h c
    away_cut zero left n b l short a = absurd (omega arith)
    away_cut (suc most) left zero b l short a = absurd (omega arith)
    away_cut (suc most) left (suc n) b l short a = split_on (ltb (length l) (at_once left))
        (λ t.
        let u : length l < at_once left = ltb-true (length l) (at_once left) t in
        away_turn left (at_once left) n l refl
        ∙ ap (λ (x : Told Place). run n x s (drop (at_once left) l))
        (left_cut (at_fields k h c) left (length (take (at_once left) l)) (omega (arith, length-take (at_once left) l)))
        ∙ run_stops n (omega arith) (at_fields k h c) _ _ _ _)
        (λ t.
        let more : payload_bytes < left = at_once_less left (omega (arith, ltb-false (length l) (at_once left) t)) in
        let there : payload_bytes ≤ length l = omega (arith, ltb-false (length l) (at_once left) t, at_once_over left more) in
        away_more left n l more there
        ∙ away_cut most (left - payload_bytes) n (omega arith) (drop payload_bytes l) (omega (arith, length-drop payload_bytes l)) (omega (arith, length-drop payload_bytes l)))

    pub away_whole : (most left n : ℕ) → left ≤ most → 1 ≤ left → (l : List ℕ) → left ≤ length l → length l + 4 ≤ n → Again n (drop left l)
        → run n (away_told (at_fields k h c) left) s l ≡ passed k h c (drop left l)
    away_whole zero left n b some l there a again = absurd (omega arith)
    away_whole (suc most) left zero b some l there a again = absurd (omega arith)
    away_whole (suc most) left (suc n) b some l there a again = split_on (ltb payload_bytes left)
        (λ t.
        let more : payload_bytes < left = ltb-true payload_bytes left t in
        let e : payload_bytes + (left - payload_bytes) ≡ left = omega arith in
        let d : drop (left - payload_bytes) (drop payload_bytes l) ≡ drop left l = drop-drop (left - payload_bytes) payload_bytes l ∙ ap (λ (i : ℕ). drop i l) e in
        away_more left n l more (omega arith)
        ∙ away_whole most (left - payload_bytes) n (omega arith) (omega arith) (drop payload_bytes l) (omega (arith, length-drop payload_bytes l)) (omega (arith, length-drop payload_bytes l))
        (subst (Again n) (sym d) (λ m x y. again m (omega arith) y))
        ∙ ap (passed k h c) d)
        (λ t.
        let less : left ≤ payload_bytes = ltb-false payload_bytes left t in
        away_turn left left n l (rw t)
        ∙ ap (λ (x : Told Place). run n x s (drop left l))
        (left_done (at_fields k h c) left (length (take left l)) less (omega (arith, length-take-le left l there)))
        ∙ again n (omega arith) (omega (arith, length-drop left l)) (next_count k) h (with_passed c) s r [] (said_for k (refused 13 0)))
