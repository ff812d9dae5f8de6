-- Packets written apart from planning: the theorems of specs/Singly. Assumes nothing.
use mathlib.Core.Path.{◌≡◌, refl, sym, ap, ◌∙◌}
use Prim.Native.Nat.{ℕ, zero, suc, ◌+◌, ◌-◌, ◌≤◌, ◌<◌, min}
use native.Mathlib.Omega.{arith}
use mathlib.Core.Bool.{true, false≢true}
use mathlib.Core.List.{List, [], ◌∷◌, ◌++◌, append-nil}
use lib.ListN.{length, get_or, take, drop, set, length-map, length-take, length-drop, get_or-map}
use lib.Seq.{take_all, take_at, drop-length, get_or-take, get_or-drop, get_or-set_same, get_or-set_other, map-set_same, ext_get_or}
use lib.Dec.{ltb, leb, eqb}
use borrow.Author.Tests.{ltb-true, ltb-false, lt-ltb, leb-true, le-leb, eqb-true, eqb-false}
use Rattle.base.specs.Answers.{Answer, given, refused, stored}
use Rattle.base.specs.Lists.{front, joined}
use Rattle.base.proofs.Tests.{split_on}
use Rattle.leb128.specs.Field.{encode}
use Rattle.obu.specs.Unit.{obus_of}
use Rattle.packetizer.specs.Call.{to_plan, unit_plan, plan_answer, plan_unit, same_plan}
use Rattle.packetizer.specs.declared.Planned.{Planned}
use Rattle.packetizer.proofs.Accepted.{accepted, planned_same}
use Rattle.packetizer.proofs.Same.{same_means}
use Rattle.payloader.specs.Payload.{payload_at, payloads_of, unit_bytes}
use Rattle.payloader.specs.Call.{Inputs, After, to_write, leaves, write_packet, packets_from, write_packets}
use Rattle.payloader.specs.declared.Written.{Written}
use Rattle.payloader.proofs.Calls.{outcome_10}
use Rattle.payload_laws.specs.Whole.{Payloads, with_space, whole_answer, whole_unit}
use Rattle.payload_laws.specs.Singly.{after_plan, written_into, among, run_of, run_into, JustHold, SingleWritten, OneByOne, RunWritten, WholeWritten, bytes_only, WholeAnswered, WriteRefusals, RefusalKeeps}
use Rattle.payload_laws.proofs.Lengths.{payloads_count, payload_at_lem}
use Rattle.payload_laws.proofs.Writing.{never_both, writes_given, given_wrote, writes_length, writes_refused}

-- ---- refusals

pub write_refusals : WriteRefusals
write_refusals i n at = (
  λ k e. writes_refused (ltb k) (payload_at i.mtu i.unit k) i n at e,
  λ first count e. writes_refused (λ packets. leb count (packets - first)) (joined (packets_from first count i)) i n at e,
)

pub refusal_keeps : RefusalKeeps
refusal_keeps i n at =
    (λ k e. kept (payload_at i.mtu i.unit k) e, λ first count e. kept (joined (packets_from first count i)) e)
  where
    kept : (bytes : List ℕ) {a : Answer Written} → refused n at ≡ a → stored a bytes i.out ≡ i.out
    kept bytes e = sym (ap (λ (x : Answer Written). stored x bytes i.out) e)

-- ---- a packet alone

pub single_written : SingleWritten
single_written mtu unit obus plan p e k h out room =
    writes_given (ltb k) (payload_at mtu unit k) (after_plan mtu unit obus plan out) p (planned_same mtu unit obus plan p e) (lt-ltb k p.packets h) room

-- ---- buffers that just hold the payloads

-- what just fills a list
front_full : (a l : List ℕ) → length l ≡ length a → front a l ≡ a
front_full a l e = ap (λ (n : ℕ). a ++ drop n l) (sym e) ∙ ap (λ (m : List ℕ). a ++ m) (drop-length l) ∙ append-nil a

module _ (mtu : ℕ) (unit : List ℕ) where
  payload_count : length (payloads_of mtu unit) ≡ length (unit_plan mtu unit)
  payload_count = payloads_count encode unit (obus_of unit) 0 (unit_plan mtu unit)

  held_count : (buffers : List (List ℕ)) → JustHold mtu unit buffers → length buffers ≡ length (payloads_of mtu unit)
  held_count buffers j = sym (length-map buffers length) ∙ ap length j ∙ length-map (payloads_of mtu unit) length

  held_length : (buffers : List (List ℕ)) → JustHold mtu unit buffers → (k : ℕ) → k < length (unit_plan mtu unit)
      → length (get_or buffers k []) ≡ length (payload_at mtu unit k)
  held_length buffers j k h =
      sym (get_or-map length buffers k [])
      ∙ ap (λ (l : List ℕ). get_or l k 0) j
      ∙ get_or-map length (payloads_of mtu unit) k []
      ∙ ap length (payload_at_lem mtu unit k h)

-- ---- single calls into them, with lists that are the unit's

module _ (mtu : ℕ) (unit obus plan : List ℕ) (q : Planned) (e : given q ≡ same_plan mtu unit obus plan) where
  abbrev lend : List ℕ → Inputs
  lend out = to_write mtu unit obus plan out

  -- a call more
  abbrev more : ℕ → List (List ℕ) → List (List ℕ)
  more k buffers = set buffers k (write_packet k (lend (get_or buffers k []))).out

  planned : (k : ℕ) → k < q.packets → k < length (unit_plan mtu unit)
  planned k h = omega (arith, (same_means e).plan_count)

  more_held : (k : ℕ) (buffers : List (List ℕ)) → JustHold mtu unit buffers → JustHold mtu unit (more k buffers)
  more_held k buffers j = map-set_same length buffers k _ [] (writes_length (ltb k) (payload_at mtu unit k) (lend (get_or buffers k []))) ∙ j

  more_same : (k : ℕ) → k < q.packets → (buffers : List (List ℕ)) → JustHold mtu unit buffers → get_or (more k buffers) k [] ≡ payload_at mtu unit k
  more_same k h buffers j =
      let n = held_length mtu unit buffers j k (planned k h) in
      get_or-set_same buffers k _ [] (omega (arith, held_count mtu unit buffers j, payload_count mtu unit, planned k h))
      ∙ ap (λ (a : After). a.out) (writes_given (ltb k) (payload_at mtu unit k) (lend (get_or buffers k [])) q e (lt-ltb k q.packets h) (omega arith))
      ∙ front_full (payload_at mtu unit k) (get_or buffers k []) n

  all_held : (order : List ℕ) (buffers : List (List ℕ)) → JustHold mtu unit buffers → JustHold mtu unit (written_into lend order buffers)
  unfolding written_into
  all_held [] buffers j = j
  all_held (a ∷ order) buffers j = all_held order (more a buffers) (more_held a buffers j)

  -- of a packet that is there: once its buffer holds the payload, it does so to the end; and it does after the call for it
  module _ (k : ℕ) (h : k < q.packets) where
    more_this : (a : ℕ) → eqb a k ≡ true → (buffers : List (List ℕ)) → JustHold mtu unit buffers → get_or (more a buffers) k [] ≡ payload_at mtu unit k
    more_this a t buffers j = ap (λ (x : ℕ). get_or (more x buffers) k []) (eqb-true a k t) ∙ more_same k h buffers j

    stays : (order : List ℕ) (buffers : List (List ℕ)) → JustHold mtu unit buffers → get_or buffers k [] ≡ payload_at mtu unit k
        → get_or (written_into lend order buffers) k [] ≡ payload_at mtu unit k
    unfolding written_into
    stays [] buffers j s = s
    stays (a ∷ order) buffers j s =
        stays order (more a buffers) (more_held a buffers j)
        (split_on (eqb a k) (λ t. more_this a t buffers j) (λ t. get_or-set_other buffers a k _ [] (λ z. eqb-false a k t (sym z)) ∙ s))

    comes : (order : List ℕ) (buffers : List (List ℕ)) → JustHold mtu unit buffers → among k order ≡ true
        → get_or (written_into lend order buffers) k [] ≡ payload_at mtu unit k
    unfolding written_into among
    comes [] buffers j m = absurd (false≢true m)
    comes (a ∷ order) buffers j m =
        split_on (eqb a k)
        (λ t. stays order (more a buffers) (more_held a buffers j) (more_this a t buffers j))
        (λ t. comes order (more a buffers) (more_held a buffers j) (rw t at m))

  -- some of the buffers are the payloads, if the packets of these are there, and written
  all_same : (order : List ℕ) (buffers : List (List ℕ)) → JustHold mtu unit buffers
      → (first count : ℕ) → count ≤ q.packets - first → ((i : ℕ) → i < count → among (first + i) order ≡ true)
      → take count (drop first (written_into lend order buffers)) ≡ take count (drop first (payloads_of mtu unit))
  all_same order buffers j first count h m =
      let end = written_into lend order buffers in
      let n : length end ≡ length (payloads_of mtu unit) = held_count mtu unit end (all_held order buffers j) in
      ext_get_or [] (take count (drop first end)) (take count (drop first (payloads_of mtu unit)))
      (length-take count (drop first end)
      ∙ ap (min count) (length-drop first end ∙ ap (λ (x : ℕ). x - first) n ∙ sym (length-drop first (payloads_of mtu unit)))
      ∙ sym (length-take count (drop first (payloads_of mtu unit))))
      (λ i l.
      let s : i < count = omega (arith, length-take count (drop first end)) in
      let t : first + i < q.packets = omega arith in
      get_or-take count (drop first end) i [] s
      ∙ get_or-drop first end i []
      ∙ comes (first + i) t order buffers j (m i s)
      ∙ sym (payload_at_lem mtu unit (first + i) (planned (first + i) t))
      ∙ sym (get_or-drop first (payloads_of mtu unit) i [])
      ∙ sym (get_or-take count (drop first (payloads_of mtu unit)) i [] s))

-- ---- a run

run_among : (count first k : ℕ) → first ≤ k → k < first + count → among k (run_of first count) ≡ true
unfolding among run_of
run_among zero first k h l = absurd (omega arith)
run_among (suc count) first k h l =
    split_on (eqb first k)
    (λ t. rw t)
    (λ t.
    let n : first ≡ k → ⊥ = eqb-false first k t in
    rw t (run_among count (first + 1) k (omega arith) (omega arith)))

pub run_written : RunWritten
run_written mtu unit obus plan out first count w e buffers j =
    let i = to_write mtu unit obus plan out in
    let bytes = joined (packets_from first count i) in
    let r = given_wrote (λ packets. leb count (packets - first)) bytes i w e in
    let there : count ≤ r.by.packets - first = leb-true count (r.by.packets - first) r.inside in
    let in-run : (n : ℕ) → n < count → among (first + n) (run_of first count) ≡ true = λ n h. run_among count first (first + n) (omega arith) (omega arith) in
    let s : run_into (to_write mtu unit obus plan) first count buffers ≡ bytes =
    ap joined (all_same mtu unit obus plan r.by r.same (run_of first count) buffers j first count there in-run) in
    writes_given (λ packets. leb count (packets - first)) bytes i r.by r.same r.inside r.room
    ∙ ap (λ (l : List ℕ). leaves (given (record { bytes = length l })) (front l out)) (sym s)

-- ---- the whole unit

module _ (mtu : ℕ) (unit obus plan : List ℕ) where
  -- what is known where one call for all of it gives p
  record Wholly (p : Payloads) : Type 0 where
    pub by : Planned
    pub is : given by ≡ plan_answer (to_plan mtu unit obus plan)
    pub packets : p.packets ≡ by.packets
    pub bytes : p.bytes ≡ length (unit_bytes mtu unit)

  wholly : (out : List ℕ) (p : Payloads) → given p ≡ whole_answer (to_plan mtu unit obus plan) out → Wholly p
  unfolding whole_answer
  wholly out p e = go (plan_answer (to_plan mtu unit obus plan)) refl e
    where
      go : (a : Answer Planned) → a ≡ plan_answer (to_plan mtu unit obus plan) → given p ≡ with_space (unit_bytes mtu unit) (length out) a → Wholly p
      go (refused n at) s f = absurd (never_both f)
      go (given q) s f =
          split_on (ltb (length out) (length (unit_bytes mtu unit)))
          (λ t. absurd (never_both (rw t at f)))
          (λ t.
          let g : given p ≡ given (record { obus = q.obus; packets = q.packets; bytes = length (unit_bytes mtu unit) }) = rw t at f in
          record { by = q; is = s; packets = cc; bytes = cc })

  module _ (q : Planned) (e : given q ≡ plan_answer (to_plan mtu unit obus plan)) where
    all_count : q.packets ≡ length (payloads_of mtu unit)
    all_count = (accepted mtu unit obus plan q e).packets ∙ sym (payload_count mtu unit)

    -- the run of all packets
    all_bytes : joined (take q.packets (drop 0 (payloads_of mtu unit))) ≡ unit_bytes mtu unit
    all_bytes = ap joined (take_all q.packets (payloads_of mtu unit) (omega (arith, all_count)))

pub whole_answered : WholeAnswered
unfolding whole_answer
whole_answered mtu unit obus plan out q e =
    let i = after_plan mtu unit obus plan out in
    let bytes = joined (packets_from 0 q.packets i) in
    let whole = unit_bytes mtu unit in
    let same = planned_same mtu unit obus plan q e in
    let there : leb q.packets (q.packets - 0) ≡ true = le-leb q.packets (q.packets - 0) (omega arith) in
    let all : bytes ≡ whole = all_bytes mtu unit obus plan q e in
    split_on (ltb (length out) (length whole))
    (λ t.
    let little : length out < length whole = ltb-true (length out) (length whole) t in
    sym (outcome_10 (λ packets. leb q.packets (packets - 0)) bytes i q same there (length whole) (ap length (sym all)) little) ∙ rw (← e, t))
    (λ t.
    let room : length bytes ≤ length out = omega (arith, ap length all, ltb-false (length out) (length whole) t) in
    writes_given (λ packets. leb q.packets (packets - 0)) bytes i q same there room
    ∙ ap (λ (l : List ℕ). leaves (given (record { bytes = length l })) (front l out)) all
    ∙ rw (← e, t))

pub whole_written : WholeWritten
whole_written mtu unit obus plan out p e =
    let w = wholly mtu unit obus plan out p e in
    ap (λ (n : ℕ). write_packets 0 n (after_plan mtu unit obus plan out)) w.packets
    ∙ whole_answered mtu unit obus plan out w.by w.is
    ∙ ap (λ (a : Answer Payloads). leaves (bytes_only a) (whole_unit (to_plan mtu unit obus plan) out).out) (sym e)

-- ---- one by one

pub one_by_one : OneByOne
one_by_one mtu unit obus plan out p e order c buffers j =
    let w = wholly mtu unit obus plan out p e in
    let q = w.by in
    let o = (plan_unit (to_plan mtu unit obus plan)).obus in
    let r = (plan_unit (to_plan mtu unit obus plan)).plan in
    let same = planned_same mtu unit obus plan q w.is in
    let end = written_into (after_plan mtu unit obus plan) order buffers in
    let n = all_count mtu unit obus plan q w.is in
    let m : length end ≡ length (payloads_of mtu unit) = held_count mtu unit end (all_held mtu unit o r q same order buffers j) in
    let s : end ≡ payloads_of mtu unit =
    sym (take_all q.packets end (omega arith))
    ∙ all_same mtu unit o r q same order buffers j 0 q.packets (omega arith) (λ i h. c (0 + i) (omega (arith, w.packets)))
    ∙ take_all q.packets (payloads_of mtu unit) (omega arith) in
    ap joined s
    ∙ sym (take_at (unit_bytes mtu unit) (drop (length (unit_bytes mtu unit)) out) p.bytes (sym w.bytes))
    ∙ ap (λ (a : Answer Payloads). take p.bytes (stored a (unit_bytes mtu unit) out)) e
