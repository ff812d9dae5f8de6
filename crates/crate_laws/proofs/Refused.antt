-- What the crate does where the port refuses by 3, 4 or 7: its two errors, and a panic (X3, X8). Assumes nothing.
use mathlib.Core.Path.{◌≡◌, refl, sym, ap, subst, ◌∙◌}
use Prim.Native.Nat.{ℕ, zero, suc, ◌+◌, ◌-◌, ◌≤◌, ◌<◌}
use native.Mathlib.Omega.{arith}
use mathlib.Core.List.{List, [], ◌∷◌}
use mathlib.Core.Bool.{Bool, true, false, cond, and-false}
use mathlib.Core.Logic.{◌⊎◌, ⊎_elim, inl, inr}
use lib.ListN.{length, get_or, drop, length-drop, drop_of_length-le}
use lib.Seq.{drop-drop, get_or-drop}
use lib.Dec.{ltb, leb, eqb}
use borrow.Author.Tests.{lt-ltb, lt-leb, eq-eqb, ne_eqb, eqb-true, eqb-false, leb-true, leb-false, ltb-true, ltb-false}
use Rattle.base.specs.Streams.{stream_from}
use Rattle.base.proofs.Tests.{by_cond, split_on}
use Rattle.leb128.specs.Field.{Field, sized, unreadable, more, field_in, capped, size_field, longest_field, largest_value}
use Rattle.leb128.proofs.Reading.{Sized, size_within}
use Rattle.obu.specs.Laws.{Bytes}
use Rattle.obu.specs.Header.{extension_bit, size_bit, header_length}
use Rattle.obu.specs.Front.{Front, span_of, Seen, found, stopped, sized_by, headed, front_of}
use Rattle.obu.specs.Unit.{placed, ended, refused_by, Scan, scan_of}
use Rattle.obu.proofs.Fronts.{extension_of, front_3, front_headed}
use Rattle.obu.proofs.Scans.{scan_stopped}
use Rattle.crate_laws.specs.Rust.{ErrPayloadTooSmallForObuExtensionHeader, ErrPayloadTooSmallForObuPayloadSize, Outcome, ok, err, panic, ◌>>=◌, slice}
use Rattle.crate_laws.specs.Obu.{CrateObu, extension_header_at, sized_payload, obu_payload, obu_at, pushed, parse_from, parse_obus}
use Rattle.crate_laws.specs.Same.{as_crate}
use Rattle.crate_laws.specs.Payload.{payload}
use Rattle.crate_laws.specs.Parted.{at_refusal, RefusedSame}
use Rattle.crate_laws.proofs.Steps.{at_is, slice_rest, has_extension, has_size, header_length_lem}
use Rattle.crate_laws.proofs.Fields.{fields_same}
use Rattle.crate_laws.proofs.Fronts.{extension_is, obu_at_lem, spans}
use Rattle.crate_laws.proofs.Lists.{scan_at, scan_next}

-- ---- a size field is refused by 5 or 6

abbrev ByField : Field → Type 0
ByField (sized v n) = Unit {0}
ByField (unreadable k) = (5 ≤ k) × (k ≤ 6)

by_more : (b : ℕ) (f : Field) → ByField f → ByField (more b f)
by_more b (sized v n) h = tt
by_more b (unreadable k) h = h

by_field_lem : (n : ℕ) (l : List ℕ) → ByField (field_in n l)
unfolding field_in
by_field_lem zero l = omega arith
by_field_lem (suc n) [] = omega arith
by_field_lem (suc n) (b ∷ l) =
    by_cond ByField (ltb b 128) _ _ (λ t. tt) (λ t. by_more b (field_in n l) (by_field_lem n l))

by_capped : (f : Field) → ByField f → ByField (capped f)
by_capped (unreadable k) h = h
by_capped (sized v n) h = by_cond ByField (leb v largest_value) (sized v n) (unreadable 6) (λ t. tt) (λ t. omega arith)

by_size : (l : List ℕ) → ByField (size_field l)
by_size l = by_capped (field_in longest_field l) (by_field_lem longest_field l)

-- ---- why the front of some bytes is refused

abbrev header_of : List ℕ → ℕ
header_of l = get_or l 0 0

abbrev after_header : List ℕ → List ℕ
after_header l = drop (header_length (header_of l)) l

record Headed (l : List ℕ) : Type 0 where
  long : header_length (header_of l) ≤ length l
  has : eqb (size_bit (header_of l)) 1 ≡ true

data Reason (l : List ℕ) (n : ℕ) : Type 0 where
  by_extension : n ≡ 3 → length l < header_length (header_of l) → Reason l n
  by_end : n ≡ 4 → Headed l → length (after_header l) ≡ 0 → Reason l n
  by_field : (5 ≤ n) × (n ≤ 6) → Reason l n
  by_payload : n ≡ 7 → Headed l → (length (after_header l) ≡ 0 → ⊥) → (v k : ℕ) → size_field (after_header l) ≡ sized v k → length (after_header l) - k < v
      → Reason l n

abbrev Stops : List ℕ → Seen → Type 0
Stops l (found f) = Unit {0}
Stops l (stopped n) = Reason l n

module _ (l : List ℕ) (e : ℕ) (long : header_length (header_of l) ≤ length l) where
  stops_sized : (f : Field) → f ≡ size_field (after_header l) → (length (after_header l) ≡ 0 → ⊥) → eqb (size_bit (header_of l)) 1 ≡ true
      → Stops l (sized_by (header_of l) e (length (after_header l)) f)
  stops_sized (unreadable k) q z s = by_field (subst ByField (sym q) (by_size (after_header l)))
  stops_sized (sized v k) q z s =
      by_cond (Stops l) (leb v (length (after_header l) - k)) _ (stopped 7)
      (λ t. tt)
      (λ t. by_payload refl (record { long = long; has = s }) z v k (sym q) (leb-false v (length (after_header l) - k) t))

  stops_headed : Stops l (headed (header_of l) e (after_header l))
  unfolding headed
  stops_headed =
      by_cond (Stops l) (eqb (size_bit (header_of l)) 1) _ _
      (λ s.
      by_cond (Stops l) (eqb (length (after_header l)) 0) _ _
      (λ t. by_end refl (record { long = long; has = s }) (eqb-true (length (after_header l)) 0 t))
      (λ t. stops_sized (size_field (after_header l)) refl (eqb-false (length (after_header l)) 0 t) s))
      (λ s. tt)

front_stops : (l : List ℕ) → 1 ≤ length l → Stops l (front_of l)
front_stops l some = split_on (leb (header_length (header_of l)) (length l))
    (λ t.
    let long : header_length (header_of l) ≤ length l = leb-true (header_length (header_of l)) (length l) t in
    rw (front_headed l (header_of l) (extension_of l (header_of l)) (header_length (header_of l)) refl refl long refl) (stops_headed l (extension_of l (header_of l)) long))
    (λ t.
    let short : length l < header_length (header_of l) = leb-false (header_length (header_of l)) (length l) t in
    rw (front_3 l some short) (by_extension refl short))

-- ---- the turn, and the loop

slice_panics : (l : List ℕ) (from to : ℕ) → length l < to → slice l from to ≡ panic
unfolding slice
slice_panics l from to h = rw (lt-leb to (length l) h, and-false (leb from to))

module _ (unit : List ℕ) (bytes : Bytes unit) (index n : ℕ) (is : stopped n ≡ front_of (drop index unit)) (inside : index < length unit) where
  abbrev l : List ℕ
  l = drop index unit

  there : length l ≡ length unit - index
  there = length-drop index unit

  reason : Reason l n
  reason = subst (Stops l) (sym is) (front_stops l (omega (arith, there)))

  header_at : get_or unit index 0 ≡ header_of l
  header_at = let e : index + 0 ≡ index = omega arith in sym (get_or-drop index unit 0 0 ∙ ap (λ (i : ℕ). get_or unit i 0) e)

  -- what is left of the turn where the header bytes are there
  abbrev afterwards : Outcome (List ℕ × ℕ) → Outcome (CrateObu × ℕ)
  afterwards o =
      o >>= λ p. ok (
        record {
          header = header_of l;
          extension_header = extension_of l (header_of l);
          payload = p.0;
          size = header_length (header_of l) + length p.0;
        },
        p.1,
      )

  sized_turn : Headed l → obu_at unit (length unit - index) index ≡ afterwards (sized_payload (after_header l))
  unfolding obu_at obu_payload
  sized_turn h =
      let b : index + header_length (header_of l) ≤ length unit = omega (arith, h.long, there) in
      rw (
        at_is 0 unit index inside,
        header_at,
        extension_is unit index (header_of l) b,
        header_length_lem (header_of l),
        slice_rest unit (index + header_length (header_of l)) b,
        has_size (header_of l),
        h.has,
        drop-drop (header_length (header_of l)) index unit,
      )

  field_bytes_lem : Bytes (after_header l)
  field_bytes_lem i =
      let hs : ℕ = header_length (header_of l) in
      rw (get_or-drop hs l i 0, get_or-drop index unit (hs + i) 0) (bytes (index + (hs + i)))

  by_reason : (n ≡ 5 → ⊥) → (n ≡ 6 → ⊥) → Reason l n → obu_at unit (length unit - index) index ≡ at_refusal n
  unfolding at_refusal obu_at extension_header_at sized_payload
  by_reason five six (by_field b) = absurd (five (omega arith))
  by_reason five six (by_extension e s) =
      let x : extension_bit (header_of l) ≡ 1 = omega (arith, there) in
      rw (
        e,
        at_is 0 unit index inside,
        header_at,
        has_extension (header_of l),
        eq-eqb (extension_bit (header_of l)) 1 x,
        lt-ltb (length unit - index) 2 (omega (arith, there)),
      )
  by_reason five six (by_end e h z) = sized_turn h ∙ rw (e, eq-eqb (length (after_header l)) 0 z)
  by_reason five six (by_payload e h z v k q p) =
      let w : Sized (after_header l) (sized v k) = size_within (after_header l) v k (sym q) in
      sized_turn h
      ∙ rw (e, ne_eqb (length (after_header l)) 0 z, fields_same (after_header l) v k field_bytes_lem q, slice_panics (after_header l) k (k + v) (omega arith))

  obu_stops : (n ≡ 5 → ⊥) → (n ≡ 6 → ⊥) → obu_at unit (length unit - index) index ≡ at_refusal n
  obu_stops five six = by_reason five six reason

refusal_ends : {A B : Type 0} (n : ℕ) (next : A → Outcome B) → (at_refusal n >>= next) ≡ at_refusal n
unfolding at_refusal
refusal_ends n next = by_tests (eqb n 3) (eqb n 4)
  where
    by_tests : (t u : Bool)
        → (cond t (err ErrPayloadTooSmallForObuExtensionHeader) (cond u (err ErrPayloadTooSmallForObuPayloadSize) panic) >>= next)
        ≡ cond t (err ErrPayloadTooSmallForObuExtensionHeader) (cond u (err ErrPayloadTooSmallForObuPayloadSize) panic)
    by_tests true u = refl
    by_tests false true = refl
    by_tests false false = refl

module _ (unit : List ℕ) (bytes : Bytes unit) (n offset : ℕ) (five : n ≡ 5 → ⊥) (six : n ≡ 6 → ⊥) where
  not_done : (index : ℕ) → length unit ≤ index → (scan_at unit index).stop ≡ refused_by n offset → ⊥
  unfolding stream_from
  not_done index h e =
      let f : ended ≡ refused_by n offset = rw (drop_of_length-le unit h) at e in
      let z : ◌≡◌ {A = ℕ} 0 1 = cc in
      omega arith

  -- the refusal is here, or an OBU is found
  here_or_on : (index : ℕ) → index < length unit → (scan_at unit index).stop ≡ refused_by n offset
      → (stopped n ≡ front_of (drop index unit)) ⊎ ((f : Front) × (found f ≡ front_of (drop index unit)))
  here_or_on index h e = by_front (front_of (drop index unit)) refl
    where
      by_front : (s : Seen) → s ≡ front_of (drop index unit) → (stopped n ≡ front_of (drop index unit)) ⊎ ((f : Front) × (found f ≡ front_of (drop index unit)))
      by_front (found f) q = inr (f, q)
      by_front (stopped m) q =
          let r : refused_by m index ≡ refused_by n offset =
          sym (ap (λ (x : Scan). x.stop) (scan_stopped (drop index unit) index m q (omega (arith, length-drop index unit)))) ∙ e in
          let z : n ≡ m = cc in
          inl (ap stopped z ∙ q)

  parse_stops : (turns index : ℕ) (obus : List CrateObu) → index ≤ length unit → length unit ≤ turns + index → (scan_at unit index).stop ≡ refused_by n offset
      → parse_from turns unit (length unit - index) index obus ≡ at_refusal n
  unfolding parse_from
  parse_stops zero index obus inside enough e = absurd (not_done index (omega arith) e)
  parse_stops (suc turns) index obus inside enough e = split_on (ltb 0 (length unit - index))
      (λ t.
      let h : index < length unit = omega (arith, ltb-true 0 (length unit - index) t) in
      ⊎_elim
      (λ s. rw (t, obu_stops unit bytes index n s h five six) (refusal_ends n _))
      (λ w.
      let (f, q) = w in
      let left : length unit - index - f.field - (header_length f.header + f.payload) ≡ length unit - (index + span_of f) = omega arith in
      let next : index + f.field + (header_length f.header + f.payload) ≡ index + span_of f = omega arith in
      rw (t, obu_at_lem unit bytes index f q h, left, next)
      (parse_stops turns (index + span_of f) (pushed obus (as_crate unit (placed index f).obu)) (spans unit bytes index f q h) (omega arith) (sym (ap (λ (x : Scan). x.stop) (scan_next unit index f h q)) ∙ e)))
      (here_or_on index h e))
      (λ t. absurd (not_done index (omega (arith, ltb-false 0 (length unit - index) t)) e))

  parse_refused : (scan_of unit).stop ≡ refused_by n offset → parse_obus unit ≡ at_refusal n
  parse_refused e =
      let z : length unit ≡ length unit - 0 = omega arith in
      ap (λ (m : ℕ). parse_from (length unit) unit m 0 []) z ∙ parse_stops (length unit) 0 [] (omega arith) (omega arith) e

  -- and so for the payload call
  payload_refused : (mtu : ℕ) → (scan_of unit).stop ≡ refused_by n offset → payload mtu unit ≡ at_refusal n
  unfolding payload
  payload_refused mtu e = rw (parse_refused e) (refusal_ends n _)

pub refused_same : RefusedSame
refused_same unit n offset bytes five six e =
    (parse_refused unit bytes n offset five six e, λ mtu. payload_refused unit bytes n offset five six mtu e)
