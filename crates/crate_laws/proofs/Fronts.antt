-- A turn of the loop of parse_obus finds the OBU that we find (D2, O3, O4). Assumes nothing.
use mathlib.Core.Path.{◌≡◌, refl, sym, ap, subst, ◌∙◌}
use Prim.Native.Nat.{ℕ, ◌+◌, ◌-◌, ◌≤◌, ◌<◌}
use native.Mathlib.Omega.{arith}
use mathlib.Core.List.{List}
use mathlib.Core.Bool.{Bool, true, false, cond, not}
use lib.ListN.{length, get_or, take, drop, length-drop}
use lib.Seq.{drop-drop, get_or-drop, take-length, length-take-le}
use lib.Dec.{ltb, leb, eqb}
use borrow.Author.Tests.{le-ltb, ne_eqb, eqb-true, eqb-false, leb-true, leb-false}
use Rattle.base.proofs.Tests.{by_cond, split_on}
use Rattle.leb128.specs.Field.{Field, sized, unreadable, size_field}
use Rattle.leb128.proofs.Reading.{Sized, size_within}
use Rattle.obu.specs.Laws.{Bytes, Spans}
use Rattle.obu.specs.Header.{extension_bit, size_bit, header_length}
use Rattle.obu.specs.Front.{Front, start_of, span_of, Seen, found, stopped, sized_by, headed, front_of}
use Rattle.obu.specs.Unit.{placed}
use Rattle.obu.proofs.Fronts.{extension_of, front_3, front_headed, front_spans}
use Rattle.crate_laws.specs.Rust.{ErrPayloadTooSmallForObuExtensionHeader, Outcome, ok, err, at}
use Rattle.crate_laws.specs.Obu.{extension_header_at, sized_payload, obu_payload, obu_at}
use Rattle.crate_laws.specs.Same.{as_crate}
use Rattle.crate_laws.proofs.Steps.{at_is, slice_is, slice_rest, has_extension, has_size, header_length_lem}
use Rattle.crate_laws.proofs.Fields.{fields_same}

-- ---- what an OBU that was found says of the bytes

-- by its size bit, with these bytes after the header
abbrev Payload : Bool → Front → List ℕ → Type 0
Payload true f rest =
    (length rest ≡ 0 → ⊥) × (size_field rest ≡ sized f.payload f.field) × (f.payload ≤ length rest - f.field)
Payload false f rest = (f.field ≡ 0) × (f.payload ≡ length rest)

abbrev Shows : List ℕ → Seen → Type 0
Shows l (found f) =
    (f.header ≡ get_or l 0 0)
    × (header_length f.header ≤ length l)
    × (f.extension ≡ extension_of l f.header)
    × Payload (eqb (size_bit f.header) 1) f (drop (header_length f.header) l)
Shows l (stopped n) = Unit {0}

module _ (l : List ℕ) (h e : ℕ) (first : h ≡ get_or l 0 0) (long : header_length h ≤ length l) (second : e ≡ extension_of l h) where
  abbrev rest : List ℕ
  rest = drop (header_length h) l

  shows_sized : (f : Field) → f ≡ size_field rest → (length rest ≡ 0 → ⊥) → eqb (size_bit h) 1 ≡ true → Shows l (sized_by h e (length rest) f)
  shows_sized (unreadable k) q z s = tt
  shows_sized (sized v k) q z s =
      by_cond (Shows l) (leb v (length rest - k)) (found (record { header = h; extension = e; field = k; payload = v })) (stopped 7)
      (λ t. (first, long, second, rw s (z, sym q, leb-true v (length rest - k) t)))
      (λ t. tt)

  shows_headed : Shows l (headed h e rest)
  unfolding headed
  shows_headed =
      by_cond (Shows l) (eqb (size_bit h) 1) _ _
      (λ s.
      by_cond (Shows l) (eqb (length rest) 0) _ _
      (λ t. tt)
      (λ t. shows_sized (size_field rest) refl (eqb-false (length rest) 0 t) s))
      (λ s. (first, long, second, rw s (refl, refl)))

front_shows : (l : List ℕ) → 1 ≤ length l → Shows l (front_of l)
front_shows l some = split_on (leb (header_length h) (length l))
    (λ t.
    let long : header_length h ≤ length l = leb-true (header_length h) (length l) t in
    rw (front_headed l h (extension_of l h) (header_length h) refl refl long refl) (shows_headed l h (extension_of l h) refl long refl))
    (λ t. rw (front_3 l some (leb-false (header_length h) (length l) t)) tt)
  where
    h : ℕ
    h = get_or l 0 0

-- ---- the turn

-- the extension header, where header bytes of this header byte are there
pub extension_is : (unit : List ℕ) (index h : ℕ) → index + header_length h ≤ length unit
    → extension_header_at unit (length unit - index) index h ≡ ok (extension_of (drop index unit) h)
unfolding extension_header_at
extension_is unit index h inside = rw (has_extension h) (by_bit (eqb (extension_bit h) 1) refl)
  where
    by_bit : (t : Bool) → eqb (extension_bit h) 1 ≡ t
        → cond t (cond (ltb (length unit - index) 2) (err ErrPayloadTooSmallForObuExtensionHeader) (at unit (index + 1))) (ok 0)
        ≡ ok (cond t (get_or (drop index unit) 1 0) 0)
    by_bit true e =
        let x : extension_bit h ≡ 1 = eqb-true (extension_bit h) 1 e in
        rw (le-ltb (length unit - index) 2 (omega arith), at_is 0 unit (index + 1) (omega arith), get_or-drop index unit 1 0)
    by_bit false e = refl

module _ (unit : List ℕ) (bytes : Bytes unit) (index : ℕ) (f : Front) (is : found f ≡ front_of (drop index unit)) (inside : index < length unit) where
  there : length (drop index unit) ≡ length unit - index
  there = length-drop index unit

  shows : Shows (drop index unit) (found f)
  shows = subst (Shows (drop index unit)) (sym is) (front_shows (drop index unit) (omega (arith, there)))

  header_at : get_or unit index 0 ≡ f.header
  header_at =
      let e : index + 0 ≡ index = omega arith in
      sym (shows.0 ∙ get_or-drop index unit 0 0 ∙ ap (λ (i : ℕ). get_or unit i 0) e)

  -- the bytes after the header
  abbrev after : List ℕ
  after = drop (index + header_length f.header) unit

  after_is : drop (header_length f.header) (drop index unit) ≡ after
  after_is = drop-drop (header_length f.header) index unit

  after_long : length after ≡ length unit - (index + header_length f.header)
  after_long = length-drop (index + header_length f.header) unit

  extension_at : extension_header_at unit (length unit - index) index f.header ≡ ok f.extension
  extension_at = extension_is unit index f.header (omega (arith, shows.1, there)) ∙ ap {B = Outcome ℕ} ok (sym shows.2)

  payload_sized : Payload true f after → sized_payload after ≡ ok (take f.payload (drop (index + start_of f) unit), f.field)
  unfolding sized_payload
  payload_sized p =
      let w : Sized after (sized f.payload f.field) = size_within after f.payload f.field (sym p.1) in
      let e : index + header_length f.header + f.field ≡ index + start_of f = omega arith in
      let b : Bytes after = λ i. rw (get_or-drop (index + header_length f.header) unit i 0) (bytes (index + header_length f.header + i)) in
      rw (ne_eqb (length after) 0 p.0, fields_same after f.payload f.field b p.1, slice_is after f.field f.payload (omega arith), drop-drop f.field (index + header_length f.header) unit, e)

  payload_rest : Payload false f after → ◌≡◌ {A = List ℕ × ℕ} (after, 0) (take f.payload (drop (index + start_of f) unit), f.field)
  payload_rest p =
      let e : index + start_of f ≡ index + header_length f.header = omega (arith, p.0) in
      rw (e, p.0, p.1, take-length after)

  payload_at_lem : obu_payload f.header after ≡ ok (take f.payload (drop (index + start_of f) unit), f.field)
  unfolding obu_payload
  payload_at_lem = rw (has_size f.header) (by_bit (eqb (size_bit f.header) 1) (rw after_is at shows.3))
    where
      by_bit : (t : Bool) → Payload t f after
          → cond (not t) (ok (after, 0)) (sized_payload after) ≡ ok (take f.payload (drop (index + start_of f) unit), f.field)
      by_bit true p = payload_sized p
      by_bit false p = ap {B = Outcome (List ℕ × ℕ)} ok (payload_rest p)

  pub spans : index + span_of f ≤ length unit
  spans =
      let s : Spans (drop index unit) (found f) = subst (Spans (drop index unit)) (sym is) (front_spans (drop index unit)) in
      omega (arith, there, s.0)

  payload_long : length (take f.payload (drop (index + start_of f) unit)) ≡ f.payload
  payload_long = length-take-le f.payload (drop (index + start_of f) unit) (omega (arith, length-drop (index + start_of f) unit, spans))

  pub obu_at_lem : obu_at unit (length unit - index) index ≡ ok (as_crate unit (placed index f).obu, f.field)
  unfolding obu_at
  obu_at_lem =
      rw (at_is 0 unit index inside, header_at, extension_at, header_length_lem f.header, slice_rest unit (index + header_length f.header) (omega (arith, shows.1, there)), payload_at_lem, payload_long)
