-- A train from record to record, as a program reads it. Assumes nothing.
--     fields-first   what stands before a payload, by these bytes alone
--     front-spans    a packet at the front: where its payload lies
--     records-step   the records of some bytes: the one at the front, and those of the bytes after it
--     records-over, records-bad, records-cut, records-next    the same by what stands before the payload, and then by the payload
use mathlib.Core.Path.{◌≡◌, refl, sym, ap, ap₂, subst, ◌∙◌}
use Prim.Native.Nat.{ℕ, ◌+◌, ◌≤◌, ◌<◌}
use native.Mathlib.Omega.{arith}
use mathlib.Core.List.{List, [], ◌∷◌}
use lib.ListN.{length, take, drop, length-drop}
use lib.Seq.{drop-drop, take-take, take_all, length-take-le}
use lib.Dec.{ltb}
use borrow.Author.Tests.{ltb-true, ltb-false}
use Rattle.base.specs.Streams.{chained}
use Rattle.base.specs.BigEndian.{value_of, value_at}
use Rattle.base.proofs.Lists.{take_drop}
use Rattle.base.proofs.Tests.{split_on}
use Rattle.base.proofs.Streams.{Some, stream_next}
use Rattle.train.specs.Train.{Numbered, Records, ended, refused_by, number_width, least_stated, Fields, over, before, bad, fields_of, Front, ends, holds, stops, front_by, front_of, record_by, record_next, records_of}
use Rattle.train.specs.declared.RecordFields.{RecordFields}
use Rattle.train.specs.declared.RecordHead.{RecordHead}
use Rattle.train.proofs.Reading.{fields_short, fields_there, fields_state, head_at, held_cut, held_whole, held_holds}

-- ---- what stands before a payload, by these bytes alone

module _ (w : ℕ) (l : List ℕ) where
  abbrev w₂ : ℕ
  w₂ = w + number_width

  first_fields : w₂ ≤ length l → fields_of w (take w₂ l) ≡ fields_of w l
  first_fields h =
      let k : length (take w₂ l) ≡ w₂ = length-take-le w₂ l h in
      let v : value_at l 0 w ≡ value_at (take w₂ l) 0 w = sym (ap value_of (take-take w w₂ l (omega arith))) in
      let n : value_at l w number_width ≡ value_at (take w₂ l) w number_width =
      ap value_of (sym (take-take number_width number_width (drop w l) (omega arith)) ∙ ap (take number_width) (take_drop number_width w l)) in
      split_on (ltb (value_at l 0 w) least_stated)
      (λ t.
      let s : value_at l 0 w < least_stated = ltb-true (value_at l 0 w) least_stated t in
      sym (fields_short w (take w₂ l) (λ e. omega arith) (omega arith) v s) ∙ fields_short w l (λ e. omega arith) (omega arith) refl s)
      (λ t.
      let s : least_stated ≤ value_at l 0 w = ltb-false (value_at l 0 w) least_stated t in
      sym (fields_there w (take w₂ l) (λ e. omega arith) (omega arith) v s (omega arith) n)
      ∙ fields_there w l (λ e. omega arith) (omega arith) refl s h refl)

  pub fields_first : fields_of w (take w₂ l) ≡ fields_of w l
  fields_first = split_on (ltb (length l) w₂)
      (λ t. ap (fields_of w) (take_all w₂ l (omega (arith, ltb-true (length l) w₂ t))))
      (λ t. first_fields (ltb-false (length l) w₂ t))

-- ---- a packet at the front

-- by what stands before its payload
pub front_by_lem : (w at : ℕ) (l : List ℕ) (h : RecordHead) → front_of w at l ≡ holds h
    → (P : Type 0) → ((f : RecordFields) → before f ≡ fields_of w l → (w + number_width + f.length ≤ length l) × (h ≡ head_at w at f) → P) → P
front_by_lem w at l h e P by = go (fields_of w l) refl e
  where
    go : (x : Fields) → x ≡ fields_of w l → front_by w at l x ≡ holds h → P
    go over q p = let z : ◌≡◌ {A = ℕ} 0 1 = cc in absurd (omega arith)
    go (before f) q p = by f q (held_holds w at l f (sym p))
    go (bad k) q p = let z : ◌≡◌ {A = ℕ} 0 1 = cc in absurd (omega arith)

abbrev Spans : ℕ → ℕ → List ℕ → RecordHead → Type 0
Spans w at l h = (h.start ≡ at + w + number_width) × (1 ≤ h.length) × (h.start + h.length ≤ at + length l)

pub front_spans : (w at : ℕ) (l : List ℕ) (h : RecordHead) → front_of w at l ≡ holds h
    → (h.start ≡ at + w + number_width) × (1 ≤ h.length) × (h.start + h.length ≤ at + length l)
front_spans w at l h e =
    front_by_lem w at l h e (Spans w at l h)
    (λ f q k. subst (Spans w at l) (sym k.1) (refl, (fields_state q).some, omega (arith, k.0)))

-- ---- from record to record

-- an item of a stream of records has a byte
record_some : (w : ℕ) (t : Unit {0}) (l : List ℕ) → Some (record_next w t l)
record_some w t l = go (front_of w 0 l) refl
  where
    go : (x : Front) → front_of w 0 l ≡ x → Some (record_by l x)
    go ends e = tt
    go (stops k) e = tt
    go (holds h) e = omega (arith, front_spans w 0 l h e)

-- the records after what stands at the front
abbrev pub onward : ℕ → List ℕ → Front → Records
onward w l x = chained (record_by l x) (λ n t. records_of w (drop n l))

pub records_step : (w : ℕ) (l : List ℕ) → records_of w l ≡ onward w l (front_of w 0 l)
unfolding fields_of
records_step w l = stream_next (record_next w) ended (record_some w) (λ t. refl) l tt

-- ---- by what stands before the payload, and then by the payload

-- a packet, and the train after it
abbrev pub chain : Numbered → Records → Records
chain p t = record { items = p ∷ t.items; stop = t.stop }

module _ (w : ℕ) (l : List ℕ) where
  abbrev behind : List ℕ
  behind = drop (w + number_width) l

  records_by : (x : Fields) → fields_of w (take (w + number_width) l) ≡ x → records_of w l ≡ onward w l (front_by w 0 l x)
  records_by x e = records_step w l ∙ ap (λ (y : Fields). onward w l (front_by w 0 l y)) (sym (fields_first w l) ∙ e)

  pub records_over : fields_of w (take (w + number_width) l) ≡ over → records_of w l ≡ record { items = []; stop = ended }
  records_over e = records_by over e

  pub records_bad : (k : ℕ) → fields_of w (take (w + number_width) l) ≡ bad k → records_of w l ≡ record { items = []; stop = refused_by k }
  records_bad k e = records_by (bad k) e

  module _ (f : RecordFields) (e : fields_of w (take (w + number_width) l) ≡ before f) where
    pub records_cut : length behind < f.length → records_of w l ≡ record { items = []; stop = refused_by 22 }
    records_cut h =
        let s = fields_state (sym e ∙ fields_first w l) in
        records_by (before f) e ∙ ap (onward w l) (sym (held_cut w 0 l f (omega (arith, s.there, length-drop (w + number_width) l))))

    pub records_next : f.length ≤ length behind
        → records_of w l ≡ chain (record { number = f.number; payload = take f.length behind }) (records_of w (drop f.length behind))
    records_next h =
        let s = fields_state (sym e ∙ fields_first w l) in
        let a : 0 + w + number_width ≡ w + number_width = omega arith in
        records_by (before f) e
        ∙ ap (onward w l) (sym (held_whole w 0 l f (omega (arith, s.there, length-drop (w + number_width) l))))
        ∙ ap₂ (λ (p : List ℕ) (t : Records). chain (record { number = f.number; payload = p }) t)
        (ap (λ (i : ℕ). take f.length (drop i l)) a)
        (ap (records_of w) (ap (λ (i : ℕ). drop (i + f.length) l) a ∙ sym (drop-drop f.length (w + number_width) l)))
