-- The widths of the versions, and one record at the front of some bytes, by the tests that the code makes. Assumes nothing.
use mathlib.Core.Path.{◌≡◌, refl, sym, ap, subst, ◌∙◌}
use Prim.Native.Nat.{ℕ, ◌+◌, ◌-◌, ◌≤◌, ◌<◌}
use native.Mathlib.Omega.{arith}
use mathlib.Core.List.{List, [], ◌∷◌}
use mathlib.Core.Bool.{cond}
use lib.ListN.{length, take, drop, length-drop, drop_of_length-le}
use lib.Dec.{ltb, eqb}
use borrow.Author.Tests.{lt-ltb, le-ltb, ltb-false}
use Rattle.base.specs.Answers.{Answer, given}
use Rattle.base.specs.BigEndian.{value_at}
use Rattle.base.proofs.Lists.{part_from}
use Rattle.base.proofs.Tests.{by_cond}
use Rattle.train.specs.Train.{short_head, long_head, head_with, head_of, counted_width, least_stated, number_width, Fields, over, before, bad, fields_of, Front, ends, holds, stops, held_by, front_by, front_of}
use Rattle.train.specs.declared.TrainHead.{TrainHead}
use Rattle.train.specs.declared.RecordFields.{RecordFields}
use Rattle.train.specs.declared.RecordHead.{RecordHead}

-- ---- widths

abbrev CountsFor : TrainHead → Answer TrainHead → Type 0
CountsFor h a = given h ≡ a → counted_width h.width ≡ h.width

-- the width of a version counts as itself, and there are no others
pub head_width_lem : (l : List ℕ) {h : TrainHead} → given h ≡ head_of l → counted_width h.width ≡ h.width
unfolding head_of head_with
head_width_lem [] e = let z : ◌≡◌ {A = ℕ} 0 1 = cc in absurd (omega arith)
head_width_lem (v ∷ l) {h} e =
    by_cond (CountsFor h) (eqb v short_head.version) _ _
    (λ t q. let s : h ≡ short_head = cc in rw s)
    (λ t.
    by_cond (CountsFor h) (eqb v long_head.version) _ _
    (λ u q. let s : h ≡ long_head = cc in rw s)
    (λ u q. let z : ◌≡◌ {A = ℕ} 0 1 = cc in absurd (omega arith)))
    e

pub counted_within : (w : ℕ) → (short_head.width ≤ counted_width w) × (counted_width w ≤ long_head.width)
counted_within w =
    by_cond (λ (n : ℕ). (short_head.width ≤ n) × (n ≤ long_head.width)) (eqb w long_head.width) _ _
    (λ _. (omega arith, omega arith))
    (λ _. (omega arith, omega arith))

-- ---- what stands before a payload

module _ (w : ℕ) (l : List ℕ) where
  -- fields of these numbers, and what the tests before them lead to
  abbrev fields : ℕ → ℕ → RecordFields
  fields n v = record { number = n; length = v - number_width }

  module _ (z : length l ≡ 0 → ⊥) where
    fields_some :
        fields_of w l
        ≡ cond (ltb (length l) w) (bad 22)
        (cond (ltb (value_at l 0 w) least_stated) (bad 23)
        (cond (ltb (length l) (w + number_width)) (bad 22) (before (fields (value_at l w number_width) (value_at l 0 w)))))
    unfolding fields_of
    fields_some = go l z
      where
        go : (l : List ℕ) → (length l ≡ 0 → ⊥)
            → fields_of w l
            ≡ cond (ltb (length l) w) (bad 22)
            (cond (ltb (value_at l 0 w) least_stated) (bad 23)
            (cond (ltb (length l) (w + number_width)) (bad 22)
            (before (record { number = value_at l w number_width; length = value_at l 0 w - number_width }))))
        go [] z = absurd (z refl)
        go (b ∷ l) z = refl

    -- the length field is there, and states so much
    module _ {v : ℕ} (h : w ≤ length l) (e : v ≡ value_at l 0 w) where
      pub fields_short : v < least_stated → bad 23 ≡ fields_of w l
      fields_short k = sym (fields_some ∙ rw (le-ltb (length l) w h, ← e, lt-ltb v least_stated k))

      module _ (k : least_stated ≤ v) where
        pub fields_there : {n : ℕ} → w + number_width ≤ length l → n ≡ value_at l w number_width → before (fields n v) ≡ fields_of w l
        fields_there c f =
            sym (fields_some ∙ rw (le-ltb (length l) w h, ← e, le-ltb v least_stated k, le-ltb (length l) (w + number_width) c, ← f))

-- what fields that were read say
pub record Stated (w : ℕ) (l : List ℕ) (f : RecordFields) : Type 0 where
  pub there : w + number_width ≤ length l
  pub some : 1 ≤ f.length

abbrev StatedBy : ℕ → List ℕ → Fields → Type 0
StatedBy w l over = Unit {0}
StatedBy w l (before f) = Stated w l f
StatedBy w l (bad k) = Unit {0}

stated_by_lem : (w : ℕ) (l : List ℕ) → StatedBy w l (fields_of w l)
unfolding fields_of
stated_by_lem w [] = tt
stated_by_lem w (b ∷ l) =
    by_cond (StatedBy w (b ∷ l)) (ltb (length (b ∷ l)) w) _ _
    (λ t. tt)
    (λ t.
    by_cond (StatedBy w (b ∷ l)) (ltb (value_at (b ∷ l) 0 w) least_stated) _ _
    (λ u. tt)
    (λ u.
    by_cond (StatedBy w (b ∷ l)) (ltb (length (b ∷ l)) (w + number_width)) _ _
    (λ x. tt)
    (λ x.
    record {
      there = ltb-false (length (b ∷ l)) (w + number_width) x;
      some = omega (arith, ltb-false (value_at (b ∷ l) 0 w) least_stated u);
    })))

pub fields_state : {w : ℕ} {l : List ℕ} {f : RecordFields} → before f ≡ fields_of w l → Stated w l f
fields_state {w} {l} e = subst (StatedBy w l) (sym e) (stated_by_lem w l)

-- ---- the payload behind them

abbrev pub head_at : ℕ → ℕ → RecordFields → RecordHead
head_at w at f = record { number = f.number; start = at + w + number_width; length = f.length }

module _ (w at : ℕ) (l : List ℕ) (f : RecordFields) where
  pub held_cut : length l < w + number_width + f.length → stops 22 ≡ held_by w at l f
  unfolding held_by
  held_cut h = rw (lt-ltb (length l) (w + number_width + f.length) h)

  pub held_whole : w + number_width + f.length ≤ length l → holds (head_at w at f) ≡ held_by w at l f
  unfolding held_by
  held_whole h = rw (le-ltb (length l) (w + number_width + f.length) h)

  abbrev Held : Front → Type 0
  Held ends = Unit {0}
  Held (holds h) = (w + number_width + f.length ≤ length l) × (h ≡ head_at w at f)
  Held (stops k) = Unit {0}

  pub held_holds : {h : RecordHead} → holds h ≡ held_by w at l f → (w + number_width + f.length ≤ length l) × (h ≡ head_at w at f)
  unfolding held_by
  held_holds e =
      subst Held (sym e)
      (by_cond Held (ltb (length l) (w + number_width + f.length)) _ _ (λ t. tt) (λ t. (ltb-false (length l) (w + number_width + f.length) t, refl)))

-- ---- both, on a part of lent bytes

module _ (w : ℕ) (bytes : List ℕ) (at : ℕ) where
  pub at_end : length bytes ≤ at → ends ≡ front_of w at (drop at bytes)
  unfolding fields_of
  at_end h = rw (drop_of_length-le bytes {i = at} h)

  module _ (h : at ≤ length bytes) where
    pub at_fields : {x : Fields} → x ≡ fields_of w (take (length bytes - at) (drop at bytes))
        → front_by w at (drop at bytes) x ≡ front_of w at (drop at bytes)
    at_fields e = ap (front_by w at (drop at bytes)) (e ∙ ap (fields_of w) (part_from bytes at h))

    -- the fields lie in the bytes
    pub at_stated : {f : RecordFields} → before f ≡ fields_of w (take (length bytes - at) (drop at bytes)) → at + w + number_width ≤ length bytes
    at_stated e = omega (arith, (fields_state (e ∙ ap (fields_of w) (part_from bytes at h))).there, length-drop at bytes)

    -- so does the payload, if it is not cut
    pub at_whole : {f : RecordFields} → before f ≡ fields_of w (take (length bytes - at) (drop at bytes))
        → {n : ℕ} → n ≡ w → f.length ≤ length bytes - (at + w + number_width) → holds (head_at n at f) ≡ front_of w at (drop at bytes)
    at_whole {f} e c k =
        ap (λ (i : ℕ). holds (head_at i at f)) c
        ∙ held_whole w at (drop at bytes) f (omega (arith, at_stated e, length-drop at bytes))
        ∙ at_fields e

-- what a record that begins at `at` is found by
pub ruleset record_at = (at_end, at_fields, at_stated, at_whole)
