-- A unit's records compared with those of a lent list: what the loop keeps, and what the answer says. Assumes nothing.
--     same-says     a list that is taken begins with the unit's records, and the unit is listed
--     says_same     and the other way round
use mathlib.Core.Path.{◌≡◌, refl, sym, ap, ap₂, ◌∙◌}
use Prim.Native.Nat.{ℕ, ◌+◌, ◌*◌, ◌≤◌, ◌<◌}
use native.Mathlib.Omega.{arith}
use mathlib.Core.List.{List, [], ◌∷◌, ◌++◌, flat_map}
use mathlib.Core.Bool.{Bool, true, false, cond, not, ◌&&◌, and-true, and_assoc}
use lib.ListN.{length, take, drop, length-drop}
use lib.Seq.{drop-drop}
use Rattle.base.specs.Answers.{Answer, given, refused, if_same}
use Rattle.base.specs.Lists.{keep, is_front}
use Rattle.base.proofs.Lists.{keep_yes, keep_no, keep_none}
use Rattle.base.proofs.Fronts.{is_front_none, is_front_append, is_front_take, take_is_front, given_same, same_given}
use Rattle.obu.specs.Header.{type_of, drops}
use Rattle.obu.specs.Front.{Front, span_of, found, stopped, front_of}
use Rattle.obu.specs.Records.{obu_numbers, numbers_of, flat}
use Rattle.obu.specs.Unit.{unit_limit, Placed, placed, Scan, scan_from, is_kept, kept_of, obus_of, listed, kept_only, same_list}
use Rattle.obu.specs.declared.Obu.{Obu}
use Rattle.obu.specs.declared.Listed.{Listed}
use Rattle.obu.specs.declared.compare.Kept.{Kept}
use Rattle.obu.proofs.Scans.{records_of, scan_found, found_then, listed_large, Passed, passed_first, passed_drop, passed_keep, nothing_readable, nothing_left, kept_passed, listed_passed}

-- the records of the bytes from `at` on
abbrev kept_from : List ℕ → ℕ → List Obu
kept_from unit at = records_of (keep is_kept (scan_from (drop at unit) at).items)

-- ---- what the loop keeps: n OBUs are kept, and whether their records are the same

pub record Compared (unit l : List ℕ) (at n : ℕ) (same : Bool) : Type 0 where
  pub acc : List Placed
  pub walk : Passed unit at n acc
  pub agrees : is_front (flat (obus_of unit)) l ≡ same && is_front (flat (kept_from unit at)) (drop (n * obu_numbers) l)

pub compared_first : {unit l : List ℕ} → Compared unit l 0 0 true
compared_first = record { acc = []; walk = passed_first; agrees = refl }

module _ (unit : List ℕ) (at : ℕ) (f : Front) (seen : found f ≡ front_of (drop at unit)) (left : at < length unit) where
  kept_by : kept_from unit at ≡ records_of (keep is_kept (found_then at f (drop at unit)).items)
  kept_by = ap (λ (s : Scan). records_of (keep is_kept s.items)) (scan_found (drop at unit) at f seen (omega (arith, length-drop at unit)))

  kept_drop : drops (type_of f.header) ≡ true → kept_from unit at ≡ kept_from unit (at + span_of f)
  kept_drop t = kept_by ∙ rw (keep_no is_kept (placed at f) _ (ap not t), drop-drop (span_of f) at unit)

  kept_keep : drops (type_of f.header) ≡ false → kept_from unit at ≡ (placed at f).obu ∷ kept_from unit (at + span_of f)
  kept_keep t = kept_by ∙ rw (keep_yes is_kept (placed at f) _ (ap not t), drop-drop (span_of f) at unit)

-- a record and then others
record_then : (o : Obu) (os : List Obu) (l : List ℕ) (n : ℕ)
    → is_front (flat (o ∷ os)) (drop (n * obu_numbers) l) ≡ is_front (numbers_of o) (drop (n * obu_numbers) l) && is_front (flat os) (drop ((n + 1) * obu_numbers) l)
unfolding flat_map
record_then o os l n =
    let e : n * obu_numbers + obu_numbers ≡ (n + 1) * obu_numbers = omega arith in
    is_front_append (numbers_of o) (flat os) (drop (n * obu_numbers) l)
    ∙ ap (λ (m : List ℕ). is_front (numbers_of o) (drop (n * obu_numbers) l) && is_front (flat os) m) (drop-drop obu_numbers (n * obu_numbers) l ∙ rw e)

module _ {unit l : List ℕ} {at n : ℕ} {same : Bool} (w : Compared unit l at n same) where
  module _ {f : Front} (seen : found f ≡ front_of (drop at unit)) (left : at < length unit) where
    pub compared_drop : drops (type_of f.header) ≡ true → Compared unit l (at + span_of f) n same
    compared_drop t =
        record {
          acc = w.acc ++ (placed at f ∷ []);
          walk = passed_drop w.walk seen left t;
          agrees = w.agrees ∙ ap (λ (os : List Obu). same && is_front (flat os) (drop (n * obu_numbers) l)) (kept_drop unit at f seen left t);
        }

    -- its record is made, and compared where the ones before it were the same
    pub compared_keep : drops (type_of f.header) ≡ false → {o : Obu} → o ≡ (placed at f).obu
        → {now : Bool} → now ≡ same && is_front (numbers_of o) (drop (n * obu_numbers) l) → Compared unit l (at + span_of f) (n + 1) now
    compared_keep t made is =
        let rest = kept_from unit (at + span_of f) in
        let here : Bool = is_front (numbers_of (placed at f).obu) (drop (n * obu_numbers) l) in
        let after : Bool = is_front (flat rest) (drop ((n + 1) * obu_numbers) l) in
        let e = is ∙ ap (λ (x : Obu). same && is_front (numbers_of x) (drop (n * obu_numbers) l)) made in
        record {
          acc = w.acc ++ (placed at f ∷ []);
          walk = passed_keep w.walk seen left t;
          agrees =
              w.agrees
              ∙ ap (λ (os : List Obu). same && is_front (flat os) (drop (n * obu_numbers) l)) (kept_keep unit at f seen left t)
              ∙ ap (λ (b : Bool). same && b) (record_then (placed at f).obu rest l n)
              ∙ sym (and_assoc same here after)
              ∙ ap (λ (b : Bool). b && after) (sym e);
        }

  -- a unit has no more OBUs than bytes
  enough : n ≤ length unit
  enough = omega (arith, w.walk.few, w.walk.inside)

  -- nothing more is found: all records were compared
  all_compared : length unit ≤ at → is_front (flat (obus_of unit)) l ≡ same
  unfolding flat_map
  all_compared h =
      let over : kept_from unit at ≡ [] = ap (λ (s : Scan). records_of (keep is_kept s.items)) (nothing_left w.walk h) ∙ rw (keep_none is_kept) in
      w.agrees ∙ rw (over, is_front_none (drop (n * obu_numbers) l)) (and-true same)

  module _ (small : length unit ≤ unit_limit) where
    pub compared_stop : {k : ℕ} → stopped k ≡ front_of (drop at unit) → at < length unit → refused k at ≡ same_list unit l
    unfolding same_list
    compared_stop e h = ap (λ (a : Answer Listed). if_same (is_front (flat (obus_of unit)) l) (kept_only a)) (listed_passed w.walk (nothing_readable w.walk e h) enough small)

    pub compared_end : length unit ≤ at → cond same (given (record { obus = n })) (refused 31 0) ≡ same_list unit l
    unfolding same_list
    compared_end h =
        let none = nothing_left w.walk h in
        let c : n ≡ length (kept_of unit) = sym (ap length (kept_passed w.walk none) ∙ w.walk.counted) in
        ap₂ (λ (b : Bool) (m : ℕ). if_same b (given (record { obus = m }))) (sym (all_compared h)) c
        ∙ ap (λ (a : Answer Listed). if_same (is_front (flat (obus_of unit)) l) (kept_only a)) (listed_passed w.walk none enough small)

-- ---- the answer

pub same_large : (unit l : List ℕ) → unit_limit < length unit → same_list unit l ≡ refused 2 0
unfolding same_list
same_large unit l h = ap (λ (a : Answer Listed). if_same (is_front (flat (obus_of unit)) l) (kept_only a)) (listed_large unit (length unit) h)

-- what is said of the kept OBUs is said where the unit is listed
only_given : (a : Answer Listed) {k : Kept} → given k ≡ kept_only a → (g : Listed) × (given g ≡ a) × (k.obus ≡ g.obus)
only_given (given g) {k} e = let o : k.obus ≡ g.obus = cc in (g, refl, o)
only_given (refused n at) e = let z : ◌≡◌ {A = ℕ} 0 1 = cc in absurd (omega arith)

pub same_says : (unit l : List ℕ) {k : Kept} → given k ≡ same_list unit l
    → (g : Listed) × (given g ≡ listed (length unit) unit) × (k.obus ≡ g.obus) × (take (length (flat (obus_of unit))) l ≡ flat (obus_of unit))
unfolding same_list
same_says unit l e =
    let h = given_same e in
    let (g, f, o) = only_given (listed (length unit) unit) h.0 in
    (g, f, o, is_front_take (flat (obus_of unit)) l h.1)

pub says_same : (unit l : List ℕ) {g : Listed} → given g ≡ listed (length unit) unit → take (length (flat (obus_of unit))) l ≡ flat (obus_of unit)
    → given (record { obus = g.obus }) ≡ same_list unit l
unfolding same_list
says_same unit l e h = same_given (ap kept_only e) (take_is_front (flat (obus_of unit)) l h)
