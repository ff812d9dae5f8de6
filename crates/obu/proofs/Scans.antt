-- Going through a unit: a step of the scan, the list call by what there is, and what every loop over a unit keeps. Assumes nothing.
use mathlib.Core.Path.{◌≡◌, refl, sym, ap, subst, ◌∙◌}
use Prim.Native.Nat.{ℕ, ◌+◌, ◌≤◌, ◌<◌}
use native.Mathlib.Omega.{arith}
use mathlib.Core.List.{List, [], ◌∷◌, ◌++◌, append-nil, append_assoc, map}
use mathlib.Core.Bool.{Bool, true, false, cond, not}
use lib.ListN.{length, get_or, drop, length-append, length-drop, drop_of_length-le}
use lib.Seq.{drop-drop}
use lib.Dec.{ltb}
use borrow.Author.Tests.{lt-ltb, le-ltb, ltb-false}
use Rattle.base.specs.Answers.{given, refused}
use Rattle.base.specs.Lists.{keep}
use Rattle.base.specs.Streams.{chained, stream_from}
use Rattle.base.proofs.Lists.{keep_yes, keep_no, keep_none, keep_append}
use Rattle.base.proofs.Streams.{stream_step}
use Rattle.obu.specs.Header.{type_of, drops}
use Rattle.obu.specs.Front.{Front, span_of, Seen, found, stopped, front_of}
use Rattle.obu.specs.Unit.{unit_limit, Placed, placed, ScanEnd, ended, refused_by, Scan, obu_by, obu_next, scan_from, scan_of, is_kept, kept_of, listed_of, at_stop, listed}
use Rattle.obu.specs.Laws.{Spans}
use Rattle.obu.specs.declared.Obu.{Obu}
use Rattle.obu.specs.declared.Listed.{Listed}
use Rattle.obu.proofs.Fronts.{front_spans, obu_some}

-- ---- a step of the scan

-- by what stands at the front
scan_by : (l : List ℕ) (at : ℕ) (x : Seen) → x ≡ front_of l → 1 ≤ length l → scan_from l at ≡ chained (obu_by at x) (λ n t. scan_from (drop n l) t)
scan_by l at x e h = stream_step obu_next ended obu_some l at h ∙ ap (λ (y : Seen). chained (obu_by at y) (λ n t. scan_from (drop n l) t)) (sym e)

-- an OBU and then the scan of what follows it
abbrev pub found_then : ℕ → Front → List ℕ → Scan
found_then at f l =
    record {
      items = placed at f ∷ (scan_from (drop (span_of f) l) (at + span_of f)).items;
      stop = (scan_from (drop (span_of f) l) (at + span_of f)).stop;
    }

pub scan_found : (l : List ℕ) (at : ℕ) (f : Front) → found f ≡ front_of l → 1 ≤ length l → scan_from l at ≡ found_then at f l
scan_found l at f e h = scan_by l at (found f) e h

pub scan_stopped : (l : List ℕ) (at n : ℕ) → stopped n ≡ front_of l → 1 ≤ length l → scan_from l at ≡ record { items = []; stop = refused_by n at }
scan_stopped l at n e h = scan_by l at (stopped n) e h

-- ---- lists of records

abbrev pub records_of : List Placed → List Obu
records_of ps = map (λ (p : Placed). p.obu) ps

-- ---- the list call, by what there is

module _ (unit : List ℕ) (space : ℕ) (small : length unit ≤ unit_limit) where
  pub listed_enough : length (kept_of unit) ≤ space → listed space unit ≡ at_stop (scan_of unit).stop (listed_of unit)
  unfolding listed
  listed_enough h = rw (le-ltb unit_limit (length unit) small, le-ltb space (length (kept_of unit)) h)

  pub listed_full : space < length (kept_of unit) → listed space unit ≡ refused 8 (get_or (map (λ (p : Placed). p.at) (kept_of unit)) space 0)
  unfolding listed
  listed_full h = rw (le-ltb unit_limit (length unit) small, lt-ltb space (length (kept_of unit)) h)

pub listed_large : (unit : List ℕ) (space : ℕ) → unit_limit < length unit → listed space unit ≡ refused 2 0
unfolding listed
listed_large unit space h = rw (lt-ltb unit_limit (length unit) h)

-- a unit that is listed is within its limit and read to its end, and there is space for all its kept OBUs
pub given_listed : (unit : List ℕ) (space : ℕ) {l : Listed} → given l ≡ listed space unit
    → (length unit ≤ unit_limit) × ((scan_of unit).stop ≡ ended) × (l ≡ listed_of unit) × (length (kept_of unit) ≤ space)
unfolding listed
given_listed unit space {l} e = go (ltb unit_limit (length unit)) refl (ltb space (length (kept_of unit))) refl (scan_of unit).stop e
  where
    go : (t : Bool) → ltb unit_limit (length unit) ≡ t → (u : Bool) → ltb space (length (kept_of unit)) ≡ u → (s : ScanEnd)
        → given l ≡ cond t (refused 2 0) (cond u (refused 8 (get_or (map (λ (p : Placed). p.at) (kept_of unit)) space 0)) (at_stop s (listed_of unit)))
        → (length unit ≤ unit_limit) × (s ≡ ended) × (l ≡ listed_of unit) × (length (kept_of unit) ≤ space)
    go true t u v s e = let z : ◌≡◌ {A = ℕ} 0 1 = cc in absurd (omega arith)
    go false t true v s e = let z : ◌≡◌ {A = ℕ} 0 1 = cc in absurd (omega arith)
    go false t false v (refused_by k at) e = let z : ◌≡◌ {A = ℕ} 0 1 = cc in absurd (omega arith)
    go false t false v ended e =
        let q : l ≡ listed_of unit = cc in
        (ltb-false unit_limit (length unit) t, refl, q, ltb-false space (length (kept_of unit)) v)

-- ---- what every loop over a unit keeps: the OBUs before `at` are passed, and n of them are kept

pub record Passed (unit : List ℕ) (at n : ℕ) (acc : List Placed) : Type 0 where
  pub inside : at ≤ length unit
  pub few : n ≤ at
  pub all : (scan_of unit).items ≡ acc ++ (scan_from (drop at unit) at).items
  pub stop : (scan_of unit).stop ≡ (scan_from (drop at unit) at).stop
  pub counted : length (keep is_kept acc) ≡ n

pub passed_first : {unit : List ℕ} → Passed unit 0 0 []
unfolding keep
passed_first =
    record {
      inside = omega arith;
      few = omega arith;
      all = refl;
      stop = refl;
      counted = refl;
    }

module _ {unit : List ℕ} {at n : ℕ} {acc : List Placed} (w : Passed unit at n acc) where
  -- ---- an OBU was found

  module _ {f : Front} (seen : found f ≡ front_of (drop at unit)) (left : at < length unit) where
    pub spans : at + span_of f ≤ length unit
    spans =
        let s : Spans (drop at unit) (found f) = subst (Spans (drop at unit)) (sym seen) (front_spans (drop at unit)) in
        omega (arith, length-drop at unit)

    scan_next : scan_from (drop at unit) at ≡ found_then at f (drop at unit)
    scan_next = scan_found (drop at unit) at f seen (omega (arith, length-drop at unit))

    rest_at : drop (span_of f) (drop at unit) ≡ drop (at + span_of f) unit
    rest_at = drop-drop (span_of f) at unit

    all_next : (scan_of unit).items ≡ (acc ++ (placed at f ∷ [])) ++ (scan_from (drop (at + span_of f) unit) (at + span_of f)).items
    all_next =
        w.all
        ∙ ap (λ (s : Scan). acc ++ s.items) scan_next
        ∙ rw rest_at (sym (append_assoc acc (placed at f ∷ []) (scan_from (drop (at + span_of f) unit) (at + span_of f)).items))

    stop_next : (scan_of unit).stop ≡ (scan_from (drop (at + span_of f) unit) (at + span_of f)).stop
    stop_next = w.stop ∙ ap (λ (s : Scan). s.stop) scan_next ∙ rw rest_at

    -- it is dropped: the same are kept
    module _ (t : drops (type_of f.header) ≡ true) where
      pub kept_same : keep is_kept (acc ++ (placed at f ∷ [])) ≡ keep is_kept acc
      kept_same =
          keep_append is_kept acc (placed at f ∷ [])
          ∙ ap (λ (r : List Placed). keep is_kept acc ++ r) (keep_no is_kept (placed at f) [] (ap not t) ∙ keep_none is_kept)
          ∙ append-nil (keep is_kept acc)

      pub passed_drop : Passed unit (at + span_of f) n (acc ++ (placed at f ∷ []))
      passed_drop =
          record {
            inside = spans;
            few = omega (arith, w.few);
            all = all_next;
            stop = stop_next;
            counted = ap length kept_same ∙ w.counted;
          }

    -- it is kept: one more
    module _ (t : drops (type_of f.header) ≡ false) where
      pub kept_more : keep is_kept (acc ++ (placed at f ∷ [])) ≡ keep is_kept acc ++ (placed at f ∷ [])
      kept_more =
          keep_append is_kept acc (placed at f ∷ [])
          ∙ ap (λ (r : List Placed). keep is_kept acc ++ r) (keep_yes is_kept (placed at f) [] (ap not t) ∙ rw (keep_none is_kept))

      pub passed_keep : Passed unit (at + span_of f) (n + 1) (acc ++ (placed at f ∷ []))
      passed_keep =
          record {
            inside = spans;
            few = omega (arith, w.few);
            all = all_next;
            stop = stop_next;
            counted = ap length kept_more ∙ omega (arith, length-append (keep is_kept acc) (placed at f ∷ []), w.counted);
          }

      -- it stands among the kept OBUs of the unit after those that are passed
      pub kept_here : (rest : List Placed) × (kept_of unit ≡ keep is_kept acc ++ (placed at f ∷ rest))
      kept_here = (
        keep is_kept (scan_from (drop (span_of f) (drop at unit)) (at + span_of f)).items,
        ap (keep is_kept) (w.all ∙ ap (λ (s : Scan). acc ++ s.items) scan_next)
            ∙ keep_append is_kept acc _
            ∙ ap (λ (ps : List Placed). keep is_kept acc ++ ps) (keep_yes is_kept (placed at f) _ (ap not t)),
      )

      pub kept_beyond : n < length (kept_of unit)
      kept_beyond =
          let (rest, k) = kept_here in
          rw k (omega (arith, length-append (keep is_kept acc) (placed at f ∷ rest), w.counted))

  -- ---- nothing more is found, and why

  pub nothing_readable : {k : ℕ} → stopped k ≡ front_of (drop at unit) → at < length unit → scan_from (drop at unit) at ≡ record { items = []; stop = refused_by k at }
  nothing_readable {k} e h = scan_stopped (drop at unit) at k e (omega (arith, length-drop at unit))

  pub nothing_left : length unit ≤ at → scan_from (drop at unit) at ≡ record { items = []; stop = ended }
  unfolding stream_from
  nothing_left h = ap (λ (x : List ℕ). scan_from x at) (drop_of_length-le unit h)

  module _ {s : ScanEnd} (none : scan_from (drop at unit) at ≡ record { items = []; stop = s }) where
    pub all_passed : (scan_of unit).items ≡ acc
    all_passed = w.all ∙ ap (λ (x : Scan). acc ++ x.items) none ∙ append-nil acc

    pub stop_is : (scan_of unit).stop ≡ s
    stop_is = w.stop ∙ ap (λ (x : Scan). x.stop) none

    pub kept_passed : kept_of unit ≡ keep is_kept acc
    kept_passed = ap (keep is_kept) all_passed

    -- with space for those that are kept, the unit is listed
    pub listed_passed : {space : ℕ} → n ≤ space → length unit ≤ unit_limit → at_stop s (listed_of unit) ≡ listed space unit
    listed_passed {space} h u = sym (listed_enough unit space u (omega (arith, ap length kept_passed, w.counted)) ∙ ap (λ (x : ScanEnd). at_stop x (listed_of unit)) stop_is)
