-- The records of a unit's kept OBUs, stored in a lent list: what the loop keeps. Assumes nothing.
use mathlib.Core.Path.{◌≡◌, refl, sym, ap, ◌∙◌}
use Prim.Native.Nat.{ℕ, ◌+◌, ◌*◌, ◌≤◌, ◌<◌}
use native.Mathlib.Omega.{arith}
use mathlib.Core.List.{List, [], ◌∷◌, ◌++◌, map-append, flat_map}
use mathlib.Core.Bool.{true, false}
use lib.ListN.{length, drop, length-map}
use lib.Seq.{sets}
use Rattle.base.specs.Lists.{front, keep}
use Rattle.base.proofs.Lists.{front_sets}
use Rattle.obu.specs.Header.{type_of, drops}
use Rattle.obu.specs.Front.{Front, span_of, found, stopped, front_of}
use Rattle.obu.specs.Records.{obu_numbers, numbers_of, flat}
use Rattle.obu.specs.Unit.{Placed, placed, ended, refused_by, scan_of, is_kept, kept_of, obus_of}
use Rattle.obu.specs.declared.Obu.{Obu}
use Rattle.obu.proofs.Records.{flat_length, flat_snoc}
use Rattle.obu.proofs.Scans.{records_of, Passed, passed_first, passed_drop, passed_keep, kept_same, kept_more, kept_beyond, nothing_readable, nothing_left, stop_is, kept_passed}

-- ---- what the loop keeps: n OBUs are kept, and their records stand first in the list

pub record Stored (unit before l : List ℕ) (at n : ℕ) : Type 0 where
  pub acc : List Placed
  pub walk : Passed unit at n acc
  pub same : length l ≡ length before
  pub wrote : l ≡ front (flat (records_of (keep is_kept acc))) before

pub stored_first : {unit before : List ℕ} → Stored unit before before 0 0
unfolding keep flat_map
stored_first = record { acc = []; walk = passed_first; same = refl; wrote = refl }

-- one record more is stored
more_wrote : {l : List ℕ} (before : List ℕ) (ps : List Placed) (p : Placed) {n : ℕ} → length ps ≡ n → (n + 1) * obu_numbers ≤ length before
    → l ≡ front (flat (records_of ps)) before → sets l (n * obu_numbers) (numbers_of p.obu) ≡ front (flat (records_of (ps ++ (p ∷ [])))) before
more_wrote {l} before ps p {n} c room w =
    let k : length (flat (records_of ps)) ≡ n * obu_numbers = flat_length (records_of ps) ∙ ap (λ (i : ℕ). i * obu_numbers) (length-map ps (λ (q : Placed). q.obu) ∙ c) in
    ap (λ (x : List ℕ). sets x (n * obu_numbers) (numbers_of p.obu)) w
    ∙ front_sets (flat (records_of ps)) (numbers_of p.obu) before (n * obu_numbers) k (omega arith)
    ∙ ap (λ (x : List ℕ). front x before) (sym (flat_snoc (records_of ps) p.obu) ∙ ap flat (sym (map-append (λ (q : Placed). q.obu) ps (p ∷ []))))

module _ {unit before l : List ℕ} {at n : ℕ} (w : Stored unit before l at n) where
  -- ---- an OBU was found

  module _ {f : Front} (seen : found f ≡ front_of (drop at unit)) (left : at < length unit) where
    pub stored_drop : drops (type_of f.header) ≡ true → Stored unit before l (at + span_of f) n
    stored_drop t =
        record {
          acc = w.acc ++ (placed at f ∷ []);
          walk = passed_drop w.walk seen left t;
          same = w.same;
          wrote = w.wrote ∙ ap (λ (ps : List Placed). front (flat (records_of ps)) before) (sym (kept_same w.walk seen left t));
        }

    -- there is space for all, and so for this one
    module _ (t : drops (type_of f.header) ≡ false) (space : length (kept_of unit) * obu_numbers ≤ length before) where
      pub stored_room : (n + 1) * obu_numbers ≤ length before
      stored_room = omega (arith, kept_beyond w.walk seen left t)

      pub stored_keep : {o : Obu} → o ≡ (placed at f).obu → {l' : List ℕ} → length l' ≡ length l → l' ≡ sets l (n * obu_numbers) (numbers_of o)
          → Stored unit before l' (at + span_of f) (n + 1)
      stored_keep made same e =
          record {
            acc = w.acc ++ (placed at f ∷ []);
            walk = passed_keep w.walk seen left t;
            same = same ∙ w.same;
            wrote =
                e
                ∙ ap (λ (o : Obu). sets l (n * obu_numbers) (numbers_of o)) made
                ∙ more_wrote before (keep is_kept w.acc) (placed at f) w.walk.counted stored_room w.wrote
                ∙ ap (λ (ps : List Placed). front (flat (records_of ps)) before) (sym (kept_more w.walk seen left t));
          }

  -- ---- nothing more is found

  -- in a unit that is read to its end no OBU is refused
  pub stored_never : {k : ℕ} → (scan_of unit).stop ≡ ended → stopped k ≡ front_of (drop at unit) → at < length unit → ⊥
  stored_never {k} e s h =
      let c : ended ≡ refused_by k at = sym e ∙ stop_is w.walk (nothing_readable w.walk s h) in
      let z : ◌≡◌ {A = ℕ} 0 1 = cc in
      omega arith

  pub stored_end : length unit ≤ at → l ≡ front (flat (obus_of unit)) before
  stored_end h = w.wrote ∙ ap (λ (ps : List Placed). front (flat (records_of ps)) before) (sym (kept_passed w.walk (nothing_left w.walk h)))
