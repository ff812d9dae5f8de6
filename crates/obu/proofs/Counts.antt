-- The kept OBUs and the padded size fields of a unit, counted: what the loop keeps, and what it answers. Assumes nothing.
use mathlib.Core.Path.{◌≡◌, refl, sym, ap, ap₂, ◌∙◌}
use Prim.Native.Nat.{ℕ, ◌+◌, ◌≤◌, ◌<◌}
use native.Mathlib.Omega.{arith}
use mathlib.Core.List.{List, [], ◌∷◌, ◌++◌, map, map-append}
use mathlib.Core.Bool.{Bool, true, false, cond}
use lib.ListN.{length, get_or, drop, length-append, length-map}
use lib.Seq.{get_or_at}
use Rattle.std.specs.Int.{from_bool}
use Rattle.base.specs.Answers.{given, refused}
use Rattle.base.specs.Lists.{keep}
use Rattle.base.proofs.Lists.{keep_append}
use Rattle.obu.specs.Header.{type_of, drops}
use Rattle.obu.specs.Front.{Front, span_of, found, stopped, front_of}
use Rattle.obu.specs.Unit.{unit_limit, Placed, placed, is_kept, kept_of, has_padded, listed}
use Rattle.obu.proofs.Scans.{listed_full, Passed, passed_first, passed_drop, passed_keep, kept_here, nothing_readable, nothing_left, all_passed, kept_passed, listed_passed}

-- ---- what the loop keeps: n OBUs are kept, there is space for them, and of all that are passed so many are padded

pub record Counted (unit : List ℕ) (space at n padded : ℕ) : Type 0 where
  pub acc : List Placed
  pub walk : Passed unit at n acc
  pub fits : n ≤ space
  pub fewer : padded ≤ at
  pub padded_is : length (keep has_padded acc) ≡ padded

pub counted_first : {unit : List ℕ} {space : ℕ} → Counted unit space 0 0 0
unfolding keep
counted_first =
    record {
      acc = [];
      walk = passed_first;
      fits = omega arith;
      fewer = omega arith;
      padded_is = refl;
    }

one_at_most : (t : Bool) → from_bool t ≤ 1
one_at_most true = omega arith
one_at_most false = omega arith

-- of one OBU more a test keeps one more, or none
one_more : (test : Placed → Bool) (ps : List Placed) (p : Placed) → length (keep test (ps ++ (p ∷ []))) ≡ length (keep test ps) + from_bool (test p)
unfolding keep
one_more test ps p = rw (keep_append test ps (p ∷ []), length-append) (ap (λ (m : ℕ). length (keep test ps) + m) (go (test p)))
  where
    go : (t : Bool) → length (cond t (p ∷ []) []) ≡ from_bool t
    go true = refl
    go false = refl

module _ {unit : List ℕ} {space at n padded : ℕ} (w : Counted unit space at n padded) where
  -- ---- an OBU was found

  module _ {f : Front} (seen : found f ≡ front_of (drop at unit)) (left : at < length unit) where
    -- whether its size field is padded was counted
    module _ {more : ℕ} (counts : more ≡ from_bool (has_padded (placed at f))) where
      padded_next : length (keep has_padded (w.acc ++ (placed at f ∷ []))) ≡ padded + more
      padded_next = rw (one_more has_padded w.acc (placed at f), w.padded_is, counts)

      -- no more than bytes
      pub padded_few : padded + more ≤ at + span_of f
      padded_few = omega (arith, w.fewer, one_at_most (has_padded (placed at f)))

      pub counted_drop : drops (type_of f.header) ≡ true → Counted unit space (at + span_of f) n (padded + more)
      counted_drop t =
          record {
            acc = w.acc ++ (placed at f ∷ []);
            walk = passed_drop w.walk seen left t;
            fits = w.fits;
            fewer = padded_few;
            padded_is = padded_next;
          }

      pub counted_keep : drops (type_of f.header) ≡ false → (n ≡ space → ⊥) → Counted unit space (at + span_of f) (n + 1) (padded + more)
      counted_keep t h =
          record {
            acc = w.acc ++ (placed at f ∷ []);
            walk = passed_keep w.walk seen left t;
            fits = omega (arith, w.fits);
            fewer = padded_few;
            padded_is = padded_next;
          }

    pub counted_full : drops (type_of f.header) ≡ false → n ≡ space → length unit ≤ unit_limit → refused 8 at ≡ listed space unit
    counted_full t h u =
        let kept = keep is_kept w.acc in
        let (rest, k) = kept_here w.walk seen left t in
        let c : length kept ≡ space = omega (arith, w.walk.counted) in
        let long : space < length (kept_of unit) = rw k (omega (arith, length-append kept (placed at f ∷ rest))) in
        let a : get_or (map (λ (p : Placed). p.at) (kept_of unit)) space 0 ≡ at =
        rw (k, map-append (λ (p : Placed). p.at) kept (placed at f ∷ rest)) (get_or_at (map (λ (p : Placed). p.at) kept) at (map (λ (p : Placed). p.at) rest) 0 space (length-map kept (λ (p : Placed). p.at) ∙ c)) in
        ap (refused 8) (sym a) ∙ sym (listed_full unit space u long)

  -- ---- nothing more is found

  module _ (small : length unit ≤ unit_limit) where
    pub counted_stop : {k : ℕ} → stopped k ≡ front_of (drop at unit) → at < length unit → refused k at ≡ listed space unit
    counted_stop e h = listed_passed w.walk (nothing_readable w.walk e h) w.fits small

    pub counted_end : length unit ≤ at → given (record { obus = n; padded = padded }) ≡ listed space unit
    counted_end h =
        let none = nothing_left w.walk h in
        let c : length (kept_of unit) ≡ n = ap length (kept_passed w.walk none) ∙ w.walk.counted in
        let d = ap (λ (ps : List Placed). length (keep has_padded ps)) (all_passed w.walk none) ∙ w.padded_is in
        sym (ap₂ (λ (x y : ℕ). given (record { obus = x; padded = y })) c d) ∙ listed_passed w.walk none w.fits small
