-- N by one OBU after the other is N as it is defined. Assumes nothing.
--     seen-outside, seen-new    after all OBUs: one was outside the unit; if none was, N
--     after-settled             once it is settled, OBUs inside the unit change nothing
--     new-back, outside-back    records written as numbers and read back give the same
use mathlib.Core.Path.{◌≡◌, refl, sym, ap, ◌∙◌}
use Prim.Native.Nat.{ℕ, zero, suc, ◌+◌, ◌/◌, ◌%◌, ◌≤◌, ◌<◌}
use native.Mathlib.Omega.{arith}
use mathlib.Core.List.{List, [], ◌∷◌, ◌++◌, map, append-nil}
use mathlib.Core.Bool.{Bool, true, false, true≢false, cond, ◌&&◌, ◌||◌}
use lib.ListN.{length, get_or, drop, drop_of_length-le}
use lib.Seq.{drop-cons}
use lib.Dec.{ltb, eqb}
use borrow.Author.Tests.{eqb-true, eqb-false, ne_eqb, lt-ltb, le-ltb}
use Rattle.base.specs.Lists.{keep}
use Rattle.base.proofs.Tests.{by_cond, split_on, or_second}
use Rattle.obu.specs.Header.{type_of, extension_bit}
use Rattle.obu.specs.Records.{no_obu}
use Rattle.obu.specs.declared.Obu.{Obu}
use Rattle.obu.proofs.Records.{read_back, low_type}
use Rattle.aggregation.specs.New.{is_sequence_header, is_frame_header, before_frame, from_frame, last_of, first_byte, reduced_still_picture, shown_key, temporal_id, begins, new_by, new_sequence}
use Rattle.aggregation.specs.Header.{outside, any_outside}
use Rattle.aggregation.specs.Inside.{settled, is_new, is_outside, opens, seen_sequence, seen_frame, seen_next, seen_after}
use Rattle.aggregation.specs.declared.Seen.{Seen}
use Rattle.aggregation.specs.declared.Seen.TheVariants.{Nothing, Plain, Reduced, Clear, New, Outside}

or_first : (a b : Bool) → a || b ≡ false → a ≡ false
or_first true b e = absurd (true≢false e)
or_first false b e = refl

-- the test of `seen_frame`
abbrev taken : List ℕ → Seen → Obu → Bool
taken unit v f = opens unit v f && (eqb (temporal_id f) 0 && ltb 0 f.length)

-- ---- one was outside

sequence_inside : (unit : List ℕ) (s : Obu) → is_outside (seen_sequence unit s) ≡ false
sequence_inside unit s =
    by_cond (λ (v : Seen). is_outside v ≡ false) (eqb s.length 0) Nothing _ (λ t. refl)
    (λ t. by_cond (λ (v : Seen). is_outside v ≡ false) (eqb (reduced_still_picture (first_byte unit s)) 1) Reduced Plain (λ u. refl) (λ u. refl))

frame_inside : (unit : List ℕ) (v : Seen) (f : Obu) → is_outside (seen_frame unit v f) ≡ false
frame_inside unit v f = by_cond (λ (w : Seen). is_outside w ≡ false) (taken unit v f) New Clear (λ t. refl) (λ t. refl)

unsettled_inside : (v : Seen) → settled v ≡ false → is_outside v ≡ false
unsettled_inside Nothing e = refl
unsettled_inside Plain e = refl
unsettled_inside Reduced e = refl
unsettled_inside Clear e = refl
unsettled_inside New e = refl
unsettled_inside Outside e = absurd (true≢false e)

next_outside : (unit : List ℕ) (v : Seen) (o : Obu) → outside unit o ≡ false → is_outside (seen_next unit v o) ≡ is_outside v
next_outside unit v o near =
    rw near
    (by_cond (λ (w : Seen). is_outside w ≡ is_outside v) (settled v) v _ (λ t. refl)
    (λ t.
    let u : is_outside v ≡ false = unsettled_inside v t in
    by_cond (λ (w : Seen). is_outside w ≡ is_outside v) (is_sequence_header o) (seen_sequence unit o) _ (λ s. sequence_inside unit o ∙ sym u)
    (λ s. by_cond (λ (w : Seen). is_outside w ≡ is_outside v) (is_frame_header o) (seen_frame unit v o) v (λ f. frame_inside unit v o ∙ sym u) (λ f. refl))))

after_outside : (unit : List ℕ) (v : Seen) (os : List Obu) → is_outside (seen_after unit v os) ≡ is_outside v || any_outside unit os
unfolding seen_after any_outside
after_outside unit v [] = or_none (is_outside v)
  where
    or_none : (t : Bool) → t ≡ t || false
    or_none true = refl
    or_none false = refl
after_outside unit v (o ∷ os) =
    split_on (outside unit o)
    (λ t. rw t (after_outside unit Outside os ∙ sym (or_true (is_outside v))))
    (λ t. after_outside unit (seen_next unit v o) os ∙ ap (λ (b : Bool). b || any_outside unit os) (next_outside unit v o t) ∙ ap (λ (b : Bool). is_outside v || (b || any_outside unit os)) (sym t))
  where
    or_true : (t : Bool) → t || true ≡ true
    or_true true = refl
    or_true false = refl

pub seen_outside : (unit : List ℕ) (os : List Obu) → is_outside (seen_after unit Nothing os) ≡ any_outside unit os
seen_outside unit os = after_outside unit Nothing os

-- ---- N

pub after_settled : (unit : List ℕ) (v : Seen) (os : List Obu) → any_outside unit os ≡ false → settled v ≡ true → seen_after unit v os ≡ v
unfolding seen_after any_outside
after_settled unit v [] e t = refl
after_settled unit v (o ∷ os) e t =
    rw (or_first (outside unit o) (any_outside unit os) e, t) (after_settled unit v os (or_second (outside unit o) (any_outside unit os) e) t)

-- v is what is left of the sequence headers ss, no frame header having come
record Stands (unit : List ℕ) (v : Seen) (ss : List Obu) : Type 0 where
  unsettled : settled v ≡ false
  clear : is_new v ≡ false
  frame : (f : Obu) (fs : List Obu) → is_new (seen_frame unit v f) ≡ new_by unit ss (f ∷ fs)

stands_nothing : (unit : List ℕ) → Stands unit Nothing []
stands_nothing unit = record { unsettled = refl; clear = refl; frame = λ f fs. refl }

is_new_lem : (t : Bool) → is_new (cond t New Clear) ≡ t
is_new_lem true = refl
is_new_lem false = refl

some_length : (n : ℕ) → (n ≡ 0 → ⊥) → ltb 0 n ≡ true
some_length n h = lt-ltb 0 n (omega arith)

no_length : (n : ℕ) → n ≡ 0 → ltb 0 n ≡ false
no_length n h = le-ltb 0 n (omega arith)

none_and : (a b c : Bool) → a && (b && (false && c)) ≡ false
none_and true true c = refl
none_and true false c = refl
none_and false b c = refl

stands_sequence : (unit : List ℕ) (s : Obu) → Stands unit (seen_sequence unit s) (s ∷ [])
stands_sequence unit s =
    split_on (eqb s.length 0)
    (λ t.
    rw t
    record {
      unsettled = refl;
      clear = refl;
      frame = λ f fs. sym (rw (no_length s.length (eqb-true _ _ t)) (none_and (eqb (reduced_still_picture (first_byte unit s)) 1 || shown_key (first_byte unit f)) (eqb (temporal_id f) 0) (ltb 0 f.length)));
    })
    (λ t.
    split_on (eqb (reduced_still_picture (first_byte unit s)) 1)
    (λ u.
    rw (t, u)
    record {
      unsettled = refl;
      clear = refl;
      frame = λ f fs. is_new_lem (taken unit Reduced f) ∙ sym (rw (u, some_length s.length (eqb-false _ _ t)));
    })
    (λ u.
    rw (t, u)
    record {
      unsettled = refl;
      clear = refl;
      frame = λ f fs. is_new_lem (taken unit Plain f) ∙ sym (rw (u, some_length s.length (eqb-false _ _ t)));
    }))

-- of the sequence headers the last alone counts
last_counts : (s : Obu) (ss : List Obu) (o : Obu) (ks : List Obu) → last_of s (ss ++ (o ∷ ks)) ≡ last_of o ks
last_counts s [] o ks = refl
last_counts s (t ∷ ts) o ks = last_counts t ts o ks

new_last : (unit : List ℕ) (ss : List Obu) (o : Obu) (ks fs : List Obu) → new_by unit (ss ++ (o ∷ ks)) fs ≡ new_by unit (o ∷ ks) fs
new_last unit [] o ks fs = refl
new_last unit (s ∷ ss) o ks [] = refl
new_last unit (s ∷ ss) o ks (f ∷ fs) = ap (λ (x : Obu). begins unit x f) (last_counts s ss o ks)

new_none : (unit : List ℕ) (ss : List Obu) → new_by unit ss [] ≡ false
new_none unit [] = refl
new_none unit (s ∷ ss) = refl

sequence_no_frame : (o : Obu) → is_sequence_header o ≡ true → is_frame_header o ≡ false
sequence_no_frame o e =
    let t : type_of o.header ≡ 1 = eqb-true _ _ e in
    rw (ne_eqb (type_of o.header) 3 (λ h. omega arith), ne_eqb (type_of o.header) 6 (λ h. omega arith))

after_new : (unit : List ℕ) (os : List Obu) (v : Seen) (ss : List Obu) → Stands unit v ss → any_outside unit os ≡ false
    → is_new (seen_after unit v os) ≡ new_by unit (ss ++ keep is_sequence_header (before_frame os)) (from_frame os)
unfolding seen_after any_outside keep before_frame from_frame
after_new unit [] v ss st e = st.clear ∙ sym (new_none unit (ss ++ []))
after_new unit (o ∷ os) v ss st e =
    let near : outside unit o ≡ false = or_first (outside unit o) (any_outside unit os) e in
    let rest : any_outside unit os ≡ false = or_second (outside unit o) (any_outside unit os) e in
    split_on (is_sequence_header o)
    (λ t.
    rw (near, st.unsettled, t, sequence_no_frame o t, t)
    (after_new unit os (seen_sequence unit o) (o ∷ []) (stands_sequence unit o) rest
    ∙ sym (new_last unit ss o (keep is_sequence_header (before_frame os)) (from_frame os))))
    (λ t.
    split_on (is_frame_header o)
    (λ f.
    rw (near, st.unsettled, t, f, append-nil ss)
    (ap is_new (after_settled unit (seen_frame unit v o) os rest (frame_settled unit v o)) ∙ st.frame o os))
    (λ f. rw (near, st.unsettled, t, f, t) (after_new unit os v ss st rest)))
  where
    frame_settled : (unit : List ℕ) (v : Seen) (f : Obu) → settled (seen_frame unit v f) ≡ true
    frame_settled unit v f = by_cond (λ (w : Seen). settled w ≡ true) (taken unit v f) New Clear (λ t. refl) (λ t. refl)

pub seen_new : (unit : List ℕ) (os : List Obu) → any_outside unit os ≡ false → is_new (seen_after unit Nothing os) ≡ new_sequence unit os
seen_new unit os e = after_new unit os Nothing [] (stands_nothing unit) e

-- nothing that is not settled says that N is set
pub unsettled_clear : (v : Seen) → settled v ≡ false → is_new v ≡ false
unsettled_clear Nothing e = refl
unsettled_clear Plain e = refl
unsettled_clear Reduced e = refl
unsettled_clear Clear e = refl
unsettled_clear New e = absurd (true≢false e)
unsettled_clear Outside e = refl

-- ---- from OBU i on

pub outside_drop : (unit : List ℕ) (os : List Obu) (i : ℕ) → any_outside unit os ≡ false → any_outside unit (drop i os) ≡ false
unfolding any_outside
outside_drop unit os zero e = e
outside_drop unit [] (suc i) e = e
outside_drop unit (o ∷ os) (suc i) e = outside_drop unit os i (or_second (outside unit o) (any_outside unit os) e)

-- of none left
pub seen_none : (unit : List ℕ) (v : Seen) (os : List Obu) (i : ℕ) → length os ≤ i → seen_after unit v (drop i os) ≡ v
unfolding seen_after
seen_none unit v os i h = ap (seen_after unit v) (drop_of_length-le os h)

module _ (unit : List ℕ) (os : List Obu) (i : ℕ) (there : i < length os) where
  pub inside_at : any_outside unit os ≡ false → outside unit (get_or os i no_obu) ≡ false
  unfolding any_outside
  inside_at e =
      or_first (outside unit (get_or os i no_obu)) (any_outside unit (drop (suc i) os))
      (sym (ap (any_outside unit) (drop-cons os i no_obu there)) ∙ outside_drop unit os i e)

  pub seen_step : (v : Seen) → seen_after unit v (drop i os) ≡ seen_after unit (seen_next unit v (get_or os i no_obu)) (drop (i + 1) os)
  unfolding seen_after
  seen_step v =
      let next : suc i ≡ i + 1 = omega arith in
      ap (seen_after unit v) (drop-cons os i no_obu there) ∙ ap (λ (j : ℕ). seen_after unit (seen_next unit v (get_or os i no_obu)) (drop j os)) next

-- ---- of records that are read back of their numbers (`read_back`) N and the test of the unit are the same

sequence_back : (o : Obu) → is_sequence_header (read_back o) ≡ is_sequence_header o
sequence_back o = rw (low_type o.header)

frame_back : (o : Obu) → is_frame_header (read_back o) ≡ is_frame_header o
frame_back o = rw (low_type o.header)

temporal_back : (o : Obu) → temporal_id (read_back o) ≡ temporal_id o
temporal_back o =
    let e : extension_bit (o.header % 256) ≡ extension_bit o.header = omega arith in
    let t : o.extension % 256 / 32 % 8 ≡ o.extension / 32 % 8 = omega arith in
    rw (e, t)

before_back : (os : List Obu) → before_frame (map read_back os) ≡ map read_back (before_frame os)
unfolding before_frame
before_back [] = refl
before_back (o ∷ os) =
    rw (frame_back o) (split_on (is_frame_header o) (λ t. rw t) (λ t. rw t (ap (λ (l : List Obu). read_back o ∷ l) (before_back os))))

from_back : (os : List Obu) → from_frame (map read_back os) ≡ map read_back (from_frame os)
unfolding from_frame
from_back [] = refl
from_back (o ∷ os) = rw (frame_back o) (split_on (is_frame_header o) (λ t. rw t) (λ t. rw t (from_back os)))

keep_back : (os : List Obu) → keep is_sequence_header (map read_back os) ≡ map read_back (keep is_sequence_header os)
unfolding keep
keep_back [] = refl
keep_back (o ∷ os) =
    rw (sequence_back o) (split_on (is_sequence_header o) (λ t. rw t (ap (λ (l : List Obu). read_back o ∷ l) (keep_back os))) (λ t. rw t (keep_back os)))

last_back : (s : Obu) (ss : List Obu) → last_of (read_back s) (map read_back ss) ≡ read_back (last_of s ss)
last_back s [] = refl
last_back s (t ∷ ts) = last_back t ts

by_back : (unit : List ℕ) (ss fs : List Obu) → new_by unit (map read_back ss) (map read_back fs) ≡ new_by unit ss fs
by_back unit [] fs = refl
by_back unit (s ∷ ss) [] = refl
by_back unit (s ∷ ss) (f ∷ fs) = rw (last_back s ss, temporal_back f)

pub new_back : (unit : List ℕ) (os : List Obu) → new_sequence unit (map read_back os) ≡ new_sequence unit os
new_back unit os =
    rw (before_back os, from_back os, keep_back (before_frame os)) (by_back unit (keep is_sequence_header (before_frame os)) (from_frame os))

pub outside_back : (unit : List ℕ) (os : List Obu) → any_outside unit (map read_back os) ≡ any_outside unit os
unfolding any_outside
outside_back unit [] = refl
outside_back unit (o ∷ os) = ap (λ (b : Bool). outside unit o || b) (outside_back unit os)
