-- Which refusals stop the reading of a unit: none is over 7 (R3 to R7). Assumes nothing.
use Prim.Native.Nat.{ℕ, zero, suc, ◌-◌, ◌≤◌}
use native.Mathlib.Omega.{arith}
use mathlib.Core.List.{List, [], ◌∷◌}
use lib.ListN.{length, drop}
use lib.Dec.{ltb, leb, eqb}
use Rattle.base.specs.Streams.{chained}
use Rattle.base.proofs.Tests.{by_cond}
use Rattle.base.proofs.Streams.{After, stream_each}
use Rattle.leb128.specs.Field.{Field, sized, unreadable, more, field_in, capped, size_field, longest_field, largest_value}
use Rattle.obu.specs.Header.{extension_bit, size_bit}
use Rattle.obu.specs.Front.{Seen, found, stopped, sized_by, headed, extended, front_of}
use Rattle.obu.specs.Unit.{ScanEnd, ended, refused_by, Scan, obu_by, obu_next, scan_from, scan_of}
use Rattle.obu.proofs.Fronts.{obu_some}

-- ---- a size field

abbrev LowField : Field → Type 0
LowField (sized v n) = Unit {0}
LowField (unreadable k) = k ≤ 7

more_low : (b : ℕ) (f : Field) → LowField f → LowField (more b f)
more_low b (sized v n) h = tt
more_low b (unreadable k) h = h

field_low : (n : ℕ) (l : List ℕ) → LowField (field_in n l)
unfolding field_in
field_low zero l = omega arith
field_low (suc n) [] = omega arith
field_low (suc n) (b ∷ l) = by_cond LowField (ltb b 128) _ _ (λ t. tt) (λ t. more_low b (field_in n l) (field_low n l))

capped_low : (f : Field) → LowField f → LowField (capped f)
capped_low (sized v n) h = by_cond LowField (leb v largest_value) _ _ (λ t. tt) (λ t. omega arith)
capped_low (unreadable k) h = h

-- ---- the OBU at the front of some bytes

abbrev LowSeen : Seen → Type 0
LowSeen (found f) = Unit {0}
LowSeen (stopped n) = n ≤ 7

sized_low : (h e left : ℕ) (f : Field) → LowField f → LowSeen (sized_by h e left f)
sized_low h e left (sized v n) w = by_cond LowSeen (leb v (left - n)) _ _ (λ t. tt) (λ t. omega arith)
sized_low h e left (unreadable k) w = w

headed_low : (h e : ℕ) (l : List ℕ) → LowSeen (headed h e l)
unfolding headed
headed_low h e l =
    by_cond LowSeen (eqb (size_bit h) 1) _ _
    (λ s.
    by_cond LowSeen (eqb (length l) 0) _ _
    (λ t. omega arith)
    (λ t. sized_low h e (length l) (size_field l) (capped_low (field_in longest_field l) (field_low longest_field l))))
    (λ s. tt)

extended_low : (h : ℕ) (l : List ℕ) → LowSeen (extended h l)
extended_low h [] = omega arith
extended_low h (e ∷ l) = headed_low h e l

front_low : (l : List ℕ) → LowSeen (front_of l)
unfolding front_of
front_low [] = omega arith
front_low (h ∷ l) = by_cond LowSeen (eqb (extension_bit h) 1) _ _ (λ t. extended_low h l) (λ t. headed_low h 0 l)

-- ---- a unit

abbrev pub LowEnd : ScanEnd → Type 0
LowEnd ended = Unit {0}
LowEnd (refused_by k at) = k ≤ 7

abbrev LowScan : List ℕ → ℕ → Scan → Type 0
LowScan l at s = LowEnd s.stop

low_next : (at : ℕ) (l : List ℕ) (x : Seen) → LowSeen x → After LowScan scan_from l (obu_by at x)
    → LowScan l at (chained (obu_by at x) (λ n t. scan_from (drop n l) t))
low_next at l (stopped n) s r = s
low_next at l (found f) s r = r

pub scan_low : (unit : List ℕ) → LowEnd (scan_of unit).stop
scan_low unit =
    stream_each obu_next ended obu_some LowScan (λ t. tt) (λ at l h r. low_next at l (front_of l) (front_low l) r) unit 0
