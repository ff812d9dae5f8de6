-- A step gives the turn that is told. Assumes nothing.
use mathlib.Core.Path.{◌≡◌, refl, sym, ap, subst}
use Prim.Native.Nat.{ℕ, zero, suc, ◌-◌, ◌≤◌, ◌<◌}
use native.Mathlib.Omega.{arith}
use mathlib.Core.List.{List}
use lib.ListN.{take}
use lib.Dec.{ltb}
use borrow.Author.Tests.{lt-ltb, le-ltb, ltb-true, ltb-false}
use Rattle.base.proofs.Tests.{by_cond}
use Rattle.receiver.specs.Call.{Taken, After, leaves, answering}
use Rattle.receiver.specs.declared.Received.{Received}
use Rattle.turns.specs.Orders.{Told, Turned, Came, arrival}
use Rattle.turns.specs.declared.Turn.{Turn}
use Rattle.std.specs.Prelude.{Ok}
use Rattle.turns.specs.declared.Subject.TheVariants as subject
use Rattle.unpacking.specs.Unpack.{payload_bytes, output_bytes, Step}
use Rattle.unpacking.specs.Paper.{answered}
use Rattle.unpacking.specs.Steps.{broken_told, passed_told, at_once, away_told, left_told, payload_told, written_of, stepped_by, stepped, Possible, Gives, Comes}
use Rattle.unpacking.specs.declared.Wait.{Wait}
use Rattle.unpacking.specs.declared.Place.{Place}

-- where the run then stands is this place, which is possible
pub gives : {t : Told Place} {turn : Turn Place} {line line' : List ℕ} (p : Place) → turn.place ≡ p → Possible p
    → Turned t turn.place turn.order line line' payload_bytes output_bytes → Gives t turn line line'
gives p e h w = record { turned = w; possible = rw e h }

-- by the case that it is
pub gives_as : {t u : Told Place} {turn : Turn Place} {line line' : List ℕ} → t ≡ u → Gives u turn line line' → Gives t turn line line'
gives_as e g = rw e g

-- ---- the whole step

-- what came of a payload
pub comes : (x : After (Step Taken)) (p : Place) {s : Step Received} {turn : Turn Place} {line line' store out : List ℕ} → leaves s store out ≡ answering answered x
    → Gives (payload_told p x.answer) turn line line' → Comes (answering (payload_told p) x) turn line line' store out
comes x p e g = record { gives = g; store_is = ap (λ (y : After (Step Received)). y.store) e; out_is = ap (λ (y : After (Step Received)). y.output) e }

-- nothing but a payload changes store and output
pub stays : {t u : Told Place} {turn : Turn Place} {line line' store out : List ℕ} → t ≡ u → Gives u turn line line' → Comes (leaves t store out) turn line line' store out
stays e g = record { gives = gives_as e g; store_is = refl; out_is = refl }

-- record k - 1 was written before record k is read
pub written_before : (k : ℕ) → (k ≡ 0 → ⊥) → subject.Record (k - 1) ≡ written_of k
written_before zero h = absurd (h refl)
written_before (suc k) h = let e : suc k - 1 ≡ k = omega arith in ap subject.Record e

-- where n bytes were read and this was waited for
pub by_wait : (p : Place) {c : Came} {n : ℕ} {w : Wait} (input store out : List ℕ) {turn : Turn Place} {line line' store' out' : List ℕ} → c ≡ Ok n → p.wait ≡ w
    → Comes (stepped_by w p (take n input) store out) turn line line' store' out' → Comes (stepped p (arrival c input) store out) turn line line' store' out'
by_wait p {n = n} input store out {turn} {line} {line'} {store'} {out'} e f g =
    rw e (subst (λ (x : Wait). Comes (stepped_by x p (take n input) store out) turn line line' store' out') (sym f) g)

-- no more is read at once than the store holds
pub at_once_most : (left : ℕ) → at_once left ≤ payload_bytes
at_once_most left = by_cond (λ (n : ℕ). n ≤ payload_bytes) (ltb payload_bytes left) _ _ (λ t. omega arith) (λ t. ltb-false payload_bytes left t)

pub at_once_over : (left : ℕ) → payload_bytes < left → at_once left ≡ payload_bytes
at_once_over left h = rw (lt-ltb payload_bytes left h)

pub at_once_all : (left : ℕ) → left ≤ payload_bytes → at_once left ≡ left
at_once_all left h = rw (le-ltb payload_bytes left h)

pub at_once_less : (left : ℕ) → at_once left < left → payload_bytes < left
at_once_less left =
    by_cond (λ (n : ℕ). n < left → payload_bytes < left) (ltb payload_bytes left) _ _ (λ t h. ltb-true payload_bytes left t) (λ t h. absurd (omega arith))

-- what is told after some of it
module _ (p : Place) (left got : ℕ) where
  pub left_cut : got < at_once left → left_told p left got ≡ broken_told p 22
  left_cut h = rw (lt-ltb got (at_once left) h)

  pub left_more : payload_bytes < left → payload_bytes ≤ got → left_told p left got ≡ away_told p (left - payload_bytes)
  left_more h k = rw (le-ltb got (at_once left) (omega (arith, at_once_over left h)), lt-ltb payload_bytes left h)

  pub left_done : left ≤ payload_bytes → left ≤ got → left_told p left got ≡ passed_told p 13
  left_done h k = rw (le-ltb payload_bytes left h, le-ltb got left k)
