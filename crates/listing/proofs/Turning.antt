-- A turn writes what it is told, and the stores are ready for the next. Assumes nothing.
use mathlib.Core.Path.{◌≡◌, refl, sym, ap, subst, ◌∙◌}
use Prim.Native.Nat.{ℕ, ◌≤◌}
use native.Mathlib.Omega.{arith}
use mathlib.Core.Bool.{true}
use mathlib.Core.List.{List, []}
use Rattle.std.specs.Prelude.{Ok}
use lib.ListN.{length, take}
use lib.Seq.{length-take-le}
use lib.Dec.{ltb}
use borrow.Author.Tests.{ltb-false}
use Rattle.base.specs.Lists.{front, Put}
use Rattle.base.proofs.Lists.{put_front}
use Rattle.base.proofs.Tests.{by_cond}
use Rattle.turns.specs.Text.{line_bytes}
use Rattle.turns.specs.Orders.{Told, asks, Turned, Came, arrival}
use Rattle.turns.specs.declared.Turn.{Turn}
use Rattle.turns.proofs.Orders.{came_most}
use Rattle.turns.proofs.Turning.{asked}
use Rattle.listing.specs.Input.{unit_store, Head, bad, states}
use Rattle.listing.specs.Steps.{head_told, unit_told, row_told, told_by, told, unit_by, unit_next, Filled, ReadyBy, Ready, Lent, Printed, Writes}
use Rattle.listing.specs.declared.Wait.{Wait}
use Rattle.listing.specs.declared.Place.{Place}

-- a text put from the front on; and none
pub printed : {l l' : List ℕ} {n : ℕ} {text : List ℕ} → Put l l' 0 n text → length l ≡ line_bytes → n ≤ line_bytes → Printed text n l l'
printed p e h = let q = put_front p (omega arith) in record { count = q.0; stored = q.1; fits = h }

pub no_text : {l : List ℕ} → Printed [] 0 l l
no_text = record { count = refl; stored = refl; fits = omega arith }

module _ {t : Told Place} {r : Turn Place} {out out' : List ℕ} where
  -- bytes are written, or none, and bytes are asked for, or none
  pub wrote : (p : Place) (w : List ℕ) (n k : ℕ) → t ≡ asks p w k → r.place ≡ p → r.order ≡ record { more = true; write = n; say = 0; read = k }
      → Printed w n out out' → k ≤ unit_store → Writes t r out out'
  wrote p w n k e f g h i =
      record {
        turned = λ line. asked p w n k e f g h.count h.fits i;
        out_is = h.stored ∙ ap (λ (x : Told Place). front x.written out) (sym e);
      }

  -- the same turn, by the case that it is
  pub by_case : {u : Told Place} → t ≡ u → Writes u r out out' → Writes t r out out'
  by_case e w = subst (λ (x : Told Place). Writes x r out out') (sym e) w

  -- what is ready for the place told is ready for the place that the code has
  pub ready_told : (unit obus plan : List ℕ) → Writes t r out out' → Ready t.place unit obus plan → Ready r.place unit obus plan
  ready_told unit obus plan w h = subst (λ (p : Place). Ready p unit obus plan) (sym (w.turned []).0.place_is) h

-- ---- what came, and what is ready for it

module _ {p : Place} {c : Came} {input unit obus plan out line : List ℕ} (lent : Lent p c input unit obus plan out line) {n : ℕ} (e : c ≡ Ok n) where
  most : n ≤ unit_store
  most = came_most c n unit_store e lent.came_within

  pub came_is : n ≡ length (take n input)
  came_is = sym (length-take-le n input (omega (arith, most, lent.input_is)))

  pub came_few : length (take n input) ≤ unit_store
  came_few = omega (arith, most, came_is)

pub ready_at : (p : Place) (unit obus plan : List ℕ) {w : Wait} → p.wait ≡ w → Ready p unit obus plan → ReadyBy w p unit obus plan
ready_at p unit obus plan e h = subst (λ (w : Wait). ReadyBy w p unit obus plan) e h

-- ---- what the place told next asks of the stores

module _ (unit obus plan : List ℕ) (p : Place) where
  abbrev ReadyFor : Told Place → Type 0
  ReadyFor t = Ready t.place unit obus plan

  pub ready_head : (h : Head) → ReadyFor (head_told p h)
  ready_head bad = tt
  ready_head (states s) = tt

  pub ready_unit : (l : List ℕ) → length l ≤ unit_store → ReadyFor (unit_told p l)
  ready_unit l h = by_cond ReadyFor (ltb (length l) p.length) _ _ (λ t. tt) (λ t. omega (arith, ltb-false (length l) p.length t))

  pub ready_row : (k : ℕ) → Filled p unit obus plan → ReadyFor (row_told p k unit)
  ready_row k f =
      by_cond ReadyFor (ltb k p.packets) _ _
      (λ t. record { within = f.within; obus_are = f.obus_are; packets_are = f.packets_are; obus_is = f.obus_is; plan_is = f.plan_is })
      (λ t. tt)

-- the whole step, where n bytes were read and this was waited for
module _ (p : Place) (c : Came) (n : ℕ) (w : Wait) (input unit line obus' plan' : List ℕ) where
  pub stepped : {r : Turn Place} {out unit' out' : List ℕ} → c ≡ Ok n → p.wait ≡ w
      → Writes (told_by w p (take n input) unit) r out out' → unit' ≡ unit_by w p (take n input) unit → Ready r.place unit' obus' plan'
      → Turned (told p (arrival c input) unit) r.place r.order line line unit_store line_bytes
      × (out' ≡ front (told p (arrival c input) unit).written out)
      × (unit' ≡ unit_next p (arrival c input) unit)
      × Ready r.place unit' obus' plan'
  stepped {r} {out} {unit'} {out'} e f t u h =
      let l = take n input in
      let s : Writes (told_by p.wait p l unit) r out out' = subst (λ (x : Wait). Writes (told_by x p l unit) r out out') (sym f) t in
      rw e (s.turned line, s.out_is, u ∙ ap (λ (x : Wait). unit_by x p l unit) (sym f), h)
