-- A step gives the turn that is told, and leaves the stores ready for it. Assumes nothing.
use Rattle.std.proofs.Common.{◌≡◌, ℕ, ◌≤◌, List, take, sym, ap, ◌∙◌, arith, length-take, take-take}
use Rattle.std.specs.Prelude.{Ok}
use Rattle.base.specs.Lists.{front}
use Rattle.turns.specs.Orders.{Told, Turned, Came, arrival}
use Rattle.turns.specs.declared.Order.{Order}
use Rattle.turns.specs.declared.Turn.{Turn}
use Rattle.packing.specs.Pack.{unit_store}
use Rattle.packing.specs.Steps.{record_room, told_by, told, Ready, ReadyBy, ReadyAt, Still, Gives}
use Rattle.packing.specs.declared.unit.Progress.{Progress}
use Rattle.packing.specs.declared.Wait.{Wait}
use Rattle.packing.specs.declared.Wait.TheVariants as wait
use Rattle.packing.specs.declared.Place.{Place}

-- where the run then stands is this place
pub gives : {t : Told Place} {turn : Turn Place} {line line' : List ℕ} (p : Place) → turn.place ≡ p → Still p.wait turn.order
    → Turned t turn.place turn.order line line' unit_store record_room → Gives t turn line line'
gives p e h w = record { turned = w; still = rw e h }

-- by the case that it is
pub gives_as : {t u : Told Place} {turn : Turn Place} {line line' : List ℕ} → t ≡ u → Gives u turn line line' → Gives t turn line line'
gives_as e g = rw e g

-- ---- the stores

module _ (input obus plan : List ℕ) where
  pub ready_as : {p q : Place} → p ≡ q → ReadyAt q input obus plan → ReadyAt p input obus plan
  ready_as e r = rw e r

-- where packets are waited for
pub ready_at : (mtu : ℕ) (input obus plan : List ℕ) {w : Wait} {g : Progress} → w ≡ wait.Packets g → ReadyBy w mtu input obus plan → Ready mtu g (take g.unit input) obus plan
ready_at mtu input obus plan e r = rw e at r

-- where nothing was read into the input while packets are written
pub ready_still : (w : Wait) (o : Order) (mtu : ℕ) (input input' obus plan : List ℕ) → Still w o → (o.read ≡ 0 → input' ≡ input)
    → ReadyBy w mtu input obus plan → ReadyBy w mtu input' obus plan
ready_still wait.Version o mtu input input' obus plan s k r = tt
ready_still (wait.Head v) o mtu input input' obus plan s k r = tt
ready_still wait.Length o mtu input input' obus plan s k r = tt
ready_still (wait.Unit n) o mtu input input' obus plan s k r = r
ready_still (wait.Packets g) o mtu input input' obus plan s k r = rw (k s) r
ready_still wait.Nothing o mtu input input' obus plan s k r = tt

-- what stands first in a part of the input stands first in all of it
pub ready_wider : (w : Wait) (mtu n : ℕ) (input obus plan : List ℕ) → ReadyBy w mtu (take n input) obus plan → ReadyBy w mtu input obus plan
ready_wider wait.Version mtu n input obus plan r = tt
ready_wider (wait.Head v) mtu n input obus plan r = tt
ready_wider wait.Length mtu n input obus plan r = tt
ready_wider (wait.Unit s) mtu n input obus plan r = r
ready_wider (wait.Packets g) mtu n input obus plan r =
    let within : g.unit ≤ n = omega (arith, r.unit_is, length-take g.unit (take n input), length-take n input) in
    rw (take-take g.unit n input within) at r
ready_wider wait.Nothing mtu n input obus plan r = tt

-- ---- the whole step, where n bytes were read and this was waited for

pub stepped : (p : Place) (c : Came) (n : ℕ) (w : Wait) (input obus plan : List ℕ) (written : List ℕ) {turn : Turn Place} {line line' written' : List ℕ} → c ≡ Ok n → p.wait ≡ w
    → Gives (told_by w p (take n input) input) turn line line'
    → written' ≡ front (told_by w p (take n input) input).written written
    → ReadyAt turn.place input obus plan
    → Gives (told p (arrival c input) input) turn line line'
    × (written' ≡ front (told p (arrival c input) input).written written)
    × ReadyAt turn.place input obus plan
stepped p c n w input obus plan written e f g o r =
    let l = take n input in
    rw e (
      gives_as (ap (λ (x : Wait). told_by x p l input) f) g,
      o ∙ ap (λ (x : Wait). front (told_by x p l input).written written) (sym f),
      r,
    )
