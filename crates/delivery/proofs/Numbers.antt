-- Numbers modulo 65,536 decide as places in the run do, for arrivals that are near (L7, V2 to V5). Assumes nothing.
use mathlib.Core.Path.{◌≡◌, refl, sym, ◌∙◌}
use Prim.Native.Nat.{ℕ, suc, ◌+◌, ◌-◌, ◌≤◌, ◌<◌}
use native.Mathlib.Omega.{arith}
use mathlib.Core.List.{List}
use mathlib.Core.Bool.{Bool, true, false, ◌&&◌}
use lib.Dec.{leb, eqb}
use borrow.Author.Tests.{leb-true, le-leb, lt-leb, eqb-true, eqb-false, eq-eqb, ne_eqb}
use Rattle.base.proofs.Tests.{split_on}
use Rattle.receiver.specs.Joining.{Held, holding, distance, furthest_ahead, is_ahead, is_in_step, ahead, follows}
use Rattle.delivery.specs.Arrivals.{number, furthest_behind}
use Rattle.delivery.specs.Calls.{Run, packet_at}

-- what is held after packet m, with the open fragment o
abbrev pub after : Run → ℕ → List ℕ → Held
after run m o = holding (packet_at run m).label o

-- packet m is the furthest one taken, packet a arrives
module _ (run : Run) (m a : ℕ) (o : List ℕ) where
  abbrev steps : ℕ
  steps = distance (number run.first m) (number run.first a)

  forward : m < a → a ≤ m + furthest_ahead → steps ≡ a - m
  forward h l = omega arith

  behind : a ≤ m → m ≤ a + furthest_behind → 1 ≤ steps → furthest_ahead < steps
  behind h l i = omega arith

  pub not_ahead : a ≤ m → m ≤ a + furthest_behind → ahead (after run m o) (packet_at run a).label ≡ false
  unfolding is_ahead
  not_ahead h l = go (leb 1 steps) refl
    where
      go : (b : Bool) → leb 1 steps ≡ b → b && leb steps furthest_ahead ≡ false
      go true e = lt-leb steps furthest_ahead (behind h l (leb-true 1 _ e))
      go false e = refl

  pub is_ahead_lem : m < a → a ≤ m + furthest_ahead → ahead (after run m o) (packet_at run a).label ≡ true
  unfolding is_ahead
  is_ahead_lem h l = rw (forward h l, le-leb 1 (a - m) (omega arith), le-leb (a - m) furthest_ahead (omega arith))

  pub is_in_step_lem : m < a → a ≤ m + furthest_ahead → follows true (packet_at run m).label (packet_at run a).label ≡ eqb a (suc m)
  unfolding follows is_in_step
  is_in_step_lem h l = rw (forward h l) (same (a - m) 1 a (suc m) (λ q. omega arith) (λ q. omega arith))
    where
      same : (x y c d : ℕ) → (x ≡ y → c ≡ d) → (c ≡ d → x ≡ y) → eqb x y ≡ eqb c d
      same x y c d f g = split_on (eqb c d) (λ t. eq-eqb x y (g (eqb-true c d t)) ∙ sym t) (λ t. ne_eqb x y (λ q. eqb-false c d t (f q)) ∙ sym t)
