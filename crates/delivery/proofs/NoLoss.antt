-- With no loss all OBUs come out (K6, K7). Assumes nothing.
use mathlib.Core.Path.{◌≡◌, refl, ◌∙◌}
use Prim.Native.Nat.{ℕ, zero, suc, ◌+◌, ◌≤◌, ◌<◌}
use native.Mathlib.Nat.{max-eq_right}
use native.Mathlib.Omega.{arith}
use mathlib.Core.List.{List, [], ◌∷◌, ◌++◌, map}
use mathlib.Core.Bool.{Bool, true, false}
use lib.ListN.{length}
use lib.Dec.{ltb, eqb}
use borrow.Author.Tests.{ltb-true, ltb-false, le-ltb, eq-eqb}
use Rattle.base.specs.Lists.{keep, All}
use Rattle.base.proofs.Lists.{all_snoc}
use Rattle.base.proofs.Tests.{by_cond}
use Rattle.lawful.specs.Train.{Piece, cut, inner, final, packets, packets_of_pieces, Portion, portion, obus, obus_of_pieces, whole}
use Rattle.lawful.proofs.Reading.{carried_count}
use Rattle.delivery.specs.Arrivals.{timely, NearTo, Near, in_order}
use Rattle.delivery.specs.Calls.{takes, taken_or_14}
use Rattle.delivery.specs.Delivery.{Delivered, NoLoss}
use Rattle.delivery.proofs.Timely.{advances, advances_first}
use Rattle.delivery.proofs.Theorem.{delivery}

-- ---- packets in order are timely and near, and each is further on than those before

order_timely : (n m k : ℕ) → m ≤ k → k < m + n → timely (in_order m n) k ≡ true
unfolding in_order timely
order_timely zero m k l h = absurd (omega arith)
order_timely (suc n) m k l h =
    by_cond (λ (b : Bool). b ≡ true) (ltb m k) (timely (in_order (suc m) n) k) (eqb m k)
    (λ t. order_timely n (suc m) k (ltb-true m k t) (omega arith))
    (λ t. let i : k ≤ m = ltb-false m k t in eq-eqb m k (omega arith))

order_near : (size n m : ℕ) → suc m + n ≤ size → NearTo size m (in_order (suc m) n)
unfolding in_order
order_near size zero m h = tt
order_near size (suc n) m h = (omega arith, omega arith, omega arith, rw (max-eq_right {n = m} {m = suc m} (omega arith)) (order_near size n (suc m) (omega arith)))

all_near : (size : ℕ) → Near size (in_order 0 size)
unfolding in_order
all_near zero = tt
all_near (suc n) = (omega arith, order_near (suc n) n 0 (omega arith))

order_advances : (n m : ℕ) → All (λ v. v ≡ takes) (map taken_or_14 (advances m (in_order m n)))
unfolding in_order advances
order_advances zero m = tt
order_advances (suc n) m = rw (le-ltb m m (omega arith)) (refl, order_advances n (suc m))

-- ---- each portion of an OBU is in a packet of the run

module _ (size : ℕ) where
  abbrev In : Portion → Type 0
  In p = p.packet < size

  -- a packet that has an element is one of the run
  one_more : (z : Bool) (es : List (List ℕ)) (b : List ℕ) (t : List Piece) → 0 < length (packets z (es ++ (b ∷ [])) t)
  unfolding packets
  one_more z [] b [] = omega arith
  one_more z (e ∷ es) b [] = omega arith
  one_more z es b (cut c ∷ t) = omega arith
  one_more z es b (inner c ∷ t) = one_more z (es ++ (b ∷ [])) c t
  one_more z es b (final c ∷ t) = omega arith

  portions_in : (t : List Piece) (z : Bool) (es : List (List ℕ)) (k : ℕ) (ps : List Portion) → k + length (packets z es t) ≤ size → All In ps → All (All In) (obus k ps t)
  unfolding packets obus
  portions_in [] z es k ps l h = tt
  portions_in (cut b ∷ t) z es k ps l h = portions_in t true [] (suc k) (ps ++ (portion k b ∷ [])) (omega arith) (all_snoc In ps (portion k b) h (omega arith))
  portions_in (inner b ∷ t) z es k ps l h = (all_snoc In ps (portion k b) h (omega (arith, one_more z es b t)), portions_in t z (es ++ (b ∷ [])) k [] l tt)
  portions_in (final b ∷ t) z es k ps l h = (all_snoc In ps (portion k b) h (omega arith), portions_in t false [] (suc k) [] (omega arith) tt)

  all_whole : (ps : List Portion) → All In ps → whole (timely (in_order 0 size)) ps ≡ true
  unfolding whole
  all_whole [] h = refl
  all_whole (p ∷ ps) h = rw (order_timely size 0 p.packet (omega arith) (omega (arith, h.0))) (all_whole ps h.1)

  all_kept : (l : List (List Portion)) → All (All In) l → keep (whole (timely (in_order 0 size))) l ≡ l
  unfolding keep
  all_kept [] h = refl
  all_kept (o ∷ l) h = rw (all_whole o h.0, all_kept l h.1)

pub no_loss : NoLoss
no_loss t sent size mtu store arrivals l e sp =
    let n : ℕ = length sent.payloads in
    let d : Delivered t sent store arrivals = delivery t sent size mtu store arrivals l (rw e (all_near n)) sp in
    let i : All (All (In n)) (obus_of_pieces t) = portions_in n t false [] 0 [] (omega (arith, carried_count sent.payloads (packets_of_pieces t) l.carried)) tt in
    (d.out ∙ rw (e, all_kept n (obus_of_pieces t) i), rw (d.refusals, e, ← (advances_first (in_order 0 n))) (order_advances n 0))
