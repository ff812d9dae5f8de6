-- From arrivals to a run of which each packet is taken or lost: by places in the run, the receiver takes exactly the timely packets. Assumes nothing.
use mathlib.Core.Path.{◌≡◌, refl, sym, ap, ◌∙◌}
use Prim.Native.Nat.{ℕ, zero, suc, ◌+◌, ◌-◌, ◌≤◌, ◌<◌, max}
use native.Mathlib.Omega.{arith}
use mathlib.Core.List.{List, [], ◌∷◌, ◌++◌}
use mathlib.Core.Bool.{Bool, true, false, cond}
use lib.ListN.{length, get_or, drop}
use lib.Seq.{drop-cons}
use lib.Dec.{ltb, eqb}
use borrow.Author.Tests.{ltb-true, ltb-false, lt-ltb, le-ltb, eq-eqb, ne_eqb}
use Rattle.base.proofs.Tests.{cond_same}
use Rattle.base.specs.Lists.{All}
use Rattle.receiver.specs.Packet.{Packet}
use Rattle.receiver.specs.Joining.{kept_open}
use Rattle.delivery.specs.Arrivals.{timely, NearTo, Near}
use Rattle.delivery.proofs.Walk.{walk}

-- ---- which packets are timely, by the first arrival

timely_after : (a : ℕ) (r : List ℕ) (k : ℕ) → a < k → timely (a ∷ r) k ≡ timely r k
unfolding timely
timely_after a r k h = rw (lt-ltb a k h)

pub timely_at : (a : ℕ) (r : List ℕ) → timely (a ∷ r) a ≡ true
unfolding timely
timely_at a r = rw (le-ltb a a (omega arith), eq-eqb a a refl)

timely_before : (a : ℕ) (r : List ℕ) (k : ℕ) → k < a → timely (a ∷ r) k ≡ false
unfolding timely
timely_before a r k h = rw (le-ltb a k (omega arith), ne_eqb a k (λ q. omega arith))

near_to_in : (size m : ℕ) (r : List ℕ) → NearTo size m r → All (λ a. a < size) r
near_to_in size m [] h = tt
near_to_in size m (a ∷ r) h = (h.0, near_to_in size (max m a) r h.3)

pub near_in : (size : ℕ) (r : List ℕ) → Near size r → All (λ a. a < size) r
near_in size [] h = tt
near_in size (a ∷ r) h = (h.0, near_to_in size a r h.1)

-- a place in a run past its end
abbrev pub no_packet : Packet
no_packet = record { z = false; y = false; elements = [] }

-- the packet at place a, where those before place n have been and the next one may join the fragment o
abbrev pub joins : ℕ → ℕ → List ℕ → List ℕ
joins a n o = cond (eqb a n) o []

module _ {E : Type 0} (emit : List ℕ → Packet → List E) (run : List Packet) where
  abbrev at : ℕ → Packet
  at a = get_or run a no_packet

  -- the receiver by places: n is one more than the furthest packet taken, 0 if none is
  unfoldable pub follow : ℕ → List ℕ → List ℕ → List E
  follow n o [] = []
  follow n o (a ∷ r) = cond (ltb a n) (follow n o r) (emit (joins a n o) (at a) ++ follow (suc a) (kept_open (joins a n o) (at a)) r)

  -- nothing is taken
  all_lost : (n : ℕ) (o : List ℕ) (ps : List Packet) → walk emit (timely []) n o ps ≡ []
  unfolding walk timely
  all_lost n o [] = refl
  all_lost n o (p ∷ ps) = all_lost (suc n) [] ps

  -- only what is taken from n on matters
  walk_same : (f g : ℕ → Bool) (n : ℕ) (o : List ℕ) (ps : List Packet) → ((k : ℕ) → n ≤ k → f k ≡ g k) → walk emit f n o ps ≡ walk emit g n o ps
  unfolding walk
  walk_same f g n o [] h = refl
  walk_same f g n o (p ∷ ps) h =
      rw (h n (omega arith), walk_same f g (suc n) (kept_open o p) ps (λ k l. h k (omega arith)), walk_same f g (suc n) [] ps (λ k l. h k (omega arith)))

  -- from packet n to packet a, with nothing taken between
  skip : (f : ℕ → Bool) (a : ℕ) → a < length run → (d n : ℕ) (o : List ℕ) → d + n ≡ a → ((k : ℕ) → n ≤ k → k < a → f k ≡ false)
      → walk emit f n o (drop n run) ≡ walk emit f a (joins a n o) (drop a run)
  unfolding walk
  skip f a l zero n o e h = let q : n ≡ a = omega arith in rw (eq-eqb a n (sym q)) (ap (λ m. walk emit f m o (drop m run)) q)
  skip f a l (suc d) n o e h =
      rw (drop-cons run n no_packet (omega arith), h n (omega arith) (omega arith), ne_eqb a n (λ q. omega arith))
      (skip f a l d (suc n) [] (omega arith) (λ k i j. h k (omega arith) j) ∙ rw (cond_same {A = List ℕ} (eqb a (suc n)) []))

  -- packet a is taken
  step_at : (f : ℕ → Bool) (a : ℕ) (o : List ℕ) → a < length run → f a ≡ true
      → walk emit f a o (drop a run) ≡ emit o (at a) ++ walk emit f (suc a) (kept_open o (at a)) (drop (suc a) run)
  unfolding walk
  step_at f a o l e = rw (drop-cons run a no_packet l, e)

  pub follow_walk : (r : List ℕ) → All (λ a. a < length run) r → (n : ℕ) (o : List ℕ) → follow n o r ≡ walk emit (timely r) n o (drop n run)
  unfolding follow
  follow_walk [] h n o = sym (all_lost n o (drop n run))
  follow_walk (a ∷ r) h n o = go (follow_walk r h.1) (ltb a n) refl
    where
      f : List ℕ
      f = joins a n o

      go : ((m : ℕ) (q : List ℕ) → follow m q r ≡ walk emit (timely r) m q (drop m run)) → (b : Bool) → ltb a n ≡ b
          → cond b (follow n o r) (emit f (at a) ++ follow (suc a) (kept_open f (at a)) r) ≡ walk emit (timely (a ∷ r)) n o (drop n run)
      go ih true e = ih n o ∙ walk_same (timely r) (timely (a ∷ r)) n o (drop n run) (λ k l. sym (timely_after a r k (omega (arith, ltb-true a n e))))
      go ih false e =
          ap (λ l. emit f (at a) ++ l)
          (ih (suc a) (kept_open f (at a)) ∙ walk_same (timely r) (timely (a ∷ r)) (suc a) (kept_open f (at a)) (drop (suc a) run) (λ k l. sym (timely_after a r k l)))
          ∙ sym (step_at (timely (a ∷ r)) a f h.0 (timely_at a r))
          ∙ sym (skip (timely (a ∷ r)) a h.0 (a - n) n o (omega (arith, ltb-false a n e)) (λ k l m. timely_before a r k m))
