-- Two trains, each with a fresh receiver: what each hands out is of its own (T4, D3). Assumes nothing.
use mathlib.Core.Path.{◌≡◌, refl, sym, ap₂, subst, ◌∙◌}
use Prim.Native.Nat.{ℕ, ◌+◌}
use mathlib.Core.List.{List, [], ◌∷◌, ◌++◌, map, flat_map}
use mathlib.Core.Bool.{Bool}
use lib.ListN.{length, get_or}
use Rattle.base.specs.Lists.{keep}
use Rattle.base.proofs.Tests.{by_cond}
use Rattle.base.proofs.Lists.{flat_map_append}
use Rattle.obu.specs.Unit.{obus_of}
use Rattle.obu.specs.Wire.{wire_of}
use Rattle.obu.specs.Records.{no_obu}
use Rattle.packetizer.specs.Call.{unit_plan}
use Rattle.delivery.specs.Arrivals.{timely, in_order}
use Rattle.delivery.specs.Calls.{arrived_packets}
use Rattle.delivery.specs.Units.{Sending, packets_of, every, whole_obus, expected}
use Rattle.delivery.specs.Trains.{Train, Sound, unpacked, wires_of, Some, none, this, other, OfItsOwn, TwoTrains}
use Rattle.delivery.proofs.Places.{in_order_map, flat_map_self}
use Rattle.delivery.proofs.UnitsTheorem.{units_delivery}

-- ---- some of a list

some_keep : (f : ℕ → List ℕ) (test : ℕ → Bool) (l : List ℕ) → Some (map f (keep test l)) (map f l)
unfolding keep
some_keep f test [] = none
some_keep f test (i ∷ l) =
    by_cond (λ (k : List ℕ). Some (map f k) (f i ∷ map f l)) (test i) (i ∷ keep test l) (keep test l) (λ t. this (some_keep f test l)) (λ t. other (some_keep f test l))

some_append : {a b c d : List (List ℕ)} → Some a b → Some c d → Some (a ++ c) (b ++ d)
some_append none t = t
some_append (this s) t = this (some_append s t)
some_append (other s) t = other (some_append s t)

-- ---- what is expected of a run is some of its OBUs

module _ (test : ℕ → Bool) where
  expected_own : (at : ℕ) (ss : List Sending) → (os : List (List ℕ)) × Some os (wires_of ss) × (expected test at ss ≡ flat_map (λ (o : List ℕ). o) os)
  unfolding expected flat_map
  expected_own at [] = ([], none, refl)
  expected_own at (s ∷ ss) =
      let r = expected_own (at + length (unit_plan s.mtu s.unit)) ss in
      let f : ℕ → List ℕ = λ (i : ℕ). wire_of s.unit (get_or (obus_of s.unit) i no_obu) in
      let k : List (List ℕ) = map f (whole_obus test at s) in (
        k ++ r.0,
        some_append
            (subst (Some k) (in_order_map (wire_of s.unit) (obus_of s.unit))
            (some_keep f (λ i. every test (packets_of at (unit_plan s.mtu s.unit) i)) (in_order 0 (length (obus_of s.unit)))))
            r.1,
        ap₂ ◌++◌ (flat_map_self f (whole_obus test at s)) r.2 ∙ sym (flat_map_append (λ (o : List ℕ). o) k r.0),
      )

-- ---- the theorem

own : (t : Train) → Sound t → OfItsOwn t (unpacked t)
own t s =
    let d = units_delivery t.sendings t.first t.size t.mtu t.store t.arrivals s.accepted s.near s.space in
    let e = expected_own (timely (arrived_packets t.arrivals)) 0 t.sendings in
    (e.0, e.1, d.out ∙ e.2)

pub two_trains : TwoTrains
two_trains a b s r = (own a s, own b r)
