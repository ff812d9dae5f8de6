-- Two trains, each with a fresh receiver of its own (T4, D3): the statement.
use Rattle.std.specs.Prelude.{ℕ, ◌≡◌, length}
use mathlib.Core.List.{List, [], ◌∷◌, map, flat_map}
use Rattle.base.specs.Lists.{All}
use Rattle.obu.specs.Unit.{obus_of}
use Rattle.obu.specs.Wire.{wire_of}
use Rattle.delivery.specs.Arrivals.{Near}
use Rattle.delivery.specs.Calls.{Arrival, arrived_packets, fresh_calls, handed_out}
use Rattle.delivery.specs.Units.{Sending, Accepted, payloads_sent, sent_from, UnitSpace}

-- planned units, their packets written and numbered in one run, and those of them that arrive
pub record Train : Type 0 where
  pub sendings : List Sending
  pub first : ℕ
  pub arrivals : List Arrival
  -- the receiver's store, and the sizes of V17
  pub store : List ℕ
  pub size : ℕ
  pub mtu : ℕ

-- the premises of demand 3
pub record Sound (t : Train) : Type 0 where
  pub accepted : All Accepted t.sendings
  pub near : Near (length (payloads_sent t.sendings)) (arrived_packets t.arrivals)
  pub space : UnitSpace t.sendings t.size t.mtu t.store t.arrivals

-- what a fresh receiver hands out
abbrev pub unpacked : Train → List ℕ
unpacked t = handed_out (fresh_calls (sent_from t.first t.sendings) t.store t.arrivals)

-- the kept OBUs of some units, each as its `wire` bytes (O12)
abbrev pub wires_of : List Sending → List (List ℕ)
wires_of sendings = flat_map (λ (s : Sending). map (wire_of s.unit) (obus_of s.unit)) sendings

-- some of a list, in order
pub data Some : List (List ℕ) → List (List ℕ) → Type 0 where
  none : Some [] []
  this : {o : List ℕ} {l m : List (List ℕ)} → Some l m → Some (o ∷ l) (o ∷ m)
  other : {o : List ℕ} {l m : List (List ℕ)} → Some l m → Some l (o ∷ m)

-- bytes that are some of the train's own OBUs, in order, once each, and nothing else
abbrev pub OfItsOwn : Train → List ℕ → Type 0
OfItsOwn t bytes = (os : List (List ℕ)) × Some os (wires_of t.sendings) × (bytes ≡ flat_map (λ (o : List ℕ). o) os)

abbrev pub TwoTrains : Type 0
TwoTrains = (a b : Train) → Sound a → Sound b → OfItsOwn a (unpacked a) × OfItsOwn b (unpacked b)
