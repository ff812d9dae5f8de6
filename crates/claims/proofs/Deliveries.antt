-- Demand 3: what a fresh receiver hands out.
use Rattle.delivery.specs.Delivery.{Delivery, NoLoss}
use Rattle.delivery.specs.Units.{UnitsDelivery, UnitsNoLoss, UnitsOnly14, UnitsDelivered}
use Rattle.delivery.specs.ReadBack.{UnitReadBack}
use Rattle.delivery.specs.Trains.{TwoTrains}
use Rattle.delivery.specs.Fused.{Fused}
use Rattle.delivery.specs.RoundTrip.{RoundTrip}
use Rattle.delivery.proofs.Theorem as theorem
use Rattle.delivery.proofs.NoLoss as noLoss
use Rattle.delivery.proofs.UnitsTheorem as units
use Rattle.delivery.proofs.UnitReadBack as read_back
use Rattle.delivery.proofs.Trains as trains
use Rattle.delivery.proofs.Fused as fusing
use Rattle.delivery.proofs.RoundTrip as roundTrip
use Rattle.delivery.proofs.UnitsInstance as example
use Rattle.claims.specs.Deliveries.{UnitsLawful}

-- for every lawful train

pub delivery : Delivery
delivery = theorem.delivery

pub no_loss : NoLoss
no_loss = noLoss.no_loss

-- for units that the plan call planned and the writing calls wrote

pub units_lawful : UnitsLawful
units_lawful = λ sendings accepted. (units.trains sendings, units.units_lawful sendings accepted)

pub units_delivery : UnitsDelivery
units_delivery = units.units_delivery

pub units_no_loss : UnitsNoLoss
units_no_loss = units.units_no_loss

pub units_only_14 : UnitsOnly14
units_only_14 = units.units_only_14

pub unit_read_back : UnitReadBack
unit_read_back = read_back.unit_read_back

-- for several trains, and for the programs

pub two_trains : TwoTrains
two_trains = trains.two_trains

pub fused : Fused
fused = fusing.fused

pub round_trip : RoundTrip
round_trip = roundTrip.round_trip

-- every premise can be met: by loss, a packet that comes twice and one that comes late, units of several mtus, a number that wraps

pub met : UnitsDelivered example.sendings 65533 example.store example.arrivals
met = example.met
