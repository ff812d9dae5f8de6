-- Demand 3 for every lawful train (D3). Assumes nothing.
use mathlib.Core.Path.{◌≡◌, sym, ap, subst, ◌∙◌}
use Prim.Native.Nat.{ℕ, ◌<◌}
use mathlib.Core.List.{List, [], map, flat_map}
use lib.ListN.{length}
use Rattle.base.specs.Answers.{given}
use Rattle.base.specs.Lists.{keep, All}
use Rattle.base.proofs.Lists.{all_keep, all_of_map}
use Rattle.receiver.specs.Packet.{Packet}
use Rattle.receiver.specs.Joining.{handed}
use Rattle.lawful.specs.Train.{Piece, Full, packets_of_pieces, obus_of_pieces, join, whole}
use Rattle.lawful.specs.Lawful.{WellFormed}
use Rattle.lawful.proofs.Reading.{carried_count}
use Rattle.lawful.proofs.Trains.{run_full}
use Rattle.delivery.specs.Arrivals.{timely}
use Rattle.delivery.specs.Calls.{arrived_packets, taken_or_14, fresh_calls}
use Rattle.delivery.specs.Delivery.{Delivery}
use Rattle.delivery.proofs.Walk.{walk_handed}
use Rattle.delivery.proofs.Open.{noted, Small, walk_noted}
use Rattle.delivery.proofs.Follow.{near_in, follow, follow_walk}
use Rattle.delivery.proofs.Timely.{advances, advances_first}
use Rattle.delivery.proofs.OneCall.{wire_bytes, wires_given}
use Rattle.delivery.proofs.Exchange.{place_at_lem, Agrees, begins}

-- on packets taken apart, by places: what is handed out under loss
pub loss : (t : List Piece) (r : List ℕ) → Full t → All (λ a. a < length (packets_of_pieces t)) r
    → follow handed (packets_of_pieces t) 0 [] r ≡ map join (keep (whole (timely r)) (obus_of_pieces t))
loss t r f h = follow_walk handed (packets_of_pieces t) r h 0 [] ∙ walk_handed (timely r) t f

pub delivery : Delivery
delivery t sent size mtu store arrivals l near sp =
    record {
      out = ap given (agrees.out ∙ ap (flat_map wire_bytes) lost) ∙ sym (wires_given outs fine);
      refusals = agrees.says ∙ ap (map taken_or_14) (advances_first r);
    }
  where
    r : List ℕ
    r = arrived_packets arrivals

    run : List Packet
    run = packets_of_pieces t

    places : All (λ a. a < length run) r
    places = subst (λ (n : ℕ). All (λ a. a < n) r) (carried_count sent.payloads (packets_of_pieces t) l.carried) (near_in (length sent.payloads) r near)

    outs : List (List ℕ)
    outs = map join (keep (whole (timely r)) (obus_of_pieces t))

    lost : follow handed run 0 [] r ≡ outs
    lost = loss t r l.full places

    fine : All WellFormed outs
    fine = all_of_map join WellFormed (keep (whole (timely r)) (obus_of_pieces t)) (all_keep (λ o. WellFormed (join o)) (whole (timely r)) (obus_of_pieces t) l.well_formed)

    small : All (Small size) (follow noted run 0 [] r)
    small = rw (follow_walk noted run r places 0 []) (walk_noted size (timely r) t l.full l.ends sp.obus_fit)

    agrees : Agrees (fresh_calls sent store arrivals) (follow handed run 0 [] r) (advances 0 r)
    agrees =
        begins sent run size mtu sp.size_fits (place_at_lem mtu sent.payloads (packets_of_pieces t) l.carried (run_full t l.full) sp.payloads_fit)
        arrivals store near sp.store_has sp.outputs_have (rw lost fine) small
