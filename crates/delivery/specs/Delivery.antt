-- What loss leaves of a lawful train (D3): the statement.
use Rattle.std.specs.Prelude.{ℕ, ◌+◌, ◌*◌, ◌≤◌, ◌≡◌, List, [], map, length}
use Rattle.base.specs.Answers.{given}
use Rattle.base.specs.Lists.{keep, All}
use Rattle.handing.specs.Handing.{fragment_limit, wires}
use Rattle.lawful.specs.Train.{Piece, obus_of_pieces, join, whole}
use Rattle.lawful.specs.Lawful.{Lawful}
use Rattle.delivery.specs.Arrivals.{timely, first_timely, Near, in_order}
use Rattle.delivery.specs.Calls.{Arrival, arrived_packets, Run, takes, taken_or_14, fresh_calls, handed_out, verdicts}

-- the space of V17, where no OBU has more than `size` bytes and no payload more than `mtu`
pub record Space (t : List Piece) (payloads : List (List ℕ)) (size mtu : ℕ) (store : List ℕ) (arrivals : List Arrival) : Type 0 where
  pub obus_fit : All (λ o. length (join o) ≤ size) (obus_of_pieces t)
  pub size_fits : size ≤ fragment_limit
  pub payloads_fit : All (λ b. length b ≤ mtu) payloads
  pub store_has : size ≤ length store
  pub outputs_have : All (λ a. size + 4 * mtu ≤ length a.output) arrivals

-- a fresh receiver is called for each arrival of a packet of the train
pub record Delivered (t : List Piece) (run : Run) (store : List ℕ) (arrivals : List Arrival) : Type 0 where
  -- what it hands out is the `wire` bytes of the OBUs all of whose packets are timely: in order, once each, and nothing else
  pub out :
      given (handed_out (fresh_calls run store arrivals))
      ≡ wires (map join (keep (whole (timely (arrived_packets arrivals))) (obus_of_pieces t)))
  -- R14 is given to exactly those arrivals that are not the first coming of a timely packet, and no other refusal arises
  pub refusals :
      verdicts (fresh_calls run store arrivals)
      ≡ map taken_or_14 (first_timely [] (arrived_packets arrivals))

abbrev pub Delivery : Type 0
Delivery =
    (t : List Piece) (run : Run) (size mtu : ℕ) (store : List ℕ) (arrivals : List Arrival)
    → Lawful t run.payloads
    → Near (length run.payloads) (arrived_packets arrivals)
    → Space t run.payloads size mtu store arrivals
    → Delivered t run store arrivals

-- with no loss all OBUs come out, and no packet is refused
abbrev pub NoLoss : Type 0
NoLoss =
    (t : List Piece) (run : Run) (size mtu : ℕ) (store : List ℕ) (arrivals : List Arrival)
    → Lawful t run.payloads
    → arrived_packets arrivals ≡ in_order 0 (length run.payloads)
    → Space t run.payloads size mtu store arrivals
    → (given (handed_out (fresh_calls run store arrivals)) ≡ wires (map join (obus_of_pieces t)))
    × All (λ v. v ≡ takes) (verdicts (fresh_calls run store arrivals))
