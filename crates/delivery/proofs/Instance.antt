-- The theorem on a train with a first arrival in mid-run, losses, a repeat, a late packet and numbers that wrap: it meets every premise, and what it
-- says is what the calls compute to. Assumes nothing.
use mathlib.Core.Path.{◌≡◌, refl}
use Prim.Native.Nat.{ℕ}
use native.Mathlib.Omega.{arith}
use mathlib.Core.List.{List, [], ◌∷◌, map, flat_map}
use lib.ListN.{replicate}
use Rattle.base.specs.Streams.{stream_from}
use Rattle.leb128.specs.Field.{field_in, encode_in}
use Rattle.obu.specs.Front.{front_of, headed}
use Rattle.obu.specs.Wire.{whole_of, wire}
use Rattle.element.specs.Elements.{element_at, exactly, counting, elements_of, payload_elements}
use Rattle.handing.specs.Handing.{wires}
use Rattle.receiver.specs.Joining.{is_ahead, is_in_step, follows, with_fragment, finished, left, handed, kept_open, next, out}
use Rattle.receiver.specs.Call.{taken, outcome}
use Rattle.lawful.specs.Train.{obus, join}
use Rattle.lawful.proofs.Rows.{example, payloads, lawful}
use Rattle.delivery.specs.Calls.{Arrival, Call, Run, takes, refuses, calls, fresh_calls, handed_out, verdicts}
use Rattle.delivery.specs.Delivery.{Delivered}
use Rattle.delivery.proofs.Theorem.{delivery}

-- the largest OBU has 6 bytes and the largest payload 9: a store of 6 bytes, and outputs of 42, which hold something
store : List ℕ
store = replicate 6 0xee

arrival : ℕ → Arrival
arrival k = record { packet = k; output = replicate 42 0xdd }

-- packet 0 is lost, 1 comes first, 3 twice, 5 late; the first packet has the number 65,533
arrivals : List Arrival
arrivals = map arrival (1 ∷ 2 ∷ 3 ∷ 3 ∷ 4 ∷ 6 ∷ 5 ∷ [])

sent : Run
sent = record { payloads = payloads; first = 65533 }

made : List Call
made = fresh_calls sent store arrivals

-- the OBU in packets 2, 3 and 4, and the two in packet 6
out_is : handed_out made ≡ 0x32 ∷ 5 ∷ 0xa1 ∷ 0xa2 ∷ 0xa3 ∷ 0xa4 ∷ 0xa5 ∷ 0x32 ∷ 1 ∷ 0xb1 ∷ 0x36 ∷ 8 ∷ 0 ∷ []
unfolding made sent store arrival arrivals payloads calls flat_map outcome taken payload_elements elements_of counting stream_from exactly element_at field_in encode_in is_ahead is_in_step follows with_fragment finished left handed kept_open next out wires wire whole_of front_of headed
out_is = refl

verdicts_are : verdicts made ≡ takes ∷ takes ∷ takes ∷ refuses 14 ∷ takes ∷ takes ∷ refuses 14 ∷ []
unfolding made sent store arrival arrivals payloads calls flat_map outcome taken payload_elements elements_of counting stream_from exactly element_at field_in encode_in is_ahead is_in_step follows with_fragment finished left handed kept_open next out wires wire whole_of front_of headed
verdicts_are = refl

-- every premise is met
met : Delivered example sent store arrivals
unfolding sent store arrival arrivals example payloads obus join
met =
    delivery example sent 6 9 store arrivals lawful
    (omega arith, (omega arith, omega arith, omega arith, (omega arith, omega arith, omega arith, (omega arith, omega arith, omega arith, (omega arith, omega arith, omega arith, (omega arith, omega arith, omega arith, (omega arith, omega arith, omega arith, tt)))))))
    (record {
      obus_fit = (omega arith, (omega arith, (omega arith, (omega arith, (omega arith, (omega arith, (omega arith, (omega arith, tt))))))));
      size_fits = omega arith;
      payloads_fit = (omega arith, (omega arith, (omega arith, (omega arith, (omega arith, (omega arith, (omega arith, tt)))))));
      store_has = omega arith;
      outputs_have = (omega arith, (omega arith, (omega arith, (omega arith, (omega arith, (omega arith, (omega arith, tt)))))));
    })
