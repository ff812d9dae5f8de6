-- Units under loss, by computation: every premise of the theorem is met, and the calls compute to what it says. Assumes nothing.
use mathlib.Core.Path.{◌≡◌, refl, sym, ap, subst, ◌∙◌}
use Prim.Native.Nat.{ℕ}
use native.Mathlib.Omega.{arith}
use mathlib.Core.List.{List, [], ◌∷◌, map, flat_map}
use lib.ListN.{length, replicate}
use Rattle.base.specs.Lists.{keep, All}
use Rattle.base.specs.Streams.{stream_from}
use Rattle.leb128.specs.Field.{field_in, encode_in}
use Rattle.obu.specs.Front.{front_of, headed}
use Rattle.obu.specs.Unit.{listed}
use Rattle.obu.specs.Wire.{whole_of, wire}
use Rattle.packetizer.specs.Fragment.{largest_fragment}
use Rattle.packetizer.specs.Plan.{charge_of, is_full, need_of, fragment_of, spread, insert, place, plan_from, plan_of}
use Rattle.packetizer.specs.Elements.{elements_from}
use Rattle.packetizer.specs.Call.{plan_answer}
use Rattle.aggregation.specs.New.{before_frame, from_frame, n_of}
use Rattle.aggregation.specs.Header.{byte_of}
use Rattle.payloader.specs.Payload.{fielded, payload, payloads_from}
use Rattle.element.specs.Elements.{element_at, exactly, counting, elements_of, payload_elements}
use Rattle.handing.specs.Handing.{wires}
use Rattle.receiver.specs.Joining.{is_ahead, is_in_step, follows, with_fragment, finished, left, handed, kept_open, next, out}
use Rattle.receiver.specs.Call.{taken, outcome}
use Rattle.delivery.specs.Arrivals.{Near}
use Rattle.delivery.specs.Calls.{Arrival, arrived_packets, Call, takes, refuses, calls, fresh_calls, handed_out, verdicts}
use Rattle.delivery.specs.Units.{Sending, Accepted, payloads_sent, UnitsDelivered}
use Rattle.delivery.proofs.UnitsTheorem.{units_delivery}

-- space for so many OBUs and packets
sending : ℕ → List ℕ → Sending
sending mtu unit = record { mtu = mtu; unit = unit; obus = replicate 20 7; plan = replicate 30 7 }

-- U7's unit at mtu 3, one with no kept OBU, U9's at 20, U11's at 3
pub sendings : List Sending
sendings =
    sending 3 (0x12 ∷ 0 ∷ 0x0a ∷ 3 ∷ 0x11 ∷ 0x22 ∷ 0x33 ∷ 0x32 ∷ 5 ∷ 0xa1 ∷ 0xa2 ∷ 0xa3 ∷ 0xa4 ∷ 0xa5 ∷ [])
    ∷ sending 7 (0x12 ∷ 0 ∷ [])
    ∷ sending 20 (0x32 ∷ 0 ∷ 0x32 ∷ 0 ∷ 0x32 ∷ 0 ∷ 0x32 ∷ 0 ∷ [])
    ∷ sending 3 (0x36 ∷ 8 ∷ 1 ∷ 0xc1 ∷ [])
    ∷ []

packets : List (List ℕ)
packets =
    (0x50 ∷ 8 ∷ 0x11 ∷ [])
    ∷ (0x90 ∷ 0x22 ∷ 0x33 ∷ [])
    ∷ (0x50 ∷ 0x30 ∷ 0xa1 ∷ [])
    ∷ (0xd0 ∷ 0xa2 ∷ 0xa3 ∷ [])
    ∷ (0x90 ∷ 0xa4 ∷ 0xa5 ∷ [])
    ∷ (0x00 ∷ 1 ∷ 0x30 ∷ 1 ∷ 0x30 ∷ 1 ∷ 0x30 ∷ 1 ∷ 0x30 ∷ [])
    ∷ (0x50 ∷ 0x34 ∷ 8 ∷ [])
    ∷ (0x90 ∷ 0xc1 ∷ [])
    ∷ []

payloads_are : payloads_sent sendings ≡ packets
unfolding packets sendings sending flat_map keep field_in encode_in headed front_of stream_from largest_fragment charge_of is_full need_of fragment_of spread insert place plan_from plan_of elements_from n_of before_frame from_frame byte_of fielded payload payloads_from
payloads_are = refl

accepted : All Accepted sendings
unfolding sendings sending keep field_in encode_in headed front_of stream_from listed largest_fragment charge_of is_full need_of fragment_of spread insert place plan_from plan_of plan_answer
accepted = ((omega arith, tt), ((omega arith, tt), ((omega arith, tt), ((omega arith, tt), tt))))

-- the largest kept OBU has 6 bytes and the largest mtu is 20: a store of 6 bytes, outputs of 86, which hold something
pub store : List ℕ
store = replicate 6 0xee

arrival : ℕ → Arrival
arrival k = record { packet = k; output = replicate 86 0xdd }

-- packet 0 is lost, 1 comes first, 3 twice, 5 late; the first packet has the number 65,533
pub arrivals : List Arrival
arrivals = map arrival (1 ∷ 2 ∷ 3 ∷ 3 ∷ 4 ∷ 6 ∷ 5 ∷ 7 ∷ [])

made : List (List ℕ) → List Call
made ps = fresh_calls (record { payloads = ps; first = 65533 }) store arrivals

-- the OBU in packets 2, 3 and 4, and the one in packets 6 and 7
out_of : handed_out (made packets) ≡ 0x32 ∷ 5 ∷ 0xa1 ∷ 0xa2 ∷ 0xa3 ∷ 0xa4 ∷ 0xa5 ∷ 0x36 ∷ 8 ∷ 1 ∷ 0xc1 ∷ []
unfolding made store arrival arrivals packets calls flat_map outcome taken payload_elements elements_of counting stream_from exactly element_at field_in encode_in is_ahead is_in_step follows with_fragment finished left handed kept_open next out wires wire whole_of front_of headed
out_of = refl

verdicts_of : verdicts (made packets) ≡ takes ∷ takes ∷ takes ∷ refuses 14 ∷ takes ∷ takes ∷ refuses 14 ∷ takes ∷ []
unfolding made store arrival arrivals packets calls flat_map outcome taken payload_elements elements_of counting stream_from exactly element_at field_in encode_in is_ahead is_in_step follows with_fragment finished left handed kept_open next out wires wire whole_of front_of headed
verdicts_of = refl

out_is : handed_out (made (payloads_sent sendings)) ≡ 0x32 ∷ 5 ∷ 0xa1 ∷ 0xa2 ∷ 0xa3 ∷ 0xa4 ∷ 0xa5 ∷ 0x36 ∷ 8 ∷ 1 ∷ 0xc1 ∷ []
out_is = ap (λ (ps : List (List ℕ)). handed_out (made ps)) payloads_are ∙ out_of

verdicts_are : verdicts (made (payloads_sent sendings)) ≡ takes ∷ takes ∷ takes ∷ refuses 14 ∷ takes ∷ takes ∷ refuses 14 ∷ takes ∷ []
verdicts_are = ap (λ (ps : List (List ℕ)). verdicts (made ps)) payloads_are ∙ verdicts_of

-- every premise is met
near : Near (length (payloads_sent sendings)) (arrived_packets arrivals)
unfolding arrivals arrival packets
near =
    subst (λ (ps : List (List ℕ)). Near (length ps) (arrived_packets arrivals)) (sym payloads_are)
    (omega arith, (omega arith, omega arith, omega arith, (omega arith, omega arith, omega arith, (omega arith, omega arith, omega arith, (omega arith, omega arith, omega arith, (omega arith, omega arith, omega arith, (omega arith, omega arith, omega arith, (omega arith, omega arith, omega arith, tt))))))))

pub met : UnitsDelivered sendings 65533 store arrivals
unfolding sendings sending store arrival arrivals keep field_in headed front_of stream_from
met =
    units_delivery sendings 65533 6 20 store arrivals accepted near
    (record {
      obus_fit = ((omega arith, (omega arith, tt)), (tt, ((omega arith, (omega arith, (omega arith, (omega arith, tt)))), ((omega arith, tt), tt))));
      mtus_fit = (omega arith, (omega arith, (omega arith, (omega arith, tt))));
      store_has = omega arith;
      outputs_have = (omega arith, (omega arith, (omega arith, (omega arith, (omega arith, (omega arith, (omega arith, (omega arith, tt))))))));
    })
