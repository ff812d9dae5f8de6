-- Packets of two works under one receiver, computed. Assumes nothing.
use mathlib.Core.Path.{◌≡◌, refl, sym, ap, subst, ◌∙◌}
use Prim.Native.Nat.{ℕ}
use native.Mathlib.Omega.{arith}
use mathlib.Core.List.{List, [], ◌∷◌, ◌++◌, map, flat_map}
use lib.ListN.{get_or, replicate}
use Rattle.base.specs.Lists.{keep, All}
use Rattle.base.specs.Streams.{stream_from}
use Rattle.leb128.specs.Field.{field_in, encode_in}
use Rattle.obu.specs.Front.{front_of, headed}
use Rattle.obu.specs.Unit.{obus_of}
use Rattle.obu.specs.Wire.{whole_of, wire, wire_of}
use Rattle.packetizer.specs.Fragment.{largest_fragment}
use Rattle.packetizer.specs.Plan.{charge_of, is_full, need_of, fragment_of, spread, insert, place, plan_from, plan_of}
use Rattle.packetizer.specs.Elements.{elements_from}
use Rattle.aggregation.specs.New.{before_frame, from_frame, n_of}
use Rattle.aggregation.specs.Header.{byte_of}
use Rattle.payloader.specs.Payload.{fielded, payload, payloads_from}
use Rattle.element.specs.Elements.{element_at, exactly, counting, elements_of, payload_elements}
use Rattle.handing.specs.Handing.{wires}
use Rattle.receiver.specs.Joining.{is_ahead, is_in_step, follows, with_fragment, finished, left, handed, kept_open, next, out}
use Rattle.receiver.specs.Call.{taken, outcome}
use Rattle.delivery.specs.Calls.{calls, fresh_calls, handed_out}
use Rattle.delivery.specs.Fused.{one, other, fused_packets, arrival, neither, Fused}

packets : List (List ℕ)
packets = (0x50 ∷ 0x30 ∷ 0xa1 ∷ []) ∷ (0x90 ∷ 0xb2 ∷ []) ∷ []

packets_are : fused_packets ≡ packets
unfolding packets flat_map keep field_in encode_in headed front_of stream_from largest_fragment charge_of is_full need_of fragment_of spread insert place plan_from plan_of elements_from n_of before_frame from_frame byte_of fielded payload payloads_from
packets_are = refl

abbrev out_of : List (List ℕ) → List ℕ
out_of ps = handed_out (fresh_calls (record { payloads = ps; first = 41 }) (replicate 3 0) (arrival 0 ∷ arrival 1 ∷ []))

out_is : out_of packets ≡ neither
unfolding packets calls flat_map outcome taken payload_elements elements_of counting stream_from exactly element_at field_in encode_in is_ahead is_in_step follows with_fragment finished left handed kept_open next out wires wire whole_of front_of headed
out_is = refl

works : map (wire_of one) (obus_of one) ++ map (wire_of other) (obus_of other) ≡ (0x32 ∷ 2 ∷ 0xa1 ∷ 0xa2 ∷ []) ∷ (0x32 ∷ 2 ∷ 0xb1 ∷ 0xb2 ∷ []) ∷ []
unfolding keep field_in encode_in headed front_of stream_from
works = refl

pub fused : Fused
fused =
    record {
      out = ap out_of packets_are ∙ out_is;
      of_neither =
          subst (All (λ (o : List ℕ). o ≡ neither → ⊥)) (sym works)
          ((λ e. omega (arith, ap (λ (l : List ℕ). get_or l 3 0) e)), ((λ e. omega (arith, ap (λ (l : List ℕ). get_or l 2 0) e)), tt));
    }
