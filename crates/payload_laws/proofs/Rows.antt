-- The rows of U marked P: payloads, or the refusal with its offset. Computed; assumes nothing.
--     table    by one call for the whole unit
--     singly   by the plan call, and then a call for each packet
use mathlib.Core.Path.{◌≡◌, refl}
use Prim.Native.Nat.{ℕ}
use mathlib.Core.List.{List, [], ◌∷◌, map, flat_map}
use lib.ListN.{take, replicate}
use Rattle.base.specs.Answers.{Answer, given, refused}
use Rattle.base.specs.Lists.{keep, is_front}
use Rattle.base.specs.Streams.{stream_from}
use Rattle.leb128.specs.Field.{field_in, encode_in}
use Rattle.obu.specs.Front.{front_of, headed}
use Rattle.obu.specs.Unit.{listed, same_list}
use Rattle.packetizer.specs.Fragment.{largest_fragment}
use Rattle.packetizer.specs.Plan.{charge_of, is_full, need_of, fragment_of, spread, insert, place, plan_from, plan_of}
use Rattle.packetizer.specs.Elements.{elements_from}
use Rattle.packetizer.specs.Call.{to_plan, plan_answer, plan_unit, same_plan}
use Rattle.packetizer.specs.declared.Planned.{Planned}
use Rattle.aggregation.specs.New.{before_frame, from_frame, n_of}
use Rattle.aggregation.specs.Header.{byte_of}
use Rattle.payloader.specs.Payload.{fielded, payload, payloads_from, payloads_of}
use Rattle.payloader.specs.Call.{After, answer_for, write_packet}
use Rattle.payloader.specs.declared.Written.{Written}
use Rattle.payload_laws.specs.Whole.{Payloads, whole_answer}
use Rattle.payload_laws.specs.Singly.{after_plan, run_of}

-- lists and output that are long enough
abbrev ample : List ℕ
ample = replicate 40 0

-- what one call for the whole unit gives, or why it refuses
by_answer : List (List ℕ) → Answer Payloads → Answer (List (List ℕ))
by_answer payloads (given p) = given payloads
by_answer payloads (refused n at) = refused n at

pub record Row : Type 0 where
  mtu : ℕ
  unit : List ℕ
  pub result : Answer (List (List ℕ))

row : ℕ → List ℕ → Answer (List (List ℕ)) → Row
row mtu unit result = record { mtu = mtu; unit = unit; result = result }

pub answered : Row → Answer (List (List ℕ))
answered r = by_answer (payloads_of r.mtu r.unit) (whole_answer (to_plan r.mtu r.unit ample ample) ample)

-- U1 to U6, U8 to U10, U12 to U16
pub rows : List Row
rows =
    row 1200 [] (given [])
    ∷ row 2 (0x0a ∷ 1 ∷ 0x7f ∷ []) (given [])
    ∷ row 3 (0x0a ∷ 1 ∷ 0x7f ∷ []) (given ((0x50 ∷ 8 ∷ []) ∷ (0x90 ∷ 0x7f ∷ []) ∷ []))
    ∷ row 4 (0x0a ∷ 1 ∷ 0x7f ∷ []) (given ((0x10 ∷ 8 ∷ 0x7f ∷ []) ∷ []))
    ∷ row 5 (0x0a ∷ 1 ∷ 0x7f ∷ 0x32 ∷ 0 ∷ []) (given ((0x10 ∷ 8 ∷ 0x7f ∷ []) ∷ (0x10 ∷ 0x30 ∷ []) ∷ []))
    ∷ row 20 (0x12 ∷ 0 ∷ 0x0a ∷ 3 ∷ 0x11 ∷ 0x22 ∷ 0x33 ∷ 0x32 ∷ 5 ∷ 0xa1 ∷ 0xa2 ∷ 0xa3 ∷ 0xa4 ∷ 0xa5 ∷ []) (given ((0x20 ∷ 4 ∷ 8 ∷ 0x11 ∷ 0x22 ∷ 0x33 ∷ 0x30 ∷ 0xa1 ∷ 0xa2 ∷ 0xa3 ∷ 0xa4 ∷ 0xa5 ∷ []) ∷ []))
    ∷ row 20 (0x32 ∷ 0 ∷ 0x32 ∷ 0 ∷ 0x32 ∷ 0 ∷ []) (given ((0x30 ∷ 1 ∷ 0x30 ∷ 1 ∷ 0x30 ∷ 0x30 ∷ []) ∷ []))
    ∷ row 20 (0x32 ∷ 0 ∷ 0x32 ∷ 0 ∷ 0x32 ∷ 0 ∷ 0x32 ∷ 0 ∷ []) (given ((0 ∷ 1 ∷ 0x30 ∷ 1 ∷ 0x30 ∷ 1 ∷ 0x30 ∷ 1 ∷ 0x30 ∷ []) ∷ []))
    ∷ row 3 (0x34 ∷ 8 ∷ []) (given ((0x50 ∷ 0x34 ∷ []) ∷ (0x90 ∷ 8 ∷ []) ∷ []))
    ∷ row 20 (0x36 ∷ []) (refused 3 0)
    ∷ row 20 (0x32 ∷ []) (refused 4 0)
    ∷ row 20 (0x32 ∷ 0xff ∷ []) (refused 5 0)
    ∷ row 20 (0x32 ∷ 2 ∷ 0xa1 ∷ []) (refused 7 0)
    ∷ row 20 (0x32 ∷ 0x80 ∷ 0x80 ∷ 0x80 ∷ 0x80 ∷ 0x10 ∷ []) (refused 6 0)
    ∷ []

pub table : map answered rows ≡ map (λ (r : Row). r.result) rows
unfolding answered by_answer row rows whole_answer plan_answer listed stream_from front_of headed field_in keep encode_in plan_of plan_from place insert spread fragment_of need_of is_full charge_of largest_fragment elements_from n_of before_frame from_frame byte_of fielded payload payloads_from flat_map
table = refl

-- ---- the same by the plan call, and then a call for each packet, into an output of its own: its first bytes, as many as the answer says

first_bytes : After → Answer Written → List ℕ
first_bytes a (given w) = take w.bytes a.out
first_bytes a (refused n at) = []

packet : Row → ℕ → List ℕ
packet r k = let a = write_packet k (after_plan r.mtu r.unit ample ample ample) in first_bytes a a.answer

by_plan : Row → Answer Planned → Answer (List (List ℕ))
by_plan r (given p) = given (map (packet r) (run_of 0 p.packets))
by_plan r (refused n at) = refused n at

pub answered_singly : Row → Answer (List (List ℕ))
answered_singly r = by_plan r (plan_unit (to_plan r.mtu r.unit ample ample)).answer

pub singly : map answered_singly rows ≡ map (λ (r : Row). r.result) rows
unfolding answered_singly by_plan packet first_bytes run_of answer_for same_plan same_list is_front row rows plan_answer listed stream_from front_of headed field_in keep encode_in plan_of plan_from place insert spread fragment_of need_of is_full charge_of largest_fragment elements_from n_of before_frame from_frame byte_of fielded payload payloads_from flat_map
singly = refl
