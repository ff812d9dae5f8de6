-- Plans, largest fragments and calls of the rules' tables, computed (P12, U). Assumes nothing.
use mathlib.Core.Path.{◌≡◌, refl}
use Prim.Native.Nat.{ℕ}
use mathlib.Core.List.{List, [], ◌∷◌, map, flat_map}
use Rattle.base.specs.Answers.{Answer, given, refused}
use Rattle.base.specs.Lists.{keep}
use Rattle.base.specs.Streams.{stream_from}
use Rattle.leb128.specs.Field.{encode_in, field_in}
use Rattle.obu.specs.Front.{front_of, headed}
use Rattle.obu.specs.Unit.{listed}
use Rattle.packetizer.specs.Call.{to_plan, plan_answer, plan_unit}
use Rattle.packetizer.specs.declared.Planned.{Planned}
use Rattle.packetizer.specs.Fragment.{largest_fragment}
use Rattle.packetizer.specs.Plan.{charge_of, is_full, need_of, fragment_of, spread, insert, place, plan_from, plan_of}
use Rattle.packetizer.specs.Records.{flat_plan}

largest :
    map largest_fragment (0 ∷ 1 ∷ 2 ∷ 128 ∷ 129 ∷ 130 ∷ 16385 ∷ 16386 ∷ 16387 ∷ [])
    ≡ 0 ∷ 0 ∷ 1 ∷ 127 ∷ 127 ∷ 128 ∷ 16383 ∷ 16383 ∷ 16384 ∷ []
unfolding largest_fragment encode_in
largest = refl

-- an mtu, and the sizes of the kept OBUs
record Row : Type 0 where
  mtu : ℕ
  sizes : List ℕ

abbrev row : ℕ → List ℕ → Row
row m s = record { mtu = m; sizes = s }

rows : List Row
rows =
    row 1200 []
    ∷ row 2 (2 ∷ [])
    ∷ row 3 (2 ∷ [])
    ∷ row 4 (2 ∷ [])
    ∷ row 5 (2 ∷ 1 ∷ [])
    ∷ row 20 (4 ∷ 6 ∷ [])
    ∷ row 3 (4 ∷ 6 ∷ [])
    ∷ row 20 (1 ∷ 1 ∷ 1 ∷ [])
    ∷ row 20 (1 ∷ 1 ∷ 1 ∷ 1 ∷ [])
    ∷ row 3 (3 ∷ [])
    ∷ row 8 (1 ∷ 1 ∷ 1 ∷ 7 ∷ [])
    ∷ []

plans :
    map (λ (r : Row). flat_plan (plan_of r.mtu r.sizes)) rows
    ≡ []
    ∷ []
    ∷ (0 ∷ 1 ∷ 0 ∷ 1 ∷ 1 ∷ 0 ∷ 0 ∷ 1 ∷ 1 ∷ 1 ∷ 1 ∷ 2 ∷ [])
    ∷ (0 ∷ 1 ∷ 0 ∷ 2 ∷ 2 ∷ 0 ∷ [])
    ∷ (0 ∷ 1 ∷ 0 ∷ 2 ∷ 2 ∷ 0 ∷ 1 ∷ 1 ∷ 0 ∷ 1 ∷ 1 ∷ 3 ∷ [])
    ∷ (0 ∷ 2 ∷ 0 ∷ 6 ∷ 11 ∷ 0 ∷ [])
    ∷ (0 ∷ 1 ∷ 0 ∷ 2 ∷ 2 ∷ 0 ∷ 0 ∷ 1 ∷ 2 ∷ 2 ∷ 2 ∷ 3 ∷ 1 ∷ 1 ∷ 0 ∷ 2 ∷ 2 ∷ 6 ∷ 1 ∷ 1 ∷ 2 ∷ 2 ∷ 2 ∷ 9 ∷ 1 ∷ 1 ∷ 4 ∷ 2 ∷ 2 ∷ 12 ∷ [])
    ∷ (0 ∷ 3 ∷ 0 ∷ 1 ∷ 5 ∷ 0 ∷ [])
    ∷ (0 ∷ 4 ∷ 0 ∷ 1 ∷ 8 ∷ 0 ∷ [])
    ∷ (0 ∷ 1 ∷ 0 ∷ 2 ∷ 2 ∷ 0 ∷ 0 ∷ 1 ∷ 2 ∷ 1 ∷ 1 ∷ 3 ∷ [])
    ∷ (0 ∷ 3 ∷ 0 ∷ 1 ∷ 5 ∷ 0 ∷ 3 ∷ 1 ∷ 0 ∷ 6 ∷ 6 ∷ 6 ∷ 3 ∷ 1 ∷ 6 ∷ 1 ∷ 1 ∷ 13 ∷ [])
    ∷ []
unfolding rows largest_fragment charge_of is_full need_of fragment_of spread insert place plan_from plan_of flat_map encode_in
plans = refl

-- ---- the call: units, with two OBU records and two plan records lent

lists : List ℕ
lists = 9 ∷ 9 ∷ 9 ∷ 9 ∷ 9 ∷ 9 ∷ 9 ∷ 9 ∷ 9 ∷ 9 ∷ 9 ∷ 9 ∷ 9 ∷ 9 ∷ []

-- an mtu and a unit
record Call : Type 0 where
  mtu : ℕ
  unit : List ℕ

abbrev call : ℕ → List ℕ → Call
call m u = record { mtu = m; unit = u }

calls : List Call
calls =
    call 1200 []
    ∷ call 2 (0x0a ∷ 1 ∷ 0x7f ∷ [])
    ∷ call 3 (0x0a ∷ 1 ∷ 0x7f ∷ [])
    ∷ call 4 (0x0a ∷ 1 ∷ 0x7f ∷ [])
    ∷ call 5 (0x0a ∷ 1 ∷ 0x7f ∷ 0x32 ∷ 0 ∷ [])
    ∷ call 20 (0x12 ∷ 0 ∷ 0x0a ∷ 3 ∷ 0x11 ∷ 0x22 ∷ 0x33 ∷ 0x32 ∷ 5 ∷ 0xa1 ∷ 0xa2 ∷ 0xa3 ∷ 0xa4 ∷ 0xa5 ∷ [])
    ∷ call 3 (0x34 ∷ 8 ∷ [])
    ∷ call 1048577 (0x36 ∷ [])
    ∷ call 1048576 (0x36 ∷ [])
    ∷ call 20 (0x32 ∷ [])
    ∷ call 20 (0x32 ∷ 0xff ∷ [])
    ∷ call 20 (0x32 ∷ 0x80 ∷ 0x80 ∷ 0x80 ∷ 0x80 ∷ 0x10 ∷ [])
    ∷ call 20 (0x32 ∷ 2 ∷ 0xa1 ∷ [])
    ∷ call 20 (0x32 ∷ 0 ∷ 0x32 ∷ 0 ∷ 0x32 ∷ 0 ∷ [])
    ∷ call 3 (0x32 ∷ 4 ∷ 1 ∷ 2 ∷ 3 ∷ 4 ∷ [])
    ∷ []

planned : ℕ → ℕ → Answer Planned
planned n m = given (record { obus = n; packets = m })

answers :
    map (λ (c : Call). plan_answer (to_plan c.mtu c.unit lists lists)) calls
    ≡ planned 0 0
    ∷ planned 1 0
    ∷ planned 1 2
    ∷ planned 1 1
    ∷ planned 2 2
    ∷ planned 2 1
    ∷ planned 1 2
    ∷ refused 1 0
    ∷ refused 3 0
    ∷ refused 4 0
    ∷ refused 5 0
    ∷ refused 6 0
    ∷ refused 7 0
    ∷ refused 8 4
    ∷ refused 9 0
    ∷ []
unfolding lists calls planned plan_answer largest_fragment charge_of is_full need_of fragment_of spread insert place plan_from plan_of encode_in listed stream_from front_of headed field_in keep
answers = refl

-- what refusal 9 leaves: the OBU list filled, the plan list as it was
after_9 :
    (plan_unit (to_plan 3 (0x32 ∷ 4 ∷ 1 ∷ 2 ∷ 3 ∷ 4 ∷ []) lists lists)).obus
    ≡ 0x32 ∷ 0 ∷ 2 ∷ 4 ∷ 5 ∷ 9 ∷ 9 ∷ 9 ∷ 9 ∷ 9 ∷ 9 ∷ 9 ∷ 9 ∷ 9 ∷ []
unfolding lists encode_in listed stream_from front_of headed field_in keep flat_map
after_9 = refl

plan_9 : (plan_unit (to_plan 3 (0x32 ∷ 4 ∷ 1 ∷ 2 ∷ 3 ∷ 4 ∷ []) lists lists)).plan ≡ lists
unfolding lists plan_answer largest_fragment charge_of is_full need_of fragment_of spread insert place plan_from plan_of encode_in listed stream_from front_of headed field_in keep flat_map
plan_9 = refl
