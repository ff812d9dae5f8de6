-- The rules' example (G13), to the byte, and inputs that are bad or refused. Assumes nothing.
use mathlib.Core.Path.{◌≡◌, refl}
use Prim.Native.Nat.{ℕ}
use Prim.Native.String as string
use mathlib.Core.List.{List, [], ◌∷◌, map, flat_map}
use Rattle.base.specs.Lists.{keep}
use Rattle.base.specs.Words.{ascii}
use Rattle.leb128.specs.Field.{field_in, encode_in}
use Rattle.base.specs.BigEndian.{value_after}
use Rattle.base.specs.Streams.{stream_from}
use Rattle.obu.specs.Front.{headed, front_of}
use Rattle.obu.specs.Unit.{listed}
use Rattle.packetizer.specs.Plan.{charge_of, is_full, need_of, fragment_of, spread, insert, place, plan_from, plan_of}
use Rattle.packetizer.specs.Call.{plan_answer}
use Rattle.aggregation.specs.New.{before_frame, from_frame, n_of}
use Rattle.aggregation.specs.Header.{byte_of}
use Rattle.turns.specs.Text.{decimal_in}
use Rattle.listing.specs.Input.{head_of, input_of}
use Rattle.listing.specs.Row.{row_text}
use Rattle.listing.specs.Listing.{rows_from, unit_listing, two_numbers, planlist_text}

record Case : Type 0 where
  input : List ℕ
  prints : string.String

case : List ℕ → string.String → Case
case input prints = record { input = input; prints = prints }

-- G13; a unit of no byte; another version, a cut head, a byte less, a byte more, a unit over the store; R7; the largest mtu that the input can name
cases : List Case
cases =
    case (1 ∷ 0 ∷ 5 ∷ 0 ∷ 0 ∷ 0 ∷ 5 ∷ 10 ∷ 1 ∷ 127 ∷ 50 ∷ 0 ∷ []) "obus 2\npackets 2\n0 0 1 0 2 2 10 0\n1 1 1 0 1 1 10 3\n"
    ∷ case (1 ∷ 0 ∷ 5 ∷ 0 ∷ 0 ∷ 0 ∷ 0 ∷ []) "obus 0\npackets 0\n"
    ∷ case (2 ∷ 0 ∷ 5 ∷ 0 ∷ 0 ∷ 0 ∷ 0 ∷ []) "bad input\n"
    ∷ case (1 ∷ 0 ∷ 5 ∷ 0 ∷ 0 ∷ 0 ∷ []) "bad input\n"
    ∷ case (1 ∷ 0 ∷ 5 ∷ 0 ∷ 0 ∷ 0 ∷ 2 ∷ 50 ∷ []) "bad input\n"
    ∷ case (1 ∷ 0 ∷ 5 ∷ 0 ∷ 0 ∷ 0 ∷ 2 ∷ 50 ∷ 0 ∷ 0 ∷ []) "bad input\n"
    ∷ case (1 ∷ 0 ∷ 5 ∷ 0 ∷ 0 ∷ 128 ∷ 1 ∷ 50 ∷ []) "bad input\n"
    ∷ case (1 ∷ 0 ∷ 5 ∷ 0 ∷ 0 ∷ 0 ∷ 3 ∷ 50 ∷ 2 ∷ 161 ∷ []) "refused 7 0\n"
    ∷ case (1 ∷ 255 ∷ 255 ∷ 0 ∷ 0 ∷ 0 ∷ 2 ∷ 50 ∷ 0 ∷ []) "obus 1\npackets 1\n0 0 1 0 1 1 10 0\n"
    ∷ []

prints_all : map (λ (c : Case). planlist_text c.input) cases ≡ map (λ (c : Case). ascii c.prints) cases
unfolding cases case input_of head_of value_after unit_listing rows_from plan_answer listed stream_from front_of headed field_in keep plan_of plan_from place is_full insert charge_of need_of fragment_of spread byte_of n_of before_frame from_frame encode_in two_numbers row_text decimal_in flat_map
prints_all = refl
