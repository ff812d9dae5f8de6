-- `pack` on some inputs: the trains, and what is said; computed. Assumes nothing.
use Rattle.std.proofs.Common.{◌≡◌, ℕ, List, [], ◌∷◌, ◌++◌, map, refl}
use mathlib.Core.List.{flat_map}
use Rattle.base.specs.Lists.{keep}
use Rattle.base.specs.Words.{words, words_of}
use Rattle.leb128.specs.Field.{field_in, encode_in}
use Rattle.obu.specs.Front.{front_of, headed}
use Rattle.obu.specs.Unit.{listed}
use Rattle.packetizer.specs.Fragment.{largest_fragment}
use Rattle.packetizer.specs.Plan.{charge_of, is_full, need_of, fragment_of, spread, insert, place, plan_from, plan_of}
use Rattle.packetizer.specs.Elements.{elements_from}
use Rattle.aggregation.specs.New.{before_frame, from_frame, n_of}
use Rattle.aggregation.specs.Header.{byte_of}
use Rattle.payloader.specs.Payload.{fielded, payload, payloads_from}
use Rattle.base.specs.BigEndian.{big_endian, value_after}
use Rattle.base.specs.Streams.{stream_from}
use Rattle.turns.specs.Text.{decimal_in, line_text}
use Rattle.turns.specs.declared.Subject.TheVariants as subject
use Rattle.turns.specs.declared.Word.TheVariants as word
use Rattle.packing.specs.Pack.{version_with, version_in, head_after, length_in, numbered, number_after, pack_of, pack_says}

-- an input, the train that is written, and what is said
record Case : Type 0 where
  input : List ℕ
  writes : List ℕ
  says : List ℕ

case : List ℕ → List ℕ → List ℕ → Case
case input writes says = record { input = input; writes = writes; says = says }

-- two units at mtu 5, the first with no kept OBU, over the end of the numbers: without the version, and their records
two : List ℕ
two = 0 ∷ 5 ∷ 0xff ∷ 0xff ∷ 0 ∷ 0 ∷ 0 ∷ 2 ∷ 0x12 ∷ 0 ∷ 0 ∷ 0 ∷ 0 ∷ 5 ∷ 0x0a ∷ 1 ∷ 0x7f ∷ 0x32 ∷ 0 ∷ []

records : List ℕ
records = 0 ∷ 5 ∷ 0xff ∷ 0xff ∷ 0x10 ∷ 8 ∷ 0x7f ∷ 0 ∷ 4 ∷ 0 ∷ 0 ∷ 0x10 ∷ 0x30 ∷ []

-- one unit of one byte, with the number 7, behind the mtu; its record, with a short length and a long one
one : List ℕ
one = 0 ∷ 7 ∷ 0 ∷ 0 ∷ 0 ∷ 1 ∷ 0x30 ∷ []

short : List ℕ
short = 0 ∷ 4 ∷ 0 ∷ 7 ∷ 0x10 ∷ 0x30 ∷ []

long : List ℕ
long = 0 ∷ 0 ∷ short

no_head : List ℕ
no_head = line_text subject.Input word.NoHead

-- a third unit; one that is refused; cut; its length cut; over the store; none. No unit; an mtu of 2. Of version 2: the two units; 65,533
-- and 65,534, the latter of version 1 too; the largest mtu, and one more, with a unit and without. Another version; cut heads; nothing
cases : List Case
cases =
    case (1 ∷ two ++ (0 ∷ 0 ∷ 0 ∷ 4 ∷ 0x36 ∷ 8 ∷ 1 ∷ 0xc1 ∷ [])) (1 ∷ records ++ (0 ∷ 6 ∷ 0 ∷ 1 ∷ 0x10 ∷ 0x34 ∷ 8 ∷ 0xc1 ∷ [])) []
    ∷ case (1 ∷ two ++ (0 ∷ 0 ∷ 0 ∷ 1 ∷ 0x36 ∷ [])) (1 ∷ records) (line_text (subject.Unit 2) (word.Refused 3))
    ∷ case (1 ∷ two ++ (0 ∷ 0 ∷ 0 ∷ 4 ∷ 0x36 ∷ 8 ∷ 1 ∷ [])) (1 ∷ records) (line_text (subject.Unit 2) word.Cut)
    ∷ case (1 ∷ two ++ (0 ∷ 0 ∷ 0 ∷ [])) (1 ∷ records) (line_text (subject.Unit 2) word.Cut)
    ∷ case (1 ∷ two ++ (0 ∷ 0 ∷ 0x80 ∷ 1 ∷ 0x30 ∷ [])) (1 ∷ records) (line_text (subject.Unit 2) word.Cut)
    ∷ case (1 ∷ two) (1 ∷ records) []
    ∷ case (1 ∷ 0 ∷ 3 ∷ 0 ∷ 7 ∷ []) (1 ∷ []) []
    ∷ case (1 ∷ 0 ∷ 2 ∷ one) (1 ∷ []) []
    ∷ case (2 ∷ 0 ∷ 0 ∷ two) (1 ∷ records) []
    ∷ case (2 ∷ 0 ∷ 0 ∷ 0xff ∷ 0xfd ∷ one) (1 ∷ short) []
    ∷ case (2 ∷ 0 ∷ 0 ∷ 0xff ∷ 0xfe ∷ one) (2 ∷ long) []
    ∷ case (1 ∷ 0xff ∷ 0xfe ∷ one) (2 ∷ long) []
    ∷ case (2 ∷ 0 ∷ 0x10 ∷ 0 ∷ 0 ∷ one) (2 ∷ long) []
    ∷ case (2 ∷ 0 ∷ 0x10 ∷ 0 ∷ 1 ∷ one) (2 ∷ []) (line_text (subject.Unit 0) (word.Refused 1))
    ∷ case (2 ∷ 0 ∷ 0x10 ∷ 0 ∷ 1 ∷ 0 ∷ 7 ∷ []) (2 ∷ []) []
    ∷ case (3 ∷ 0 ∷ 0 ∷ two) [] no_head
    ∷ case (1 ∷ 0 ∷ 5 ∷ 0xff ∷ []) [] no_head
    ∷ case (2 ∷ 0 ∷ 0 ∷ 0 ∷ 5 ∷ 0xff ∷ []) [] no_head
    ∷ case [] [] no_head
    ∷ []

trains : map (λ (c : Case). pack_of c.input) cases ≡ map (λ (c : Case). c.writes) cases
unfolding cases case two records one short long version_in version_with head_after length_in numbered number_after stream_from big_endian value_after listed front_of headed field_in keep encode_in plan_of plan_from place insert spread fragment_of need_of is_full charge_of largest_fragment elements_from n_of before_frame from_frame byte_of fielded payload payloads_from flat_map
trains = refl

said : map (λ (c : Case). pack_says c.input) cases ≡ map (λ (c : Case). c.says) cases
unfolding cases case two records one short long no_head version_in version_with head_after length_in numbered number_after stream_from big_endian value_after listed front_of headed field_in keep encode_in plan_of plan_from place insert spread fragment_of need_of is_full charge_of largest_fragment elements_from n_of before_frame from_frame byte_of fielded payload payloads_from flat_map line_text decimal_in words_of words
said = refl
