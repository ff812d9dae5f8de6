-- `padded` on some inputs: the lines, and what is said; computed. Assumes nothing.
use mathlib.Core.Path.{◌≡◌, refl}
use Prim.Native.Nat.{ℕ}
use mathlib.Core.List.{List, [], ◌∷◌, ◌++◌, map}
use Rattle.base.specs.Lists.{keep}
use Rattle.base.specs.Words.{ascii, words, words_of}
use Rattle.base.specs.BigEndian.{value_after}
use Rattle.base.specs.Streams.{stream_from}
use Rattle.leb128.specs.Field.{field_in, encode_in}
use Rattle.obu.specs.Front.{front_of, headed}
use Rattle.obu.specs.Unit.{listed}
use Rattle.packetizer.specs.Fragment.{largest_fragment}
use Rattle.packetizer.specs.Plan.{charge_of, is_full, need_of, fragment_of, spread, insert, place, plan_from, plan_of}
use Rattle.packetizer.specs.Elements.{elements_from}
use Rattle.turns.specs.Text.{decimal_in, line_text}
use Rattle.turns.specs.declared.Subject.TheVariants as subject
use Rattle.turns.specs.declared.Word.TheVariants as word
use Rattle.packing.specs.Pack.{version_with, version_in, head_after, length_in, pack_says}
use Rattle.padding.specs.Padded.{line_of, lines_from, padded_of}

-- an input, the lines that are written, and what is said
record Case : Type 0 where
  input : List ℕ
  writes : List ℕ
  says : List ℕ

case : List ℕ → List ℕ → List ℕ → Case
case input writes says = record { input = input; writes = writes; says = says }

-- a unit with two padded size fields, one of them of a dropped OBU; units that have no packets, of one dropped OBU and of none
two : List ℕ
two = 0 ∷ 0 ∷ 0 ∷ 7 ∷ 0x32 ∷ 0x80 ∷ 0 ∷ 0x12 ∷ 0x81 ∷ 0 ∷ 1 ∷ []

dropped : List ℕ
dropped = 0 ∷ 0 ∷ 0 ∷ 2 ∷ 0x12 ∷ 0 ∷ []

dropped_padded : List ℕ
dropped_padded = 0 ∷ 0 ∷ 0 ∷ 3 ∷ 0x12 ∷ 0x80 ∷ 0 ∷ []

empty : List ℕ
empty = 0 ∷ 0 ∷ 0 ∷ 0 ∷ []

-- heads: mtu 5 in both versions, mtu 2, at which no unit has packets, and one over the limit
short : List ℕ
short = 1 ∷ 0 ∷ 5 ∷ 0 ∷ 0 ∷ []

long : List ℕ
long = 2 ∷ 0 ∷ 0 ∷ 0 ∷ 5 ∷ 0 ∷ 0 ∷ []

small : List ℕ
small = 1 ∷ 0 ∷ 2 ∷ 0 ∷ 0 ∷ []

large : List ℕ
large = 2 ∷ 0 ∷ 0x10 ∷ 0 ∷ 1 ∷ 0 ∷ 0 ∷ []

no_head : List ℕ
no_head = line_text subject.Input word.NoHead

-- one unit, of either version; one without packets; several; no unit. Then one that is refused, cut, its length cut; an mtu over the limit,
-- with a unit and without; a cut head; nothing
cases : List Case
cases =
    case (short ++ two) (ascii "0 2\n") []
    ∷ case (long ++ two) (ascii "0 2\n") []
    ∷ case (small ++ two) (ascii "0 2\n") []
    ∷ case (short ++ dropped) (ascii "0 0\n") []
    ∷ case (short ++ dropped_padded) (ascii "0 1\n") []
    ∷ case (short ++ (empty ++ (two ++ dropped_padded))) (ascii "0 0\n1 2\n2 1\n") []
    ∷ case short [] []
    ∷ case (short ++ (two ++ (0 ∷ 0 ∷ 0 ∷ 1 ∷ 0x36 ∷ two))) (ascii "0 2\n") (line_text (subject.Unit 1) (word.Refused 3))
    ∷ case (short ++ (two ++ (0 ∷ 0 ∷ 0 ∷ 3 ∷ 0x32 ∷ 0x80 ∷ []))) (ascii "0 2\n") (line_text (subject.Unit 1) word.Cut)
    ∷ case (short ++ (two ++ (0 ∷ 0 ∷ 0 ∷ []))) (ascii "0 2\n") (line_text (subject.Unit 1) word.Cut)
    ∷ case (large ++ two) [] (line_text (subject.Unit 0) (word.Refused 1))
    ∷ case large [] []
    ∷ case (1 ∷ 0 ∷ 5 ∷ 0 ∷ []) [] no_head
    ∷ case [] [] no_head
    ∷ []

lines : map (λ (c : Case). padded_of c.input) cases ≡ map (λ (c : Case). c.writes) cases
unfolding cases case two dropped dropped_padded empty short long small large version_in version_with head_after length_in stream_from value_after listed front_of headed field_in keep encode_in plan_of plan_from place insert spread fragment_of need_of is_full charge_of largest_fragment elements_from lines_from line_of decimal_in
lines = refl

said : map (λ (c : Case). pack_says c.input) cases ≡ map (λ (c : Case). c.says) cases
unfolding cases case two dropped dropped_padded empty short long small large no_head version_in version_with head_after length_in stream_from value_after listed front_of headed field_in keep encode_in plan_of plan_from place insert spread fragment_of need_of is_full charge_of largest_fragment elements_from line_text decimal_in words_of words
said = refl
