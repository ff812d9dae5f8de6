-- `unpack` on some trains: what it writes and says; computed. Assumes nothing.
use mathlib.Core.Path.{◌≡◌, refl}
use Prim.Native.Nat.{ℕ}
use mathlib.Core.List.{List, [], ◌∷◌, ◌++◌, map}
use Rattle.base.specs.Words.{ascii, words, words_of}
use Rattle.leb128.specs.Field.{field_in, encode_in}
use Rattle.obu.specs.Front.{front_of, headed}
use Rattle.obu.specs.Wire.{whole_of, wire}
use Rattle.element.specs.Elements.{element_at, exactly, counting, elements_of, payload_elements}
use Rattle.base.specs.BigEndian.{value_after}
use Rattle.base.specs.Streams.{stream_from}
use Rattle.train.specs.Train.{head_with, head_of, fields_of, held_by}
use Rattle.handing.specs.Handing.{wires}
use Rattle.receiver.specs.Joining.{is_ahead, is_in_step, follows, with_fragment, lost, finished, left, handed, kept_open, next, out}
use Rattle.receiver.specs.Call.{taken}
use Rattle.turns.specs.Text.{decimal_in, line_text}
use Rattle.turns.specs.declared.Subject.TheVariants as subject
use Rattle.turns.specs.declared.Word.TheVariants as word
use Rattle.unpacking.specs.Unpack.{unpacked_from, unpack_of, losses_from, said_from, losses_line, unpack_says}

-- an OBU in two packets and one by itself, over the end of the numbers; the first packet lost; the second before the first; a packet with
-- N and Z passed over; a cut record at the end; a record of length 2 between them; no record; another version; nothing
trains : List (List ℕ)
trains =
    (1 ∷ 0 ∷ 4 ∷ 0xff ∷ 0xff ∷ 0x58 ∷ 8 ∷ 0 ∷ 4 ∷ 0 ∷ 0 ∷ 0x90 ∷ 0x7f ∷ 0 ∷ 4 ∷ 0 ∷ 1 ∷ 0x10 ∷ 0x30 ∷ [])
    ∷ (1 ∷ 0 ∷ 4 ∷ 0 ∷ 0 ∷ 0x90 ∷ 0x7f ∷ 0 ∷ 4 ∷ 0 ∷ 1 ∷ 0x10 ∷ 0x30 ∷ [])
    ∷ (1 ∷ 0 ∷ 4 ∷ 0 ∷ 0 ∷ 0x90 ∷ 0x7f ∷ 0 ∷ 4 ∷ 0xff ∷ 0xff ∷ 0x58 ∷ 8 ∷ 0 ∷ 4 ∷ 0 ∷ 1 ∷ 0x10 ∷ 0x30 ∷ [])
    ∷ (1 ∷ 0 ∷ 4 ∷ 0 ∷ 0 ∷ 0x58 ∷ 8 ∷ 0 ∷ 4 ∷ 0 ∷ 1 ∷ 0x98 ∷ 0x7f ∷ 0 ∷ 4 ∷ 0 ∷ 1 ∷ 0x90 ∷ 0x7f ∷ [])
    ∷ (1 ∷ 0 ∷ 4 ∷ 0 ∷ 1 ∷ 0x10 ∷ 0x30 ∷ 0 ∷ 4 ∷ 0 ∷ 2 ∷ 0x10 ∷ [])
    ∷ (1 ∷ 0 ∷ 4 ∷ 0 ∷ 1 ∷ 0x10 ∷ 0x30 ∷ 0 ∷ 2 ∷ 0 ∷ 2 ∷ 0 ∷ 4 ∷ 0 ∷ 2 ∷ 0x10 ∷ 0x30 ∷ [])
    ∷ (1 ∷ [])
    ∷ (3 ∷ 0 ∷ 4 ∷ 0 ∷ 1 ∷ 0x10 ∷ 0x30 ∷ [])
    ∷ []
    ∷ []

-- with length fields of four bytes: the first of them again; and one that is cut in its number
long_trains : List (List ℕ)
long_trains =
    (2 ∷ 0 ∷ 0 ∷ 0 ∷ 4 ∷ 0xff ∷ 0xff ∷ 0x58 ∷ 8 ∷ 0 ∷ 0 ∷ 0 ∷ 4 ∷ 0 ∷ 0 ∷ 0x90 ∷ 0x7f ∷ 0 ∷ 0 ∷ 0 ∷ 4 ∷ 0 ∷ 1 ∷ 0x10 ∷ 0x30 ∷ [])
    ∷ (2 ∷ 0 ∷ 0 ∷ 0 ∷ 4 ∷ 0 ∷ 1 ∷ 0x10 ∷ 0x30 ∷ 0 ∷ 0 ∷ 0 ∷ 4 ∷ 0 ∷ [])
    ∷ []

unpacked :
    map unpack_of trains
    ≡ (0x0a ∷ 1 ∷ 0x7f ∷ 0x32 ∷ 0 ∷ [])
    ∷ (0x32 ∷ 0 ∷ [])
    ∷ (0x32 ∷ 0 ∷ [])
    ∷ (0x0a ∷ 1 ∷ 0x7f ∷ [])
    ∷ (0x32 ∷ 0 ∷ [])
    ∷ (0x32 ∷ 0 ∷ [])
    ∷ []
    ∷ []
    ∷ []
    ∷ []
unfolding trains head_with head_of stream_from fields_of held_by value_after unpacked_from taken is_ahead is_in_step follows with_fragment finished left handed kept_open next out wires wire whole_of front_of headed field_in encode_in element_at exactly counting elements_of payload_elements
unpacked = refl

long_unpacked : map unpack_of long_trains ≡ (0x0a ∷ 1 ∷ 0x7f ∷ 0x32 ∷ 0 ∷ []) ∷ (0x32 ∷ 0 ∷ []) ∷ []
unfolding long_trains head_with head_of stream_from fields_of held_by value_after unpacked_from taken is_ahead is_in_step follows with_fragment finished left handed kept_open next out wires wire whole_of front_of headed field_in encode_in element_at exactly counting elements_of payload_elements
long_unpacked = refl

-- what is said of them: an element lost with the packet before it; a packet that comes late too; N with Z; a record that is cut, and one
-- too short; no train
said :
    map unpack_says trains
    ≡ []
    ∷ losses_line (record { packets = 0; fragments = 0; elements = 1 })
    ∷ (line_text (subject.Record 1) (word.Refused 14) ++ losses_line (record { packets = 1; fragments = 0; elements = 1 }))
    ∷ (line_text (subject.Record 1) (word.Refused 15) ++ losses_line (record { packets = 1; fragments = 0; elements = 0 }))
    ∷ (line_text (subject.Record 1) (word.Refused 22) ++ [])
    ∷ (line_text (subject.Record 1) (word.Refused 23) ++ [])
    ∷ []
    ∷ line_text subject.Train (word.Refused 21)
    ∷ line_text subject.Train (word.Refused 21)
    ∷ []
unfolding trains head_with head_of stream_from fields_of held_by value_after losses_from said_from taken is_ahead is_in_step follows with_fragment lost finished left handed kept_open next out wires wire whole_of front_of headed field_in encode_in element_at exactly counting elements_of payload_elements line_text decimal_in words_of words
said = refl

long_said : map unpack_says long_trains ≡ [] ∷ (line_text (subject.Record 1) (word.Refused 22) ++ []) ∷ []
unfolding long_trains head_with head_of stream_from fields_of held_by value_after losses_from said_from taken is_ahead is_in_step follows with_fragment lost finished left handed kept_open next out wires wire whole_of front_of headed field_in encode_in element_at exactly counting elements_of payload_elements line_text decimal_in words_of words
long_said = refl

line : losses_line (record { packets = 1; fragments = 20; elements = 3 }) ≡ ascii "lost: 1 packets passed over, 20 open fragments, 3 leading elements\n"
unfolding losses_line decimal_in
line = refl
