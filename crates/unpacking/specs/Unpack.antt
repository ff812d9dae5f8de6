-- `unpack` as functions on bytes: from a train to the OBUs that it writes, and to what it says (G5 to G7, G15, L14, L15).
use Rattle.std.specs.Prelude.{ℕ, List, [], ◌∷◌, ◌++◌, Bool, false, cond, ◌&&◌, length, take, eqb, ltb}
use Rattle.base.specs.Answers.{Answer, given, refused}
use Rattle.base.specs.Words.{ascii}
use Rattle.train.specs.Train.{Numbered, TrainEnd, ended, refused_by, Records, train_in, standing}
use Rattle.train.specs.declared.RecordFields.{RecordFields}
use Rattle.receiver.specs.Joining.{label, Held, Lost, fresh}
use Rattle.receiver.specs.Call.{Incoming, Taken, taken, After, leaves, answering, after_taking}
use Rattle.receiver.specs.declared.State.{State}
pub use Rattle.turns.specs.Stores.{output_bytes}
use Rattle.turns.specs.Text.{labelled, line_text}
use Rattle.turns.specs.Orders.{next_count}
use Rattle.turns.specs.declared.Subject.TheVariants as subject
use Rattle.turns.specs.declared.Word.TheVariants as word
use Rattle.unpacking.specs.declared.losses.Losses.{Losses}

-- L14, L15: the bytes of a payload, and of the fragment store
abbrev pub payload_bytes : ℕ
payload_bytes = 65536

abbrev pub fragment_store : ℕ
fragment_store = 32768

-- ---- the whole train (G5)

-- a packet of a train, as the receiver is given it
abbrev pub incoming : Numbered → Incoming
incoming p = record { label = label p.number; payload = p.payload }

-- what the receiver makes of it, where it holds h; one whose payload is over the store is passed over as the receiver would (R13)
abbrev pub turn : Held → Numbered → Answer Taken
turn h p = cond (ltb payload_bytes (length p.payload)) (refused 13 0) (taken fragment_store output_bytes h (incoming p))

-- what it then holds, and what is written; a refused packet is passed over
abbrev pub held_after : Held → Answer Taken → Held
held_after h (given t) = t.held
held_after h (refused n at) = h

abbrev pub written_for : Answer Taken → List ℕ
written_for (given t) = t.bytes
written_for (refused n at) = []

unfoldable pub unpacked_from : Held → List Numbered → List ℕ
unpacked_from h [] = []
unpacked_from h (p ∷ ps) = written_for (turn h p) ++ unpacked_from (held_after h (turn h p)) ps

-- the packets that stand go to a fresh receiver
abbrev pub unpack_of : List ℕ → List ℕ
unpack_of file = unpacked_from fresh (standing (train_in file))

-- ---- what is lost (G15): packets passed over, open fragments and leading elements thrown away

abbrev pub no_losses : Losses
no_losses = record { packets = 0; fragments = 0; elements = 0 }

-- one more, if it is so
abbrev pub counted_if : Bool → ℕ → ℕ
counted_if so k = cond so (next_count k) k

-- by what the receiver makes of a packet
abbrev pub with_taken : Losses → Lost → Losses
with_taken c l = record { packets = c.packets; fragments = counted_if l.fragment c.fragments; elements = counted_if l.element c.elements }

abbrev pub with_passed : Losses → Losses
with_passed c = record { packets = next_count c.packets; fragments = c.fragments; elements = c.elements }

abbrev pub losses_after : Losses → Answer Taken → Losses
losses_after c (given t) = with_taken c t.lost
losses_after c (refused n at) = with_passed c

-- a fragment of so many bytes is still open at the end
abbrev pub with_open : Losses → ℕ → Losses
with_open c bytes = with_taken c (record { fragment = ltb 0 bytes; element = false })

-- those of packets, where h is held before them
unfoldable pub losses_from : Losses → Held → List Numbered → Losses
losses_from c h [] = with_open c (length h.fragment)
losses_from c h (p ∷ ps) = losses_from (losses_after c (turn h p)) (held_after h (turn h p)) ps

-- ---- what is said of it (G7)

-- of record k, by what the receiver makes of its packet
abbrev pub said_for : ℕ → Answer Taken → List ℕ
said_for k (given t) = []
said_for k (refused n at) = line_text (subject.Record k) (word.Refused n)

-- of the record where reading stops
abbrev pub said_at : ℕ → TrainEnd → List ℕ
said_at k ended = []
said_at k (refused_by n) = line_text (subject.Record k) (word.Refused n)

unfoldable pub said_from : ℕ → Held → List Numbered → TrainEnd → List ℕ
said_from k h [] stop = said_at k stop
said_from k h (p ∷ ps) stop = said_for k (turn h p) ++ said_from (next_count k) (held_after h (turn h p)) ps stop

-- G15, at the end: one line, if something was lost
unfoldable pub losses_line : Losses → List ℕ
losses_line c =
    labelled (ascii "lost: ") c.packets
    ++ (labelled (ascii " packets passed over, ") c.fragments
    ++ (labelled (ascii " open fragments, ") c.elements ++ ascii " leading elements\n"))

abbrev pub is_none : Losses → Bool
is_none c = eqb c.packets 0 && (eqb c.fragments 0 && eqb c.elements 0)

abbrev pub said_of : Losses → List ℕ
said_of c = cond (is_none c) [] (losses_line c)

abbrev pub said_by : Answer Records → List ℕ
said_by (given t) = said_from 0 fresh t.items t.stop ++ said_of (losses_from no_losses fresh t.items)
said_by (refused n at) = line_text subject.Train (word.Refused n)

-- all lines on standard error
abbrev pub unpack_says : List ℕ → List ℕ
unpack_says file = said_by (train_in file)

-- ---- one record, whose number and length were read, and then its payload

-- its packet is taken, or passed over with the number of its refusal; or reading stops
pub data Step (A : Type 0) : Type 0 where
  takes : A → Step A
  passes : ℕ → Step A
  breaks : ℕ → Step A

abbrev pub step_by : {A : Type 0} → Answer A → Step A
step_by (given a) = takes a
step_by (refused n at) = passes n

-- where these bytes were read: that, with store and output after it, which the receiver alone changes; the payload may be cut (R22)
unfoldable pub step_of : State → RecordFields → List ℕ → List ℕ → List ℕ → After (Step Taken)
step_of state f l store out =
    cond (ltb (length l) f.length)
    (leaves (breaks 22) store out)
    (answering step_by
    (after_taking
    (record {
      state = state;
      packet = incoming (record { number = f.number; payload = take f.length l });
      store = store;
      output = out;
    })))
