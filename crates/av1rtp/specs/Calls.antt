-- What the words of each export are, over the very answers that the calls within promise.
use Rattle.std.specs.Prelude.{◌≡◌, ℕ, ◌+◌, ◌%◌, List, [], ◌∷◌, cond, length, get_or, ltb}
use Rattle.base.specs.Numbers.{packet_numbers}
use Rattle.base.specs.Answers.{Answer, given, refused}
use Rattle.leb128.specs.declared.SizeField.{SizeField}
use Rattle.obu.specs.declared.Listed.{Listed}
use Rattle.packetizer.specs.Call as planner
use Rattle.packetizer.specs.declared.Planned.{Planned}
use Rattle.payloader.specs.Call as payloader
use Rattle.payloader.specs.declared.Written.{Written}
use Rattle.element.specs.declared.Part.{Part}
use Rattle.receiver.specs.Call.{After}
use Rattle.receiver.specs.declared.State.{State}
use Rattle.receiver.specs.declared.Received.{Received}
use Rattle.train.specs.Train as train
use Rattle.train.specs.declared.TrainHead.{TrainHead}
use Rattle.train.specs.declared.RecordHead.{RecordHead}
use Rattle.av1rtp.specs.Words.{number_in, words_in}

-- one number: a header byte, a count of bytes
abbrev pub one : ℕ → List ℕ
one n = n ∷ 0 ∷ 0 ∷ []

abbrev pub listed_words : Listed → List ℕ
listed_words l = l.obus ∷ l.padded ∷ 0 ∷ []

abbrev pub planned_words : Planned → List ℕ
planned_words p = p.obus ∷ p.packets ∷ 0 ∷ []

abbrev pub written_words : Written → List ℕ
written_words w = one w.bytes

-- what crosses of the plan call: its answer, and the two lists
pub record PlanCrosses (after : planner.After) (r : ℕ) (words obus plan : List ℕ) : Type 0 where
  pub number : r ≡ number_in after.answer
  pub words_are : words ≡ words_in planned_words after.answer
  pub obus_are : obus ≡ after.obus
  pub plan_is : plan ≡ after.plan

-- and of the writing calls: the answer, and the output
pub record WriteCrosses (after : payloader.After) (r : ℕ) (words out : List ℕ) : Type 0 where
  pub number : r ≡ number_in after.answer
  pub words_are : words ≡ words_in written_words after.answer
  pub out_is : out ≡ after.out

-- ---- a size field

abbrev pub field_words : SizeField → List ℕ
field_words f = f.value ∷ f.used ∷ cond f.shortest 1 0 ∷ []

-- ---- element k: the public call carries no place, and where there is no element its part is empty (E7, E8)

abbrev pub element_count : Answer (List Part) → ℕ
element_count (given ps) = length ps
element_count (refused n at) = 0

-- ---- the receiver's state, in three words: begun is any number but 0, the last number counts modulo 65,536 (V1, L7)

abbrev pub state_in : List ℕ → State
state_in words = record { begun = ltb 0 (get_or words 0 0); last = get_or words 1 0 % packet_numbers; «open» = get_or words 2 0 }

abbrev pub state_words : State → List ℕ
state_words s = cond s.begun 1 0 ∷ s.last ∷ s.«open» ∷ []

-- the words afterwards: a refusal leaves them
abbrev pub state_after : Answer Received → List ℕ → List ℕ
state_after (given r) words = state_words r.state
state_after (refused n at) words = words

-- how many bytes are handed out, and the padded fields of both kinds; what was thrown away does not cross
abbrev pub received_words : Received → List ℕ
received_words r = r.bytes ∷ (r.padded.lengths + r.padded.sizes) ∷ 0 ∷ []

-- what the export leaves by what the call within leaves, the state's words having been `words`
pub record Crosses (x : After (Answer Received)) (words : List ℕ) (r : ℕ) (answer state store output : List ℕ) : Type 0 where
  pub number_is : r ≡ number_in x.answer
  pub answer_is : answer ≡ words_in received_words x.answer
  pub state_is : state ≡ state_after x.answer words
  pub store_is : store ≡ x.store
  pub output_is : output ≡ x.output

-- ---- a train's head: its version, and the width that it tells

abbrev pub head_words : TrainHead → List ℕ
head_words h = h.version ∷ h.width ∷ 0 ∷ []

-- ---- a train's record: the end is the record of no payload, which no record is (L11)

abbrev pub record_answer : train.Front → Answer RecordHead
record_answer train.ends = given (record { number = 0; start = 0; length = 0 })
record_answer (train.holds h) = given h
record_answer (train.stops k) = refused k 0

abbrev pub record_words : RecordHead → List ℕ
record_words h = h.number ∷ h.start ∷ h.length ∷ []
