-- What crosses says all, but for what the receive call threw away: number and words tell the answers apart, and a state that is handed on is that state. Assumes nothing.
use mathlib.Core.Path.{◌≡◌, refl, sym, ap, ap₂, ◌∙◌}
use Prim.Native.Nat.{ℕ, ◌<◌}
use native.Mathlib.Nat.{mod-eq_of_lt}
use native.Mathlib.Omega.{arith}
use mathlib.Core.Bool.{Bool, true, false, cond}
use mathlib.Core.List.{List, [], ◌∷◌}
use lib.Dec.{ltb}
use Rattle.base.specs.Answers.{Answer, given, refused}
use Rattle.leb128.specs.declared.SizeField.{SizeField}
use Rattle.obu.specs.declared.Listed.{Listed}
use Rattle.packetizer.specs.declared.Planned.{Planned}
use Rattle.payloader.specs.declared.Written.{Written}
use Rattle.receiver.specs.Joining.{fresh}
use Rattle.receiver.specs.Call.{state_of}
use Rattle.receiver.specs.declared.State.{State}
use Rattle.train.specs.declared.TrainHead.{TrainHead}
use Rattle.train.specs.declared.RecordHead.{RecordHead}
use Rattle.av1rtp.specs.Words.{number_in, words_in, Named}
use Rattle.av1rtp.specs.Calls.{one, listed_words, planned_words, written_words, field_words, head_words, record_words, state_in, state_words}

-- ---- answers

-- where three words tell what was asked for apart, number and words tell the answers apart
pub told_apart : {A : Type 0} (three : A → List ℕ) → ((a b : A) → three a ≡ three b → a ≡ b)
    → (x y : Answer A) → Named x → Named y → number_in x ≡ number_in y → words_in three x ≡ words_in three y → x ≡ y
told_apart three apart (given a) (given b) p q e f = ap given (apart a b (cc))
told_apart three apart (given a) (refused n at) p q e f = absurd (omega arith)
told_apart three apart (refused n at) (given b) p q e f = absurd (omega arith)
told_apart three apart (refused n at) (refused m bt) p q e f = ap₂ refused e (cc)

-- and they do
pub one_apart : (a b : ℕ) → one a ≡ one b → a ≡ b
one_apart a b e = cc

pub listed_apart : (a b : Listed) → listed_words a ≡ listed_words b → a ≡ b
listed_apart a b e =
    let o : a.obus ≡ b.obus = cc in
    let p : a.padded ≡ b.padded = cc in
    ap₂ (λ (n m : ℕ). record { obus = n; padded = m }) o p

pub planned_apart : (a b : Planned) → planned_words a ≡ planned_words b → a ≡ b
planned_apart a b e =
    let o : a.obus ≡ b.obus = cc in
    let p : a.packets ≡ b.packets = cc in
    ap₂ (λ (n m : ℕ). record { obus = n; packets = m }) o p

pub written_apart : (a b : Written) → written_words a ≡ written_words b → a ≡ b
written_apart a b e =
    let o : a.bytes ≡ b.bytes = cc in
    ap (λ (n : ℕ). record { bytes = n }) o

-- a test is told by its number
test_back : (t : Bool) → ltb 0 (cond t 1 0) ≡ t
test_back true = refl
test_back false = refl

pub field_apart : (a b : SizeField) → field_words a ≡ field_words b → a ≡ b
field_apart a b e =
    let o : a.value ≡ b.value = cc in
    let p : a.used ≡ b.used = cc in
    let q : ◌≡◌ {A = ℕ} (cond a.shortest 1 0) (cond b.shortest 1 0) = cc in
    let t : a.shortest ≡ b.shortest = sym (test_back a.shortest) ∙ ap (ltb 0) q ∙ test_back b.shortest in
    rw (o, p, t)

pub head_apart : (a b : TrainHead) → head_words a ≡ head_words b → a ≡ b
head_apart a b e =
    let o : a.version ≡ b.version = cc in
    let p : a.width ≡ b.width = cc in
    ap₂ (λ (n m : ℕ). record { version = n; width = m }) o p

pub record_apart : (a b : RecordHead) → record_words a ≡ record_words b → a ≡ b
record_apart a b e =
    let o : a.number ≡ b.number = cc in
    let p : a.start ≡ b.start = cc in
    let q : a.length ≡ b.length = cc in
    rw (o, p, q)

-- ---- the receiver's state

pub state_fresh : state_in (0 ∷ 0 ∷ 0 ∷ []) ≡ state_of fresh
state_fresh = refl

-- a number of a packet has 16 bits
pub state_back : (s : State) → s.last < 65536 → state_in (state_words s) ≡ s
state_back s h =
    rw (test_back s.begun, mod-eq_of_lt h)
