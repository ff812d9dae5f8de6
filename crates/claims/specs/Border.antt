-- How answers and states cross to C and Rust (W14, K3, V1).
use Rattle.std.specs.Prelude.{◌≡◌, ℕ, ◌≤◌, ◌<◌, List, [], ◌∷◌}
use Rattle.base.specs.Numbers.{packet_numbers}
use Rattle.base.specs.Answers.{Answer}
use Rattle.base.specs.Refusals.{number_of}
use Rattle.base.specs.declared.Refusal.{Refusal}
use Rattle.receiver.specs.Joining.{fresh}
use Rattle.receiver.specs.Call.{state_of}
use Rattle.receiver.specs.declared.State.{State}
use Rattle.av1rtp.specs.Words.{Named, number_in, words_in}
use Rattle.av1rtp.specs.Calls.{state_in, state_words}
use Rattle.claims.specs.Answers.{TellsApart}

-- no refusal has the number 0
abbrev pub NeverZero : Type 0
NeverZero = (r : Refusal) → 1 ≤ number_of r

-- where three words tell what was asked for apart, number and words tell the answers apart
abbrev pub ToldApart : Type 1
ToldApart =
    (A : Type 0) (three : A → List ℕ) → TellsApart three
    → (x y : Answer A) → Named x → Named y → number_in x ≡ number_in y → words_in three x ≡ words_in three y → x ≡ y

-- three zeros are the fresh state, and a state that is handed on in words is that state
abbrev pub StateFresh : Type 0
StateFresh = state_in (0 ∷ 0 ∷ 0 ∷ []) ≡ state_of fresh

abbrev pub StateBack : Type 0
StateBack = (s : State) → s.last < packet_numbers → state_in (state_words s) ≡ s
