-- Receive calls one after the other, state and store handed on as the last call left them (D3, V12 to V14).
use Rattle.std.specs.Prelude.{ℕ, Bool, cond, get_or, take}
use mathlib.Core.List.{List, [], ◌∷◌, map, flat_map}
use Rattle.base.specs.Answers.{Answer, given, refused}
use Rattle.receiver.specs.Joining.{label, fresh}
use Rattle.receiver.specs.Call.{Incoming, state_of, Inputs, After, received}
use Rattle.receiver.specs.declared.State.{State}
use Rattle.receiver.specs.declared.Received.{Received}
use Rattle.delivery.specs.Arrivals.{number}

-- a packet of the run arrives, and an output is lent to the call, whatever bytes it holds
pub record Arrival : Type 0 where
  pub packet : ℕ
  pub output : List ℕ

abbrev pub arrived_packets : List Arrival → List ℕ
arrived_packets arrivals = map (λ (a : Arrival). a.packet) arrivals

-- what a call says, and the bytes that it hands out
pub record Call : Type 0 where
  pub answer : Answer Received
  pub bytes : List ℕ

abbrev pub state_after : State → Answer Received → State
state_after state (given r) = r.state
state_after state (refused n at) = state

-- the output's first bytes, as many as the answer says
abbrev pub bytes_by : Answer Received → List ℕ → List ℕ
bytes_by (given r) output = take r.bytes output
bytes_by (refused n at) output = []

-- the packet is taken, or refused with a number
pub data Verdict : Type 0 where
  takes : Verdict
  refuses : ℕ → Verdict

abbrev pub verdict_of : Answer Received → Verdict
verdict_of (given r) = takes
verdict_of (refused n at) = refuses n

-- what is said of an arrival, where R14 is the only refusal
abbrev pub taken_or_14 : Bool → Verdict
taken_or_14 first = cond first takes (refuses 14)

-- packets sent in one run: their payloads, and the number of the first
pub record Run : Type 0 where
  pub payloads : List (List ℕ)
  pub first : ℕ

-- the packet at a place of the run
abbrev pub packet_at : Run → ℕ → Incoming
packet_at run k = record { label = label (number run.first k); payload = get_or run.payloads k [] }

-- a call, and what comes of it
abbrev pub calling : Run → State → List ℕ → Arrival → Inputs
calling run state store a = record { state = state; packet = packet_at run a.packet; store = store; output = a.output }

abbrev pub call_by : After (Answer Received) → Call
call_by x = record { answer = x.answer; bytes = bytes_by x.answer x.output }

unfoldable pub calls : Run → State → List ℕ → List Arrival → List Call
calls run state store [] = []
calls run state store (a ∷ rest) =
    let x = received (calling run state store a) in
    call_by x ∷ calls run (state_after state x.answer) x.store rest

-- those of a fresh receiver
abbrev pub fresh_calls : Run → List ℕ → List Arrival → List Call
fresh_calls run store arrivals = calls run (state_of fresh) store arrivals

-- all that the calls hand out, and what each of them says
abbrev pub handed_out : List Call → List ℕ
handed_out cs = flat_map (λ (c : Call). c.bytes) cs

abbrev pub verdicts : List Call → List Verdict
verdicts cs = map (λ (c : Call). verdict_of c.answer) cs
