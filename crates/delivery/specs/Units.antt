-- What loss leaves of units that the plan call planned and whose packets the writing calls wrote (D3): the statement.
use Rattle.std.specs.Prelude.{ℕ, suc, ◌+◌, ◌*◌, ◌≤◌, ◌≡◌, ◌⊎◌, Bool, true, cond, ◌&&◌, length, get_or, ltb, leb}
use mathlib.Core.List.{List, [], ◌∷◌, ◌++◌, map, flat_map}
use Rattle.base.specs.Answers.{Given}
use Rattle.base.specs.Lists.{keep, All}
use Rattle.obu.specs.Unit.{obus_of}
use Rattle.obu.specs.Wire.{wire_of}
use Rattle.obu.specs.Records.{no_obu}
use Rattle.obu.specs.declared.Obu.{Obu}
use Rattle.packetizer.specs.Plan.{least_mtu}
use Rattle.packetizer.specs.Call.{unit_plan, to_plan, plan_answer}
use Rattle.packetizer.specs.declared.PacketMetadata.{PacketMetadata}
use Rattle.payloader.specs.Payload.{payloads_of}
use Rattle.delivery.specs.Arrivals.{timely, first_timely, Near, in_order}
use Rattle.delivery.specs.Calls.{Arrival, arrived_packets, Run, takes, refuses, taken_or_14, fresh_calls, handed_out, verdicts}

-- one planned unit: its mtu, and the two lent lists
pub record Sending : Type 0 where
  pub mtu : ℕ
  pub unit : List ℕ
  pub obus : List ℕ
  pub plan : List ℕ

-- W15, with an mtu that gives packets
abbrev pub Accepted : Sending → Type 0
Accepted s = (least_mtu ≤ s.mtu) × Given (plan_answer (to_plan s.mtu s.unit s.obus s.plan))

-- the packets of one run: those of the units, in order, each as the writing calls write it
abbrev pub payloads_sent : List Sending → List (List ℕ)
payloads_sent sendings = flat_map (λ (s : Sending). payloads_of s.mtu s.unit) sendings

abbrev pub sent_from : ℕ → List Sending → Run
sent_from first sendings = record { payloads = payloads_sent sendings; first = first }

-- ---- the packets of an OBU (W17)

abbrev pub carries : PacketMetadata → ℕ → Bool
carries p i = leb p.first_obu_index i && ltb i (p.first_obu_index + p.num_obu_elements)

-- of OBU i, by their places in the run, in which the unit's first packet is at place `at`
unfoldable pub packets_of : ℕ → List PacketMetadata → ℕ → List ℕ
packets_of at [] i = []
packets_of at (p ∷ ps) i = cond (carries p i) (at ∷ packets_of (suc at) ps i) (packets_of (suc at) ps i)

unfoldable pub every : (ℕ → Bool) → List ℕ → Bool
every test [] = true
every test (k ∷ ks) = test k && every test ks

-- ---- what is to come out

-- the places, among the unit's kept OBUs, of those all of whose packets pass the test
abbrev pub whole_obus : (ℕ → Bool) → ℕ → Sending → List ℕ
whole_obus test at s = keep (λ i. every test (packets_of at (unit_plan s.mtu s.unit) i)) (in_order 0 (length (obus_of s.unit)))

-- their `wire` bytes (O12), and those of the units after it
unfoldable pub expected : (ℕ → Bool) → ℕ → List Sending → List ℕ
expected test at [] = []
expected test at (s ∷ rest) =
    flat_map (λ (i : ℕ). wire_of s.unit (get_or (obus_of s.unit) i no_obu)) (whole_obus test at s)
    ++ expected test (at + length (unit_plan s.mtu s.unit)) rest

-- ---- the statement

-- the space of V17: `size` is at least each kept OBU's size, and `mtu` at least each mtu
pub record UnitSpace (sendings : List Sending) (size mtu : ℕ) (store : List ℕ) (arrivals : List Arrival) : Type 0 where
  pub obus_fit : All (λ s. All (λ (o : Obu). o.size ≤ size) (obus_of s.unit)) sendings
  pub mtus_fit : All (λ s. s.mtu ≤ mtu) sendings
  pub store_has : size ≤ length store
  pub outputs_have : All (λ a. size + 4 * mtu ≤ length a.output) arrivals

-- a fresh receiver is called for each arrival of a packet of the run
pub record UnitsDelivered (sendings : List Sending) (first : ℕ) (store : List ℕ) (arrivals : List Arrival) : Type 0 where
  -- what it hands out is the kept OBUs all of whose packets are timely: in order, once each, and nothing else
  pub out : handed_out (fresh_calls (sent_from first sendings) store arrivals) ≡ expected (timely (arrived_packets arrivals)) 0 sendings
  -- R14 is given to exactly those arrivals that are not the first coming of a timely packet, and no other refusal arises
  pub refusals :
      verdicts (fresh_calls (sent_from first sendings) store arrivals)
      ≡ map taken_or_14 (first_timely [] (arrived_packets arrivals))

abbrev pub UnitsDelivery : Type 0
UnitsDelivery =
    (sendings : List Sending) (first size mtu : ℕ) (store : List ℕ) (arrivals : List Arrival)
    → All Accepted sendings
    → Near (length (payloads_sent sendings)) (arrived_packets arrivals)
    → UnitSpace sendings size mtu store arrivals
    → UnitsDelivered sendings first store arrivals

-- with no loss all kept OBUs of all units come out, and no packet is refused
abbrev pub UnitsNoLoss : Type 0
UnitsNoLoss =
    (sendings : List Sending) (first size mtu : ℕ) (store : List ℕ) (arrivals : List Arrival)
    → All Accepted sendings
    → arrived_packets arrivals ≡ in_order 0 (length (payloads_sent sendings))
    → UnitSpace sendings size mtu store arrivals
    → (handed_out (fresh_calls (sent_from first sendings) store arrivals) ≡ flat_map (λ (s : Sending). flat_map (wire_of s.unit) (obus_of s.unit)) sendings)
    × All (λ v. v ≡ takes) (verdicts (fresh_calls (sent_from first sendings) store arrivals))

-- of the packets that the writing calls wrote, none gets a refusal but R14: never R13, R15, R16, R17 or R18, and with this space never R12, R19 or R20
abbrev pub UnitsOnly14 : Type 0
UnitsOnly14 =
    (sendings : List Sending) (first size mtu : ℕ) (store : List ℕ) (arrivals : List Arrival)
    → All Accepted sendings
    → Near (length (payloads_sent sendings)) (arrived_packets arrivals)
    → UnitSpace sendings size mtu store arrivals
    → All (λ v. (v ≡ takes) ⊎ (v ≡ refuses 14)) (verdicts (fresh_calls (sent_from first sendings) store arrivals))
