-- The plan (P11 to P14, P16).
use Rattle.std.specs.Prelude.{◌≡◌, ℕ, ◌-◌, ◌*◌, ◌≤◌, ◌<◌, cond, length, get_or, take}
use mathlib.Core.List.{List, drop_last, flat_map}
use Rattle.base.specs.Lists.{All, joined}
use Rattle.packetizer.specs.Fragment.{largest_fragment, Largest}
use Rattle.packetizer.specs.Plan.{least_mtu, fourth_or_later, left_in, fragment_of, plan_of}
use Rattle.packetizer.specs.Elements.{elements_of, total_size}
use Rattle.packetizer.specs.Call.{sizes_of, unit_plan}
use Rattle.packetizer.specs.Laws.{Positive, position, Sound, Runs, Abut, planned_bytes, EndsObu, part_of, sent_of}
use Rattle.packetizer.specs.Records.{no_packet}
use Rattle.packetizer.specs.declared.PacketMetadata.{PacketMetadata}

-- P12: the largest fragment is the largest that fits with its length field
abbrev pub LargestIs : Type 0
LargestIs = (r : ℕ) → Largest r (largest_fragment r)

-- P11: only an OBU of one byte is taken out again
abbrev pub TakenOutOne : Type 0
TakenOutOne =
    (room : ℕ) (p : PacketMetadata) (s : ℕ) → cond (fourth_or_later p) 2 1 ≤ left_in room p → 1 ≤ s → fragment_of room p s ≡ 0 → s ≡ 1

-- ---- for OBUs of at least one byte and an mtu from the smallest on; those of a unit are such

abbrev pub UnitPositive : Type 0
UnitPositive = (unit : List ℕ) → Positive (sizes_of unit)

-- P13, P14: from the start of OBU 0 to the end of the last one, each record from where the one before ended, and each as `Sound` says
abbrev pub PlanRuns : Type 0
PlanRuns =
    (mtu : ℕ) (sizes : List ℕ) → least_mtu ≤ mtu → Positive sizes
    → Runs (mtu - 1) sizes (position 0 0) (plan_of mtu sizes) (position (length sizes) 0)

abbrev pub PlanSound : Type 0
PlanSound =
    (mtu : ℕ) (sizes : List ℕ) → least_mtu ≤ mtu → Positive sizes
    → (k : ℕ) → k < length (plan_of mtu sizes) → Sound (mtu - 1) sizes (get_or (plan_of mtu sizes) k no_packet)

-- P14: OBUs are cut only where a packet ends
abbrev pub PlanInner : Type 0
PlanInner =
    (mtu : ℕ) (sizes : List ℕ) → least_mtu ≤ mtu → Positive sizes → (k : ℕ) → k < length (plan_of mtu sizes)
    → All (EndsObu sizes) (drop_last (elements_of sizes (get_or (plan_of mtu sizes) k no_packet)))

-- P14: at most as many records as kept bytes
abbrev pub PlanShort : Type 0
PlanShort = (mtu : ℕ) (sizes : List ℕ) → least_mtu ≤ mtu → Positive sizes → length (plan_of mtu sizes) ≤ total_size sizes

-- P16: the payloads stand side by side, so each starts after the sum of those before it; for every mtu and all sizes
abbrev pub PlanAbuts : Type 0
PlanAbuts = (mtu : ℕ) (sizes : List ℕ) → Abut 0 (plan_of mtu sizes) (planned_bytes (plan_of mtu sizes))

abbrev pub PlanStarts : Type 0
PlanStarts =
    (mtu : ℕ) (sizes : List ℕ) (k : ℕ) → k < length (plan_of mtu sizes)
    → (get_or (plan_of mtu sizes) k no_packet).payload_start ≡ planned_bytes (take k (plan_of mtu sizes))

-- P16: all payloads take at most three times as many bytes as the kept OBUs
abbrev pub PlanBytes : Type 0
PlanBytes =
    (mtu : ℕ) (sizes : List ℕ) → least_mtu ≤ mtu → Positive sizes → planned_bytes (plan_of mtu sizes) ≤ 3 * total_size sizes

-- P13: the elements, in order, joined, are what is sent of the kept OBUs
abbrev pub UnitJoined : Type 0
UnitJoined =
    (mtu : ℕ) (unit : List ℕ) → least_mtu ≤ mtu
    → flat_map (part_of (sent_of unit)) (flat_map (elements_of (sizes_of unit)) (unit_plan mtu unit)) ≡ joined (sent_of unit)
