-- What functions below the writing calls ask; no public call cites this.
use Rattle.std.specs.Prelude.{◌≡◌, ℕ, ◌+◌, ◌-◌, ◌≤◌, ◌<◌, List, Bool, ◌&&◌, eqb, length, take, drop}
use Rattle.base.specs.Lists.{joined}
use Rattle.obu.specs.Records.{flat}
use Rattle.obu.specs.Unit.{unit_limit, obus_of}
use Rattle.packetizer.specs.Records.{flat_plan}
use Rattle.packetizer.specs.Call.{unit_plan}
use Rattle.packetizer.specs.Laws.{Abut, planned_bytes}
use Rattle.packetizer.specs.declared.PacketMetadata.{PacketMetadata}
use Rattle.aggregation.specs.New.{new_sequence}
use Rattle.payloader.specs.Payload.{payload_at, payloads_of}

-- two lists hold the records of a unit and of its plan, and nothing else
pub record Lent (mtu : ℕ) (unit obus plan : List ℕ) : Type 0 where
  pub small : length unit ≤ unit_limit
  pub obus_is : obus ≡ flat (obus_of unit)
  pub plan_is : plan ≡ flat_plan (unit_plan mtu unit)

-- packet k is there, `new` is its N, and there is space for its payload from `at` on
pub record Writable (mtu : ℕ) (unit : List ℕ) (k : ℕ) (new : Bool) (out : List ℕ) (at : ℕ) : Type 0 where
  pub there : k < length (unit_plan mtu unit)
  pub new_is : new ≡ (eqb k 0 && new_sequence unit (obus_of unit))
  pub room : at + length (payload_at mtu unit k) ≤ length out

-- so many packets from one on are there; their payloads stand side by side, and do not wrap
pub record Run (packets : List PacketMetadata) (first count : ℕ) : Type 0 where
  pub there : count ≤ length packets - first
  pub abut : Abut 0 packets (planned_bytes packets)

-- and there is space for their payloads
pub record Fits (mtu : ℕ) (unit : List ℕ) (first count : ℕ) (out : List ℕ) : Type 0 where
  pub there : count ≤ length (unit_plan mtu unit) - first
  pub room : length (joined (take count (drop first (payloads_of mtu unit)))) ≤ length out
