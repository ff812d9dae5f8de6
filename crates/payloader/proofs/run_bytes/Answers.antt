use mathlib.Core.Path.{◌≡◌, sym, ap, ap₂, ◌∙◌}
use Prim.Native.Nat.{ℕ, ◌+◌, ◌-◌, ◌<◌}
use native.Mathlib.Omega.{arith}
use lib.ListN.{length, take, drop}
use Rattle.packetizer.specs.Plan.{start_after}
use Rattle.packetizer.specs.Laws.{planned_bytes}
use Rattle.packetizer.specs.Records.{packets_in}
use Rattle.packetizer.specs.declared.PacketMetadata.{PacketMetadata}
use Rattle.packetizer.proofs.Records.{packets_count}
use Rattle.payloader.proofs.Runs.{run_ends, no_bytes}
use Rattle.payloader.proofs.run_bytes.Goals.{Else-count-eq0, After-packet_at-last}
use Rattle.payloader.proofs.run_bytes.Goals as goal

-- the last packet is there
within : (c : Else-count-eq0) → c.args.first + (c.args.count - 1) < length (packets_in c.args.plan.now)
within c = omega (arith, c.requires.there)

-- where it ends
ends : (c : After-packet_at-last)
    → start_after c.packet_at-last.result ≡ c.packet_at-start.result.payload_start + planned_bytes (take c.args.count (drop c.args.first (packets_in c.args.plan.now)))
ends c =
    let a = c.args in
    let ps = packets_in a.plan.now in
    let n : a.count - 1 + 1 ≡ a.count = omega arith in
    ap (λ (p : PacketMetadata). start_after p) c.packet_at-last.ensures
    ∙ run_ends ps c.requires.abut a.first (a.count - 1) (omega (arith, c.requires.there))
    ∙ ap₂ (λ (p : PacketMetadata) (k : ℕ). p.payload_start + planned_bytes (take k (drop a.first ps))) (sym c.packet_at-start.ensures) n

pub returns-then-count-eq0 : goal.returns-then-count-eq0
returns-then-count-eq0 c = let a = c.args in sym (no_bytes (drop a.first (packets_in a.plan.now)) a.count c.if-count-eq0.true)

pub packet_at-start-requires : goal.packet_at-start-requires
packet_at-start-requires c = omega (arith, packets_count c.args.plan.now, within (goal.at.packet_at-start-requires c).Else-count-eq0)

pub overflow_add-first : goal.overflow_add-first
overflow_add-first c = omega (arith, packets_count c.args.plan.now, within (goal.at.overflow_add-first c).Else-count-eq0)

pub packet_at-last-requires : goal.packet_at-last-requires
packet_at-last-requires c = omega (arith, packets_count c.args.plan.now, within (goal.at.packet_at-last-requires c).Else-count-eq0)

pub overflow_sub-result : goal.overflow_sub-result
overflow_sub-result c = omega (arith, ends (goal.at.overflow_sub-result c).After-packet_at-last)

pub returns : goal.returns
returns c = omega (arith, ends (goal.at.returns c).After-packet_at-last)
