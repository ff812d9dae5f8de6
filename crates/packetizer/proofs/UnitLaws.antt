-- The laws of a plan for the kept OBUs of a unit. Assumes nothing.
--     unit-positive   every kept OBU has a byte: so Laws and Pieces hold of every unit's plan
--     unit-joined     the elements, in order, joined, are what is sent of the kept OBUs (P13)
use mathlib.Core.Path.{◌≡◌, refl, sym, ap₂, subst}
use Prim.Native.Nat.{ℕ, zero, suc, ◌≤◌}
use native.Mathlib.Omega.{arith}
use mathlib.Core.List.{List, [], ◌∷◌, map, flat_map}
use lib.ListN.{length}
use Rattle.base.specs.Lists.{All, joined}
use Rattle.obu.specs.Unit.{Placed, kept_of}
use Rattle.obu.specs.Wire.{sent}
use Rattle.obu.specs.Laws.{Inside}
use Rattle.obu.specs.declared.Obu.{Obu}
use Rattle.obu.proofs.Theorems.{kept_inside, inside_size, sent_length}
use Rattle.packetizer.specs.Plan.{least_mtu}
use Rattle.packetizer.specs.Elements.{elements_of}
use Rattle.packetizer.specs.Call.{sizes_of, unit_plan}
use Rattle.packetizer.specs.Laws.{Positive, part_of, sent_of}
use Rattle.packetizer.proofs.Pieces.{plan_joined}

-- ---- the sizes of a unit's kept OBUs

abbrev sizes_from : List Placed → List ℕ
sizes_from ps = map (λ (o : Obu). o.size) (map (λ (p : Placed). p.obu) ps)

positive_from : (total : ℕ) (ps : List Placed) → All (Inside total) ps → Positive (sizes_from ps)
positive_from total [] h j l = absurd (omega arith)
positive_from total (p ∷ ps) h zero l = (inside_size total p h.0).0
positive_from total (p ∷ ps) h (suc j) l = positive_from total ps h.1 j (omega arith)

pub unit_positive : (unit : List ℕ) → Positive (sizes_of unit)
unit_positive unit = positive_from (length unit) (kept_of unit) (kept_inside unit)

-- ---- what is sent of them

lengths_from : (unit : List ℕ) (ps : List Placed) → All (Inside (length unit)) ps
    → map (λ (o : List ℕ). length o) (map (sent unit) (map (λ (p : Placed). p.obu) ps)) ≡ sizes_from ps
lengths_from unit [] h = refl
lengths_from unit (p ∷ ps) h = ap₂ {C = List ℕ} (λ n l. n ∷ l) (sent_length unit p h.0) (lengths_from unit ps h.1)

pub sent_lengths : (unit : List ℕ) → map (λ (o : List ℕ). length o) (sent_of unit) ≡ sizes_of unit
sent_lengths unit = lengths_from unit (kept_of unit) (kept_inside unit)

pub unit_joined : (mtu : ℕ) (unit : List ℕ) → least_mtu ≤ mtu
    → flat_map (part_of (sent_of unit)) (flat_map (elements_of (sizes_of unit)) (unit_plan mtu unit)) ≡ joined (sent_of unit)
unit_joined mtu unit l =
    let e = sent_lengths unit in
    rw e at (plan_joined (sent_of unit) mtu l (subst Positive (sym e) (unit_positive unit)))
