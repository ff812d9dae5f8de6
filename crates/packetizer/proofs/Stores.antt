-- Records stored one after the other in a lent plan list. Assumes nothing.
use mathlib.Core.Path.{◌≡◌, refl, sym, ap, ◌∙◌}
use Prim.Native.Nat.{ℕ, ◌+◌, ◌*◌}
use native.Mathlib.Omega.{arith}
use mathlib.Core.Bool.{Bool, true, false}
use mathlib.Core.List.{List, [], ◌++◌, flat_map}
use lib.ListN.{length}
use lib.Seq.{sets}
use Rattle.base.proofs.Lists.{sets_append, flat_map_append}
use Rattle.packetizer.specs.Paper.{recorded}
use Rattle.packetizer.specs.Records.{plan_numbers, record_numbers, flat_plan}
use Rattle.packetizer.specs.declared.PacketMetadata.{PacketMetadata}
use Rattle.packetizer.proofs.Records.{plan_length}

module _ (store : Bool) (l : List ℕ) (n : ℕ) where
  pub recorded_none : l ≡ recorded store l n []
  unfolding flat_map
  recorded_none = go store
    where
      go : (t : Bool) → l ≡ recorded t l n []
      go true = refl
      go false = refl

  pub recorded_append : (ps qs : List PacketMetadata) → recorded store (recorded store l n ps) (n + length ps) qs ≡ recorded store l n (ps ++ qs)
  recorded_append ps qs = go store
    where
      e : n * plan_numbers + length (flat_plan ps) ≡ (n + length ps) * plan_numbers
      e = omega (arith, plan_length ps)

      go : (t : Bool) → recorded t (recorded t l n ps) (n + length ps) qs ≡ recorded t l n (ps ++ qs)
      go true = sym (ap (sets l (n * plan_numbers)) (flat_map_append record_numbers ps qs) ∙ sets_append l (n * plan_numbers) (flat_plan ps) (flat_plan qs) ∙ ap (λ (j : ℕ). sets (sets l (n * plan_numbers) (flat_plan ps)) j (flat_plan qs)) e)
      go false = refl
