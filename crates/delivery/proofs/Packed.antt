-- The units that `pack` packs are accepted, and within its store (G2 to G4). Assumes nothing.
use mathlib.Core.Path.{◌≡◌, refl, subst}
use Prim.Native.Nat.{ℕ, ◌+◌, ◌≤◌}
use native.Mathlib.Omega.{arith}
use mathlib.Core.List.{List}
use lib.ListN.{length, take, drop, length-take}
use lib.Dec.{ltb}
use Rattle.base.specs.Answers.{Answer, given, refused, Given}
use Rattle.base.specs.Lists.{All}
use Rattle.base.specs.Streams.{Next}
use Rattle.base.proofs.Tests.{by_cond}
use Rattle.base.proofs.Streams.{Keeps, stream_all}
use Rattle.packetizer.specs.declared.Planned.{Planned}
use Rattle.packing.specs.Pack.{unit_store, list_records, unit_width, answer_in, Length, over, stated, cut, length_in, PackEnd, ended as packEnded, unit_by, unit_after, unit_next, units_from}
use Rattle.packing.proofs.Reading.{stated_within}
use Rattle.packing.proofs.Runs.{unit_some}

-- a unit that the plan call plans with the space of `pack`, and that is within its store
abbrev pub Good : ℕ → List ℕ → Type 0
Good mtu u = Given (answer_in list_records list_records mtu u) × (length u ≤ unit_store)

-- nothing has to be known of the bytes that begin with it
abbrev GoodNext : ℕ → List ℕ → Next (List ℕ) PackEnd ℕ → Type 0
GoodNext mtu = Keeps (Good mtu) (λ i l. Unit {0})

module _ (mtu : ℕ) where
  with_unit : (i span : ℕ) (l u : List ℕ) (a : Answer Planned) → a ≡ answer_in list_records list_records mtu u → length u ≤ unit_store
      → GoodNext mtu l (unit_by i span u a)
  with_unit i span l u (given p) e s = ((subst Given e tt, s), tt)
  with_unit i span l u (refused k at) e s = tt

  with_length : (i : ℕ) (l : List ℕ) (x : Length) → x ≡ length_in l → GoodNext mtu l (unit_after mtu i l x)
  with_length i l over e = tt
  with_length i l cut e = tt
  with_length i l (stated s) e =
      by_cond (GoodNext mtu l) (ltb (length (drop unit_width l)) s) _ _ (λ t. tt)
      (λ t.
      with_unit i (unit_width + s) l (take s (drop unit_width l)) (answer_in list_records list_records mtu (take s (drop unit_width l))) refl
      (omega (arith, length-take s (drop unit_width l), stated_within l s e)))

  pub units_good : (i : ℕ) (l : List ℕ) → All (Good mtu) (units_from mtu i l).items
  units_good i l =
      stream_all (unit_next mtu) packEnded (unit_some mtu) (Good mtu) (λ j m. Unit {0}) (λ j m h q. with_length j m (length_in m) refl) l i tt
