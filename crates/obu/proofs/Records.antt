-- Records of OBUs in flat lists: how long these are, where each stands, and what is read back of them. Assumes nothing.
--     obus-flat     of records written as numbers the low bytes of header and extension byte are read back, and all else
--     unit-flat     so those of a unit are read back whole
use mathlib.Core.Path.{◌≡◌, refl, ap, ap₂, ◌∙◌}
use Prim.Native.Nat.{ℕ, zero, suc, ◌+◌, ◌*◌, ◌/◌, ◌%◌, ◌<◌}
use native.Mathlib.Nat.{add-zero}
use native.Mathlib.Omega.{arith}
use mathlib.Core.List.{List, [], ◌∷◌, ◌++◌, map}
use lib.ListN.{length, get_or, take, length-map}
use lib.Seq.{get_or-drop}
use Rattle.base.specs.Lists.{front, All}
use Rattle.base.proofs.Lists.{flat_map_append, flat_map_one, flat_map_length}
use Rattle.base.proofs.Records as records
use Rattle.obu.specs.Header.{type_of}
use Rattle.obu.specs.Records.{obu_numbers, numbers_of, flat, obu_of, obus_in, no_obu}
use Rattle.obu.specs.Unit.{Placed, kept_of, obus_of}
use Rattle.obu.specs.Laws.{Inside, Bytes, Small, Lies}
use Rattle.obu.specs.declared.Obu.{Obu}
use Rattle.obu.proofs.Theorems.{kept_inside, kept_small}

pub flat_length : (os : List Obu) → length (flat os) ≡ length os * obu_numbers
flat_length os = flat_map_length numbers_of obu_numbers (λ o. refl) os

pub flat_snoc : (os : List Obu) (o : Obu) → flat (os ++ (o ∷ [])) ≡ flat os ++ numbers_of o
flat_snoc os o = flat_map_append numbers_of os (o ∷ []) ∙ ap (λ (l : List ℕ). flat os ++ l) (flat_map_one numbers_of o)

-- the part of a list that holds the records stored first
pub obus_part : (os : List Obu) (l : List ℕ) → take (length os * obu_numbers) (front (flat os) l) ≡ flat os
obus_part os l = records.records_part obu_numbers numbers_of (λ o. refl) os l

-- how many whole records there are; record i, by its numbers
pub obus_count : (l : List ℕ) → length (obus_in l) ≡ length l / obu_numbers
obus_count l = records.records_count obu_numbers obu_of l

module _ (l : List ℕ) (i : ℕ) (h : i < length l / obu_numbers) where
  abbrev number_at : ℕ → ℕ
  number_at j = get_or l (i * obu_numbers + j) 0

  pub obu_in : obu_of (get_or l (i * obu_numbers) 0 ∷ number_at 1 ∷ number_at 2 ∷ number_at 3 ∷ number_at 4 ∷ []) ≡ get_or (obus_in l) i no_obu
  obu_in =
      rw (records.record_at_lem obu_numbers obu_of l i no_obu h, get_or-drop (i * obu_numbers) l 0 0, add-zero)
      (simp get_or-drop)

-- ---- records written as numbers, and read back

-- what is read back of a record: the type is the same
abbrev pub read_back : Obu → Obu
read_back o = obu_of (numbers_of o)

pub low_type : (h : ℕ) → type_of (h % 256) ≡ type_of h
low_type h = omega arith

pub obus_flat : (os : List Obu) → obus_in (flat os) ≡ map read_back os
obus_flat = records.records_flat obu_numbers obu_of numbers_of (λ o. refl) read_back (λ o l. refl) (omega arith)

-- ---- those of a unit: header and extension byte are bytes

small_back : (ps : List Placed) → All Small ps → map read_back (map (λ (p : Placed). p.obu) ps) ≡ map (λ (p : Placed). p.obu) ps
small_back [] h = refl
small_back (p ∷ ps) h =
    let o = p.obu in
    let header : o.header % 256 ≡ o.header = omega (arith, h.0.header) in
    let extension : o.extension % 256 ≡ o.extension = omega (arith, h.0.extension) in
    ap₂ ◌∷◌
    (ap₂ {C = Obu} (λ x y. record { header = x; extension = y; start = o.start; length = o.length; size = o.size }) header extension)
    (small_back ps h.1)

pub unit_flat : (unit : List ℕ) → Bytes unit → obus_in (flat (obus_of unit)) ≡ obus_of unit
unit_flat unit q = obus_flat (obus_of unit) ∙ small_back (kept_of unit) (kept_small unit q)

lies_in : (unit : List ℕ) (ps : List Placed) (i : ℕ) → All (Inside (length unit)) ps → All Small ps → i < length ps
    → Lies unit (get_or (map (λ (p : Placed). p.obu) ps) i no_obu)
lies_in unit [] i a b h = absurd (omega arith)
lies_in unit (p ∷ ps) zero a b h =
    record { header = b.0.header; extension = b.0.extension; within = a.0.within; size = a.0.size }
lies_in unit (p ∷ ps) (suc i) a b h = lies_in unit ps i a.1 b.1 (omega arith)

pub obu_lies : (unit : List ℕ) (i : ℕ) → Bytes unit → i < length (obus_of unit) → Lies unit (get_or (obus_of unit) i no_obu)
obu_lies unit i q h = lies_in unit (kept_of unit) i (kept_inside unit) (kept_small unit q) (omega (arith, length-map (kept_of unit) (λ (p : Placed). p.obu)))
