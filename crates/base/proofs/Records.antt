-- Records of a flat list: how many, where each stands, and what is read back of records that were written. Assumes nothing.
use mathlib.Core.Path.{◌≡◌, refl, sym, ap, ap₂, ◌∙◌}
use Prim.Native.Nat.{ℕ, zero, suc, ◌*◌, ◌/◌, ◌<◌}
use native.Mathlib.Nat.{add_comm, zero-mul, suc-mul, mul-div_cancel}
use native.Mathlib.Omega.{arith}
use mathlib.Core.List.{List, [], ◌∷◌, ◌++◌, map, flat_map, append_assoc, append-nil}
use lib.ListN.{length, get_or, take, drop}
use lib.Seq.{take_at, drop_at, drop-drop}
use Rattle.base.specs.Lists.{front}
use Rattle.base.specs.Records.{records_from, records_in}
use Rattle.base.proofs.Lists.{flat_map_length}

-- ---- records written as numbers

module _ {A : Type 0} (width : ℕ) (numbers : A → List ℕ) (wide : (a : A) → length (numbers a) ≡ width) where
  -- the part of a list that holds the records stored first
  pub records_part : (rs : List A) (l : List ℕ) → take (length rs * width) (front (flat_map numbers rs) l) ≡ flat_map numbers rs
  records_part rs l =
      take_at (flat_map numbers rs) (drop (length (flat_map numbers rs)) l) (length rs * width) (flat_map_length numbers width wide rs)

-- ---- records read

module _ {A : Type 0} (width : ℕ) (make : List ℕ → A) where
  counted : (n : ℕ) (l : List ℕ) → length (records_from width make n l) ≡ n
  unfolding records_from
  counted zero l = refl
  counted (suc n) l = ap suc (counted n (drop width l))

  pub records_count : (l : List ℕ) → length (records_in width make l) ≡ length l / width
  records_count l = counted (length l / width) l

  nth : (n i : ℕ) (l : List ℕ) (d : A) → i < n → get_or (records_from width make n l) i d ≡ make (drop (i * width) l)
  unfolding records_from
  nth zero i l d h = absurd (omega arith)
  nth (suc n) zero l d h = rw zero-mul
  nth (suc n) (suc i) l d h =
      nth n i (drop width l) d (omega arith) ∙ ap make (drop-drop (i * width) width l ∙ rw (suc-mul, add_comm (i * width) width))

  -- record i is made of the numbers from i * width on
  pub record_at_lem : (l : List ℕ) (i : ℕ) (d : A) → i < length l / width → get_or (records_in width make l) i d ≡ make (drop (i * width) l)
  record_at_lem l i d h = nth (length l / width) i l d h

  -- of records written as numbers is read what the numbers of each give, whatever comes after them
  module _
      (numbers : A → List ℕ)
      (wide : (a : A) → length (numbers a) ≡ width)
      (read : A → A)
      (back : (a : A) (l : List ℕ) → make (numbers a ++ l) ≡ read a)
    where
      first_back : (rs : List A) (l : List ℕ) → records_from width make (length rs) (flat_map numbers rs ++ l) ≡ map read rs
      unfolding records_from flat_map
      first_back [] l = refl
      first_back (a ∷ rs) l =
          rw append_assoc
          (ap₂ ◌∷◌ (back a (flat_map numbers rs ++ l)) (rw (drop_at (numbers a) (flat_map numbers rs ++ l) width (wide a)) (first_back rs l)))

      pub records_flat : 0 < width → (rs : List A) → records_in width make (flat_map numbers rs) ≡ map read rs
      records_flat some rs =
          rw (flat_map_length numbers width wide rs, mul-div_cancel (length rs) some)
          (ap (records_from width make (length rs)) (sym (append-nil (flat_map numbers rs))) ∙ first_back rs [])
