-- The records of a flat list of numbers (L16).
use Rattle.std.specs.Prelude.{ℕ, zero, suc, ◌/◌, List, [], ◌∷◌, length, drop}

module _ {A : Type 0} (width : ℕ) (make : List ℕ → A) where
  -- n records, each made of the next `width` numbers
  unfoldable pub records_from : ℕ → List ℕ → List A
  records_from zero l = []
  records_from (suc n) l = make l ∷ records_from n (drop width l)

  -- all whole records: numbers left over at the end are none
  abbrev pub records_in : List ℕ → List A
  records_in l = records_from (length l / width) l
