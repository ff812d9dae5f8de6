-- The records of OBUs in a flat list of numbers (L16, O7, O9). A number may be anything: of a header and of an extension byte the low byte
-- counts, which has the type (H6, H7).
use Rattle.std.specs.Prelude.{ℕ, ◌%◌, get_or}
use mathlib.Core.List.{List, [], ◌∷◌, flat_map}
use Rattle.base.specs.Records.{records_in}
use Rattle.obu.specs.declared.Obu.{Obu}

abbrev pub obu_numbers : ℕ
obu_numbers = 5

-- the numbers of a record, and of a list of records
abbrev pub numbers_of : Obu → List ℕ
numbers_of o = o.header ∷ o.extension ∷ o.start ∷ o.length ∷ o.size ∷ []

abbrev pub flat : List Obu → List ℕ
flat os = flat_map numbers_of os

-- the record at the front of some numbers, and all whole records
abbrev pub obu_of : List ℕ → Obu
obu_of l =
    record {
      header = get_or l 0 0 % 256;
      extension = get_or l 1 0 % 256;
      start = get_or l 2 0;
      length = get_or l 3 0;
      size = get_or l 4 0;
    }

abbrev pub obus_in : List ℕ → List Obu
obus_in l = records_in obu_numbers obu_of l

-- what stands past the end of a list
abbrev pub no_obu : Obu
no_obu = record { header = 0; extension = 0; start = 0; length = 0; size = 0 }
