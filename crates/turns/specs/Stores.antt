-- What the programs have room for (L12 to L14).
use Rattle.std.specs.Prelude.{ℕ}

-- the bytes of a unit, in `pack` and `planlist`
abbrev pub unit_store : ℕ
unit_store = 32768

-- the records of an OBU list and of a plan list, in these
abbrev pub list_records : ℕ
list_records = 512

-- the bytes of the output, in `pack` and `unpack`
abbrev pub output_bytes : ℕ
output_bytes = 65536
