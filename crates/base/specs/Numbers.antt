-- The numbers of packets (L7).
use Rattle.std.specs.Prelude.{ℕ}

-- they are counted modulo this
abbrev pub packet_numbers : ℕ
packet_numbers = 65536
