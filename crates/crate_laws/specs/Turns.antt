-- That the turns of the loops are enough, in the definitions of the crate's functions: further ones change nothing. The loop of
-- max_fragment_size has as many as its shift has before it panics.
use Rattle.std.specs.Prelude.{◌≡◌, ℕ, ◌+◌, ◌≤◌, ◌<◌, List, [], length}
use Rattle.crate_laws.specs.Leb128.{encode_turns, encode_leb128, decode_turns, decode_leb128, size_turns, leb128_size, put_turns}
use Rattle.crate_laws.specs.Obu.{parse_from, parse_obus}
use Rattle.crate_laws.specs.Packetizer.{CratePacket, middles, spread_over}

pub record EnoughTurns : Type 0 where
  -- on numbers of 32 bits, for decode_leb128 of 64
  pub encode : (more val : ℕ) → val < 4294967296 → encode_turns (5 + more) 0 val ≡ encode_leb128 val
  pub decode : (more val : ℕ) → val < 18446744073709551616 → decode_turns (8 + more) 0 val ≡ decode_leb128 val
  pub size : (more value : ℕ) → value < 4294967296 → size_turns (5 + more) 0 value ≡ leb128_size value
  pub put : (more encoded : ℕ) → encoded < 4294967296 → put_turns (5 + more) encoded ≡ put_turns 5 encoded
  -- on any payload
  pub parse :
      (payload : List ℕ) (more : ℕ) → parse_from (length payload + more) payload (length payload) 0 [] ≡ parse_obus payload
  -- in any room
  pub spread :
      (more room i s : ℕ) (packets : List CratePacket) (first : ℕ) → 1 ≤ room
      → middles (s + more) room i s (record { packets = packets; offset = first }) ≡ spread_over room i s packets first
