-- mod.rs, Av1Payloader::payload.
use Rattle.std.specs.Prelude.{ℕ, zero, suc, ◌+◌, ◌-◌, List, [], ◌∷◌, ◌++◌, Bool, cond, ◌&&◌, length, ltb, leb, eqb}
use Rattle.std.specs.Int.Bits.{bit_and}
use Rattle.crate_laws.specs.Rust.{Outcome, ok, ◌>>=◌, at, slice, minus, as_u32}
use Rattle.crate_laws.specs.Leb128.{put_leb128}
use Rattle.crate_laws.specs.Obu.{CrateObu, obu_has_extension, header_size, parse_obus}
use Rattle.crate_laws.specs.Packetizer.{MAX_NUM_OBUS_TO_OMIT_SIZE, CratePacket, «packetize», get_aggregation_header}

-- out.put_leb128(n as u32)
abbrev pub put_length : ℕ → List ℕ
put_length n = put_leb128 (as_u32 n)

-- what an `if` puts
abbrev pub put_if : Bool → ℕ → List ℕ
put_if test byte = cond test (byte ∷ []) []

-- obu.header & !OBU_HAS_SIZE_BIT
abbrev pub without_size_bit : CrateObu → ℕ
without_size_bit obu = bit_and obu.header 0b1111_1101

-- payload_offset
unfoldable pub payload_offset : CrateObu → ℕ → ℕ
payload_offset obu offset = cond (ltb (header_size obu.header) offset) (offset - header_size obu.header) 0

-- ---- all OBU elements except the last one

-- what a turn puts for its OBU
unfoldable pub element_of : CrateObu → ℕ → Outcome (List ℕ)
element_of obu offset = do
  fragmentSize ← minus obu.size offset
  payloadSize ← minus (length obu.payload) (payload_offset obu offset)
  payload ← slice obu.payload (payload_offset obu offset) (payload_offset obu offset + payloadSize)
  ok
      (put_length fragmentSize
      ++ (put_if (eqb offset 0) (without_size_bit obu)
      ++ (put_if (leb offset 1 && obu_has_extension obu.header) obu.extension_header ++ payload)))

-- the loop, with so many turns left, at this OBU: `out` and obu_offset
unfoldable pub store_from : ℕ → List CrateObu → ℕ → ℕ → List ℕ → Outcome (List ℕ × ℕ)
store_from zero obus i offset out = ok (out, offset)
store_from (suc turns) obus i offset out = do
  obu ← at obus i
  element ← element_of obu offset
  store_from turns obus (i + 1) 0 (out ++ element)

-- ---- the last OBU element: by what is left of fragment_size, header byte and extension byte are put, and it is one less after each

abbrev pub takes_header : ℕ → ℕ → Bool
takes_header offset size = eqb offset 0 && ltb 0 size

abbrev pub takes_extension : CrateObu → ℕ → ℕ → Bool
takes_extension obu offset size = leb offset 1 && obu_has_extension obu.header && ltb 0 size

abbrev pub less_if : Bool → ℕ → ℕ
less_if test size = cond test (size - 1) size

-- fragment_size at first, and after the header byte
unfoldable pub last_from : CrateObu → ℕ → ℕ → ℕ → Outcome (List ℕ)
last_from obu offset size left = do
  payload ← slice obu.payload (payload_offset obu offset) (payload_offset obu offset + less_if (takes_extension obu offset left) left)
  ok
      (put_if (takes_header offset size) (without_size_bit obu)
      ++ (put_if (takes_extension obu offset left) obu.extension_header ++ payload))

abbrev pub last_element_of : CrateObu → ℕ → ℕ → Outcome (List ℕ)
last_element_of obu offset size = last_from obu offset size (less_if (takes_header offset size) size)

-- ---- a packet, and all of them

unfoldable pub packet_bytes : List CrateObu → List CratePacket → ℕ → Outcome (List ℕ)
packet_bytes obus packets k = do
  packet ← at packets k
  header ← get_aggregation_header obus packets k
  turns ← minus packet.num_obu_elements 1
  (out, offset) ← store_from turns obus packet.first_obu_index packet.first_obu_offset (header ∷ [])
  last ← minus (packet.first_obu_index + packet.num_obu_elements) 1
  last_obu ← at obus last
  element ← last_element_of last_obu offset packet.last_obu_size
  ok
      (out
      ++ (cond (ltb MAX_NUM_OBUS_TO_OMIT_SIZE packet.num_obu_elements) (put_length packet.last_obu_size) []
      ++ element))

-- the loop over the packets, of which so many are left
unfoldable pub packets_from : ℕ → List CrateObu → List CratePacket → ℕ → Outcome (List (List ℕ))
packets_from zero obus packets k = ok []
packets_from (suc left) obus packets k = do
  payload ← packet_bytes obus packets k
  payloads ← packets_from left obus packets (k + 1)
  ok (payload ∷ payloads)

unfoldable pub payload : ℕ → List ℕ → Outcome (List (List ℕ))
payload mtu unit = do
  obus ← parse_obus unit
  packets ← «packetize» obus mtu
  packets_from (length packets) obus packets 0
