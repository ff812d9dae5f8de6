-- packetizer.rs: the plan, and the aggregation header.
use Rattle.std.specs.Prelude.{ℕ, zero, suc, ◌+◌, ◌*◌, ◌/◌, ◌^◌, min, List, [], ◌∷◌, Bool, false, cond, ◌&&◌, ◌||◌, length, ltb, leb, eqb}
use Rattle.std.specs.Int.Bits.{bit_or}
use Rattle.crate_laws.specs.Rust.{Outcome, ok, panic, ◌>>=◌, at, push, pop, minus, as_u8, as_u32, shl_u8}
use Rattle.crate_laws.specs.Leb128.{leb128_size}
use Rattle.crate_laws.specs.Obu.{CrateObu, OBU_TYPE_SEQUENCE_HEADER, obu_type}

abbrev pub MAX_NUM_OBUS_TO_OMIT_SIZE : ℕ
MAX_NUM_OBUS_TO_OMIT_SIZE = 3

abbrev pub AGGREGATION_HEADER_SIZE : ℕ
AGGREGATION_HEADER_SIZE = 1

-- the crate's `PacketMetadata`
pub record CratePacket : Type 0 where
  pub first_obu_index : ℕ
  pub num_obu_elements : ℕ
  pub first_obu_offset : ℕ
  pub last_obu_size : ℕ
  pub packet_size : ℕ

abbrev pub packet : ℕ → ℕ → ℕ → ℕ → ℕ → CratePacket
packet first count offset last size =
    record {
      first_obu_index = first;
      num_obu_elements = count;
      first_obu_offset = offset;
      last_obu_size = last;
      packet_size = size;
    }

-- PacketMetadata::new
abbrev pub new_packet : ℕ → CratePacket
new_packet first = packet first 0 0 0 0

-- leb128_size(n as u32)
abbrev pub size_as_u32 : ℕ → ℕ
size_as_u32 n = leb128_size (as_u32 n)

unfoldable pub additional_bytes_for_previous_obu_element : CratePacket → ℕ
additional_bytes_for_previous_obu_element p =
    cond (eqb p.packet_size 0 || ltb MAX_NUM_OBUS_TO_OMIT_SIZE p.num_obu_elements)
    0
    (size_as_u32 p.last_obu_size)

-- the loop of max_fragment_size: 1 << (7 * i) of type usize panics from i = 10 on
unfoldable pub fragment_turns : ℕ → ℕ → ℕ → Outcome ℕ
fragment_turns zero i remaining = panic
fragment_turns (suc turns) i remaining =
    cond (ltb remaining (2 ^ (7 * i) + i)) (minus remaining i) (fragment_turns turns (i + 1) remaining)

unfoldable pub max_fragment_size : ℕ → Outcome ℕ
max_fragment_size remaining = cond (leb remaining 1) (ok 0) (fragment_turns 9 1 remaining)

-- ---- packetize, where max_payload_size is called room

-- between two OBUs: packets, packet_remaining_bytes
pub record Packing : Type 0 where
  pub packets : List CratePacket
  pub remaining : ℕ

-- with the last packet taken off, or a new one in its place: previous_obu_extra_size too
pub record Opened : Type 0 where
  pub packets : List CratePacket
  pub last : CratePacket
  pub remaining : ℕ
  pub extra : ℕ

-- the packet taken off has no space; min_required_size is 2 or 1
abbrev pub starts_new : ℕ → CratePacket → Bool
starts_new remaining p =
    ltb remaining
    (additional_bytes_for_previous_obu_element p + cond (leb MAX_NUM_OBUS_TO_OMIT_SIZE p.num_obu_elements) 2 1)

unfoldable pub opened : ℕ → ℕ → List CratePacket → CratePacket → ℕ → Opened
opened room i packets p remaining =
    cond (starts_new remaining p)
    (record { packets = push packets p; last = new_packet i; remaining = room; extra = 0 })
    (record {
      packets = packets;
      last = p;
      remaining = remaining;
      extra = additional_bytes_for_previous_obu_element p;
    })

-- the extra size charged, and the element counted
abbrev pub entered : Opened → CratePacket
entered v =
    packet v.last.first_obu_index (v.last.num_obu_elements + 1) v.last.first_obu_offset v.last.last_obu_size
    (v.last.packet_size + v.extra)

-- must_write_obu_element_size, required_bytes
abbrev pub must_write : CratePacket → Bool
must_write p = ltb MAX_NUM_OBUS_TO_OMIT_SIZE p.num_obu_elements

abbrev pub required_bytes : CratePacket → ℕ → ℕ
required_bytes p s = s + cond (must_write p) (size_as_u32 s) 0

-- the OBU goes in unfragmented
abbrev pub unfragmented : CratePacket → ℕ → CratePacket
unfragmented p s =
    packet p.first_obu_index p.num_obu_elements p.first_obu_offset s (p.packet_size + required_bytes p s)

-- the packet with the first fragment, or with the OBU uninserted
unfoldable pub with_fragment : CratePacket → ℕ → ℕ → Outcome CratePacket
with_fragment p extra first =
    cond (eqb first 0)
    (do
      count ← minus p.num_obu_elements 1
      size ← minus p.packet_size extra
      ok (packet p.first_obu_index count p.first_obu_offset p.last_obu_size size))
    (ok (packet p.first_obu_index p.num_obu_elements p.first_obu_offset first (p.packet_size + first + cond (must_write p) (size_as_u32 first) 0)))

-- inside an OBU: packets, obu_offset
pub record Reached : Type 0 where
  pub packets : List CratePacket
  pub offset : ℕ

-- the loop of middle fragments
unfoldable pub middles : ℕ → ℕ → ℕ → ℕ → Reached → Reached
middles zero room i s v = v
middles (suc turns) room i s v =
    cond (ltb (v.offset + room) s)
    (middles turns room i s (record { packets = push v.packets (packet i 1 v.offset room room); offset = v.offset + room }))
    v

-- each turn takes a byte at least of the OBU
abbrev pub spread_over : ℕ → ℕ → ℕ → List CratePacket → ℕ → Reached
spread_over room i s packets first = middles s room i s (record { packets = packets; offset = first })

-- the last fragment, split in two or not
abbrev pub splits_last : Bool → ℕ → ℕ → Bool
splits_last is_last room size = is_last && ltb room size

unfoldable pub with_last : ℕ → ℕ → Bool → Reached → ℕ → Outcome Packing
with_last room i is_last v size =
    cond (splits_last is_last room size)
    (do
      semi ← cond (leb size (size / 2)) (minus size 1) (ok (size / 2))
      rest ← minus size semi
      left ← minus room rest
      ok (record { packets = push (push v.packets (packet i 0 v.offset semi semi)) (packet i 1 (v.offset + semi) rest rest); remaining = left }))
    (do
      left ← minus room size
      ok (record { packets = push v.packets (packet i 1 v.offset size size); remaining = left }))

-- one OBU of size s, in the packet that is open
unfoldable pub obu_turn : ℕ → ℕ → Bool → ℕ → Opened → Outcome Packing
obu_turn room i is_last s v = do
  remaining ← minus v.remaining v.extra
  cond (ltb (required_bytes (entered v) s) remaining)
      (do
        left ← minus remaining (required_bytes (entered v) s)
        ok (record { packets = push v.packets (unfragmented (entered v) s); remaining = left }))
      (do
        most ← cond (must_write (entered v)) (max_fragment_size remaining) (ok remaining)
        but ← minus s 1
        let first = min but most
        packet ← with_fragment (entered v) v.extra first
        let reached = spread_over room i s (push v.packets packet) first
        size ← minus s reached.offset
        with_last room i is_last reached size)

-- the loop over the OBUs, of which there are so many
unfoldable pub packetize_turns : ℕ → ℕ → ℕ → List CrateObu → Packing → Outcome (List CratePacket)
packetize_turns room count i [] v = ok v.packets
packetize_turns room count i (obu ∷ obus) v = do
  last ← minus count 1
  (packets, p) ← pop v.packets
  next ← obu_turn room i (eqb i last) obu.size (opened room i packets p v.remaining)
  packetize_turns room count (i + 1) obus next

unfoldable pub «packetize» : List CrateObu → ℕ → Outcome (List CratePacket)
«packetize» obus mtu =
    cond (eqb (length obus) 0)
    (ok [])
    (cond (ltb mtu 3)
    (ok [])
    (do
      room ← minus mtu AGGREGATION_HEADER_SIZE
      packetize_turns room (length obus) 0 obus (record { packets = push [] (new_packet 0); remaining = room })))

-- ---- get_aggregation_header

-- last_obu_offset
abbrev pub last_obu_offset : CratePacket → ℕ
last_obu_offset packet = cond (eqb packet.num_obu_elements 1) packet.first_obu_offset 0

-- the header as each `if` leaves it: Z, Y with the size of the last OBU, W, N
abbrev pub with_z : CratePacket → ℕ → ℕ
with_z packet header = cond (ltb 0 packet.first_obu_offset) (bit_or header (shl_u8 1 7)) header

abbrev pub with_y : CratePacket → ℕ → ℕ → ℕ
with_y packet size header =
    cond (ltb (last_obu_offset packet + packet.last_obu_size) size) (bit_or header (shl_u8 1 6)) header

abbrev pub with_w : CratePacket → ℕ → ℕ
with_w packet header =
    cond (leb packet.num_obu_elements MAX_NUM_OBUS_TO_OMIT_SIZE)
    (bit_or header (shl_u8 (as_u8 packet.num_obu_elements) 4))
    header

-- the test of N: with no OBU the index of the last one has panicked before
unfoldable pub sets_n : List CrateObu → ℕ → Bool
sets_n [] k = false
sets_n (first ∷ obus) k = eqb k 0 && eqb (obu_type first.header) OBU_TYPE_SEQUENCE_HEADER

abbrev pub with_n : List CrateObu → ℕ → ℕ → ℕ
with_n obus k header = cond (sets_n obus k) (bit_or header (shl_u8 1 3)) header

unfoldable pub get_aggregation_header : List CrateObu → List CratePacket → ℕ → Outcome ℕ
get_aggregation_header obus packets k = do
  packet ← at packets k
  last ← minus (packet.first_obu_index + packet.num_obu_elements) 1
  last_obu ← at obus last
  ok (with_n obus k (with_w packet (with_y packet last_obu.size (with_z packet 0))))
