-- The crate's `packetize` in whole numbers, with no panic: a difference is cut at 0, and pop of an empty vector gives a new
-- packet. Plans shows that it is what the crate's gives.
use Prim.Native.Nat.{ℕ, zero, suc, ◌+◌, ◌-◌, ◌*◌, ◌/◌, ◌^◌, min}
use mathlib.Core.List.{List, [], ◌∷◌, drop_last}
use mathlib.Core.Bool.{Bool, cond}
use lib.ListN.{length}
use lib.Dec.{ltb, leb, eqb}
use Rattle.crate_laws.specs.Rust.{push}
use Rattle.crate_laws.specs.Packetizer as crate
use Rattle.crate_laws.specs.Packetizer.{CratePacket, packet, new_packet, size_as_u32, Packing, Opened, entered, must_write, required_bytes, unfragmented, Reached, splits_last, spread_over}

-- what Vec::pop takes off; the rest is drop_last
unfoldable pub popped : List CratePacket → CratePacket
popped [] = new_packet 0
popped (p ∷ []) = p
popped (p ∷ q ∷ ps) = popped (q ∷ ps)

-- max_fragment_size
unfoldable pub fragment_from : ℕ → ℕ → ℕ → ℕ
fragment_from zero i remaining = 0
fragment_from (suc turns) i remaining =
    cond (ltb remaining (2 ^ (7 * i) + i)) (remaining - i) (fragment_from turns (i + 1) remaining)

unfoldable pub whole_fragment_size : ℕ → ℕ
whole_fragment_size remaining = cond (leb remaining 1) 0 (fragment_from 9 1 remaining)

abbrev pub opened : ℕ → ℕ → Packing → Opened
opened room i v = crate.opened room i (drop_last v.packets) (popped v.packets) v.remaining

-- first_fragment_size; and the packet with the fragment, or with the OBU uninserted
unfoldable pub first_fragment : CratePacket → ℕ → ℕ → ℕ
first_fragment p remaining s = min (s - 1) (cond (must_write p) (whole_fragment_size remaining) remaining)

unfoldable pub fragmented : CratePacket → ℕ → ℕ → CratePacket
fragmented p extra f =
    cond (eqb f 0)
    (packet p.first_obu_index (p.num_obu_elements - 1) p.first_obu_offset p.last_obu_size (p.packet_size - extra))
    (packet p.first_obu_index p.num_obu_elements p.first_obu_offset f (p.packet_size + f + cond (must_write p) (size_as_u32 f) 0))

-- the last fragment: semi_last_fragment_size where it is split
abbrev pub semi_last : ℕ → ℕ
semi_last lastSize = cond (leb lastSize (lastSize / 2)) (lastSize - 1) (lastSize / 2)

abbrev pub last_pushed : ℕ → ℕ → List CratePacket → ℕ → ℕ → Packing
last_pushed room i packets offset lastSize =
    record { packets = push packets (packet i 1 offset lastSize lastSize); remaining = room - lastSize }

unfoldable pub last_fragment : ℕ → ℕ → Bool → ℕ → Reached → Packing
last_fragment room i is_last lastSize v =
    cond (splits_last is_last room lastSize)
    (last_pushed room i (push v.packets (packet i 0 v.offset (semi_last lastSize) (semi_last lastSize)))
    (v.offset + semi_last lastSize)
    (lastSize - semi_last lastSize))
    (last_pushed room i v.packets v.offset lastSize)

abbrev pub finished : ℕ → ℕ → Bool → ℕ → Reached → Packing
finished room i is_last s v = last_fragment room i is_last (s - v.offset) v

-- one OBU
abbrev pub inserted : ℕ → ℕ → Bool → ℕ → Opened → CratePacket → ℕ → Packing
inserted room i is_last s v p remaining =
    cond (ltb (required_bytes p s) remaining)
    (record { packets = push v.packets (unfragmented p s); remaining = remaining - required_bytes p s })
    (finished room i is_last s
    (spread_over room i s (push v.packets (fragmented p v.extra (first_fragment p remaining s))) (first_fragment p remaining s)))

unfoldable pub step : ℕ → ℕ → Bool → ℕ → Opened → Packing
step room i is_last s v = inserted room i is_last s v (entered v) (v.remaining - v.extra)

-- the loop over the OBUs by their sizes, of which there are so many
unfoldable pub packetize_from : ℕ → ℕ → ℕ → List ℕ → Packing → List CratePacket
packetize_from room count i [] v = v.packets
packetize_from room count i (s ∷ ss) v =
    packetize_from room count (i + 1) ss (step room i (eqb i (count - 1)) s (opened room i v))

unfoldable pub packetize : ℕ → List ℕ → List CratePacket
packetize mtu sizes =
    cond (eqb (length sizes) 0)
    []
    (cond (ltb mtu 3)
    []
    (packetize_from (mtu - 1) (length sizes) 0 sizes (record { packets = push [] (new_packet 0); remaining = mtu - 1 })))
