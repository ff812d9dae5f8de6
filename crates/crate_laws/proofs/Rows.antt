-- What the crate was seen to do (docs/DIFFERENCES.md), and what these definitions of it give: OBU list, plan and payloads.
-- Computed; assumes nothing.
use mathlib.Core.Path.{◌≡◌, refl}
use Prim.Native.Nat.{ℕ}
use mathlib.Core.List.{List, [], ◌∷◌, map, flat_map}
use Rattle.base.specs.Lists.{keep}
use Rattle.base.specs.Streams.{stream_from}
use Rattle.leb128.specs.Field.{field_in, encode_in}
use Rattle.obu.specs.Front.{front_of, headed}
use Rattle.packetizer.specs.Fragment.{largest_fragment}
use Rattle.packetizer.specs.Plan.{charge_of, is_full, need_of, fragment_of, spread, insert, place, plan_from, plan_of}
use Rattle.packetizer.specs.Elements.{elements_from}
use Rattle.aggregation.specs.New.{before_frame, from_frame, n_of}
use Rattle.aggregation.specs.Header.{byte_of}
use Rattle.payloader.specs.Payload as ours
use Rattle.crate_laws.specs.Rust.{Outcome, ok, err, panic, ◌>>=◌, ErrPayloadTooSmallForObuExtensionHeader, ErrPayloadTooSmallForObuPayloadSize, at, pop, slice, minus}
use Rattle.crate_laws.specs.Leb128.{encode_turns, decode_turns, read_from, size_turns, put_turns}
use Rattle.crate_laws.specs.Obu.{CrateObu, parse_obus, extension_header_at, sized_payload, obu_payload, obu_at, parse_from}
use Rattle.crate_laws.specs.Packetizer.{CratePacket, additional_bytes_for_previous_obu_element, fragment_turns, max_fragment_size, opened, with_fragment, middles, with_last, obu_turn, packetize_turns, «packetize», sets_n, get_aggregation_header}
use Rattle.crate_laws.specs.Payload.{payload_offset, element_of, store_from, last_from, packet_bytes, packets_from, payload}
use Rattle.crate_laws.specs.Parted.{outgrown, Outgrows, NewDiffers}

-- an OBU: header byte, extension byte, size, and the bytes of its payload; a packet: its five numbers
obu_numbers : CrateObu → List ℕ
obu_numbers o = o.header ∷ o.extension_header ∷ o.size ∷ o.payload

packet_numbers : CratePacket → List ℕ
packet_numbers p =
    p.first_obu_index ∷ p.num_obu_elements ∷ p.first_obu_offset ∷ p.last_obu_size ∷ p.packet_size ∷ []

-- what comes of a unit: OBU list, plan and payloads
pub record Seen : Type 0 where
  list : List (List ℕ)
  plan : List (List ℕ)
  payloads : List (List ℕ)

seen : List (List ℕ) → List (List ℕ) → List (List ℕ) → Outcome Seen
seen list plan payloads = ok (record { list = list; plan = plan; payloads = payloads })

pub seen_of : ℕ → List ℕ → Outcome Seen
seen_of mtu unit = do
  obus ← parse_obus unit
  packets ← «packetize» obus mtu
  payloads ← payload mtu unit
  seen (map obu_numbers obus) (map packet_numbers packets) payloads

pub record Row : Type 0 where
  pub mtu : ℕ
  pub unit : List ℕ
  pub outcome : Outcome Seen

row : ℕ → List ℕ → Outcome Seen → Row
row mtu unit outcome = record { mtu = mtu; unit = unit; outcome = outcome }

-- units that the rules accept, some cut in header or payload with more elements after; two with its errors; the classes on which
-- crate and rules part
pub rows : List Row
rows =
    row 20 [] (seen [] [] [])
    ∷ row 3 (0x0a ∷ 1 ∷ 0x7f ∷ []) (seen ((0x0a ∷ 0 ∷ 2 ∷ 0x7f ∷ []) ∷ []) ((0 ∷ 1 ∷ 0 ∷ 1 ∷ 1 ∷ []) ∷ (0 ∷ 1 ∷ 1 ∷ 1 ∷ 1 ∷ []) ∷ []) ((0x58 ∷ 8 ∷ []) ∷ (0x90 ∷ 0x7f ∷ []) ∷ []))
    ∷ row 4 (0x0a ∷ 1 ∷ 0x7f ∷ []) (seen ((0x0a ∷ 0 ∷ 2 ∷ 0x7f ∷ []) ∷ []) ((0 ∷ 1 ∷ 0 ∷ 2 ∷ 2 ∷ []) ∷ []) ((0x18 ∷ 8 ∷ 0x7f ∷ []) ∷ []))
    ∷ row 5 (0x0a ∷ 1 ∷ 0x7f ∷ 0x32 ∷ 0 ∷ []) (seen ((0x0a ∷ 0 ∷ 2 ∷ 0x7f ∷ []) ∷ (0x32 ∷ 0 ∷ 1 ∷ []) ∷ []) ((0 ∷ 1 ∷ 0 ∷ 2 ∷ 2 ∷ []) ∷ (1 ∷ 1 ∷ 0 ∷ 1 ∷ 1 ∷ []) ∷ []) ((0x18 ∷ 8 ∷ 0x7f ∷ []) ∷ (0x10 ∷ 0x30 ∷ []) ∷ []))
    ∷ row 20 (0x12 ∷ 0 ∷ 0x0a ∷ 3 ∷ 0x11 ∷ 0x22 ∷ 0x33 ∷ 0x32 ∷ 5 ∷ 0xa1 ∷ 0xa2 ∷ 0xa3 ∷ 0xa4 ∷ 0xa5 ∷ []) (seen ((0x0a ∷ 0 ∷ 4 ∷ 0x11 ∷ 0x22 ∷ 0x33 ∷ []) ∷ (0x32 ∷ 0 ∷ 6 ∷ 0xa1 ∷ 0xa2 ∷ 0xa3 ∷ 0xa4 ∷ 0xa5 ∷ []) ∷ []) ((0 ∷ 2 ∷ 0 ∷ 6 ∷ 11 ∷ []) ∷ []) ((0x28 ∷ 4 ∷ 8 ∷ 0x11 ∷ 0x22 ∷ 0x33 ∷ 0x30 ∷ 0xa1 ∷ 0xa2 ∷ 0xa3 ∷ 0xa4 ∷ 0xa5 ∷ []) ∷ []))
    ∷ row 20 (0x32 ∷ 0 ∷ 0x32 ∷ 0 ∷ 0x32 ∷ 0 ∷ 0x32 ∷ 0 ∷ []) (seen ((0x32 ∷ 0 ∷ 1 ∷ []) ∷ (0x32 ∷ 0 ∷ 1 ∷ []) ∷ (0x32 ∷ 0 ∷ 1 ∷ []) ∷ (0x32 ∷ 0 ∷ 1 ∷ []) ∷ []) ((0 ∷ 4 ∷ 0 ∷ 1 ∷ 8 ∷ []) ∷ []) ((0 ∷ 1 ∷ 0x30 ∷ 1 ∷ 0x30 ∷ 1 ∷ 0x30 ∷ 1 ∷ 0x30 ∷ []) ∷ []))
    ∷ row 3 (0x34 ∷ 8 ∷ []) (seen ((0x34 ∷ 8 ∷ 2 ∷ []) ∷ []) ((0 ∷ 1 ∷ 0 ∷ 1 ∷ 1 ∷ []) ∷ (0 ∷ 1 ∷ 1 ∷ 1 ∷ 1 ∷ []) ∷ []) ((0x50 ∷ 0x34 ∷ []) ∷ (0x90 ∷ 8 ∷ []) ∷ []))
    ∷ row 20 (0x36 ∷ 8 ∷ 0x80 ∷ 0 ∷ []) (seen ((0x36 ∷ 8 ∷ 2 ∷ []) ∷ []) ((0 ∷ 1 ∷ 0 ∷ 2 ∷ 2 ∷ []) ∷ []) ((0x10 ∷ 0x34 ∷ 8 ∷ []) ∷ []))
    ∷ row 4 (0x1a ∷ 2 ∷ 0x5d ∷ 0x42 ∷ 0x0e ∷ 8 ∷ 0 ∷ []) (seen ((0x1a ∷ 0 ∷ 3 ∷ 0x5d ∷ 0x42 ∷ []) ∷ (0x0e ∷ 8 ∷ 2 ∷ []) ∷ []) ((0 ∷ 1 ∷ 0 ∷ 2 ∷ 2 ∷ []) ∷ (0 ∷ 2 ∷ 2 ∷ 1 ∷ 3 ∷ []) ∷ (1 ∷ 1 ∷ 1 ∷ 1 ∷ 1 ∷ []) ∷ []) ((0x50 ∷ 0x18 ∷ 0x5d ∷ []) ∷ (0xe0 ∷ 1 ∷ 0x42 ∷ 0x0c ∷ []) ∷ (0x90 ∷ 8 ∷ []) ∷ []))
    ∷ row 4 (0x26 ∷ 0x1d ∷ 2 ∷ 0x11 ∷ 0x99 ∷ 0x20 ∷ 0xcb ∷ []) (seen ((0x26 ∷ 0x1d ∷ 4 ∷ 0x11 ∷ 0x99 ∷ []) ∷ (0x20 ∷ 0 ∷ 2 ∷ 0xcb ∷ []) ∷ []) ((0 ∷ 1 ∷ 0 ∷ 3 ∷ 3 ∷ []) ∷ (0 ∷ 2 ∷ 3 ∷ 1 ∷ 3 ∷ []) ∷ (1 ∷ 1 ∷ 1 ∷ 1 ∷ 1 ∷ []) ∷ []) ((0x50 ∷ 0x24 ∷ 0x1d ∷ 0x11 ∷ []) ∷ (0xe0 ∷ 1 ∷ 0x99 ∷ 0x20 ∷ []) ∷ (0x90 ∷ 0xcb ∷ []) ∷ []))
    ∷ row 5 (0x1a ∷ 0 ∷ 0x0e ∷ 8 ∷ 0 ∷ 0x1a ∷ 0 ∷ []) (seen ((0x1a ∷ 0 ∷ 1 ∷ []) ∷ (0x0e ∷ 8 ∷ 2 ∷ []) ∷ (0x1a ∷ 0 ∷ 1 ∷ []) ∷ []) ((0 ∷ 2 ∷ 0 ∷ 1 ∷ 3 ∷ []) ∷ (1 ∷ 2 ∷ 1 ∷ 1 ∷ 3 ∷ []) ∷ []) ((0x60 ∷ 1 ∷ 0x18 ∷ 0x0c ∷ []) ∷ (0xa0 ∷ 1 ∷ 8 ∷ 0x18 ∷ []) ∷ []))
    ∷ row 10 (0x0a ∷ 3 ∷ 0xcf ∷ 0x38 ∷ 0x94 ∷ 0x1e ∷ 8 ∷ 2 ∷ 0x59 ∷ 0xb5 ∷ 0x0a ∷ 0 ∷ 0x0a ∷ 0 ∷ 0x0a ∷ 0 ∷ []) (seen ((0x0a ∷ 0 ∷ 4 ∷ 0xcf ∷ 0x38 ∷ 0x94 ∷ []) ∷ (0x1e ∷ 8 ∷ 4 ∷ 0x59 ∷ 0xb5 ∷ []) ∷ (0x0a ∷ 0 ∷ 1 ∷ []) ∷ (0x0a ∷ 0 ∷ 1 ∷ []) ∷ (0x0a ∷ 0 ∷ 1 ∷ []) ∷ []) ((0 ∷ 2 ∷ 0 ∷ 3 ∷ 8 ∷ []) ∷ (1 ∷ 4 ∷ 3 ∷ 1 ∷ 8 ∷ []) ∷ []) ((0x68 ∷ 4 ∷ 8 ∷ 0xcf ∷ 0x38 ∷ 0x94 ∷ 0x1c ∷ 8 ∷ 0x59 ∷ []) ∷ (0x80 ∷ 1 ∷ 0xb5 ∷ 1 ∷ 8 ∷ 1 ∷ 8 ∷ 1 ∷ 8 ∷ []) ∷ []))
    ∷ row 20 (0x36 ∷ []) (err ErrPayloadTooSmallForObuExtensionHeader)
    ∷ row 20 (0x32 ∷ []) (err ErrPayloadTooSmallForObuPayloadSize)
    ∷ row 20 (0x32 ∷ 0x80 ∷ []) (seen ((0x32 ∷ 0 ∷ 1 ∷ []) ∷ (0x80 ∷ 0 ∷ 1 ∷ []) ∷ []) ((0 ∷ 2 ∷ 0 ∷ 1 ∷ 3 ∷ []) ∷ []) ((0x20 ∷ 1 ∷ 0x30 ∷ 0x80 ∷ []) ∷ []))
    ∷ row 20 (0x32 ∷ 0x82 ∷ []) (err ErrPayloadTooSmallForObuPayloadSize)
    ∷ row 20 (0x32 ∷ 0x84 ∷ []) (err ErrPayloadTooSmallForObuExtensionHeader)
    ∷ row 20 (0x32 ∷ 0x80 ∷ 0x80 ∷ 0x80 ∷ 0x80 ∷ 0x80 ∷ 0x80 ∷ 0x80 ∷ 0x80 ∷ []) (seen ((0x32 ∷ 0 ∷ 1 ∷ []) ∷ (0x80 ∷ 0 ∷ 8 ∷ 0x80 ∷ 0x80 ∷ 0x80 ∷ 0x80 ∷ 0x80 ∷ 0x80 ∷ 0x80 ∷ []) ∷ []) ((0 ∷ 2 ∷ 0 ∷ 8 ∷ 10 ∷ []) ∷ []) ((0x20 ∷ 1 ∷ 0x30 ∷ 0x80 ∷ 0x80 ∷ 0x80 ∷ 0x80 ∷ 0x80 ∷ 0x80 ∷ 0x80 ∷ 0x80 ∷ []) ∷ []))
    ∷ row 20 (0x32 ∷ 0x82 ∷ 0x82 ∷ 0x82 ∷ 0x82 ∷ 0x82 ∷ 0x82 ∷ 0x82 ∷ 0x82 ∷ []) (err ErrPayloadTooSmallForObuPayloadSize)
    ∷ row 20 (0x32 ∷ 0x82 ∷ 0x82 ∷ 0x82 ∷ 0x82 ∷ 0x82 ∷ 0x82 ∷ 0x82 ∷ 0x84 ∷ []) (err ErrPayloadTooSmallForObuExtensionHeader)
    ∷ row 20 (0x32 ∷ 0x80 ∷ 0x80 ∷ 0x80 ∷ 0x80 ∷ 0x80 ∷ 0x80 ∷ 0x80 ∷ 0x80 ∷ 0 ∷ []) (seen ((0x32 ∷ 0 ∷ 1 ∷ []) ∷ []) ((0 ∷ 1 ∷ 0 ∷ 1 ∷ 1 ∷ []) ∷ []) ((0x10 ∷ 0x30 ∷ []) ∷ []))
    ∷ row 20 (0x32 ∷ 0x80 ∷ 0x80 ∷ 0x80 ∷ 0x80 ∷ 0x80 ∷ 0x81 ∷ 0x80 ∷ 0x80 ∷ 0 ∷ []) panic
    ∷ row 20 (0x32 ∷ 0x80 ∷ 0x80 ∷ 0x80 ∷ 0x80 ∷ 0x80 ∷ 0x80 ∷ 0x80 ∷ 0x80 ∷ 0 ∷ 0x32 ∷ []) (err ErrPayloadTooSmallForObuPayloadSize)
    ∷ row 20 (0x32 ∷ 0x80 ∷ 0x80 ∷ 0x80 ∷ 0x80 ∷ 0x80 ∷ 0x80 ∷ 0x80 ∷ 0x80 ∷ 0 ∷ 0x36 ∷ []) (err ErrPayloadTooSmallForObuExtensionHeader)
    ∷ row 20 (0x32 ∷ 0x80 ∷ 0x80 ∷ 0x80 ∷ 0x80 ∷ 0x10 ∷ []) (seen ((0x32 ∷ 0 ∷ 1 ∷ []) ∷ []) ((0 ∷ 1 ∷ 0 ∷ 1 ∷ 1 ∷ []) ∷ []) ((0x10 ∷ 0x30 ∷ []) ∷ []))
    ∷ row 20 (0x32 ∷ 0x80 ∷ 0x80 ∷ 0x80 ∷ 0x80 ∷ 0x11 ∷ []) panic
    ∷ row 20 (0x32 ∷ 0x80 ∷ 0x80 ∷ 0x80 ∷ 0x80 ∷ 0x10 ∷ 0x32 ∷ []) (err ErrPayloadTooSmallForObuPayloadSize)
    ∷ row 20 (0x32 ∷ 0x80 ∷ 0x80 ∷ 0x80 ∷ 0x80 ∷ 0x10 ∷ 0x36 ∷ []) (err ErrPayloadTooSmallForObuExtensionHeader)
    ∷ row 20 (0x32 ∷ 1 ∷ []) panic
    ∷ []

pub table : map (λ (r : Row). seen_of r.mtu r.unit) rows ≡ map (λ (r : Row). r.outcome) rows
unfolding obu_numbers packet_numbers seen seen_of row rows at slice minus decode_turns read_from extension_header_at sized_payload obu_payload obu_at parse_from sets_n get_aggregation_header payload_offset element_of store_from last_from packet_bytes packets_from payload pop additional_bytes_for_previous_obu_element opened middles size_turns fragment_turns max_fragment_size with_fragment with_last obu_turn packetize_turns «packetize» encode_turns put_turns
table = refl

-- ---- the crate's payload outgrows the mtu of 132

pub outgrows : Outgrows
unfolding outgrown at slice minus decode_turns read_from extension_header_at sized_payload obu_payload obu_at parse_from sets_n get_aggregation_header payload_offset element_of store_from last_from packet_bytes packets_from payload pop additional_bytes_for_previous_obu_element opened middles size_turns fragment_turns max_fragment_size with_fragment with_last obu_turn packetize_turns «packetize» encode_turns put_turns stream_from front_of headed field_in keep encode_in plan_of plan_from place insert spread fragment_of need_of is_full charge_of largest_fragment elements_from before_frame from_frame n_of byte_of ours.fielded ours.payload ours.payloads_from flat_map
outgrows = record { crate_lengths = refl; our_lengths = refl; crate_first = refl; our_first = refl }

-- ---- N of packet 0: the crate alone sets it, and we alone do

pub new_differs : NewDiffers
unfolding at slice minus decode_turns read_from extension_header_at sized_payload obu_payload obu_at parse_from sets_n get_aggregation_header payload_offset element_of store_from last_from packet_bytes packets_from payload pop additional_bytes_for_previous_obu_element opened middles size_turns fragment_turns max_fragment_size with_fragment with_last obu_turn packetize_turns «packetize» encode_turns put_turns stream_from front_of headed field_in keep encode_in plan_of plan_from place insert spread fragment_of need_of is_full charge_of largest_fragment elements_from before_frame from_frame n_of byte_of ours.fielded ours.payload ours.payloads_from flat_map
new_differs = record { crate_sets = refl; ours_clear = refl; crate_clear = refl; ours_sets = refl }
