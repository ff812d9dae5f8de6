-- obu.rs: the OBUs of a unit.
use Rattle.std.specs.Prelude.{ℕ, zero, suc, ◌+◌, ◌-◌, ◌/◌, List, [], ◌∷◌, ◌++◌, Bool, cond, not, ◌||◌, length, ltb, eqb}
use Rattle.std.specs.Int.Bits.{bit_and}
use Rattle.crate_laws.specs.Rust.{ErrPayloadTooSmallForObuExtensionHeader, ErrPayloadTooSmallForObuPayloadSize, Outcome, ok, err, ◌>>=◌, at, slice}
use Rattle.crate_laws.specs.Leb128.{read_leb128}

-- the crate's `Obu`: its payload is bytes, not a place in the unit
pub record CrateObu : Type 0 where
  pub header : ℕ
  pub extension_header : ℕ
  pub payload : List ℕ
  pub size : ℕ

abbrev pub obu_has_extension : ℕ → Bool
obu_has_extension header = not (eqb (bit_and header 0b0000_0100) 0)

abbrev pub obu_has_size : ℕ → Bool
obu_has_size header = not (eqb (bit_and header 0b0000_0010) 0)

abbrev pub obu_type : ℕ → ℕ
obu_type header = bit_and header 0b0111_1000 / 8

abbrev pub OBU_TYPE_SEQUENCE_HEADER : ℕ
OBU_TYPE_SEQUENCE_HEADER = 1

-- OBU_TYPE_TEMPORAL_DELIMITER, OBU_TYPE_TILE_LIST, OBU_TYPE_PADDING
abbrev pub should_ignore_obu_type : ℕ → Bool
should_ignore_obu_type type = eqb type 2 || eqb type 8 || eqb type 15

-- obu_header_size; Obu::header_size is the same
abbrev pub header_size : ℕ → ℕ
header_size header = cond (obu_has_extension header) 2 1

-- ---- a turn of the loop of parse_obus

-- extension_header, of the OBU at payload_data_index, with so many bytes of payload_data_remaining
unfoldable pub extension_header_at : List ℕ → ℕ → ℕ → ℕ → Outcome ℕ
extension_header_at payload remaining index header =
    cond (obu_has_extension header)
    (cond (ltb remaining 2) (err ErrPayloadTooSmallForObuExtensionHeader) (at payload (index + 1)))
    (ok 0)

-- with a size field: obu_payload, and leb128_size
unfoldable pub sized_payload : List ℕ → Outcome (List ℕ × ℕ)
sized_payload withoutHeader =
    cond (eqb (length withoutHeader) 0)
    (err ErrPayloadTooSmallForObuPayloadSize)
    (do
      let (size, taken) = read_leb128 withoutHeader
      payload ← slice withoutHeader taken (taken + size)
      ok (payload, taken))

-- obu_payload, and the bytes of its size field: none without one
unfoldable pub obu_payload : ℕ → List ℕ → Outcome (List ℕ × ℕ)
obu_payload header withoutHeader = cond (not (obu_has_size header)) (ok (withoutHeader, 0)) (sized_payload withoutHeader)

-- the OBU, and leb128_size
unfoldable pub obu_at : List ℕ → ℕ → ℕ → Outcome (CrateObu × ℕ)
obu_at payload remaining index = do
  header ← at payload index
  extension ← extension_header_at payload remaining index header
  withoutHeader ← slice payload (index + header_size header) (length payload)
  (obu_payload, taken) ← obu_payload header withoutHeader
  ok (
    record {
      header = header;
      extension_header = extension;
      payload = obu_payload;
      size = header_size header + length obu_payload;
    },
    taken,
  )

-- obus.push, but for the types that are ignored
abbrev pub pushed : List CrateObu → CrateObu → List CrateObu
pushed obus obu = cond (not (should_ignore_obu_type (obu_type obu.header))) (obus ++ (obu ∷ [])) obus

-- the loop: each turn takes a byte at least, so as many turns as the payload has bytes are enough. payload_data_remaining is
-- of type isize: below zero it ends the loop as 0 does
unfoldable pub parse_from : ℕ → List ℕ → ℕ → ℕ → List CrateObu → Outcome (List CrateObu)
parse_from zero payload remaining index obus = ok obus
parse_from (suc turns) payload remaining index obus =
    cond (ltb 0 remaining)
    (do
      (obu, taken) ← obu_at payload remaining index
      parse_from turns payload (remaining - taken - obu.size) (index + taken + obu.size) (pushed obus obu))
    (ok obus)

abbrev pub parse_obus : List ℕ → Outcome (List CrateObu)
parse_obus payload = parse_from (length payload) payload (length payload) 0 []
