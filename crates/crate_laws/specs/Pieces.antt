-- The payloads of a unit as pieces: header bytes without N, lengths yet to be written, and bytes. Two writers make payloads of
-- them, the crate's and ours. What is sent of an OBU is here ours.
use Rattle.std.specs.Prelude.{◌≡◌, ℕ, ◌+◌, ◌*◌, ◌<◌, Bool, cond, length, get_or, ltb}
use mathlib.Core.List.{List, [], ◌∷◌, ◌++◌, map, flat_map}
use Rattle.base.specs.Lists.{All}
use Rattle.leb128.specs.Field.{encode}
use Rattle.obu.specs.Unit.{obus_of}
use Rattle.obu.specs.Records.{no_obu}
use Rattle.obu.specs.declared.Obu.{Obu}
use Rattle.packetizer.specs.Plan.{most_counted}
use Rattle.packetizer.specs.Elements.{elements_of}
use Rattle.packetizer.specs.Call.{unit_plan}
use Rattle.packetizer.specs.declared.PacketMetadata.{PacketMetadata}
use Rattle.aggregation.specs.New.{n_of}
use Rattle.aggregation.specs.Header.{last_obu, z_of, y_of, w_of}
use Rattle.payloader.specs.Payload.{parts_of}
use Rattle.crate_laws.specs.Obu.{CrateObu}
use Rattle.crate_laws.specs.Packetizer.{sets_n}
use Rattle.crate_laws.specs.Payload.{put_length}

-- ---- pieces, and how they are written

-- the header byte of packet k by its Z, Y and W; bytes; the length of the element that follows
pub data Piece : Type 0 where
  header : ℕ → ℕ → Piece
  bytes : List ℕ → Piece
  length_field : ℕ → Piece

-- how a length is written, and N of packet k as it stands in the header byte
pub record Writer : Type 0 where
  pub lengths : ℕ → List ℕ
  pub new : ℕ → ℕ

abbrev pub piece_by : Writer → Piece → List ℕ
piece_by w (header k zyw) = (zyw + w.new k) ∷ []
piece_by w (bytes l) = l
piece_by w (length_field n) = w.lengths n

abbrev pub written_by : Writer → List Piece → List ℕ
written_by w pieces = flat_map (piece_by w) pieces

-- the crate sets N by its OBU list, we by the unit and ours
abbrev pub crate_new : List CrateObu → ℕ → ℕ
crate_new obus k = cond (sets_n obus k) 8 0

abbrev pub crate_writer : List CrateObu → Writer
crate_writer obus = record { lengths = put_length; new = crate_new obus }

abbrev pub our_writer : List ℕ → List Obu → Writer
our_writer unit obus = record { lengths = encode; new = n_of unit obus }

-- ---- the pieces of a unit's packets

-- Z, Y and W of a packet, as they stand in its header byte
unfoldable pub zyw_of : List Obu → PacketMetadata → ℕ
zyw_of obus p = z_of p + y_of p (get_or obus (last_obu p) no_obu).size + 16 * w_of p

-- the parts of OBUs in a packet, each with its length in front; the last only where it is to have one
unfoldable pub fielded_pieces : Bool → List (List ℕ) → List Piece
fielded_pieces last [] = []
fielded_pieces last (e ∷ []) = cond last (length_field (length e) ∷ []) [] ++ (bytes e ∷ [])
fielded_pieces last (e ∷ f ∷ es) = length_field (length e) ∷ bytes e ∷ fielded_pieces last (f ∷ es)

-- packet k: its header byte, and its elements
unfoldable pub packet_pieces : List ℕ → List Obu → ℕ → PacketMetadata → List Piece
packet_pieces unit obus k p =
    header k (zyw_of obus p)
    ∷ fielded_pieces (ltb most_counted p.num_obu_elements)
    (parts_of unit obus (elements_of (map (λ (o : Obu). o.size) obus) p))

unfoldable pub pieces_from : List ℕ → List Obu → ℕ → List PacketMetadata → List (List Piece)
pieces_from unit obus k [] = []
pieces_from unit obus k (p ∷ ps) = packet_pieces unit obus k p ∷ pieces_from unit obus (k + 1) ps

abbrev pub pieces_of : ℕ → List ℕ → List (List Piece)
pieces_of mtu unit = pieces_from unit (obus_of unit) 0 (unit_plan mtu unit)

-- ---- no length of 128 or more

abbrev pub ShortPiece : Piece → Type 0
ShortPiece (header k zyw) = Unit {0}
ShortPiece (bytes l) = Unit {0}
ShortPiece (length_field n) = n < 128

abbrev pub ShortPieces : List (List Piece) → Type 0
ShortPieces packets = All (All ShortPiece) packets

-- where the two N are the same too, both write the same bytes
abbrev pub EqualPieces : Type 0
EqualPieces =
    (crate : List CrateObu) (unit : List ℕ) (obus : List Obu) (packets : List (List Piece))
    → ((k : ℕ) → crate_new crate k ≡ n_of unit obus k)
    → ShortPieces packets → map (written_by (crate_writer crate)) packets ≡ map (written_by (our_writer unit obus)) packets
