-- What a sender may put into packets (W8, W11), with no planner and no receiver in it.
--
-- A train is a list of pieces. Each OBU is cut into one or more pieces, and the pieces of all OBUs stand in order. With a piece ends its packet,
-- its OBU, or both: so a packet goes on only where an OBU has ended, and an OBU is cut only where a packet ends.
-- `packets` groups the pieces by packet, `obus` groups the same pieces by OBU.
use Rattle.std.specs.Prelude.{ℕ, suc, ◌<◌, List, [], ◌∷◌, ◌++◌, Bool, true, false, ◌&&◌, length}
use Rattle.base.specs.Lists.{All}
pub use Rattle.element.specs.Packet.{Packet}

pub data Piece : Type 0 where
  -- the packet ends here, inside the OBU
  cut : List ℕ → Piece
  -- the OBU ends here, and the packet goes on
  inner : List ℕ → Piece
  -- both end here
  final : List ℕ → Piece

abbrev pub bytes_in : Piece → List ℕ
bytes_in (cut b) = b
bytes_in (inner b) = b
bytes_in (final b) = b

-- no piece is empty
abbrev pub NonEmpty : List ℕ → Type 0
NonEmpty b = 0 < length b

abbrev pub Full : List Piece → Type 0
Full t = All (λ p. NonEmpty (bytes_in p)) t

-- whether an OBU and its packet end at the end of the train: `c` says it of what stands before
unfoldable pub closed : Bool → List Piece → Bool
closed c [] = c
closed c (cut b ∷ t) = closed false t
closed c (inner b ∷ t) = closed false t
closed c (final b ∷ t) = closed true t

-- ---- by packet

-- `z` and `es` are of the packet that is being filled
unfoldable pub packets : Bool → List (List ℕ) → List Piece → List Packet
packets z [] [] = []
packets z (e ∷ es) [] = record { z = z; y = false; elements = e ∷ es } ∷ []
packets z es (cut b ∷ t) = record { z = z; y = true; elements = es ++ (b ∷ []) } ∷ packets true [] t
packets z es (inner b ∷ t) = packets z (es ++ (b ∷ [])) t
packets z es (final b ∷ t) = record { z = z; y = false; elements = es ++ (b ∷ []) } ∷ packets false [] t

-- the run of packets
abbrev pub packets_of_pieces : List Piece → List Packet
packets_of_pieces t = packets false [] t

-- ---- by OBU

-- a piece, and the place in the run of the packet that carries it
pub record Portion : Type 0 where
  pub packet : ℕ
  pub bytes : List ℕ

abbrev pub portion : ℕ → List ℕ → Portion
portion k b = record { packet = k; bytes = b }

-- `k` is the packet that is being filled, `ps` are the portions so far of the OBU that is being cut
unfoldable pub obus : ℕ → List Portion → List Piece → List (List Portion)
obus k ps [] = []
obus k ps (cut b ∷ t) = obus (suc k) (ps ++ (portion k b ∷ [])) t
obus k ps (inner b ∷ t) = (ps ++ (portion k b ∷ [])) ∷ obus k [] t
obus k ps (final b ∷ t) = (ps ++ (portion k b ∷ [])) ∷ obus (suc k) [] t

-- the OBUs, each as its portions
abbrev pub obus_of_pieces : List Piece → List (List Portion)
obus_of_pieces t = obus 0 [] t

-- the bytes of an OBU
unfoldable pub join : List Portion → List ℕ
join [] = []
join (p ∷ ps) = p.bytes ++ join ps

-- whether a test holds of each packet that carries a portion of it
unfoldable pub whole : (ℕ → Bool) → List Portion → Bool
whole test [] = true
whole test (p ∷ ps) = test p.packet && whole test ps
