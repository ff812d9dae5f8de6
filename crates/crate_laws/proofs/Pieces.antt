-- Payloads as pieces, written by two writers (D2, X4). Assumes nothing.
use mathlib.Core.Path.{◌≡◌, refl, sym, ap, ap₂, ◌∙◌}
use Prim.Native.Nat.{ℕ, ◌+◌}
use mathlib.Core.List.{List, [], ◌∷◌, ◌++◌, append-nil, append_assoc, map, flat_map}
use mathlib.Core.Bool.{Bool, true, false}
use lib.ListN.{length}
use lib.Dec.{ltb}
use Rattle.base.specs.Lists.{All}
use Rattle.leb128.specs.Field.{encode}
use Rattle.obu.specs.declared.Obu.{Obu}
use Rattle.packetizer.specs.Plan.{most_counted}
use Rattle.packetizer.specs.Elements.{elements_of}
use Rattle.packetizer.specs.declared.PacketMetadata.{PacketMetadata}
use Rattle.aggregation.specs.New.{n_of}
use Rattle.aggregation.specs.Header.{byte_of}
use Rattle.payloader.specs.Payload as ours
use Rattle.crate_laws.specs.Obu.{CrateObu}
use Rattle.crate_laws.specs.Pieces.{Piece, header, bytes, length_field, Writer, piece_by, written_by, crate_new, crate_writer, our_writer, zyw_of, fielded_pieces, packet_pieces, pieces_from, ShortPiece, ShortPieces, EqualPieces}
use Rattle.crate_laws.proofs.Lengths.{short_lengths}

-- ---- the pieces of a packet, by any writer

module _ (w : Writer) where
  fielded_written : (last : Bool) (es : List (List ℕ)) → ours.fielded w.lengths last es ≡ written_by w (fielded_pieces last es)
  unfolding ours.fielded fielded_pieces flat_map
  fielded_written last [] = refl
  fielded_written true (e ∷ []) = ap (λ (l : List ℕ). w.lengths (length e) ++ l) (sym (append-nil e))
  fielded_written false (e ∷ []) = sym (append-nil e)
  fielded_written last (e ∷ f ∷ es) =
      append_assoc (w.lengths (length e)) e (ours.fielded w.lengths last (f ∷ es))
      ∙ ap (λ (l : List ℕ). w.lengths (length e) ++ (e ++ l)) (fielded_written last (f ∷ es))

  pub packet_written : (unit : List ℕ) (obus : List Obu) (k : ℕ) (p : PacketMetadata)
      → (zyw_of obus p + w.new k)
      ∷ ours.fielded w.lengths (ltb most_counted p.num_obu_elements) (ours.parts_of unit obus (elements_of (map (λ (o : Obu). o.size) obus) p))
      ≡ written_by w (packet_pieces unit obus k p)
  unfolding packet_pieces flat_map
  packet_written unit obus k p =
      ap (λ (l : List ℕ). (zyw_of obus p + w.new k) ∷ l)
      (fielded_written (ltb most_counted p.num_obu_elements) (ours.parts_of unit obus (elements_of (map (λ (o : Obu). o.size) obus) p)))

-- ---- our payloads

payload_written : (unit : List ℕ) (obus : List Obu) (k : ℕ) (p : PacketMetadata)
    → ours.payload encode unit obus k p ≡ written_by (our_writer unit obus) (packet_pieces unit obus k p)
unfolding ours.payload byte_of zyw_of
payload_written unit obus k p = packet_written (our_writer unit obus) unit obus k p

pub payloads_written : (unit : List ℕ) (obus : List Obu) (k : ℕ) (ps : List PacketMetadata)
    → ours.payloads_from encode unit obus k ps ≡ map (written_by (our_writer unit obus)) (pieces_from unit obus k ps)
unfolding ours.payloads_from pieces_from
payloads_written unit obus k [] = refl
payloads_written unit obus k (p ∷ ps) =
    ap₂ {C = List (List ℕ)} (λ l m. l ∷ m) (payload_written unit obus k p) (payloads_written unit obus (k + 1) ps)

-- ---- the same bytes, where the two writers have the same N and no length is of 128 or more

module _ (crate : List CrateObu) (unit : List ℕ) (obus : List Obu) (new : (k : ℕ) → crate_new crate k ≡ n_of unit obus k) where
  piece_same : (q : Piece) → ShortPiece q → piece_by (crate_writer crate) q ≡ piece_by (our_writer unit obus) q
  piece_same (header k zyw) s = ap (λ (n : ℕ). (zyw + n) ∷ []) (new k)
  piece_same (bytes l) s = refl
  piece_same (length_field n) s = short_lengths n s

  pieces_same : (qs : List Piece) → All ShortPiece qs → written_by (crate_writer crate) qs ≡ written_by (our_writer unit obus) qs
  unfolding flat_map
  pieces_same [] s = refl
  pieces_same (q ∷ qs) s = ap₂ (λ (l m : List ℕ). l ++ m) (piece_same q s.0) (pieces_same qs s.1)

  packets_same : (packets : List (List Piece)) → ShortPieces packets
      → map (written_by (crate_writer crate)) packets ≡ map (written_by (our_writer unit obus)) packets
  packets_same [] s = refl
  packets_same (p ∷ ps) s = ap₂ {C = List (List ℕ)} (λ l m. l ∷ m) (pieces_same p s.0) (packets_same ps s.1)

pub equal_pieces : EqualPieces
equal_pieces crate unit obus packets new short = packets_same crate unit obus new packets short
