-- The crate's payload of a packet is the pieces of ours, written its way (D2, Y1, Y4). Assumes nothing.
use mathlib.Core.Path.{◌≡◌, refl, sym, ap, ◌∙◌}
use Prim.Native.Nat.{ℕ, zero, suc, ◌+◌, ◌-◌, ◌≤◌, ◌<◌}
use native.Mathlib.Nat.{add-zero}
use native.Mathlib.Omega.{arith}
use mathlib.Core.List.{List, [], ◌∷◌, ◌++◌, append-nil, append_assoc, map}
use mathlib.Core.Bool.{Bool, cond}
use lib.ListN.{length, get_or, take, drop, length-map, length-drop}
use lib.Seq.{take_all}
use lib.Dec.{ltb}
use borrow.Author.Tests.{ne_eqb}
use Rattle.obu.specs.Wire.{sent}
use Rattle.obu.specs.Records.{no_obu}
use Rattle.obu.specs.Laws.{Lies}
use Rattle.obu.specs.declared.Obu.{Obu}
use Rattle.packetizer.specs.Plan.{most_counted}
use Rattle.packetizer.specs.Elements.{elements_from}
use Rattle.packetizer.specs.declared.PacketMetadata.{PacketMetadata}
use Rattle.packetizer.specs.Laws.{start_of, Sound}
use Rattle.packetizer.specs.Records.{no_packet}
use Rattle.packetizer.specs.Call.{sizes}
use Rattle.packetizer.proofs.Turns.{size_at}
use Rattle.aggregation.specs.Header.{last_obu}
use Rattle.payloader.specs.Payload as ours
use Rattle.payloader.proofs.Bodies.{sent_size, part_length}
use Rattle.crate_laws.specs.Rust.{Outcome, ok}
use Rattle.crate_laws.specs.Payload.{put_length, store_from, packet_bytes}
use Rattle.crate_laws.specs.Pieces.{written_by, crate_new, crate_writer, zyw_of, packet_pieces}
use Rattle.crate_laws.specs.Same.{as_crate, as_crate_packet, crate_packets}
use Rattle.crate_laws.proofs.Steps.{at_map, minus_is}
use Rattle.crate_laws.proofs.Headers.{header_same}
use Rattle.crate_laws.proofs.Elements.{element_is, last_is}
use Rattle.crate_laws.proofs.Pieces.{packet_written}

module _ (unit : List ℕ) (obus : List Obu) where
  abbrev obu : ℕ → Obu
  obu i = get_or obus i no_obu

  -- the rest of OBU i from an offset on, with its length in front, and then all of those after it: so many in all
  wholes : ℕ → ℕ → ℕ → List ℕ
  wholes zero i offset = []
  wholes (suc n) i offset = (put_length ((obu i).size - offset) ++ drop offset (sent unit (obu i))) ++ wholes n (i + 1) 0

  -- where the element after them starts
  abbrev start_after : ℕ → ℕ → ℕ
  start_after zero offset = offset
  start_after (suc n) offset = 0

  start_zero : (n : ℕ) → start_after n 0 ≡ 0
  start_zero zero = refl
  start_zero (suc n) = refl

  module _ (all : (i : ℕ) → i < length obus → Lies unit (obu i)) where
    -- a part that runs to the end of its OBU
    whole : (i offset : ℕ) → i < length obus → offset ≤ (obu i).size → take ((obu i).size - offset) (drop offset (sent unit (obu i))) ≡ drop offset (sent unit (obu i))
    whole i offset h b =
        take_all ((obu i).size - offset) (drop offset (sent unit (obu i)))
        (omega (arith, length-drop offset (sent unit (obu i)), sent_size unit (obu i) (all i h)))

    store_is : (n i offset : ℕ) (out : List ℕ) → i + n ≤ length obus → (1 ≤ n → offset ≤ (obu i).size)
        → store_from n (map (as_crate unit) obus) i offset out ≡ ok (out ++ wholes n i offset, start_after n offset)
    unfolding store_from wholes
    store_is zero i offset out h b = rw (append-nil out)
    store_is (suc n) i offset out h b =
        let l : Lies unit (obu i) = all i (omega arith) in
        let w : List ℕ = put_length ((obu i).size - offset) ++ drop offset (sent unit (obu i)) in
        rw (
          at_map (as_crate unit) no_obu obus i (omega arith),
          element_is unit (obu i) l offset (b (omega arith)),
        )
        (store_is n (i + 1) 0 (out ++ w) (omega arith) (λ z. omega arith) ∙ rw (start_zero n, append_assoc out w (wholes n (i + 1) 0)))

    -- the last element after them: all elements, as we write them
    abbrev written : Bool → ℕ → ℕ → ℕ → ℕ → List ℕ
    written flag n i offset last = ours.fielded put_length flag (ours.parts_of unit obus (elements_from (sizes obus) n i offset last))

    module _ (flag : Bool) (last : ℕ) where
      written_two : (n i offset : ℕ) → i < length obus → offset ≤ (obu i).size
          → written flag (suc (suc n)) i offset last
          ≡ (put_length ((obu i).size - offset) ++ drop offset (sent unit (obu i))) ++ written flag (suc n) (i + 1) 0 last
      unfolding ours.fielded elements_from
      written_two zero i offset h b = rw (size_at obus i, part_length unit obus i offset ((obu i).size - offset) (all i h) (omega arith), whole i offset h b)
      written_two (suc n) i offset h b = rw (size_at obus i, part_length unit obus i offset ((obu i).size - offset) (all i h) (omega arith), whole i offset h b)

      written_one : (i offset : ℕ) → i < length obus → offset + last ≤ (obu i).size
          → written flag 1 i offset last ≡ cond flag (put_length last) [] ++ take last (drop offset (sent unit (obu i)))
      unfolding ours.fielded elements_from
      written_one i offset h f = rw (part_length unit obus i offset last (all i h) f)

      written_is : (n i offset : ℕ) → i + n < length obus → offset ≤ (obu i).size → start_after n offset + last ≤ (obu (i + n)).size
          → wholes n i offset ++ (cond flag (put_length last) [] ++ take last (drop (start_after n offset) (sent unit (obu (i + n)))))
          ≡ written flag (suc n) i offset last
      unfolding wholes
      written_is zero i offset h b f = rw (add-zero i) (sym (written_one i offset (omega arith) (rw (add-zero i) at f)))
      written_is (suc n) i offset h b f =
          let w : List ℕ = put_length ((obu i).size - offset) ++ drop offset (sent unit (obu i)) in
          let t : List ℕ = cond flag (put_length last) [] ++ take last (drop 0 (sent unit (obu (i + suc n)))) in
          let e : i + 1 + n ≡ i + suc n = omega arith in
          let ih : wholes n (i + 1) 0 ++ t ≡ written flag (suc n) (i + 1) 0 last =
          rw (start_zero n, e) at (written_is n (i + 1) 0 (omega arith) (omega arith) (rw (start_zero n, e) f)) in
          append_assoc w (wholes n (i + 1) 0) t ∙ ap (λ (l : List ℕ). w ++ l) ih ∙ sym (written_two n i offset (omega arith) b)

    start_is : (n offset : ℕ) → start_after n offset ≡ start_of (suc n) offset
    start_is zero offset = refl
    start_is (suc n) offset = rw (ne_eqb (suc (suc n)) 1 (λ z. omega arith))

    -- a packet of a plan
    module _ (room : ℕ) (packets : List PacketMetadata) (k : ℕ) (there : k < length packets) (sound : Sound room (sizes obus) (get_or packets k no_packet)) where
      abbrev p : PacketMetadata
      p = get_or packets k no_packet

      abbrev n : ℕ
      n = p.num_obu_elements - 1

      abbrev i : ℕ
      i = p.first_obu_index

      abbrev o : ℕ
      o = p.first_obu_offset

      inside : i + p.num_obu_elements ≤ length obus
      inside = omega (arith, sound.inside, length-map obus (λ (x : Obu). x.size))

      counted : suc n ≡ p.num_obu_elements
      counted = omega (arith, sound.some)

      last_at_lem : last_obu p ≡ i + n
      last_at_lem = omega (arith, sound.some)

      begins : o ≤ (obu i).size
      begins = omega (arith, sound.from, size_at obus i)

      fits : start_after n o + p.last_obu_size ≤ (obu (i + n)).size
      fits = rw (start_is n o, counted) (omega (arith, sound.within, size_at obus (last_obu p), ap (λ (j : ℕ). (obu j).size) last_at_lem))

      abbrev first : ℕ
      first = zyw_of obus p + crate_new (map (as_crate unit) obus) k

      pub packet_is : packet_bytes (map (as_crate unit) obus) (crate_packets packets) k ≡ ok (written_by (crate_writer (map (as_crate unit) obus)) (packet_pieces unit obus k p))
      unfolding packet_bytes
      packet_is =
          rw (
            at_map as_crate_packet no_packet packets k there,
            header_same unit obus packets k there sound.some inside,
            minus_is p.num_obu_elements 1 sound.some,
            store_is n i o (first ∷ []) (omega (arith, sound.some, inside)) (λ z. begins),
            minus_is (i + p.num_obu_elements) 1 (omega (arith, sound.some)),
            at_map (as_crate unit) no_obu obus (last_obu p) (omega (arith, sound.some, inside)),
            last_at_lem,
            last_is unit (obu (i + n)) (all (i + n) (omega (arith, sound.some, inside))) (start_after n o) p.last_obu_size fits,
          )
          (ap {B = Outcome (List ℕ)} (λ (l : List ℕ). ok (first ∷ l))
          (written_is (ltb most_counted p.num_obu_elements) p.last_obu_size n i o (omega (arith, sound.some, inside)) begins fits
          ∙ ap (λ (c : ℕ). written (ltb most_counted p.num_obu_elements) c i o p.last_obu_size) counted)
          ∙ ap {B = Outcome (List ℕ)} ok (packet_written (crate_writer (map (as_crate unit) obus)) unit obus k p))
