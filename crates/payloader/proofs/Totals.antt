-- How many bytes payloads take, and all payloads one after the other. Assumes nothing.
use mathlib.Core.Path.{◌≡◌, refl, sym, ap, ap₂, ◌∙◌}
use Prim.Native.Nat.{ℕ, zero, suc, ◌+◌, ◌-◌, ◌*◌, ◌≤◌, ◌<◌}
use native.Mathlib.Nat.{add-zero}
use native.Mathlib.Numerals.{add-one}
use native.Mathlib.Omega.{arith}
use mathlib.Core.List.{List, [], ◌∷◌, ◌++◌, flat_map}
use mathlib.Core.Bool.{Bool, true, false, cond}
use lib.ListN.{length, get_or, take, drop, length-append, length-map, drop_of_length-le}
use lib.Seq.{drop-cons, take-suc}
use lib.Dec.{ltb, eqb}
use borrow.Author.Tests.{ne_eqb}
use Rattle.base.specs.Lists.{joined}
use Rattle.base.proofs.Tests.{by_cond}
use Rattle.leb128.specs.Field.{encode}
use Rattle.obu.specs.Unit.{unit_limit, obus_of}
use Rattle.obu.specs.Laws.{Bytes, Lies}
use Rattle.obu.specs.Records.{no_obu}
use Rattle.obu.specs.declared.Obu.{Obu}
use Rattle.obu.proofs.Records.{obu_lies}
use Rattle.packetizer.specs.Fragment.{field_size}
use Rattle.packetizer.specs.Plan.{most_counted}
use Rattle.packetizer.specs.Elements.{elements_from, elements_of, element_bytes, field_bytes}
use Rattle.packetizer.specs.Call.{sizes_of, unit_plan, sizes}
use Rattle.packetizer.specs.Laws.{Sound, planned_bytes}
use Rattle.packetizer.specs.Records.{no_packet}
use Rattle.packetizer.specs.declared.PacketMetadata.{PacketMetadata}
use Rattle.packetizer.proofs.Bodies.{elements_count}
use Rattle.packetizer.proofs.Turns.{size_at}
use Rattle.packetizer.proofs.Starts.{planned_append}
use Rattle.packetizer.proofs.Totals.{packet_most}
use Rattle.packetizer.proofs.UnitLaws.{unit_positive}
use Rattle.packetizer.proofs.Calls.{unit_total}
use Rattle.payloader.specs.Payload.{payload_at, payloads_from, payloads_of}
use Rattle.payloader.proofs.Bodies.{part, part_length, body, body_two, body_last}
use Rattle.payloader.proofs.Packets.{packet_sound, payload_is}

-- ---- what a plan says, from packet k on, and before it

bytes_step : (ps : List PacketMetadata) (k : ℕ) → k < length ps
    → planned_bytes (drop k ps) ≡ (get_or ps k no_packet).packet_size + 1 + planned_bytes (drop (k + 1) ps)
unfolding planned_bytes
bytes_step ps k h = rw (add-one k, drop-cons ps k no_packet h)

pub bytes_before : (ps : List PacketMetadata) (k : ℕ) → k < length ps
    → planned_bytes (take (k + 1) ps) ≡ planned_bytes (take k ps) + ((get_or ps k no_packet).packet_size + 1)
unfolding planned_bytes
bytes_before ps k h = rw (add-one k, take-suc ps k no_packet h, planned_append (take k ps) (get_or ps k no_packet ∷ [])) (omega arith)

-- ---- the elements of a record take what its packet size says

module _ (unit : List ℕ) (os : List Obu) (flag : Bool) (last : ℕ) (all : (j : ℕ) → j < length os → Lies unit (get_or os j no_obu)) where
  one_body : (i from : ℕ) → Lies unit (get_or os i no_obu) → from + last ≤ (get_or os i no_obu).size
      → length (body unit os flag 1 i from last) ≡ element_bytes (elements_from (sizes os) 1 i from last) + field_bytes flag (elements_from (sizes os) 1 i from last)
  unfolding elements_from element_bytes field_bytes
  one_body i from l f =
      ap length (body_last unit os flag i from last l 1 refl f)
      ∙ length-append (cond flag (encode last) []) (part unit os i from last)
      ∙ ap₂ ◌+◌ (field_length flag) (part_length unit os i from last l f)
      ∙ omega arith
    where
      field_length : (t : Bool) → length (cond t (encode last) []) ≡ cond t (field_size last) 0
      field_length true = refl
      field_length false = refl

  abbrev full : ℕ → ℕ → ℕ
  full i from = (get_or os i no_obu).size - from

  elements_two : (m i from : ℕ)
      → (element_bytes (elements_from (sizes os) (suc (suc m)) i from last) ≡ full i from + element_bytes (elements_from (sizes os) (suc m) (i + 1) 0 last))
      × (field_bytes flag (elements_from (sizes os) (suc (suc m)) i from last) ≡ field_size (full i from) + field_bytes flag (elements_from (sizes os) (suc m) (i + 1) 0 last))
  unfolding elements_from element_bytes field_bytes
  elements_two zero i from = rw (size_at os i) (refl, refl)
  elements_two (suc m) i from = rw (size_at os i) (refl, refl)

  pub body_length : (m i from : ℕ) → i + suc m ≤ length os → from ≤ (get_or os i no_obu).size → cond (eqb (suc m) 1) from 0 + last ≤ (get_or os (i + m) no_obu).size
      → length (body unit os flag (suc m) i from last)
      ≡ element_bytes (elements_from (sizes os) (suc m) i from last) + field_bytes flag (elements_from (sizes os) (suc m) i from last)
  body_length zero i from h b f = one_body i from (all i (omega arith)) (rw (add-zero i) at f)
  body_length (suc m) i from h b f =
      let l : Lies unit (get_or os i no_obu) = all i (omega arith) in
      let n : Lies unit (get_or os (i + 1) no_obu) = all (i + 1) (omega arith) in
      let e : i + suc m ≡ i + 1 + m = omega arith in
      let s : cond {A = ℕ} (eqb (suc m) 1) 0 0 ≡ 0 = by_cond (λ (x : ℕ). x ≡ 0) (eqb (suc m) 1) 0 0 (λ t. refl) (λ t. refl) in
      let g : cond (eqb (suc (suc m)) 1) from 0 ≡ 0 = rw (ne_eqb (suc (suc m)) 1 (omega arith)) in
      let ih = body_length m (i + 1) 0 (omega arith) (omega arith) (rw s (rw (g, e) at f)) in
      let two = elements_two m i from in
      ap length (body_two unit os flag i from last l m b)
      ∙ length-append (encode (full i from) ++ part unit os i from (full i from)) (body unit os flag (suc m) (i + 1) 0 last)
      ∙ ap₂ ◌+◌ (length-append (encode (full i from)) (part unit os i from (full i from)) ∙ ap (λ (x : ℕ). field_size (full i from) + x) (part_length unit os i from (full i from) l (omega arith))) ih
      ∙ omega (arith, two.0, two.1)

  pub body_counted : (n i from : ℕ) → 1 ≤ n → i + n ≤ length os → from ≤ (get_or os i no_obu).size → cond (eqb n 1) from 0 + last ≤ (get_or os (i + n - 1) no_obu).size
      → length (body unit os flag n i from last) ≡ element_bytes (elements_from (sizes os) n i from last) + field_bytes flag (elements_from (sizes os) n i from last)
  body_counted zero i from p h b f = absurd (omega arith)
  body_counted (suc m) i from p h b f = let e : i + suc m - 1 ≡ i + m = omega arith in body_length m i from h b (rw e at f)

-- ---- all payloads, one after the other

module _ (mtu : ℕ) (unit : List ℕ) where
  -- those from packet k on
  abbrev pub rest : ℕ → List ℕ
  rest k = joined (payloads_from encode unit (obus_of unit) k (drop k (unit_plan mtu unit)))

  pub rest_step : (k : ℕ) → k < length (unit_plan mtu unit) → rest k ≡ payload_at mtu unit k ++ rest (k + 1)
  unfolding payloads_from flat_map
  rest_step k h = rw (drop-cons (unit_plan mtu unit) k no_packet h, add-one k)

  pub rest_end : (k : ℕ) → length (unit_plan mtu unit) ≤ k → rest k ≡ []
  unfolding payloads_from flat_map
  rest_end k h = rw (drop_of_length-le (unit_plan mtu unit) h)

-- ---- a payload is a byte longer than its packet size (P13)

module _ (mtu : ℕ) (unit : List ℕ) (small : length unit ≤ unit_limit) (bytes : Bytes unit) where
  pub payload_length : (k : ℕ) → k < length (unit_plan mtu unit)
      → length (payload_at mtu unit k) ≡ (get_or (unit_plan mtu unit) k no_packet).packet_size + 1
  payload_length k there =
      let p = get_or (unit_plan mtu unit) k no_packet in
      let s : Sound (mtu - 1) (sizes_of unit) p = packet_sound mtu unit k small there in
      let os = obus_of unit in
      let c : length (sizes_of unit) ≡ length os = length-map os (λ (o : Obu). o.size) in
      let n = p.num_obu_elements in
      let i = p.first_obu_index in
      let z : length (elements_of (sizes_of unit) p) ≡ n = elements_count (sizes_of unit) n i p.first_obu_offset p.last_obu_size in
      let from : p.first_obu_offset < (get_or os i no_obu).size = rw (size_at os i) at s.from in
      let fits : cond (eqb n 1) p.first_obu_offset 0 + p.last_obu_size ≤ (get_or os (i + n - 1) no_obu).size = rw (size_at os (i + n - 1)) at s.within in
      let b = body_counted unit os (ltb most_counted n) p.last_obu_size (λ j h. obu_lies unit j bytes h) n i p.first_obu_offset s.some (omega (arith, s.inside)) (omega arith) fits in
      let paid : p.packet_size ≡ element_bytes (elements_of (sizes_of unit) p) + field_bytes (ltb most_counted n) (elements_of (sizes_of unit) p) =
      s.paid ∙ ap (λ (x : ℕ). element_bytes (elements_of (sizes_of unit) p) + field_bytes (ltb most_counted x) (elements_of (sizes_of unit) p)) z in
      ap length (payload_is mtu unit k small there) ∙ omega (arith, b, paid)

  -- whatever the mtu, it is no longer than the unit and a length field for each OBU
  pub payload_most : (k : ℕ) → k < length (unit_plan mtu unit) → length (payload_at mtu unit k) ≤ 1 + length unit + 5 * length (obus_of unit)
  payload_most k there =
      let p = get_or (unit_plan mtu unit) k no_packet in
      omega (arith, payload_length k there, packet_most (mtu - 1) (sizes_of unit) (unit_positive unit) p (packet_sound mtu unit k small there), unit_total unit, length-map (obus_of unit) (λ (o : Obu). o.size))

  -- together they have as many bytes as the plan says
  rest_counted : (n k : ℕ) → k + n ≡ length (unit_plan mtu unit) → length (rest mtu unit k) ≡ planned_bytes (drop k (unit_plan mtu unit))
  unfolding planned_bytes
  rest_counted zero k e =
      let h : length (unit_plan mtu unit) ≤ k = omega arith in
      rw (rest_end mtu unit k h, drop_of_length-le (unit_plan mtu unit) h)
  rest_counted (suc n) k e =
      let h : k < length (unit_plan mtu unit) = omega arith in
      ap length (rest_step mtu unit k h)
      ∙ length-append (payload_at mtu unit k) (rest mtu unit (k + 1))
      ∙ ap₂ ◌+◌ (payload_length k h) (rest_counted n (k + 1) (omega arith))
      ∙ sym (bytes_step (unit_plan mtu unit) k h)

  pub rest_length : (k : ℕ) → k ≤ length (unit_plan mtu unit) → length (rest mtu unit k) ≡ planned_bytes (drop k (unit_plan mtu unit))
  rest_length k h = rest_counted (length (unit_plan mtu unit) - k) k (omega arith)

  pub joined_length : length (joined (payloads_of mtu unit)) ≡ planned_bytes (unit_plan mtu unit)
  joined_length = rest_length 0 (omega arith)
