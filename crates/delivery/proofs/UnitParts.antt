-- The elements of a plan record as bytes of what is sent: their lengths, and the payload that they make. Assumes nothing.
--     sent-size       what is sent of OBU i has the size that the plan goes by
--     parts-fit       each element of a record has the bytes that the record says
--     laid-fielded    elements with shortest length fields are laid as any sender may lay them
--     fielded-length  what they take is what the plan says
use mathlib.Core.Path.{◌≡◌, refl, sym, subst, ◌∙◌}
use Prim.Native.Nat.{ℕ, zero, suc, ◌+◌, ◌-◌, ◌≤◌, ◌<◌}
use native.Mathlib.Nat.{add-zero}
use native.Mathlib.Omega.{arith}
use mathlib.Core.List.{List, [], ◌∷◌, ◌++◌, map, append_assoc}
use mathlib.Core.Bool.{Bool, true, false}
use lib.ListN.{length, get_or, drop, length-append, length-drop, length-map}
use lib.Seq.{length-take-le}
use Rattle.base.specs.Lists.{All}
use Rattle.leb128.specs.Field.{encode, form, largest_value}
use Rattle.leb128.proofs.Theorems.{Shortest, shortest}
use Rattle.obu.specs.Unit.{Placed, kept_of, obus_of}
use Rattle.obu.specs.Wire.{sent}
use Rattle.obu.specs.Laws.{Inside}
use Rattle.obu.specs.Records.{no_obu}
use Rattle.obu.specs.declared.Obu.{Obu}
use Rattle.obu.proofs.Theorems.{kept_inside, sent_length}
use Rattle.packetizer.specs.Elements.{Element, element, elements_from, element_bytes, field_bytes}
use Rattle.packetizer.specs.Call.{sizes_of}
use Rattle.packetizer.specs.Laws.{start_of, Positive}
use Rattle.packetizer.proofs.Bodies.{start_zero, start_more}
use Rattle.payloader.specs.Payload.{part_of, parts_of, fielded}
use Rattle.lawful.specs.Payload.{Holds, Laid, bare, last, more}
use Rattle.lawful.proofs.Reading.{cap_power}

-- ---- what is sent of OBU i

abbrev pub sent_at : List ℕ → ℕ → List ℕ
sent_at unit i = sent unit (get_or (obus_of unit) i no_obu)

sizes_from_lem : (unit : List ℕ) (ps : List Placed) (i : ℕ) → All (Inside (length unit)) ps → i < length ps
    → length (sent unit (get_or (map (λ (p : Placed). p.obu) ps) i no_obu)) ≡ get_or (map (λ (o : Obu). o.size) (map (λ (p : Placed). p.obu) ps)) i 0
sizes_from_lem unit [] i h l = absurd (omega arith)
sizes_from_lem unit (p ∷ ps) zero h l = sent_length unit p h.0
sizes_from_lem unit (p ∷ ps) (suc i) h l = sizes_from_lem unit ps i h.1 (omega arith)

pub sent_size : (unit : List ℕ) (i : ℕ) → i < length (sizes_of unit) → length (sent_at unit i) ≡ get_or (sizes_of unit) i 0
sent_size unit i l =
    sizes_from_lem unit (kept_of unit) i (kept_inside unit)
    (omega (arith, length-map (obus_of unit) (λ (o : Obu). o.size), length-map (kept_of unit) (λ (p : Placed). p.obu)))

-- ---- the elements of a record

module _ (unit : List ℕ) (some : Positive (sizes_of unit)) where
  -- an element has a byte, and as many as it says
  pub record Fit (e : Element) : Type 0 where
    pub byte : 1 ≤ e.size
    pub long : length (part_of unit (obus_of unit) e) ≡ e.size

  pub part_fit : (i o n : ℕ) → i < length (sizes_of unit) → 1 ≤ n → o + n ≤ get_or (sizes_of unit) i 0 → Fit (element i o n)
  part_fit i o n l h f =
      record { byte = h; long = length-take-le n (drop o (sent_at unit i)) (omega (arith, length-drop o (sent_at unit i), sent_size unit i l)) }

  pub parts_fit : (m i o end : ℕ) → i + suc m ≤ length (sizes_of unit) → o < get_or (sizes_of unit) i 0 → 1 ≤ end → start_of (suc m) o + end ≤ get_or (sizes_of unit) (i + m) 0
      → All Fit (elements_from (sizes_of unit) (suc m) i o end)
  unfolding elements_from
  parts_fit zero i o end h f l w = (part_fit i o end (omega arith) l (rw add-zero at w), tt)
  parts_fit (suc m) i o end h f l w =
      let q : i + suc m ≡ i + 1 + m = omega arith in (
        part_fit i o (get_or (sizes_of unit) i 0 - o) (omega arith) (omega arith) (omega arith),
        parts_fit m (i + 1) 0 end (omega arith) (some (i + 1) (omega arith)) l
            (rw (start_zero (suc m), ← q) (rw (start_more (suc (suc m)) o (λ z. omega arith)) at w)),
      )

-- ---- written one after the other

encode_is : (v : ℕ) → v ≤ largest_value → (n : ℕ) × Holds n v × (encode v ≡ form n v)
encode_is v h =
    let s : Shortest 5 v = shortest v h in
    (s.before, (omega arith, subst (λ (m : ℕ). v < m) (sym (cap_power s.before)) s.fits), s.is)

pub laid_fielded : (flag : Bool) (e : List ℕ) (es : List (List ℕ)) → All (λ (x : List ℕ). length x ≤ largest_value) (e ∷ es) → Laid flag (e ∷ es) (fielded encode flag (e ∷ es))
unfolding fielded
laid_fielded false e [] h = bare
laid_fielded true e [] h =
    let s = encode_is (length e) h.0 in
    rw s.2 (last s.0 s.1)
laid_fielded flag e (f ∷ es) h =
    let s = encode_is (length e) h.0 in
    rw (append_assoc (encode (length e)) e (fielded encode flag (f ∷ es)), s.2) (more s.0 s.1 (laid_fielded flag f es h.1))

module _ (unit : List ℕ) (some : Positive (sizes_of unit)) where
  pub fielded_length : (flag : Bool) (es : List Element) → All (Fit unit some) es
      → length (fielded encode flag (parts_of unit (obus_of unit) es)) ≡ element_bytes es + field_bytes flag es
  unfolding fielded element_bytes field_bytes
  fielded_length flag [] h = refl
  fielded_length true (e ∷ []) h = length-append (encode (length (part_of unit (obus_of unit) e))) (part_of unit (obus_of unit) e) ∙ rw h.0.long (omega arith)
  fielded_length false (e ∷ []) h = h.0.long ∙ omega arith
  fielded_length flag (e ∷ f ∷ es) h =
      let p = part_of unit (obus_of unit) e in
      length-append (encode (length p) ++ p) (fielded encode flag (parts_of unit (obus_of unit) (f ∷ es)))
      ∙ rw (fielded_length flag (f ∷ es) h.1, length-append (encode (length p)) p, h.0.long) (omega arith)
