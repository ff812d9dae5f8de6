-- How many records a plan has, and how many bytes its payloads take (P14, P16). Assumes nothing.
--     packet-most  a packet takes no more than all OBUs and their length fields
--     plan-total   the elements have as many bytes as the OBUs
--     plan-short   there are at most as many records as bytes
--     plan-bytes   the payloads take at most three times as many
use mathlib.Core.Path.{◌≡◌, refl, ap}
use Prim.Native.Nat.{ℕ, zero, suc, ◌+◌, ◌-◌, ◌*◌, ◌≤◌, ◌<◌}
use native.Mathlib.Numerals.{add-one}
use native.Mathlib.Omega.{arith}
use mathlib.Core.Bool.{Bool, true, false}
use mathlib.Core.List.{List, [], ◌∷◌, flat_map}
use lib.ListN.{length, get_or, take}
use lib.Seq.{take-length}
use lib.Dec.{ltb}
use borrow.Author.Tests.{ltb-true, ltb-false}
use Rattle.base.proofs.Tests.{by_cond, split_on}
use Rattle.leb128.proofs.Theorems.{size_most}
use Rattle.packetizer.specs.Fragment.{field_size}
use Rattle.packetizer.specs.Plan.{most_counted, least_mtu, plan_of}
use Rattle.packetizer.specs.Elements.{Element, elements_of, element_bytes, field_bytes, total_size}
use Rattle.packetizer.specs.Laws.{Position, position, end_of, ends_at, starts_at, Sound, Runs, Positive, planned_bytes}
use Rattle.packetizer.specs.declared.PacketMetadata.{PacketMetadata}
use Rattle.packetizer.proofs.Fragments.{field_most}
use Rattle.packetizer.proofs.Bodies.{elements_count, bytes_append}
use Rattle.packetizer.proofs.Laws.{plan_runs}
use Rattle.packetizer.proofs.Pieces.{element_end, Tiles, plan_tile, plan_tiles}

-- ---- OBUs of so many bytes together: none has more, with those before it too, and there are no more of them

total_within : (sizes : List ℕ) (i : ℕ) → total_size (take i sizes) + get_or sizes i 0 ≤ total_size sizes
unfolding total_size
total_within [] zero = omega arith
total_within [] (suc i) = omega arith
total_within (s ∷ ss) zero = omega arith
total_within (s ∷ ss) (suc i) = omega (arith, total_within ss i)

pub total_each : (sizes : List ℕ) (j : ℕ) → get_or sizes j 0 ≤ total_size sizes
total_each sizes j = omega (arith, total_within sizes j)

pub total_count : (sizes : List ℕ) → Positive sizes → length sizes ≤ total_size sizes
unfolding total_size
total_count [] h = omega arith
total_count (s ∷ ss) h = omega (arith, h 0 (omega arith), total_count ss (λ j l. h (suc j) (omega arith)))

-- ---- the bytes before a position

total_take : (sizes : List ℕ) (i : ℕ) → total_size (take i sizes) + get_or sizes i 0 ≡ total_size (take (suc i) sizes)
unfolding total_size
total_take [] zero = refl
total_take [] (suc i) = refl
total_take (s ∷ ss) zero = omega arith
total_take (s ∷ ss) (suc i) = omega (arith, total_take ss i)

abbrev before : List ℕ → Position → ℕ
before sizes a = total_size (take a.obu sizes) + a.offset

ends_within : (sizes : List ℕ) (next e : ℕ) → before sizes (end_of sizes next e) ≤ total_size sizes
ends_within sizes next e =
    by_cond (λ (b : Position). before sizes b ≤ total_size sizes) (ltb e (get_or sizes (next - 1) 0)) _ _
    (λ t. omega (arith, ltb-true e (get_or sizes (next - 1) 0) t, total_within sizes (next - 1)))
    (λ t. omega (arith, total_within sizes next))

element_total : (sizes : List ℕ) (e : Element) → e.from + e.size ≤ get_or sizes e.obu 0
    → before sizes (position e.obu e.from) + e.size ≡ before sizes (element_end sizes e)
element_total sizes e h =
    by_cond (λ (b : Position). before sizes (position e.obu e.from) + e.size ≡ before sizes b) (ltb (e.from + e.size) (get_or sizes e.obu 0)) _ _
    (λ t. omega arith)
    (λ t. omega (arith, ltb-false (e.from + e.size) (get_or sizes e.obu 0) t, total_take sizes e.obu, ap (λ (k : ℕ). total_size (take k sizes)) (add-one e.obu)))

tiles_total : (sizes : List ℕ) (a b : Position) (es : List Element) → Tiles sizes a es b → before sizes a + element_bytes es ≡ before sizes b
unfolding element_bytes
tiles_total sizes a b [] h = omega (arith, ap (before sizes) h)
tiles_total sizes a b (e ∷ es) h =
    omega (arith, ap (before sizes) h.0, element_total sizes e h.2, tiles_total sizes (element_end sizes e) b es h.3)

-- ---- elements, each of at least one byte, and their length fields

field_below : (n : ℕ) → 1 ≤ n → field_size n ≤ n
field_below n h =
    split_on (ltb n 5)
    (λ t. let l : n < 5 = ltb-true n 5 t in omega (arith, size_most 1 n (omega arith) (omega arith) (omega arith)))
    (λ t. omega (arith, ltb-false n 5 t, field_most n))

tiles_long : (sizes : List ℕ) (a b : Position) (es : List Element) → Tiles sizes a es b → length es ≤ element_bytes es
unfolding element_bytes
tiles_long sizes a b [] h = omega arith
tiles_long sizes a b (e ∷ es) h = omega (arith, h.1, tiles_long sizes (element_end sizes e) b es h.3)

tiles_fields : (sizes : List ℕ) (last : Bool) (a b : Position) (es : List Element) → Tiles sizes a es b → field_bytes last es ≤ element_bytes es
unfolding element_bytes field_bytes
tiles_fields sizes last a b [] h = omega arith
tiles_fields sizes true a b (e ∷ []) h = omega (arith, field_below e.size h.1)
tiles_fields sizes false a b (e ∷ []) h = omega arith
tiles_fields sizes last a b (e ∷ f ∷ es) h =
    omega (arith, field_below e.size h.1, tiles_fields sizes last (element_end sizes e) b (f ∷ es) h.3)

fields_most : (last : Bool) (es : List Element) → field_bytes last es ≤ 5 * length es
unfolding field_bytes
fields_most last [] = omega arith
fields_most true (e ∷ []) = omega (arith, field_most e.size)
fields_most false (e ∷ []) = omega arith
fields_most last (e ∷ f ∷ es) = omega (arith, field_most e.size, fields_most last (f ∷ es))

-- ---- records

module _ (room : ℕ) (sizes : List ℕ) (some : Positive sizes) where
  -- whatever the room
  pub packet_most : (p : PacketMetadata) → Sound room sizes p → p.packet_size ≤ total_size sizes + 5 * length sizes
  packet_most p s =
      let es = elements_of sizes p in
      let end : before sizes (ends_at sizes p) ≤ total_size sizes = ends_within sizes (p.first_obu_index + p.num_obu_elements) _ in
      omega (arith, s.paid, s.inside, tiles_total sizes (starts_at p) (ends_at sizes p) es (plan_tile sizes some room p s), fields_most (ltb most_counted (length es)) es, elements_count sizes p.num_obu_elements p.first_obu_index p.first_obu_offset p.last_obu_size)

  record_bytes_lem : (p : PacketMetadata) → Sound room sizes p → p.packet_size + 1 ≤ 3 * element_bytes (elements_of sizes p)
  record_bytes_lem p s =
      let es = elements_of sizes p in
      let t = plan_tile sizes some room p s in
      omega (arith, s.paid, s.some, tiles_long sizes (starts_at p) (ends_at sizes p) es t, tiles_fields sizes (ltb most_counted (length es)) (starts_at p) (ends_at sizes p) es t, elements_count sizes p.num_obu_elements p.first_obu_index p.first_obu_offset p.last_obu_size)

  runs_bytes : (a b : Position) (ps : List PacketMetadata) → Runs room sizes a ps b
      → (length ps ≤ element_bytes (flat_map (elements_of sizes) ps)) × (planned_bytes ps ≤ 3 * element_bytes (flat_map (elements_of sizes) ps))
  unfolding planned_bytes flat_map element_bytes
  runs_bytes a b [] h = (omega arith, omega arith)
  runs_bytes a b (p ∷ ps) h =
      let ih = runs_bytes (ends_at sizes p) b ps h.2 in
      let e = bytes_append (elements_of sizes p) (flat_map (elements_of sizes) ps) in
      (omega (arith, record_bytes_lem p h.1), omega (arith, record_bytes_lem p h.1))

-- ---- the plan

module _ (mtu : ℕ) (sizes : List ℕ) (least : least_mtu ≤ mtu) (some : Positive sizes) where
  plan_total : element_bytes (flat_map (elements_of sizes) (plan_of mtu sizes)) ≡ total_size sizes
  unfolding total_size
  plan_total =
      omega (arith, tiles_total sizes (position 0 0) (position (length sizes) 0) (flat_map (elements_of sizes) (plan_of mtu sizes)) (plan_tiles sizes some mtu least), ap total_size (take-length sizes))

  counted : (length (plan_of mtu sizes) ≤ total_size sizes) × (planned_bytes (plan_of mtu sizes) ≤ 3 * total_size sizes)
  counted =
      let h = runs_bytes (mtu - 1) sizes some (position 0 0) (position (length sizes) 0) (plan_of mtu sizes) (plan_runs mtu sizes least some) in
      rw plan_total at h

  pub plan_short : length (plan_of mtu sizes) ≤ total_size sizes
  plan_short = counted.0

  pub plan_bytes : planned_bytes (plan_of mtu sizes) ≤ 3 * total_size sizes
  plan_bytes = counted.1
