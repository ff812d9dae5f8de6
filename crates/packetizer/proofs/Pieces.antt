-- The elements of a plan, in order, are the kept OBUs, cut only where a packet ends (P13, P14). Assumes nothing.
use mathlib.Core.Path.{◌≡◌, refl, sym, ap, subst, ◌∙◌}
use Prim.Native.Nat.{ℕ, zero, suc, ◌+◌, ◌-◌, ◌≤◌, ◌<◌}
use native.Mathlib.Nat.{add-zero}
use native.Mathlib.Numerals.{add-one}
use native.Mathlib.Omega.{arith}
use mathlib.Core.Bool.{cond}
use mathlib.Core.List.{List, [], ◌∷◌, ◌++◌, append_assoc, append-nil, flat_map, map, drop_last}
use lib.ListN.{length, get_or, take, drop, length-map, take-append-drop, drop_of_length-le, get_or-map, get_or-eq_default}
use lib.Seq.{drop-cons, drop-append-le, drop-drop, drop_at}
use lib.Dec.{ltb}
use borrow.Author.Tests.{ltb-true, ltb-false, le-ltb}
use Rattle.base.specs.Lists.{All, joined}
use Rattle.base.proofs.Tests.{by_cond, split_on}
use Rattle.packetizer.specs.Plan.{least_mtu, plan_of}
use Rattle.packetizer.specs.Elements.{Element, element, elements_from, elements_of}
use Rattle.packetizer.specs.Laws.{Position, position, starts_at, end_of, ends_at, Sound, Runs, start_of, Positive, EndsObu, part_of}
use Rattle.packetizer.specs.Records.{no_packet}
use Rattle.packetizer.specs.declared.PacketMetadata.{PacketMetadata}
use Rattle.packetizer.proofs.Bodies.{start_zero, start_more, elements_step, elements_one, elements_count}
use Rattle.packetizer.proofs.Laws.{plan_runs, plan_sound}

-- ---- elements that go on where the one before ended

abbrev pub element_end : List ℕ → Element → Position
element_end sizes e =
    cond (ltb (e.from + e.size) (get_or sizes e.obu 0)) (position e.obu (e.from + e.size)) (position (e.obu + 1) 0)

abbrev pub Tiles : List ℕ → Position → List Element → Position → Type 0
Tiles sizes a [] b = a ≡ b
Tiles sizes a (e ∷ es) b =
    (position e.obu e.from ≡ a) × (1 ≤ e.size) × (e.from + e.size ≤ get_or sizes e.obu 0) × Tiles sizes (element_end sizes e) es b

tiles_append : (sizes : List ℕ) (a b c : Position) (es fs : List Element) → Tiles sizes a es b → Tiles sizes b fs c → Tiles sizes a (es ++ fs) c
tiles_append sizes a b c [] fs h k = subst (λ (x : Position). Tiles sizes x fs c) (sym h) k
tiles_append sizes a b c (e ∷ es) fs h k = (h.0, h.1, h.2, tiles_append sizes (element_end sizes e) b c es fs h.3 k)

module _ (sizes : List ℕ) (some : Positive sizes) where
  -- the elements of a record
  record_tiles : (n i o last : ℕ) → i + suc n ≤ length sizes → o < get_or sizes i 0 → 1 ≤ last → start_of (suc n) o + last ≤ get_or sizes (i + n) 0
      → Tiles sizes (position i o) (elements_from sizes (suc n) i o last) (end_of sizes (i + suc n) (start_of (suc n) o + last))
  record_tiles zero i o last h f l w =
      let e : i + 1 - 1 ≡ i = omega arith in
      rw (elements_one sizes i o last, e) (refl, l, rw add-zero at w, refl)
  record_tiles (suc n) i o last h f l w =
      let d : i + suc (suc n) ≡ i + 1 + suc n = omega arith in
      let q : i + suc n ≡ i + 1 + n = omega arith in
      let m : start_of (suc (suc n)) o ≡ 0 = start_more (suc (suc n)) o (λ z. omega arith) in
      let z : start_of (suc n) 0 ≡ 0 = start_zero (suc n) in
      let t : element_end sizes (element i o (get_or sizes i 0 - o)) ≡ position (i + 1) 0 = rw (le-ltb (o + (get_or sizes i 0 - o)) (get_or sizes i 0) (omega arith)) in
      let ih = record_tiles n (i + 1) 0 last (omega arith) (some (i + 1) (omega arith)) l (rw (z, ← q) (rw m at w)) in
      rw (elements_step sizes n i o last) (refl, omega arith, omega arith, rw (t, d, m) (rw z at ih))

  pub plan_tile : (room : ℕ) (p : PacketMetadata) → Sound room sizes p → Tiles sizes (starts_at p) (elements_of sizes p) (ends_at sizes p)
  plan_tile room p h = go p.num_obu_elements h.some h.inside h.within
    where
      go : (n : ℕ) → 1 ≤ n → p.first_obu_index + n ≤ length sizes → start_of n p.first_obu_offset + p.last_obu_size ≤ get_or sizes (p.first_obu_index + n - 1) 0
          → Tiles sizes (starts_at p) (elements_from sizes n p.first_obu_index p.first_obu_offset p.last_obu_size)
          (end_of sizes (p.first_obu_index + n) (start_of n p.first_obu_offset + p.last_obu_size))
      go zero a b c = absurd (omega arith)
      go (suc n) a b c =
          let e : p.first_obu_index + suc n - 1 ≡ p.first_obu_index + n = omega arith in
          record_tiles n p.first_obu_index p.first_obu_offset p.last_obu_size b h.from h.last (rw e at c)

  runs_tile : (room : ℕ) (a b : Position) (ps : List PacketMetadata) → Runs room sizes a ps b → Tiles sizes a (flat_map (elements_of sizes) ps) b
  unfolding flat_map
  runs_tile room a b [] h = h
  runs_tile room a b (p ∷ ps) h =
      subst (λ (x : Position). Tiles sizes x (elements_of sizes p ++ flat_map (elements_of sizes) ps) b) h.0
      (tiles_append sizes (starts_at p) (ends_at sizes p) b (elements_of sizes p) (flat_map (elements_of sizes) ps) (plan_tile room p h.1) (runs_tile room (ends_at sizes p) b ps h.2))

  pub plan_tiles : (mtu : ℕ) → least_mtu ≤ mtu → Tiles sizes (position 0 0) (flat_map (elements_of sizes) (plan_of mtu sizes)) (position (length sizes) 0)
  plan_tiles mtu l = runs_tile (mtu - 1) (position 0 0) (position (length sizes) 0) (plan_of mtu sizes) (plan_runs mtu sizes l some)

-- ---- cut only where a packet ends: every element of a record but its last one runs to the end of its OBU

drop_last_lem : (e : Element) (es : List Element) → 1 ≤ length es → drop_last (e ∷ es) ≡ e ∷ drop_last es
drop_last_lem e [] h = absurd (omega arith)
drop_last_lem e (f ∷ es) h = refl

inner_ends : (sizes : List ℕ) → Positive sizes → (n i o last : ℕ) → i + n ≤ length sizes → o ≤ get_or sizes i 0
    → All (EndsObu sizes) (drop_last (elements_from sizes n i o last))
unfolding elements_from
inner_ends sizes some zero i o last h f = tt
inner_ends sizes some (suc zero) i o last h f = tt
inner_ends sizes some (suc (suc n)) i o last h f =
    rw (drop_last_lem (element i o (get_or sizes i 0 - o)) (elements_from sizes (suc n) (i + 1) 0 last) (omega (arith, elements_count sizes (suc n) (i + 1) 0 last)))
    (omega arith, inner_ends sizes some (suc n) (i + 1) 0 last (omega arith) (omega arith))

pub plan_inner : (mtu : ℕ) (sizes : List ℕ) → least_mtu ≤ mtu → Positive sizes → (k : ℕ) → k < length (plan_of mtu sizes)
    → All (EndsObu sizes) (drop_last (elements_of sizes (get_or (plan_of mtu sizes) k no_packet)))
plan_inner mtu sizes l some k h =
    let p : PacketMetadata = get_or (plan_of mtu sizes) k no_packet in
    let s : Sound (mtu - 1) sizes p = plan_sound mtu sizes l some k h in
    inner_ends sizes some p.num_obu_elements p.first_obu_index p.first_obu_offset p.last_obu_size s.inside (omega (arith, s.from))

-- ---- joined, they are the OBUs

-- the bytes from a position on
abbrev rest : List (List ℕ) → Position → List ℕ
rest obus a = drop a.offset (joined (drop a.obu obus))

inside_of : (l : List ℕ) (i : ℕ) → 1 ≤ get_or l i 0 → i < length l
inside_of l i h =
    split_on (ltb i (length l))
    (λ t. ltb-true i (length l) t)
    (λ t. absurd (omega (arith, get_or-eq_default l 0 {n = i} (ltb-false i (length l) t))))

part_then : (x r : List ℕ) (o n : ℕ) → o + n ≤ length x → take n (drop o x) ++ drop (o + n) (x ++ r) ≡ drop o (x ++ r)
part_then x r o n h =
    rw (drop-append-le (o + n) x r h, drop-append-le o x r (omega arith), ← (drop-drop n o x), ← (append_assoc (take n (drop o x)) (drop n (drop o x)) r), take-append-drop n (drop o x))

module _ (obus : List (List ℕ)) where
  abbrev lengths : List ℕ
  lengths = map (λ (o : List ℕ). length o) obus

  length_at : (i : ℕ) → get_or lengths i 0 ≡ length (get_or obus i [])
  length_at i = get_or-map (λ (o : List ℕ). length o) obus i []

  split_here : (i : ℕ) → i < length obus → joined (drop i obus) ≡ get_or obus i [] ++ joined (drop (suc i) obus)
  unfolding flat_map
  split_here i h = rw (drop-cons obus i [] h)

  -- an element, and then what comes after it
  element_then : (e : Element) → 1 ≤ e.size → e.from + e.size ≤ get_or lengths e.obu 0 → part_of obus e ++ rest obus (element_end lengths e) ≡ rest obus (position e.obu e.from)
  element_then e s h =
      ap (λ (l : List ℕ). part_of obus e ++ l) after
      ∙ part_then x r e.from e.size (omega (arith, length_at e.obu))
      ∙ sym (ap (drop e.from) (split_here e.obu inside))
    where
      x : List ℕ
      x = get_or obus e.obu []

      r : List ℕ
      r = joined (drop (suc e.obu) obus)

      inside : e.obu < length obus
      inside = omega (arith, inside_of lengths e.obu (omega arith), length-map obus (λ (o : List ℕ). length o))

      after : rest obus (element_end lengths e) ≡ drop (e.from + e.size) (x ++ r)
      after =
          by_cond (λ (a : Position). rest obus a ≡ drop (e.from + e.size) (x ++ r)) (ltb (e.from + e.size) (get_or lengths e.obu 0)) _ _
          (λ t. ap (drop (e.from + e.size)) (split_here e.obu inside))
          (λ t.
          let l : get_or lengths e.obu 0 ≤ e.from + e.size = ltb-false (e.from + e.size) (get_or lengths e.obu 0) t in
          ap (λ (k : ℕ). joined (drop k obus)) (add-one e.obu) ∙ sym (drop_at x r (e.from + e.size) (omega (arith, length_at e.obu))))

  at_end : joined (drop (length lengths) obus) ≡ []
  unfolding flat_map
  at_end = rw (drop_of_length-le obus {i = length lengths} (omega (arith, length-map obus (λ (o : List ℕ). length o))))

  tiles_join : (a b : Position) (es : List Element) → Tiles lengths a es b → flat_map (part_of obus) es ++ rest obus b ≡ rest obus a
  unfolding flat_map
  tiles_join a b [] h = rw h
  tiles_join a b (e ∷ es) h =
      append_assoc (part_of obus e) (flat_map (part_of obus) es) (rest obus b)
      ∙ ap (λ (l : List ℕ). part_of obus e ++ l) (tiles_join (element_end lengths e) b es h.3)
      ∙ element_then e h.1 h.2
      ∙ ap (rest obus) h.0

  pub plan_joined : (mtu : ℕ) → least_mtu ≤ mtu → Positive lengths → flat_map (part_of obus) (flat_map (elements_of lengths) (plan_of mtu lengths)) ≡ joined obus
  plan_joined mtu l some =
      let es : List Element = flat_map (elements_of lengths) (plan_of mtu lengths) in
      sym (ap (λ (x : List ℕ). flat_map (part_of obus) es ++ x) at_end ∙ append-nil (flat_map (part_of obus) es))
      ∙ tiles_join (position 0 0) (position (length lengths) 0) es (plan_tiles lengths some mtu l)
