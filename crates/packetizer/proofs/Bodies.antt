-- What elements take in a packet, and one element more (Y2, Y4). Assumes nothing.
use mathlib.Core.Path.{◌≡◌, refl, ap, ◌∙◌}
use Prim.Native.Nat.{ℕ, zero, suc, ◌+◌, ◌-◌, ◌≤◌, ◌<◌}
use native.Mathlib.Nat.{add-zero}
use native.Mathlib.Numerals.{add-one}
use native.Mathlib.Omega.{arith}
use mathlib.Core.Bool.{Bool, true, false, cond}
use mathlib.Core.List.{List, [], ◌∷◌, ◌++◌}
use lib.ListN.{length, get_or, length-append}
use lib.Dec.{ltb, leb, eqb, leb-suc-suc}
use borrow.Author.Tests.{ltb-true, ltb-false, ne_eqb}
use Rattle.base.proofs.Tests.{by_cond}
use Rattle.packetizer.specs.Fragment.{field_size}
use Rattle.packetizer.specs.Plan.{most_counted, charge_of}
use Rattle.packetizer.specs.Elements.{Element, element, elements_from, elements_of, element_bytes, field_bytes, body_size}
use Rattle.packetizer.specs.Laws.{start_of}
use Rattle.packetizer.specs.declared.PacketMetadata.{PacketMetadata}
use Rattle.packetizer.proofs.Steps.{charge_none, charge_paid, charge_last}

pub start_zero : (count : ℕ) → start_of count 0 ≡ 0
start_zero count = by_cond (λ (x : ℕ). x ≡ 0) (eqb count 1) 0 0 (λ t. refl) (λ t. refl)

pub start_more : (count o : ℕ) → (count ≡ 1 → ⊥) → start_of count o ≡ 0
start_more count o h = rw (ne_eqb count 1 h)

module _ (sizes : List ℕ) where
  pub elements_step : (n i o last : ℕ) → elements_from sizes (suc (suc n)) i o last ≡ element i o (get_or sizes i 0 - o) ∷ elements_from sizes (suc n) (i + 1) 0 last
  unfolding elements_from
  elements_step n i o last = refl

  pub elements_count : (n i o last : ℕ) → length (elements_from sizes n i o last) ≡ n
  unfolding elements_from
  elements_count zero i o last = refl
  elements_count (suc zero) i o last = refl
  elements_count (suc (suc n)) i o last = ap suc (elements_count (suc n) (i + 1) 0 last)

  pub elements_one : (i o last : ℕ) → elements_from sizes 1 i o last ≡ element i o last ∷ []
  unfolding elements_from
  elements_one i o last = refl

  -- a further element, where the last one runs to the end of its OBU
  elements_next : (n i o last m : ℕ) → start_of (suc n) o + last ≡ get_or sizes (i + n) 0
      → elements_from sizes (suc (suc n)) i o m ≡ elements_from sizes (suc n) i o last ++ (element (i + suc n) 0 m ∷ [])
  elements_next zero i o last m e =
      let d : get_or sizes i 0 - o ≡ last = omega (arith, rw add-zero at e) in
      rw (elements_step 0 i o m, elements_one i o last, elements_one (i + 1) 0 m, d)
  elements_next (suc n) i o last m e =
      let q : i + 1 + n ≡ i + suc n = omega arith in
      let r : i + 1 + suc n ≡ i + suc (suc n) = omega arith in
      let ih = elements_next n (i + 1) 0 last m (rw (start_zero (suc n), q) (rw (start_more (suc (suc n)) o (λ z. omega arith)) at e)) in
      rw (elements_step (suc n) i o m, elements_step n i o last, ih, r)

  pub elements_more : (k i o last m : ℕ) → 1 ≤ k → start_of k o + last ≡ get_or sizes (i + k - 1) 0
      → elements_from sizes (k + 1) i o m ≡ elements_from sizes k i o last ++ (element (i + k) 0 m ∷ [])
  elements_more zero i o last m h e = absurd (omega arith)
  elements_more (suc n) i o last m h e =
      let q : i + suc n - 1 ≡ i + n = omega arith in
      rw (add-one (suc n)) (elements_next n i o last m (e ∙ ap (λ (j : ℕ). get_or sizes j 0) q))

pub bytes_append : (a b : List Element) → element_bytes (a ++ b) ≡ element_bytes a + element_bytes b
unfolding element_bytes
bytes_append [] b = omega arith
bytes_append (e ∷ a) b = omega (arith, bytes_append a b)

-- the length fields of all, and of one more
pub fields_more : (t : Bool) (es : List Element) (e : Element) → field_bytes t (es ++ (e ∷ [])) ≡ field_bytes true es + cond t (field_size e.size) 0
unfolding field_bytes
fields_more t [] e = omega arith
fields_more t (x ∷ []) e = refl
fields_more t (x ∷ y ∷ es) e = omega (arith, fields_more t (y ∷ es) e)

-- the length field of the last one
fields_cons : (t : Bool) (e : Element) (es : List Element) → 1 ≤ length es → field_bytes t (e ∷ es) ≡ field_size e.size + field_bytes t es
unfolding field_bytes
fields_cons t e [] h = absurd (omega arith)
fields_cons t e (f ∷ es) h = refl

module _ (sizes : List ℕ) where
  fields_last : (n i o last : ℕ)
      → field_bytes false (elements_from sizes (suc n) i o last) + field_size last ≡ field_bytes true (elements_from sizes (suc n) i o last)
  unfolding field_bytes
  fields_last zero i o last = rw (elements_one sizes i o last) (omega arith)
  fields_last (suc n) i o last =
      let es = elements_from sizes (suc n) (i + 1) 0 last in
      let x = element i o (get_or sizes i 0 - o) in
      let h : 1 ≤ length es = omega (arith, elements_count sizes (suc n) (i + 1) 0 last) in
      rw (elements_step sizes n i o last, fields_cons false x es h, fields_cons true x es h)
      (omega (arith, fields_last n (i + 1) 0 last))

  -- with the charge c, all elements have their length fields
  body_charged : (k i o last c : ℕ) → (k ≡ 0 → c ≡ 0) → ((k ≡ 0 → ⊥) → k ≤ most_counted → c ≡ field_size last) → ((k ≡ 0 → ⊥) → most_counted < k → c ≡ 0)
      → body_size (elements_from sizes k i o last) + c ≡ element_bytes (elements_from sizes k i o last) + field_bytes true (elements_from sizes k i o last)
  unfolding elements_from field_bytes
  body_charged zero i o last c z f p = omega (arith, z refl)
  body_charged (suc n) i o last c z f p =
      rw (elements_count sizes (suc n) i o last) (go (ltb most_counted (suc n)) refl)
    where
      es : List Element
      es = elements_from sizes (suc n) i o last

      go : (t : Bool) → ltb most_counted (suc n) ≡ t → element_bytes es + field_bytes t es + c ≡ element_bytes es + field_bytes true es
      go true t = omega (arith, p (λ e. omega arith) (ltb-true most_counted (suc n) t))
      go false t = omega (arith, f (λ e. omega arith) (ltb-false most_counted (suc n) t), fields_last n i o last)

  pub charged_body : (p : PacketMetadata)
      → body_size (elements_of sizes p) + charge_of p ≡ element_bytes (elements_of sizes p) + field_bytes true (elements_of sizes p)
  charged_body p =
      body_charged p.num_obu_elements p.first_obu_index p.first_obu_offset p.last_obu_size (charge_of p)
      (charge_none p)
      (charge_last p)
      (charge_paid p)

pub body_more : (es : List Element) (e : Element)
    → body_size (es ++ (e ∷ [])) ≡ element_bytes es + field_bytes true es + (e.size + cond (leb most_counted (length es)) (field_size e.size) 0)
unfolding element_bytes
body_more es e =
    rw (bytes_append es (e ∷ []), length-append es (e ∷ []), add-one (length es), leb-suc-suc most_counted (length es), fields_more (leb most_counted (length es)) es e)
    (omega arith)
