-- The OBUs of a unit's train are what is sent of its kept OBUs, each in the packets of W17. Assumes nothing.
use mathlib.Core.Path.{◌≡◌, refl, sym, ap, ap₂, subst, ◌∙◌}
use Prim.Native.Nat.{ℕ, zero, suc, ◌+◌, ◌-◌, ◌≤◌, ◌<◌}
use native.Mathlib.Numerals.{add-one}
use native.Mathlib.Omega.{arith}
use mathlib.Core.List.{List, [], ◌∷◌, ◌++◌, map}
use mathlib.Core.Bool.{Bool, true, false, cond, ◌&&◌, and-true, and-false, and_assoc}
use lib.ListN.{length, get_or, take, drop, length-map}
use lib.Seq.{take_all, take-add}
use lib.Dec.{ltb, leb}
use borrow.Author.Tests.{ltb-false, lt-ltb, le-ltb, le-leb, lt-leb}
use Rattle.base.specs.Lists.{keep}
use Rattle.base.proofs.Tests.{by_cond}
use Rattle.obu.specs.Unit.{obus_of}
use Rattle.packetizer.specs.Elements.{elements_from}
use Rattle.packetizer.specs.Call.{sizes_of}
use Rattle.packetizer.specs.Laws.{Position, position, ends_at, Sound, Runs, start_of, Positive}
use Rattle.packetizer.specs.declared.PacketMetadata.{PacketMetadata}
use Rattle.packetizer.proofs.Bodies.{start_zero, start_more, elements_count}
use Rattle.packetizer.proofs.Turns.{size_at}
use Rattle.aggregation.specs.Header.{last_obu, last_start}
use Rattle.payloader.specs.Payload.{part_of, parts_of}
use Rattle.lawful.specs.Train.{Piece, inner, Portion, portion, obus, join, whole}
use Rattle.lawful.proofs.Trains.{join_portion, whole_portion, pieces_of, cutting}
use Rattle.delivery.specs.Arrivals.{in_order}
use Rattle.delivery.specs.Units.{carries, packets_of, every}
use Rattle.delivery.proofs.Walk.{kept_cons}
use Rattle.delivery.proofs.UnitParts.{sent_at, sent_size}
use Rattle.delivery.proofs.UnitPackets.{y_at, elements_at, packet_for}

-- ---- packets of an OBU

-- none before a plan's first OBU
before_none : (room : ℕ) (sizes : List ℕ) (k : ℕ) (a b : Position) (ps : List PacketMetadata) (x : ℕ) → Runs room sizes a ps b → x < a.obu → packets_of k ps x ≡ []
unfolding packets_of
before_none room sizes k a b [] x r l = refl
before_none room sizes k a b (p ∷ ps) x r l =
    let e : p.first_obu_index ≡ a.obu = ap (λ (q : Position). q.obu) r.0 in
    let h : x < (ends_at sizes p).obu =
    by_cond (λ (q : Position). x < q.obu) (ltb (start_of p.num_obu_elements p.first_obu_offset + p.last_obu_size) (get_or sizes (p.first_obu_index + p.num_obu_elements - 1) 0)) _ _
    (λ t. omega (arith, r.1.some)) (λ t. omega (arith, r.1.some)) in
    rw (lt-leb p.first_obu_index x (omega arith)) (before_none room sizes (suc k) (ends_at sizes p) b ps x r.2 h)

module _ (unit : List ℕ) (test : ℕ → Bool) where
  -- whether OBU x comes through
  passes : ℕ → List PacketMetadata → ℕ → Bool
  passes k ps x = every test (packets_of k ps x)

  -- so many OBUs from OBU i on; of the first only if w says so too
  pub rest : ℕ → List PacketMetadata → ℕ → ℕ → List (List ℕ)
  rest k ps i j = map (sent_at unit) (keep (passes k ps) (in_order i j))

  headed : Bool → ℕ → List PacketMetadata → ℕ → ℕ → List (List ℕ)
  headed w k ps i zero = []
  headed w k ps i (suc j) = cond (w && passes k ps i) (sent_at unit i ∷ rest k ps (suc i) j) (rest k ps (suc i) j)

  headed_rest : (k : ℕ) (ps : List PacketMetadata) (i j : ℕ) → headed true k ps i j ≡ rest k ps i j
  unfolding headed rest keep in_order
  headed_rest k ps i zero = refl
  headed_rest k ps i (suc j) = go (passes k ps i)
    where
      go : (b : Bool) → cond b (sent_at unit i ∷ rest k ps (suc i) j) (rest k ps (suc i) j) ≡ map (sent_at unit) (cond b (i ∷ keep (passes k ps) (in_order (suc i) j)) (keep (passes k ps) (in_order (suc i) j)))
      go true = refl
      go false = refl

  -- ---- one record more in front of a plan

  module _ (k : ℕ) (p : PacketMetadata) (ps : List PacketMetadata) where
    passes_in : (x : ℕ) → carries p x ≡ true → passes k (p ∷ ps) x ≡ test k && passes (suc k) ps x
    unfolding passes packets_of every
    passes_in x c = rw c

    passes_out : (x : ℕ) → carries p x ≡ false → passes k (p ∷ ps) x ≡ passes (suc k) ps x
    unfolding passes packets_of
    passes_out x c = rw c

    rest_same : (i j : ℕ) → ((x : ℕ) → i ≤ x → carries p x ≡ false) → rest k (p ∷ ps) i j ≡ rest (suc k) ps i j
    unfolding rest keep in_order
    rest_same i zero h = refl
    rest_same i (suc j) h = rw (passes_out i (h i (omega arith))) (go (passes (suc k) ps i) (rest_same (suc i) j (λ x l. h x (omega arith))))
      where
        go : (b : Bool) → map (sent_at unit) (keep (passes k (p ∷ ps)) (in_order (suc i) j)) ≡ map (sent_at unit) (keep (passes (suc k) ps) (in_order (suc i) j))
            → map (sent_at unit) (cond b (i ∷ keep (passes k (p ∷ ps)) (in_order (suc i) j)) (keep (passes k (p ∷ ps)) (in_order (suc i) j)))
            ≡ map (sent_at unit) (cond b (i ∷ keep (passes (suc k) ps) (in_order (suc i) j)) (keep (passes (suc k) ps) (in_order (suc i) j)))
        go true e = rw e
        go false e = e

    -- the OBU goes on in the packets after
    headed_cut : (w : Bool) (i j : ℕ) → carries p i ≡ true → ((x : ℕ) → suc i ≤ x → carries p x ≡ false) → headed (w && test k) (suc k) ps i j ≡ headed w k (p ∷ ps) i j
    unfolding headed
    headed_cut w i zero c d = refl
    headed_cut w i (suc j) c d = rw (passes_in i c, rest_same (suc i) j d, and_assoc)

    -- it ends in this packet
    headed_end : (w : Bool) (i j : ℕ) → carries p i ≡ true → packets_of (suc k) ps i ≡ []
        → cond (w && test k) (sent_at unit i ∷ rest k (p ∷ ps) (suc i) j) (rest k (p ∷ ps) (suc i) j) ≡ headed w k (p ∷ ps) i (suc j)
    unfolding headed passes every
    headed_end w i j c e = rw (passes_in i c, e, and-true (test k))

-- ---- the pieces of a record

pieces_inner : (y : Bool) (e : List ℕ) (es : List (List ℕ)) → 1 ≤ length es → pieces_of y (e ∷ es) ≡ inner e ∷ pieces_of y es
unfolding pieces_of
pieces_inner y e [] h = absurd (omega arith)
pieces_inner y e (f ∷ es) h = refl

module _ (unit : List ℕ) (some : Positive (sizes_of unit)) (room : ℕ) (test : ℕ → Bool) where
  abbrev size : ℕ → ℕ
  size i = get_or (sizes_of unit) i 0

  abbrev count : ℕ
  count = length (sizes_of unit)

  abbrev train : List PacketMetadata → List Piece
  train ps = cutting (map (packet_for unit) ps)

  -- what comes through of a train, with these portions before it
  through : ℕ → List Portion → List Piece → List (List ℕ)
  through k qs t = map join (keep (whole test) (obus k qs t))

  -- from a position of OBU i on, where the portions before make up the OBU so far
  abbrev Through : ℕ → List PacketMetadata → Type 0
  Through k ps =
      (i o j : ℕ) (qs : List Portion) → Runs room (sizes_of unit) (position i o) ps (position count 0) → i + j ≡ count → join qs ≡ take o (sent_at unit i)
      → through k qs (train ps) ≡ headed unit test (whole test qs) k ps i j

  -- one portion more
  join_more : (qs : List Portion) (k i o n : ℕ) → join qs ≡ take o (sent_at unit i) → join (qs ++ (portion k (take n (drop o (sent_at unit i))) ∷ [])) ≡ take (o + n) (sent_at unit i)
  join_more qs k i o n e = join_portion qs k (take n (drop o (sent_at unit i))) ∙ rw e (sym (take-add o n (sent_at unit i)))

  join_all : (qs : List Portion) (i o n : ℕ) → join qs ≡ take o (sent_at unit i) → i < count → o + n ≡ size i → join qs ++ take n (drop o (sent_at unit i)) ≡ sent_at unit i
  join_all qs i o n e l f = rw e (sym (take-add o n (sent_at unit i)) ∙ take_all (o + n) (sent_at unit i) (omega (arith, sent_size unit i l)))

  module _ (k : ℕ) (p : PacketMetadata) (ps : List PacketMetadata) (ih : Through (suc k) ps) where
    -- a portion that ends its OBU, with what comes through after it
    ends : (qs : List Portion) (i o n j : ℕ) (t : List (List Portion)) → join qs ≡ take o (sent_at unit i) → i < count → o + n ≡ size i → carries p i ≡ true
        → packets_of (suc k) ps i ≡ [] → map join (keep (whole test) t) ≡ rest unit test k (p ∷ ps) (suc i) j
        → map join (keep (whole test) ((qs ++ (portion k (take n (drop o (sent_at unit i))) ∷ [])) ∷ t)) ≡ headed unit test (whole test qs) k (p ∷ ps) i (suc j)
    ends qs i o n j t e l f c b h =
        kept_cons test qs k (take n (drop o (sent_at unit i))) t
        ∙ rw (join_all qs i o n e l f, h) (headed_end unit test k p ps (whole test qs) i j c b)

    -- where the record ends
    abbrev next : Bool → ℕ → ℕ → Position
    next y i e = cond y (position i e) (position (suc i) 0)

    -- the last OBU of the record is v, and q of its bytes are sent by then
    record_through : (m i o end v q j : ℕ) (qs : List Portion) (y : Bool) → i + m ≡ v → start_of (suc m) o + end ≡ q → join qs ≡ take o (sent_at unit i) → v < count → o < size i → q ≤ size v
        → i + j ≡ count → ltb q (size v) ≡ y → Runs room (sizes_of unit) (next y v q) ps (position count 0) → ((x : ℕ) → i ≤ x → x ≤ v → carries p x ≡ true) → ((x : ℕ) → v < x → carries p x ≡ false)
        → through k qs (pieces_of y (parts_of unit (obus_of unit) (elements_from (sizes_of unit) (suc m) i o end)) ++ train ps) ≡ headed unit test (whole test qs) k (p ∷ ps) i j
    unfolding through obus pieces_of elements_from join whole
    record_through m i o end v q zero qs y a b e l f w n t r c d = absurd (omega arith)
    record_through zero i o end v q (suc j) qs true a b e l f w n t r c d =
        let z : v ≡ i = omega arith in
        ih i (o + end) (suc j) (qs ++ (portion k (take end (drop o (sent_at unit i))) ∷ []))
        (subst (λ (x : Position). Runs room (sizes_of unit) x ps (position count 0)) (ap₂ position z (sym b)) r) n (join_more qs k i o end e)
        ∙ ap (λ (x : Bool). headed unit test x (suc k) ps i (suc j)) (whole_portion test qs k (take end (drop o (sent_at unit i))))
        ∙ headed_cut unit test k p ps (whole test qs) i (suc j) (c i (omega arith) (omega arith)) (λ x h. d x (omega arith))
    record_through zero i o end v q (suc j) qs false a b e l f w n t r c d =
        let z : i ≡ v = omega arith in
        let g : size v ≤ q = ltb-false q (size v) t in
        let s : size i ≡ size v = ap size z in
        ends qs i o end j (obus (suc k) [] (train ps)) e (omega arith) (omega arith) (c i (omega arith) (omega arith))
        (before_none room (sizes_of unit) (suc k) (position (suc v) 0) (position count 0) ps i r (omega arith))
        (ih (suc v) 0 j [] r (omega arith) refl ∙ headed_rest unit test (suc k) ps (suc v) j
        ∙ sym (rest_same unit test k p ps (suc v) j (λ x h. d x (omega arith))) ∙ ap (λ (x : ℕ). rest unit test k (p ∷ ps) (suc x) j) (sym z))
    record_through (suc m) i o end v q (suc j) qs y a b e l f w n t r c d =
        let es = elements_from (sizes_of unit) (suc m) (i + 1) 0 end in
        let g : start_of (suc m) 0 + end ≡ q = ap (λ (x : ℕ). x + end) (start_zero (suc m) ∙ sym (start_more (suc (suc m)) o (λ z. omega arith))) ∙ b in
        let h : i < (next y v q).obu = by_cond (λ (x : Position). i < x.obu) y (position v q) (position (suc v) 0) (λ z. omega arith) (λ z. omega arith) in
        rw (pieces_inner y (take (size i - o) (drop o (sent_at unit i))) (parts_of unit (obus_of unit) es)
        (omega (arith, length-map es (part_of unit (obus_of unit)), elements_count (sizes_of unit) (suc m) (i + 1) 0 end)))
        (ends qs i o (size i - o) j (obus k [] (pieces_of y (parts_of unit (obus_of unit) es) ++ train ps)) e (omega arith) (omega arith) (c i (omega arith) (omega arith))
        (before_none room (sizes_of unit) (suc k) (next y v q) (position count 0) ps i r h)
        (record_through m (i + 1) 0 end v q j [] y (omega arith) g refl l (some (i + 1) (omega arith)) w (omega arith) t r (λ x u z. c x (omega arith) z) d
        ∙ headed_rest unit test k (p ∷ ps) (i + 1) j ∙ ap (λ (x : ℕ). rest unit test k (p ∷ ps) x j) (add-one i)))

  -- a record, whose packet it is
  module _ (k : ℕ) (p : PacketMetadata) (ps : List PacketMetadata) (s : Sound room (sizes_of unit) p) where
    end_at : Runs room (sizes_of unit) (ends_at (sizes_of unit) p) ps (position count 0)
        → Runs room (sizes_of unit) (cond (y_at unit p) (position (last_obu p) (last_start p + p.last_obu_size)) (position (suc (last_obu p)) 0)) ps (position count 0)
    end_at r =
        let z : p.first_obu_index + p.num_obu_elements ≡ suc (last_obu p) = omega (arith, s.some) in
        subst (λ (x : Position). Runs room (sizes_of unit) x ps (position count 0))
        (ap₂ (λ (b : Bool) (x : ℕ). cond b (position (last_obu p) (last_start p + p.last_obu_size)) (position x 0)) (ap (ltb (last_start p + p.last_obu_size)) (size_at (obus_of unit) (last_obu p))) z) r

    carries_in : (x : ℕ) → p.first_obu_index ≤ x → x ≤ last_obu p → carries p x ≡ true
    carries_in x a b = ap₂ ◌&&◌ (le-leb p.first_obu_index x a) (lt-ltb x (p.first_obu_index + p.num_obu_elements) (omega (arith, s.some)))

    carries_out : (x : ℕ) → last_obu p < x → carries p x ≡ false
    carries_out x a =
        ap (λ (b : Bool). leb p.first_obu_index x && b) (le-ltb x (p.first_obu_index + p.num_obu_elements) (omega (arith, s.some))) ∙ and-false (leb p.first_obu_index x)

    packet_through : Through (suc k) ps → (j : ℕ) (qs : List Portion) → Runs room (sizes_of unit) (ends_at (sizes_of unit) p) ps (position count 0) → p.first_obu_index + j ≡ count
        → join qs ≡ take p.first_obu_offset (sent_at unit p.first_obu_index)
        → through k qs (pieces_of (y_at unit p) (elements_at unit p) ++ train ps) ≡ headed unit test (whole test qs) k (p ∷ ps) p.first_obu_index j
    packet_through ih j qs r n e = go p.num_obu_elements refl
      where
        go : (c : ℕ) → p.num_obu_elements ≡ c
            → through k qs (pieces_of (y_at unit p) (parts_of unit (obus_of unit) (elements_from (sizes_of unit) c p.first_obu_index p.first_obu_offset p.last_obu_size)) ++ train ps)
            ≡ headed unit test (whole test qs) k (p ∷ ps) p.first_obu_index j
        go zero z = absurd (omega (arith, s.some))
        go (suc m) z =
            record_through k p ps ih m p.first_obu_index p.first_obu_offset p.last_obu_size (last_obu p) (last_start p + p.last_obu_size) j qs (y_at unit p)
            (omega arith) (ap (λ (c : ℕ). start_of c p.first_obu_offset + p.last_obu_size) (sym z)) e (omega (arith, s.some, s.inside)) s.from s.within n
            (ap (ltb (last_start p + p.last_obu_size)) (size_at (obus_of unit) (last_obu p))) (end_at r) carries_in carries_out

  plan_through : (ps : List PacketMetadata) (k : ℕ) → Through k ps
  unfolding through cutting obus headed keep
  plan_through [] k i o zero qs r n e = refl
  plan_through [] k i o (suc j) qs r n e = let z : i ≡ count = ap (λ (x : Position). x.obu) r in absurd (omega arith)
  plan_through (p ∷ ps) k i o j qs r n e =
      let z : p.first_obu_index ≡ i = ap (λ (x : Position). x.obu) r.0 in
      let w : p.first_obu_offset ≡ o = ap (λ (x : Position). x.offset) r.0 in
      packet_through k p ps r.1 (plan_through ps (suc k)) j qs r.2 (omega arith) (e ∙ ap₂ (λ (x y : ℕ). take x (sent_at unit y)) (sym w) (sym z))
      ∙ ap (λ (x : ℕ). headed unit test (whole test qs) k (p ∷ ps) x j) z

  -- a unit's train, from packet k of the run on
  pub unit_through : (ps : List PacketMetadata) (k : ℕ) → Runs room (sizes_of unit) (position 0 0) ps (position count 0)
      → map join (keep (whole test) (obus k [] (cutting (map (packet_for unit) ps)))) ≡ map (sent_at unit) (keep (λ i. every test (packets_of k ps i)) (in_order 0 count))
  unfolding through rest passes join whole
  unit_through ps k r = plan_through ps k 0 0 count [] r (omega arith) refl ∙ headed_rest unit test k ps 0 count
