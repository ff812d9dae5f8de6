-- What holds of trains. Assumes nothing.
--     join-portion, whole-portion   one more portion of an OBU
--     run-full      no packet has an empty element
--     run-append, obus-append       trains one after the other, as units are
--     run-chained, run-cutting      a run of packets is that of some train exactly if Z repeats the Y before it and no packet is without elements
use mathlib.Core.Path.{◌≡◌, refl, ap, ◌∙◌}
use Prim.Native.Nat.{ℕ, suc, ◌+◌, ◌<◌}
use native.Mathlib.Nat.{add-zero, add-suc, suc-add}
use native.Mathlib.Omega.{arith}
use mathlib.Core.List.{List, [], ◌∷◌, ◌++◌, map, append_assoc, append-nil}
use mathlib.Core.Bool.{Bool, true, false, not, ◌&&◌, and-true, and_assoc, false≢true}
use lib.ListN.{length}
use Rattle.base.specs.Lists.{All}
use Rattle.base.proofs.Lists.{length_snoc, all_append, all_snoc, map_append}
use Rattle.lawful.specs.Train.{Piece, cut, inner, final, bytes_in, NonEmpty, Full, closed, Packet, packets, packets_of_pieces, Portion, portion, obus, obus_of_pieces, join, whole}

-- ---- one more portion of an OBU

pub join_portion : (ps : List Portion) (k : ℕ) (b : List ℕ) → join (ps ++ (portion k b ∷ [])) ≡ join ps ++ b
unfolding join
join_portion [] k b = append-nil b
join_portion (p ∷ ps) k b = rw (join_portion ps k b, append_assoc)

pub whole_portion : (test : ℕ → Bool) (ps : List Portion) (k : ℕ) (b : List ℕ) → whole test (ps ++ (portion k b ∷ [])) ≡ whole test ps && test k
unfolding whole
whole_portion test [] k b = and-true (test k)
whole_portion test (p ∷ ps) k b = rw (whole_portion test ps k b, and_assoc)

-- ---- no packet has an empty element

packets_full : (t : List Piece) (z : Bool) (es : List (List ℕ)) → Full t → All NonEmpty es → All (λ p. All NonEmpty p.elements) (packets z es t)
unfolding packets
packets_full [] z [] f h = tt
packets_full [] z (e ∷ es) f h = (h, tt)
packets_full (cut b ∷ t) z es f h = (all_snoc NonEmpty es b h f.0, packets_full t true [] f.1 tt)
packets_full (inner b ∷ t) z es f h = packets_full t z (es ++ (b ∷ [])) f.1 (all_snoc NonEmpty es b h f.0)
packets_full (final b ∷ t) z es f h = (all_snoc NonEmpty es b h f.0, packets_full t false [] f.1 tt)

pub run_full : (t : List Piece) → Full t → All (λ p. All NonEmpty p.elements) (packets_of_pieces t)
run_full t f = packets_full t false [] f tt

-- ---- trains one after the other

never : {A : Type 0} → false ≡ true → A
never e = absurd (false≢true e)

-- `c` says whether a packet and an OBU begin with t
pub closed_append : (t u : List Piece) (c : Bool) → closed c t ≡ true → closed c (t ++ u) ≡ closed true u
unfolding closed
closed_append [] u c e = rw e
closed_append (cut b ∷ t) u c e = closed_append t u false e
closed_append (inner b ∷ t) u c e = closed_append t u false e
closed_append (final b ∷ t) u c e = closed_append t u true e

packets_append : (t u : List Piece) (c z : Bool) (es : List (List ℕ)) → closed c t ≡ true → (c ≡ true → es ≡ []) → (c ≡ true → z ≡ false)
    → packets z es (t ++ u) ≡ packets z es t ++ packets_of_pieces u
unfolding packets closed
packets_append [] u c z es e h i = rw (h e, i e)
packets_append (cut b ∷ t) u c z es e h i =
    ap {B = List Packet} (λ l. record { z = z; y = true; elements = es ++ (b ∷ []) } ∷ l) (packets_append t u false true [] e never never)
packets_append (inner b ∷ t) u c z es e h i = packets_append t u false z (es ++ (b ∷ [])) e never never
packets_append (final b ∷ t) u c z es e h i =
    ap {B = List Packet} (λ l. record { z = z; y = false; elements = es ++ (b ∷ []) } ∷ l) (packets_append t u true false [] e (λ q. refl) (λ q. refl))

pub run_append : (t u : List Piece) → closed true t ≡ true → packets_of_pieces (t ++ u) ≡ packets_of_pieces t ++ packets_of_pieces u
run_append t u e = packets_append t u true false [] e (λ q. refl) (λ q. refl)

obus_next : (t u : List Piece) (c z : Bool) (es : List (List ℕ)) (k : ℕ) (ps : List Portion) → closed c t ≡ true → (c ≡ true → es ≡ []) → (c ≡ true → ps ≡ [])
    → obus k ps (t ++ u) ≡ obus k ps t ++ obus (k + length (packets z es t)) [] u
unfolding packets obus closed
obus_next [] u c z es k ps e h i = rw (h e, i e, add-zero k)
obus_next (cut b ∷ t) u c z es k ps e h i = rw (add-suc, ← suc-add) (obus_next t u false true [] (suc k) (ps ++ (portion k b ∷ [])) e never never)
obus_next (inner b ∷ t) u c z es k ps e h i =
    ap {B = List (List Portion)} (λ l. (ps ++ (portion k b ∷ [])) ∷ l) (obus_next t u false z (es ++ (b ∷ [])) k [] e never never)
obus_next (final b ∷ t) u c z es k ps e h i =
    rw (add-suc, ← suc-add)
    (ap {B = List (List Portion)} (λ l. (ps ++ (portion k b ∷ [])) ∷ l) (obus_next t u true false [] (suc k) [] e (λ q. refl) (λ q. refl)))

-- the OBUs of the second train, their packets further on by those of the first
pub obus_append : (k : ℕ) (t u : List Piece) → closed true t ≡ true → obus k [] (t ++ u) ≡ obus k [] t ++ obus (k + length (packets_of_pieces t)) [] u
obus_append k t u e = obus_next t u true false [] k [] e (λ q. refl) (λ q. refl)

-- their bytes do not depend on the packets before
pub join_shift : (t : List Piece) (k n : ℕ) (ps qs : List Portion) → join ps ≡ join qs → map join (obus k ps t) ≡ map join (obus n qs t)
unfolding obus
join_shift [] k n ps qs e = refl
join_shift (cut b ∷ t) k n ps qs e = join_shift t (suc k) (suc n) (ps ++ (portion k b ∷ [])) (qs ++ (portion n b ∷ [])) (rw (join_portion ps k b, join_portion qs n b, e))
join_shift (inner b ∷ t) k n ps qs e = rw (join_portion ps k b, join_portion qs n b, e, join_shift t k n [] [] refl)
join_shift (final b ∷ t) k n ps qs e = rw (join_portion ps k b, join_portion qs n b, e, join_shift t (suc k) (suc n) [] [] refl)

pub join_append : (t u : List Piece) → closed true t ≡ true → map join (obus_of_pieces (t ++ u)) ≡ map join (obus_of_pieces t) ++ map join (obus_of_pieces u)
join_append t u e = rw (obus_append 0 t u e, join_shift u 0 (0 + length (packets_of_pieces t)) [] [] refl) (map_append join (obus_of_pieces t) _)

-- ---- runs of packets that are those of a train

-- `y` is the Y of the packet before
abbrev pub Chained : Bool → List Packet → Type 0
Chained y [] = Unit {0}
Chained y (p ∷ ps) = (p.z ≡ y) × (0 < length p.elements) × Chained p.y ps

packets_chained : (t : List Piece) (z : Bool) (es : List (List ℕ)) → Chained z (packets z es t)
unfolding packets
packets_chained [] z [] = tt
packets_chained [] z (e ∷ es) = (refl, omega arith, tt)
packets_chained (cut b ∷ t) z es = (refl, rw length_snoc (omega arith), packets_chained t true [])
packets_chained (inner b ∷ t) z es = packets_chained t z (es ++ (b ∷ []))
packets_chained (final b ∷ t) z es = (refl, rw length_snoc (omega arith), packets_chained t false [])

pub run_chained : (t : List Piece) → Chained false (packets_of_pieces t)
run_chained t = packets_chained t false []

-- the pieces of a packet, and of a run
unfoldable pub pieces_of : Bool → List (List ℕ) → List Piece
pieces_of y [] = []
pieces_of true (e ∷ []) = cut e ∷ []
pieces_of false (e ∷ []) = final e ∷ []
pieces_of y (e ∷ i ∷ es) = inner e ∷ pieces_of y (i ∷ es)

unfoldable pub cutting : List Packet → List Piece
cutting [] = []
cutting (p ∷ ps) = pieces_of p.y p.elements ++ cutting ps

packets_pieces : (y z : Bool) (es : List (List ℕ)) (e : List ℕ) (fs : List (List ℕ)) (t : List Piece)
    → packets z es (pieces_of y (e ∷ fs) ++ t) ≡ record { z = z; y = y; elements = es ++ (e ∷ fs) } ∷ packets y [] t
unfolding packets pieces_of
packets_pieces true z es e [] t = refl
packets_pieces false z es e [] t = refl
packets_pieces y z es e (f ∷ fs) t = packets_pieces y z (es ++ (e ∷ [])) f fs t ∙ rw append_assoc

pub run_cutting : (z : Bool) (ps : List Packet) → Chained z ps → packets z [] (cutting ps) ≡ ps
unfolding packets cutting
run_cutting z [] h = refl
run_cutting z (p ∷ ps) h = go p.elements refl h.1 (run_cutting p.y ps h.2)
  where
    go : (es : List (List ℕ)) → p.elements ≡ es → 0 < length es → packets p.y [] (cutting ps) ≡ ps → packets z [] (pieces_of p.y p.elements ++ cutting ps) ≡ p ∷ ps
    go [] e l ih = absurd (omega arith)
    go (f ∷ fs) e l ih =
        let a : packets z [] (pieces_of p.y p.elements ++ cutting ps) ≡ record { z = z; y = p.y; elements = f ∷ fs } ∷ packets p.y [] (cutting ps) = rw e (packets_pieces p.y z [] f fs (cutting ps)) in
        a ∙ rw (← e, ← h.0, ih)

-- ---- what holds of such a train

pieces_full : (y : Bool) (es : List (List ℕ)) → All NonEmpty es → Full (pieces_of y es)
unfolding pieces_of
pieces_full y [] h = tt
pieces_full true (e ∷ []) h = (h.0, tt)
pieces_full false (e ∷ []) h = (h.0, tt)
pieces_full y (e ∷ f ∷ es) h = (h.0, pieces_full y (f ∷ es) h.1)

pub cutting_full : (ps : List Packet) → All (λ p. All NonEmpty p.elements) ps → Full (cutting ps)
unfolding cutting
cutting_full [] h = tt
cutting_full (p ∷ ps) h = all_append (λ q. NonEmpty (bytes_in q)) (pieces_of p.y p.elements) (cutting ps) (pieces_full p.y p.elements h.0) (cutting_full ps h.1)

closed_pieces : (c y : Bool) (es : List (List ℕ)) (t : List Piece) → 0 < length es → closed c (pieces_of y es ++ t) ≡ closed (not y) t
unfolding closed pieces_of
closed_pieces c y [] t l = absurd (omega arith)
closed_pieces c true (e ∷ []) t l = refl
closed_pieces c false (e ∷ []) t l = refl
closed_pieces c y (e ∷ f ∷ es) t l = closed_pieces false y (f ∷ es) t (omega arith)

-- the Y of the last packet, or, with none, of the packet before
unfoldable pub last_y : Bool → List Packet → Bool
last_y y [] = y
last_y y (p ∷ ps) = last_y p.y ps

pub cutting_closed : (z : Bool) (ps : List Packet) → Chained z ps → closed (not z) (cutting ps) ≡ not (last_y z ps)
unfolding closed cutting last_y
cutting_closed z [] h = refl
cutting_closed z (p ∷ ps) h = closed_pieces (not z) p.y p.elements (cutting ps) h.1 ∙ cutting_closed p.y ps h.2
