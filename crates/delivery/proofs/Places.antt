-- The OBUs of a unit, by their places in its list. Assumes nothing.
use mathlib.Core.Path.{◌≡◌, refl, sym, ap, ◌∙◌}
use Prim.Native.Nat.{ℕ, zero, suc}
use mathlib.Core.List.{List, [], ◌∷◌, ◌++◌, map, flat_map}
use lib.ListN.{length, get_or}
use Rattle.obu.specs.Records.{no_obu}
use Rattle.obu.specs.declared.Obu.{Obu}
use Rattle.delivery.specs.Arrivals.{in_order}

next_order : (f : ℕ → List ℕ) (k n : ℕ) → map f (in_order (suc k) n) ≡ map (λ (i : ℕ). f (suc i)) (in_order k n)
unfolding in_order
next_order f k zero = refl
next_order f k (suc n) = ap (λ (l : List (List ℕ)). f (suc k) ∷ l) (next_order f (suc k) n)

pub in_order_map : (f : Obu → List ℕ) (os : List Obu) → map (λ (i : ℕ). f (get_or os i no_obu)) (in_order 0 (length os)) ≡ map f os
unfolding in_order
in_order_map f [] = refl
in_order_map f (o ∷ os) =
    ap (λ (l : List (List ℕ)). f o ∷ l) (next_order (λ (i : ℕ). f (get_or (o ∷ os) i no_obu)) 0 (length os) ∙ in_order_map f os)

pub flat_map_self : {A : Type 0} (f : A → List ℕ) (l : List A) → flat_map f l ≡ flat_map (λ (o : List ℕ). o) (map f l)
unfolding flat_map
flat_map_self f [] = refl
flat_map_self f (i ∷ l) = ap (λ (x : List ℕ). f i ++ x) (flat_map_self f l)

pub in_order_all : (f : Obu → List ℕ) (os : List Obu) → flat_map (λ (i : ℕ). f (get_or os i no_obu)) (in_order 0 (length os)) ≡ flat_map f os
in_order_all f os =
    flat_map_self (λ (i : ℕ). f (get_or os i no_obu)) (in_order 0 (length os)) ∙ ap (flat_map (λ (o : List ℕ). o)) (in_order_map f os) ∙ sym (flat_map_self f os)
