-- What goes out for OBUs one after the other, and their padded size fields. Assumes nothing.
use mathlib.Core.Path.{◌≡◌, refl, sym, ap, ◌∙◌}
use Prim.Native.Nat.{ℕ, ◌+◌, ◌≤◌}
use native.Mathlib.Omega.{arith}
use mathlib.Core.List.{List, [], ◌∷◌, ◌++◌, append_assoc, flat_map}
use mathlib.Core.Bool.{cond}
use lib.ListN.{length}
use Rattle.base.specs.Answers.{Answer, given, refused}
use Rattle.base.specs.Lists.{All}
use Rattle.base.proofs.Lists.{keep_yes, keep_no, keep_none}
use Rattle.base.proofs.Tests.{split_on}
use Rattle.obu.specs.Wire.{wire, padded_size}
use Rattle.handing.specs.Handing.{before, wires, padded_sizes}

pub before_assoc : (x y z : Answer (List ℕ)) → before (before x y) z ≡ before x (before y z)
before_assoc (refused n at) y z = refl
before_assoc (given a) (refused n at) z = refl
before_assoc (given a) (given b) (refused n at) = refl
before_assoc (given a) (given b) (given c) = ap given (append_assoc a b c)

pub before_none : (x : Answer (List ℕ)) → before (given []) x ≡ x
before_none (given b) = refl
before_none (refused n at) = refl

pub wires_append : (l m : List (List ℕ)) → wires (l ++ m) ≡ before (wires l) (wires m)
unfolding wires
wires_append [] m = sym (before_none (wires m))
wires_append (o ∷ l) m = ap (before (wire o)) (wires_append l m) ∙ sym (before_assoc (wire o) (wires l) (wires m))

pub wires_each : (give : List ℕ → List ℕ) (os : List (List ℕ)) → All (λ (o : List ℕ). wire o ≡ given (give o)) os → wires os ≡ given (flat_map give os)
unfolding wires flat_map
wires_each give [] h = refl
wires_each give (o ∷ os) h = rw (h.0, wires_each give os h.1)

-- ---- padded size fields

pub sizes_none : padded_sizes [] ≡ 0
sizes_none = ap length (keep_none padded_size)

pub sizes_next : (o : List ℕ) (os : List (List ℕ)) → padded_sizes (o ∷ os) ≡ cond (padded_size o) 1 0 + padded_sizes os
sizes_next o os = split_on (padded_size o)
    (λ t. ap length (keep_yes padded_size o os t) ∙ rw t (omega arith))
    (λ t. ap length (keep_no padded_size o os t) ∙ rw t (omega arith))

pub sizes_one : (o : List ℕ) → cond (padded_size o) 1 0 ≤ 1
sizes_one o = split_on (padded_size o) (λ t. rw t (omega arith)) (λ t. rw t (omega arith))

pub sizes_few : (os : List (List ℕ)) → padded_sizes os ≤ length os
sizes_few [] = omega (arith, sizes_none)
sizes_few (o ∷ os) = omega (arith, sizes_next o os, sizes_one o, sizes_few os)
