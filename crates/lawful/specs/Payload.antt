-- Payloads that carry a packet (H1 to H4, E1 to E4, W11): what any sender may write, with no reader in it.
use Rattle.std.specs.Prelude.{ℕ, ◌+◌, ◌^◌, ◌≤◌, ◌<◌, ◌≡◌, List, [], ◌∷◌, ◌++◌, Bool, true, false, ◌&&◌, length, eqb}
use Rattle.leb128.specs.Field.{form, longest_field}
use Rattle.element.specs.Header.{z_bit, y_bit, w_of, n_bit}
use Rattle.element.specs.Elements.{payload_limit}
use Rattle.lawful.specs.Train.{Packet}

-- a length field of n bytes and a last one, at most eight in all, has place for v: the shortest or a padded one
abbrev pub Holds : ℕ → ℕ → Type 0
Holds n v = (n < longest_field) × (v < 128 ^ (n + 1))

-- elements one after the other, as bytes: each with its length in front, or (`all` is false) the last one without
pub data Laid : Bool → List (List ℕ) → List ℕ → Type 0 where
  bare : {e : List ℕ} → Laid false (e ∷ []) e
  last : {e : List ℕ} (n : ℕ) → Holds n (length e) → Laid true (e ∷ []) (form n (length e) ++ e)
  more : {all : Bool} {e : List ℕ} {es : List (List ℕ)} {bytes : List ℕ} (n : ℕ) → Holds n (length e) → Laid all es bytes
      → Laid all (e ∷ es) (form n (length e) ++ (e ++ bytes))

-- W is 0 and each element has its length, or W is how many elements there are and the last one has none
pub data Counted : ℕ → List (List ℕ) → List ℕ → Type 0 where
  each : {es : List (List ℕ)} {bytes : List ℕ} → Laid true es bytes → Counted 0 es bytes
  exact : {w : ℕ} {es : List (List ℕ)} {bytes : List ℕ} → length es ≡ w → Laid false es bytes → Counted w es bytes

-- the payload of the header byte h and these bytes: not over L3, Z and Y as in the packet, N never with Z
pub record Carries (h : ℕ) (bytes : List ℕ) (p : Packet) : Type 0 where
  pub short : length (h ∷ bytes) ≤ payload_limit
  pub z_is : eqb (z_bit h) 1 ≡ p.z
  pub y_is : eqb (y_bit h) 1 ≡ p.y
  pub n_clear : eqb (z_bit h) 1 && eqb (n_bit h) 1 ≡ false
  pub counted : Counted (w_of h) p.elements bytes

abbrev pub Carry : List ℕ → Packet → Type 0
Carry [] p = ⊥
Carry (h ∷ bytes) p = Carries h bytes p

-- payloads carry a run of packets, one each
abbrev pub CarryAll : List (List ℕ) → List Packet → Type 0
CarryAll [] [] = Unit {0}
CarryAll [] (p ∷ ps) = ⊥
CarryAll (b ∷ bs) [] = ⊥
CarryAll (b ∷ bs) (p ∷ ps) = Carry b p × CarryAll bs ps
