-- What the receiver holds, and what a packet taken apart makes of it (V1 to V8, V13, V15).
use Rattle.std.specs.Prelude.{ℕ, ◌+◌, ◌-◌, ◌%◌, Bool, true, false, cond, not, ◌&&◌, ◌||◌, List, [], ◌∷◌, ◌++◌, length, ◌==◌, nat_le, nat_lt}
use Rattle.base.specs.Numbers.{packet_numbers}
use Rattle.receiver.specs.Packet.{Packet}

-- what the receiver is told of a packet beside its payload
pub record Label : Type 0 where
  pub number : ℕ

abbrev pub label : ℕ → Label
label number = record { number = number }

-- V1: whether something was taken, the label of the last packet taken, and the open fragment; none is the empty list
pub record Held : Type 0 where
  pub begun : Bool
  pub last : Label
  pub fragment : List ℕ

abbrev pub fresh : Held
fresh = record { begun = false; last = label 0; fragment = [] }

-- ---- numbers

-- V2: how far it is forward from the last number, modulo 65,536
abbrev pub distance : ℕ → ℕ → ℕ
distance last number = (number + packet_numbers - last) % packet_numbers

-- L10
abbrev pub furthest_ahead : ℕ
furthest_ahead = 32767

-- V3, V4
unfoldable pub is_ahead : Bool → ℕ → ℕ → Bool
is_ahead begun last number = not begun || (nat_le 1 (distance last number) && nat_le (distance last number) furthest_ahead)

unfoldable pub is_in_step : Bool → ℕ → ℕ → Bool
is_in_step begun last number = begun && distance last number == 1

abbrev pub ahead : Held → Label → Bool
ahead h l = is_ahead h.begun h.last.number l.number

-- ---- elements

-- V5: whether a packet goes on from the last one taken
unfoldable pub follows : Bool → Label → Label → Bool
follows begun last l = is_in_step begun last.number l.number

-- the fragment that the first element of a packet may join
abbrev pub joinable : Held → Label → List ℕ
joinable h l = cond (follows h.begun h.last l) h.fragment []

-- V6: with Z, the first element joins that fragment, or is thrown away where there is none
unfoldable pub with_fragment : List ℕ → Bool → List (List ℕ) → List (List ℕ)
with_fragment fragment false es = es
with_fragment fragment true [] = []
with_fragment [] true (e ∷ es) = es
with_fragment (b ∷ fragment) true (e ∷ es) = ((b ∷ fragment) ++ e) ∷ es

-- what a packet throws away: an open fragment, its first element
pub record Lost : Type 0 where
  pub fragment : Bool
  pub element : Bool

-- a fragment is there
abbrev pub some : List ℕ → Bool
some fragment = nat_lt 0 (length fragment)

-- V5: the open fragment, unless with Z the first element joins it; V6: with Z, the first element, where there is none to join
unfoldable pub lost : Held → Label → Packet → Lost
lost h l p =
    record {
      fragment = some h.fragment && not (p.z && some (joinable h l));
      element = p.z && not (some (joinable h l));
    }

-- V8: with Y, all but the last are finished
unfoldable pub finished : Bool → List (List ℕ) → List (List ℕ)
finished false js = js
finished true [] = []
finished true (j ∷ []) = []
finished true (j ∷ i ∷ js) = j ∷ finished true (i ∷ js)

-- V7: with Y, the last is left open
unfoldable pub left : Bool → List (List ℕ) → List ℕ
left false js = []
left true [] = []
left true (j ∷ []) = j
left true (j ∷ i ∷ js) = left true (i ∷ js)

-- the OBUs that a packet finishes, and the fragment that it leaves open, where its first element may join `fragment`
unfoldable pub handed : List ℕ → Packet → List (List ℕ)
handed fragment p = finished p.y (with_fragment fragment p.z p.elements)

unfoldable pub kept_open : List ℕ → Packet → List ℕ
kept_open fragment p = left p.y (with_fragment fragment p.z p.elements)

-- ---- a packet with its label; one that is not ahead changes nothing and finishes nothing

-- V13: what is held once it is taken, where it leaves these bytes open
abbrev pub holding : Label → List ℕ → Held
holding l fragment = record { begun = true; last = l; fragment = fragment }

-- what is held after it
unfoldable pub next : Held → Label → Packet → Held
next h l p = cond (ahead h l) (holding l (kept_open (joinable h l) p)) h

-- the OBUs that it finishes
unfoldable pub out : Held → Label → Packet → List (List ℕ)
out h l p = cond (ahead h l) (handed (joinable h l) p) []
