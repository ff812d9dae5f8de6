-- The elements of a payload (E2, E3, E6).
use Rattle.std.specs.Prelude.{◌≡◌, ℕ, ◌+◌, ◌-◌, ◌≤◌, List, [], Bool, true, false, length, drop}
use Rattle.base.specs.Answers.{given}
use Rattle.base.specs.Lists.{All}
use Rattle.element.specs.Elements.{element_at, followed, counting, elements_of, is_due, has_field}
use Rattle.element.specs.Laws.{Lies, InOrder, elements_from, ReadsAs}
use Rattle.element.specs.declared.Part.{Part}
use Rattle.lawful.specs.Train.{Packet, NonEmpty}
use Rattle.lawful.specs.Payload.{Carry}

-- E6: an element that is found lies behind its cursor and within the payload, and has a byte
abbrev pub PartLies : Type 0
PartLies =
    (payload : List ℕ) (at : ℕ) (field : Bool) (p : Part) → at ≤ length payload → element_at field at (drop at payload) ≡ given p
    → Lies at (length payload) p

-- E2, E3: the elements from a cursor on are the one at it, if one is due, and those from its next cursor on; else none
abbrev pub FromStep : Type 0
FromStep =
    (payload : List ℕ) (w n at : ℕ) → at ≤ length payload → is_due w n (length payload - at) ≡ true
    → elements_from payload w n at ≡ followed (element_at (has_field w n) at (drop at payload)) (elements_from payload w (n + 1))

abbrev pub FromEnd : Type 0
FromEnd =
    (payload : List ℕ) (w n at : ℕ) → at ≤ length payload → is_due w n (length payload - at) ≡ false
    → elements_from payload w n at ≡ given []

-- E2, E3: they lie in order, without overlap, within the payload
abbrev pub ElementsInOrder : Type 0
ElementsInOrder = (payload : List ℕ) (ps : List Part) → elements_of payload ≡ given ps → InOrder 1 (length payload) ps

-- E3, E2: with W 1 to 3 there are W of them, with W 0 one at least
abbrev pub CountW : Type 0
CountW = (w : ℕ) (l : List ℕ) (ps : List Part) → counting w l ≡ given ps → (w ≡ 0 → ⊥) → length ps ≡ w

abbrev pub CountEnd : Type 0
CountEnd = (w : ℕ) (l : List ℕ) (ps : List Part) → counting w l ≡ given ps → w ≡ 0 → 1 ≤ length ps

-- W11: what a sender lays out in a payload is what is read of it
abbrev pub CarriedRead : Type 0
CarriedRead = (payload : List ℕ) (p : Packet) → Carry payload p → All NonEmpty p.elements → ReadsAs payload p.elements
