-- What the laws of elements are stated with.
use Rattle.std.specs.Prelude.{◌≡◌, ℕ, ◌+◌, ◌-◌, ◌≤◌, ◌<◌, List, [], ◌∷◌, map, Bool, cond, length, drop, eqb}
use Rattle.base.specs.Answers.{Answer, given}
use Rattle.leb128.specs.Field.{sized, size_field}
use Rattle.element.specs.Elements.{payload_limit, bytes_of, element_at, until_end, exactly, elements_of}
use Rattle.element.specs.declared.Part.{Part}
use Rattle.element.specs.declared.Walked.{Walked}

-- an element behind a cursor: it has a byte, and ends at its next cursor, which is within the end
pub record Lies (at end : ℕ) (p : Part) : Type 0 where
  pub after : at ≤ p.start
  pub some : 1 ≤ p.length
  pub ends : p.start + p.length ≡ p.next
  pub within : p.next ≤ end

-- each behind the one before
abbrev pub InOrder : ℕ → ℕ → List Part → Type 0
InOrder at end [] = Unit {0}
InOrder at end (p ∷ ps) = Lies at end p × InOrder p.next end ps

-- the elements from element n on, which begins at `at`
abbrev pub elements_from : List ℕ → ℕ → ℕ → ℕ → Answer (List Part)
elements_from payload w n at = cond (eqb w 0) (until_end (drop at payload) at) (exactly (w - n) (drop at payload) at)

-- a payload whose elements, as they are read, are these bytes
pub record ReadsAs (payload : List ℕ) (elements : List (List ℕ)) : Type 0 where
  pub parts : List Part
  pub read : elements_of payload ≡ given parts
  pub holds : map (bytes_of payload) parts ≡ elements

-- neither empty nor over its limit
abbrev pub Within : List ℕ → Type 0
Within payload = (1 ≤ length payload) × (length payload ≤ payload_limit)

-- an element stands at the cursor
pub record Stands (field : Bool) (at : ℕ) (payload : List ℕ) : Type 0 where
  pub inside : at ≤ length payload
  pub part : Part
  pub is : element_at field at (drop at payload) ≡ given part

-- an element behind its cursor; the bytes between them, if there are any, are its length field
pub record Fielded (payload : List ℕ) (at : ℕ) (p : Part) : Type 0 where
  pub behind : at ≤ p.start
  pub within : p.start + p.length ≤ length payload
  pub field : at < p.start → sized p.length (p.start - at) ≡ size_field (drop at payload)

-- it can be counted with these: the counts have room
pub record Countable (payload : List ℕ) (all : Walked) (at : ℕ) (p : Part) : Type 0 where
  pub fielded : Fielded payload at p
  pub few : all.elements < at
  pub fewer : all.padded ≤ all.elements
  pub small : length payload ≤ payload_limit
