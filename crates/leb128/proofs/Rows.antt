-- Size fields read, the shortest forms and padded ones (F2, F5, F6, R5); computed. Assumes nothing.
use mathlib.Core.Path.{◌≡◌, refl}
use Prim.Native.Nat.{ℕ}
use mathlib.Core.List.{List, [], ◌∷◌, map}
use mathlib.Core.Bool.{Bool, true, false}
use Rattle.base.specs.Answers.{Answer, given, refused}
use Rattle.leb128.specs.Field.{field_in, encode_in, size_answer}
use Rattle.leb128.specs.declared.SizeField.{SizeField}

-- this value, in so many bytes, and whether they are its shortest form
abbrev got : ℕ → ℕ → Bool → Answer SizeField
got value used shortest = given (record { value = value; used = used; shortest = shortest })

fields : List (List ℕ)
fields = (0x80 ∷ 0 ∷ []) ∷ (0 ∷ []) ∷ (0x80 ∷ 0x80 ∷ 0 ∷ []) ∷ (0xac ∷ 2 ∷ []) ∷ (0xac ∷ 0x82 ∷ 0 ∷ []) ∷ (0x80 ∷ []) ∷ []

read : map size_answer fields ≡ got 0 2 false ∷ got 0 1 true ∷ got 0 3 false ∷ got 300 2 true ∷ got 300 3 false ∷ refused 5 0 ∷ []
unfolding fields field_in encode_in
read = refl
