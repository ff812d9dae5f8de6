-- Size fields: what the bytes at the front of a list say, how a number is written, and which fields are padded (F1 to F6, R5, R6).
use Rattle.std.specs.Prelude.{ℕ, zero, suc, ◌+◌, ◌*◌, ◌/◌, ◌%◌, List, [], ◌∷◌, Bool, cond, not, length, ltb, leb}
use Rattle.base.specs.Answers.{Answer, given, refused}
use Rattle.leb128.specs.declared.SizeField.{SizeField}

-- L5, L6: the most bytes of a field, and the largest value
abbrev pub longest_field : ℕ
longest_field = 8

abbrev pub largest_value : ℕ
largest_value = 4294967295

-- what reading finds: a value and the bytes that it takes, or refusal 5 or 6
pub data Field : Type 0 where
  sized : ℕ → ℕ → Field
  unreadable : ℕ → Field

-- a byte with the top bit set: its low seven bits, plus 128 times the value of the rest
abbrev pub more : ℕ → Field → Field
more b (sized v n) = sized (b % 128 + 128 * v) (n + 1)
more b (unreadable k) = unreadable k

-- the field at the front of a list, of which at most `left` bytes may come
unfoldable pub field_in : ℕ → List ℕ → Field
field_in zero l = unreadable 6
field_in (suc left) [] = unreadable 5
field_in (suc left) (b ∷ l) = cond (ltb b 128) (sized (b % 128) 1) (more b (field_in left l))

-- a value over the largest is refused
abbrev pub capped : Field → Field
capped (sized v n) = cond (leb v largest_value) (sized v n) (unreadable 6)
capped (unreadable k) = unreadable k

abbrev pub size_field : List ℕ → Field
size_field l = capped (field_in longest_field l)

-- v in n bytes and a last one, seven bits a byte
unfoldable pub form : ℕ → ℕ → List ℕ
form zero v = (v % 128) ∷ []
form (suc n) v = (128 + v % 128) ∷ form n (v / 128)

-- the shortest form of v, if it has at most so many bytes
unfoldable pub encode_in : ℕ → ℕ → List ℕ
encode_in zero v = []
encode_in (suc k) v = cond (ltb v 128) (v ∷ []) ((128 + v % 128) ∷ encode_in k (v / 128))

-- the shortest form of a value up to the largest, which has at most five bytes
abbrev pub encode : ℕ → List ℕ
encode v = encode_in 5 v

-- F6: v in n bytes is padded if its shortest form has fewer; in no byte, which is no field, it is not
abbrev pub is_padded : ℕ → ℕ → Bool
is_padded v n = ltb (length (encode v)) n

-- what reading answers: the value, the bytes that it takes, and whether they are its shortest form
abbrev pub answer_by : Field → Answer SizeField
answer_by (sized v n) = given (record { value = v; used = n; shortest = not (is_padded v n) })
answer_by (unreadable k) = refused k 0

abbrev pub size_answer : List ℕ → Answer SizeField
size_answer l = answer_by (size_field l)
