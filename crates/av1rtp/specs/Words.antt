-- How an answer crosses to C and Rust: its number, and four words (W14, K3).
use Rattle.std.specs.Prelude.{ℕ, ◌≤◌, List, [], ◌∷◌}
use Rattle.base.specs.Answers.{Answer, given, refused}

-- the number of an answer: 0 for what was asked for, or the refusal's own
abbrev pub number_in : {A : Type 0} → Answer A → ℕ
number_in (given a) = 0
number_in (refused n at) = n

-- its words: the offset that a refusal carries, else 0; then three of what was asked for, else 0
abbrev pub words_in : {A : Type 0} → (A → List ℕ) → Answer A → List ℕ
words_in three (given a) = 0 ∷ three a
words_in three (refused n at) = at ∷ 0 ∷ 0 ∷ 0 ∷ []

-- a refusal with a number of its own
abbrev pub Named : {A : Type 0} → Answer A → Type 0
Named (given a) = Unit {0}
Named (refused n at) = 1 ≤ n
