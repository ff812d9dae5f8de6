-- Answers (W14, K3).
use Rattle.std.specs.Prelude.{◌≡◌}

-- K3: equal numbers and values, equal answers
abbrev pub TellsApart : {R P : Type 0} → (R → P) → Type 0
TellsApart {R} paper = (a b : R) → paper a ≡ paper b → a ≡ b
