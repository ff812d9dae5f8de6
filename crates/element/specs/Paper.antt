-- The number and values that the rules have for each answer of the code.
use Rattle.std.specs.Prelude.{ℕ, ◌+◌, ◌-◌, List, cond, length, get_or, eqb}
use Rattle.base.specs.Answers.{Answer, given, refused}
use Rattle.element.specs.Elements.{nowhere, padded_at, padded_from}
use Rattle.element.specs.declared.Part.{Part}
use Rattle.element.specs.declared.Walked.{Walked}

-- of these elements: how many there are, element k, the last, and how many length fields are padded
abbrev pub walked_of : ℕ → List Part → Walked
walked_of k ps =
    record {
      elements = length ps;
      kept = get_or ps k nowhere;
      last = get_or ps (length ps - 1) nowhere;
      padded = padded_from 1 ps;
    }

abbrev pub walked : ℕ → Answer (List Part) → Answer Walked
walked k (given ps) = given (walked_of k ps)
walked k (refused n at) = refused n at

-- the same of one element more, which begins at `at`
abbrev pub with_part : ℕ → Walked → ℕ → Part → Walked
with_part k all at p =
    record {
      elements = all.elements + 1;
      kept = cond (eqb all.elements k) p all.kept;
      last = p;
      padded = all.padded + padded_at at p;
    }
