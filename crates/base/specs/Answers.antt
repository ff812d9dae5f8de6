-- What a call answers, and what it leaves in a lent list.
use Rattle.std.specs.Prelude.{ℕ, List, Bool, cond, Result, Ok, Err}
use Rattle.base.specs.Lists.{front}
use Rattle.base.specs.Refusals.{number_of}
use Rattle.base.specs.declared.Refusal.{Refusal}
use Rattle.base.specs.declared.RefusedAt.{RefusedAt}

-- what was asked for, or a refusal: its number, and the offset that it carries (W14)
pub data Answer (A : Type 0) : Type 0 where
  given : A → Answer A
  refused : ℕ → ℕ → Answer A

-- the lent list after a call that stores `new` first, and on a refusal leaves it as it was
abbrev pub stored : {A : Type 0} → Answer A → List ℕ → List ℕ → List ℕ
stored (given a) new l = front new l
stored (refused n at) new l = l

-- what is given, if the lent list is the one that it is given for; if not, 31
abbrev pub if_same : {A : Type 0} → Bool → Answer A → Answer A
if_same same (given a) = cond same (given a) (refused 31 0)
if_same same (refused n at) = refused n at

-- what was asked for is given
abbrev pub Given : {A : Type 0} → Answer A → Type 0
Given (given a) = Unit {0}
Given (refused n at) = ⊥

-- the number and the values that the rules have for what the code answers, where a refusal is of no place
abbrev pub paper : {A : Type 0} → Result A Refusal → Answer A
paper (Ok a) = given a
paper (Err r) = refused (number_of r) 0

-- the same where a refusal carries its place
abbrev pub paper_at : {A : Type 0} → Result A RefusedAt → Answer A
paper_at (Ok a) = given a
paper_at (Err e) = refused (number_of e.refusal) e.at
