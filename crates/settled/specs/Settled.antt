-- A contract settles a call if it asks nothing, and any two outcomes that it allows are the same (K1, K2). It is said of the contract
-- itself: of `ended` and `clauses`, which Rattle makes of a function's signature and of the text of its clauses.
use Rattle.std.specs.Prelude.{◌≡◌}
use seplogic.Ra.Ura.{Ura}
use base.Logic.{SProp, ent, emp}
use prog.Memory.{Memory}
use prog.Routine.{Routine}
use types.Logic.{Logic}
use contract.Lifetimes.{Lfts}
use contract.Monad.{Fun, conj, fact}
use Rattle.std.specs.Borrow.{Bor}
use denote.Triple.Entry.{Args, Res}
use denote.Triple.Clauses.{Ended, ClausesAt, Clauses, Lasts, at_exit}

-- clauses, at every model of the logic
abbrev pub Contract : Ended → Type 2
Contract T = (M : Type 1) (𝓤 : Ura M) → (𝓛 : Logic 𝓤) → (Memory → SProp 𝓤) → (Routine → Fun 𝓤) → Clauses 𝓤 T

-- the outcome of a call: its answer, and what each lent place that it may change holds at last
pub record Outcome (T : Ended) (κs : Lfts T.signature.lifetimes) (a : Args T.signature κs) : Type 0 where
  pub answer : Res T.signature κs
  pub left : Lasts T κs a

-- when two answers are the same
abbrev pub Sameness : Ended → Type 1
Sameness T = (κs : Lfts T.signature.lifetimes) → Res T.signature κs → Res T.signature κs → Type 0

module _ {M : Type 1} (𝓤 : Ura M) (T : Ended) (κs : Lfts T.signature.lifetimes) (a : Args T.signature κs) (c : ClausesAt 𝓤 T κs) where
  -- what the `ensures` says of an outcome
  abbrev pub says : c.ghost → Outcome T κs a → SProp 𝓤
  says g x = c.ensures g x.answer (at_exit T κs a x.left)

  -- there is no `requires`; where two outcomes are both allowed, the answers are the same, and so is what is left
  pub record SettledAt (same : Sameness T) : Type 1 where
    pub asks_nothing : (g : c.ghost) → ent 𝓤 (emp 𝓤) (c.requires g)
    pub one_outcome : (g : c.ghost) (x y : Outcome T κs a)
        → ent 𝓤 (conj 𝓤 (says g x) (says g y)) (fact 𝓤 (same κs x.answer y.answer × (x.left ≡ y.left)))

-- for all arguments
abbrev pub SettledBy : (T : Ended) → Sameness T → Contract T → Type 2
SettledBy T same c =
    (M : Type 1) (𝓤 : Ura M) (𝓛 : Logic 𝓤) (mem : Memory → SProp 𝓤) (run : Routine → Fun 𝓤) (κs : Lfts T.signature.lifetimes) (a : Args T.signature κs)
    → SettledAt 𝓤 T κs a (c M 𝓤 𝓛 mem run κs a) same

-- equal answers
abbrev pub Settled : (T : Ended) → Contract T → Type 2
Settled T = SettledBy T (λ κs r s. r ≡ s)

-- a part of what is lent, as an answer: the same elements at the same place, which is all that there is to a shared reference
abbrev pub SamePart : {X : Type 0} → Bor X → Bor X → Type 0
SamePart r s = (r.now ≡ s.now) × (r.ref_ptr ≡ s.ref_ptr)
