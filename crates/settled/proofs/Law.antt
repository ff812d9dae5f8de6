-- The law by which every contract here is settled: it says one fact of an outcome, and of two outcomes of which it says the fact, answer
-- and what is left are the same. Assumes nothing.
use mathlib.Core.Path.{◌≡◌, sym, ◌∙◌, subst}
use seplogic.Ra.Ura.{Ura}
use base.Logic.{SProp, ent, emp, id⊢}
use prog.Memory.{Memory}
use prog.Routine.{Routine}
use types.Logic.{Logic}
use contract.Lifetimes.{Lfts}
use contract.Monad.{Fun, conj, conj_l, conj_r, fact, fact_i, fact_use}
use denote.Triple.Entry.{Args, Res}
use denote.Triple.Clauses.{Ended, ClausesAt, AtExit, at_exit}
use Rattle.settled.specs.Settled.{Contract, Outcome, Sameness, SettledAt, SettledBy}

-- two that equal a third
pub meet : {X : Type 0} {x y z : X} → x ≡ z → y ≡ z → x ≡ y
meet p q = p ∙ sym q

module _ {M : Type 1} (𝓤 : Ura M) where
  both : (P Q R : Type 0) → (P → Q → R) → ent 𝓤 (conj 𝓤 (fact 𝓤 P) (fact 𝓤 Q)) (fact 𝓤 R)
  both P Q R f =
      fact_use 𝓤 P (conj_l 𝓤 (fact 𝓤 P) (fact 𝓤 Q)) (λ p.
      fact_use 𝓤 Q (conj_r 𝓤 (fact 𝓤 P) (fact 𝓤 Q)) (λ q. fact_i 𝓤 R (conj 𝓤 (fact 𝓤 P) (fact 𝓤 Q)) (f p q)))

module _ (T : Ended) (same : Sameness T) (c : Contract T)
    (Says : (κs : Lfts T.signature.lifetimes) → Args T.signature κs → Res T.signature κs → AtExit T κs → Type 0) where
  -- the clauses that say this and no more
  abbrev only : {M : Type 1} (𝓤 : Ura M) (κs : Lfts T.signature.lifetimes) → Args T.signature κs → ClausesAt 𝓤 T κs
  only 𝓤 κs a = record { ghost = Unit {0}; requires = λ g. emp 𝓤; ensures = λ g r e. fact 𝓤 (Says κs a r e) }

  pub settles :
      ((M : Type 1) (𝓤 : Ura M) (𝓛 : Logic 𝓤) (mem : Memory → SProp 𝓤) (run : Routine → Fun 𝓤) (κs : Lfts T.signature.lifetimes) (a : Args T.signature κs)
      → only 𝓤 κs a ≡ c M 𝓤 𝓛 mem run κs a)
      → ((κs : Lfts T.signature.lifetimes) (a : Args T.signature κs) (x y : Outcome T κs a)
      → Says κs a x.answer (at_exit T κs a x.left) → Says κs a y.answer (at_exit T κs a y.left)
      → same κs x.answer y.answer × (x.left ≡ y.left))
      → SettledBy T same c
  settles is one M 𝓤 𝓛 mem run κs a =
      subst (λ (d : ClausesAt 𝓤 T κs). SettledAt 𝓤 T κs a d same) (is M 𝓤 𝓛 mem run κs a)
      (record { asks_nothing = λ g. id⊢ 𝓤 (emp 𝓤); one_outcome = λ g x y. both 𝓤 _ _ _ (one κs a x y) })
