-- The writing calls, by what they answer: what is so if anything is written, and what they refuse with. Assumes nothing.
use mathlib.Core.Path.{◌≡◌, refl, ◌∙◌}
use Prim.Native.Nat.{ℕ, ◌≤◌}
use native.Mathlib.Omega.{arith}
use mathlib.Core.Logic.{inl, inr, ⊎_elim}
use mathlib.Core.Bool.{Bool, true}
use mathlib.Core.List.{List}
use lib.ListN.{length, drop, length-append, length-drop}
use lib.Dec.{ltb}
use borrow.Author.Tests.{ltb-false, le-ltb}
use Rattle.base.specs.Answers.{Answer, given, refused, stored}
use Rattle.base.specs.Lists.{front}
use Rattle.base.proofs.Tests.{by_cond}
use Rattle.packetizer.specs.declared.Planned.{Planned}
use Rattle.packetizer.proofs.Same.{same_refused}
use Rattle.payloader.specs.Call.{Inputs, leaves, written, answer_for, writes}
use Rattle.payloader.specs.declared.Written.{Written}
use Rattle.payloader.proofs.Calls.{compares}
use Rattle.payload_laws.specs.Singly.{OfWriting}

-- no answer is both
pub never_both : {A : Type 0} {a : A} {n at : ℕ} → given a ≡ refused n at → ⊥
never_both e = let z : ◌≡◌ {A = ℕ} 0 1 = cc in omega arith

module _ (there : ℕ → Bool) (bytes : List ℕ) (i : Inputs) where
  -- of every answer: the lists are refused, a packet is missing, the space is too little; or none of these
  by_answer_lem : (P : Answer Written → Type 0)
      → ((n at : ℕ) → refused n at ≡ compares i → P (refused n at))
      → P (refused 11 0)
      → P (refused 10 0)
      → ((q : Planned) → given q ≡ compares i → there q.packets ≡ true → length bytes ≤ length i.out → P (given (record { bytes = length bytes })))
      → P (answer_for there bytes i)
  unfolding answer_for
  by_answer_lem P refuses missing little gives = go (compares i) refl
    where
      go : (a : Answer Planned) → a ≡ compares i → P (written there bytes (length i.out) a)
      go (refused n at) s = refuses n at s
      go (given q) s =
          by_cond P (there q.packets) _ _
          (λ t. by_cond P (ltb (length i.out) (length bytes)) _ _ (λ u. little) (λ u. gives q s t (ltb-false (length i.out) (length bytes) u)))
          (λ t. missing)

  -- none of these
  pub writes_given : (q : Planned) → given q ≡ compares i → there q.packets ≡ true → length bytes ≤ length i.out
      → writes there bytes i ≡ leaves (given (record { bytes = length bytes })) (front bytes i.out)
  unfolding answer_for
  writes_given q e t h = rw (← e, t, le-ltb (length i.out) (length bytes) h)

  -- only so is anything written
  pub record Wrote : Type 0 where
    pub by : Planned
    pub same : given by ≡ compares i
    pub inside : there by.packets ≡ true
    pub room : length bytes ≤ length i.out

  pub given_wrote : (w : Written) → given w ≡ (writes there bytes i).answer → Wrote
  given_wrote w e =
      by_answer_lem (λ a. given w ≡ a → Wrote)
      (λ n at s f. absurd (never_both f))
      (λ f. absurd (never_both f))
      (λ f. absurd (never_both f))
      (λ q s t r f. record { by = q; same = s; inside = t; room = r })
      e

  -- the output keeps its length
  pub writes_length : length (writes there bytes i).out ≡ length i.out
  writes_length =
      by_answer_lem (λ a. length (stored a bytes i.out) ≡ length i.out)
      (λ n at s. refl)
      refl
      refl
      (λ q s t r. length-append bytes (drop (length bytes) i.out) ∙ omega (arith, length-drop (length bytes) i.out))

  pub writes_refused : (n at : ℕ) → refused n at ≡ (writes there bytes i).answer → OfWriting n
  writes_refused n at e =
      by_answer_lem (λ a. refused n at ≡ a → OfWriting n)
      (λ m o s f.
      let g : n ≡ m = cc in
      ⊎_elim
      (λ h. (inl (omega arith), λ z. omega arith, λ z. omega arith))
      (λ h. (inr (inl (omega arith)), λ z. omega arith, λ z. omega arith))
      (same_refused i.mtu i.unit i.obus i.plan s))
      (λ f. let g : n ≡ 11 = cc in (inr (inr (inl g)), λ z. omega arith, λ z. omega arith))
      (λ f. let g : n ≡ 10 = cc in (inr (inr (inr g)), λ z. omega arith, λ z. omega arith))
      (λ q s t r f. let z : ◌≡◌ {A = ℕ} 0 1 = cc in absurd (omega arith))
      e
