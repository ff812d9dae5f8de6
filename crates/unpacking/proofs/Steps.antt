-- One packet given to the receiver, by what was read of its payload. Assumes nothing.
use mathlib.Core.Path.{◌≡◌, refl, sym, ap, ◌∙◌}
use Prim.Native.Nat.{ℕ, ◌≤◌, ◌<◌}
use native.Mathlib.Omega.{arith}
use mathlib.Core.List.{List}
use lib.ListN.{length, take}
use lib.Dec.{ltb}
use borrow.Author.Tests.{lt-ltb, le-ltb}
use Rattle.base.specs.Answers.{Answer, given, refused}
use Rattle.base.proofs.Tests.{split_on}
use Rattle.train.specs.declared.RecordFields.{RecordFields}
use Rattle.receiver.specs.Call as call
use Rattle.receiver.specs.Call.{Taken, Inputs, inputs, outcome, After, leaves, answering, after, after_taking, received}
use Rattle.receiver.specs.declared.State.{State}
use Rattle.receiver.specs.declared.Received.{Received}
use Rattle.receiver.proofs.Laws.{answer_within}
use Rattle.unpacking.specs.Unpack.{Step, takes, passes, breaks, step_by, step_of}
use Rattle.unpacking.specs.Paper.{answered}

-- ---- one record

module _ (state : State) (f : RecordFields) (l store out : List ℕ) where
  -- this step is answered, and leaves these bytes
  abbrev Answers : Step Received → List ℕ → List ℕ → After (Step Taken) → Type 0
  Answers s store' out' x = leaves s store' out' ≡ answering answered x

  pub step_cut : length l < f.length → Answers (breaks 22) store out (step_of state f l store out)
  unfolding step_of
  step_cut h = rw (lt-ltb (length l) f.length h)

  -- the packet that the receiver is given, and what it makes of it
  abbrev given_it : Inputs
  given_it = inputs state f.number (take f.length l) store out

  step_whole : f.length ≤ length l → step_of state f l store out ≡ answering step_by (after_taking given_it)
  unfolding step_of
  step_whole h = rw (le-ltb (length l) f.length h)

  pub step_received : {a b : Answer Received} {store' out' : List ℕ} → f.length ≤ length l → a ≡ b
      → leaves b store' out' ≡ received given_it → Answers (step_by a) store' out' (step_of state f l store out)
  step_received {store' = store'} {out'} h q r =
      ap (λ (x : Answer Received). leaves (step_by x) store' out') q
      ∙ ap (answering step_by) r
      ∙ same (after_taking given_it)
      ∙ ap (answering answered) (sym (step_whole h))
    where
      by_answer_lem : (a : Answer Taken) → step_by (call.answered a) ≡ answered (step_by a)
      by_answer_lem (given t) = refl
      by_answer_lem (refused k at) = refl

      same : (x : After (Answer Taken)) → answering step_by (answering call.answered x) ≡ answering answered (answering step_by x)
      same x = ap (λ (s : Step Received). leaves s x.store x.output) (by_answer_lem x.answer)

  -- what goes out is within the output
  pub step_within : {t : Taken} → takes t ≡ (step_of state f l store out).answer → length t.bytes ≤ length out
  unfolding step_of
  step_within {t} e = split_on (ltb (length l) f.length)
      (λ q. let cut : takes t ≡ breaks 22 = rw q at e in let z : ◌≡◌ {A = ℕ} 0 1 = cc in absurd (omega arith))
      (λ q. by (outcome given_it) refl (rw q at e))
    where
      by : (a : Answer Taken) → a ≡ outcome given_it → takes t ≡ step_by (after a store out).answer → length t.bytes ≤ length out
      by (given x) q f =
          let same : t ≡ x = cc in
          rw same (answer_within given_it (call.received_of x) (ap (λ (a : Answer Taken). call.answered (after a store out).answer) q))
      by (refused k at) q f = let z : ◌≡◌ {A = ℕ} 0 1 = cc in absurd (omega arith)

-- ---- a step, by what is answered

pub answered_breaks : (s : Step Taken) (k : ℕ) → answered s ≡ breaks k → s ≡ breaks k
answered_breaks (takes t) k e = let z : ◌≡◌ {A = ℕ} 0 1 = cc in absurd (omega arith)
answered_breaks (passes n) k e = let z : ◌≡◌ {A = ℕ} 0 1 = cc in absurd (omega arith)
answered_breaks (breaks n) k e = let z : n ≡ k = cc in ap breaks z

pub answered_passes : (s : Step Taken) (k : ℕ) → answered s ≡ passes k → s ≡ passes k
answered_passes (takes t) k e = let z : ◌≡◌ {A = ℕ} 0 1 = cc in absurd (omega arith)
answered_passes (passes n) k e = let z : n ≡ k = cc in ap passes z
answered_passes (breaks n) k e = let z : ◌≡◌ {A = ℕ} 0 1 = cc in absurd (omega arith)

pub answered_takes : (s : Step Taken) (r : Received) → answered s ≡ takes r → (t : Taken) × (s ≡ takes t) × (r ≡ call.received_of t)
answered_takes (takes t) r e = let z : r ≡ call.received_of t = cc in (t, refl, z)
answered_takes (passes n) r e = let z : ◌≡◌ {A = ℕ} 0 1 = cc in absurd (omega arith)
answered_takes (breaks n) r e = let z : ◌≡◌ {A = ℕ} 0 1 = cc in absurd (omega arith)
