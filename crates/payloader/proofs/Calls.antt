-- The writing calls, by what comparing the lists answers. Assumes nothing.
--     one-packet   a run of one packet is that packet alone
use mathlib.Core.Path.{◌≡◌, refl, sym, ap, ◌∙◌}
use Prim.Native.Nat.{ℕ, ◌-◌, ◌≤◌, ◌<◌}
use native.Mathlib.Nat.{zero-add}
use native.Mathlib.Omega.{arith}
use mathlib.Core.Bool.{Bool, true, false}
use mathlib.Core.List.{List}
use lib.ListN.{length}
use lib.Seq.{sets, sets-eq}
use lib.Dec.{ltb, leb}
use borrow.Author.Tests.{lt-ltb, le-ltb, ltb-true, ltb-false, le-leb, lt-leb}
use Rattle.base.specs.Answers.{Answer, given, refused, stored}
use Rattle.base.specs.Lists.{joined}
use Rattle.base.proofs.Tests.{split_on}
use Rattle.packetizer.specs.Call.{unit_plan, same_plan}
use Rattle.packetizer.specs.declared.Planned.{Planned}
use Rattle.packetizer.proofs.Same.{same_means}
use Rattle.payloader.specs.Payload.{payload_at}
use Rattle.payloader.specs.Call.{written, Inputs, After, leaves, answer_for, writes, write_packet, packets_from, write_packets}
use Rattle.payloader.specs.declared.Written.{Written}
use Rattle.payloader.proofs.Runs.{run_one}

-- what comparing the lists answers
abbrev pub compares : Inputs → Answer Planned
compares i = same_plan i.mtu i.unit i.obus i.plan

-- ---- the outcomes

module _ (there : ℕ → Bool) (bytes : List ℕ) (i : Inputs) where
  outcome : (r : Answer Written) (out' : List ℕ) → r ≡ answer_for there bytes i → out' ≡ stored r bytes i.out → leaves r out' ≡ writes there bytes i
  outcome r out' e s =
      let t : out' ≡ stored (answer_for there bytes i) bytes i.out = s ∙ ap (λ (x : Answer Written). stored x bytes i.out) e in
      λ j. leaves (e j) (t j)

  pub outcome_refused : (n at : ℕ) → refused n at ≡ compares i → leaves (refused n at) i.out ≡ writes there bytes i
  unfolding answer_for
  outcome_refused n at e = outcome (refused n at) i.out (ap (written there bytes (length i.out)) e) refl

  module _ (p : Planned) (e : given p ≡ compares i) where
    pub outcome_11 : there p.packets ≡ false → leaves (refused 11 0) i.out ≡ writes there bytes i
    unfolding answer_for
    outcome_11 t = outcome (refused 11 0) i.out (rw (← e, t)) refl

    module _ (t : there p.packets ≡ true) (n : ℕ) (b : n ≡ length bytes) where
      pub outcome_10 : length i.out < n → leaves (refused 10 0) i.out ≡ writes there bytes i
      unfolding answer_for
      outcome_10 h = outcome (refused 10 0) i.out (rw (← e, t, lt-ltb (length i.out) (length bytes) (omega arith))) refl

      pub outcome_written : n ≤ length i.out → {out' : List ℕ} → out' ≡ sets i.out 0 bytes → leaves (given (record { bytes = n })) out' ≡ writes there bytes i
      unfolding answer_for
      outcome_written h {out'} s =
          outcome _ out' (rw (← e, t, ← b, le-ltb (length i.out) n h)) (s ∙ sets-eq bytes i.out 0 (omega arith) ∙ rw (zero-add (length bytes)))

-- ---- a run of one packet

alike : (i : Inputs) (there there' : ℕ → Bool) (bytes bytes' : List ℕ)
    → ((p : Planned) → given p ≡ compares i → (there p.packets ≡ there' p.packets) × (there p.packets ≡ true → bytes ≡ bytes'))
    → writes there bytes i ≡ writes there' bytes' i
unfolding answer_for
alike i there there' bytes bytes' h = go (compares i) refl
  where
    by : Answer Planned → (ℕ → Bool) → List ℕ → After
    by a t l = leaves (written t l (length i.out) a) (stored (written t l (length i.out) a) l i.out)

    go : (a : Answer Planned) → a ≡ compares i → by a there bytes ≡ by a there' bytes'
    go (refused n at) e = refl
    go (given p) e = split_on (there p.packets)
        (λ t. rw (sym (h p e).0 ∙ t, t, (h p e).1 t))
        (λ t. rw (sym (h p e).0 ∙ t, t))

pub one_packet : (k : ℕ) (i : Inputs) → write_packets k 1 i ≡ write_packet k i
one_packet k i = alike i (λ packets. leb 1 (packets - k)) (ltb k) (joined (packets_from k 1 i)) (payload_at i.mtu i.unit k)
    (λ p e. (there p, λ t. run_one i.mtu i.unit k (inside p e t)))
  where
    there : (p : Planned) → leb 1 (p.packets - k) ≡ ltb k p.packets
    there p = split_on (ltb k p.packets)
        (λ t. le-leb 1 (p.packets - k) (omega (arith, ltb-true k p.packets t)) ∙ sym t)
        (λ t. lt-leb 1 (p.packets - k) (omega (arith, ltb-false k p.packets t)) ∙ sym t)

    inside : (p : Planned) → given p ≡ compares i → leb 1 (p.packets - k) ≡ true → k < length (unit_plan i.mtu i.unit)
    inside p e t = omega (arith, ltb-true k p.packets (sym (there p) ∙ t), (same_means e).plan_count)
