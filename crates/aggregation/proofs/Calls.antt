-- The definition, by the tests that both calls make. Assumes nothing.
use mathlib.Core.Path.{◌≡◌, sym, ap}
use Prim.Native.Nat.{ℕ, ◌+◌, ◌≤◌, ◌<◌}
use native.Mathlib.Omega.{arith}
use mathlib.Core.List.{List}
use mathlib.Core.Bool.{Bool, true, false, true≢false, cond}
use lib.Dec.{ltb, leb, eqb}
use lib.ListN.{length, get_or}
use borrow.Author.Tests.{le-leb, lt-leb, leb-false, eqb-false, ltb-false}
use Rattle.base.specs.Answers.{Answer, given, refused}
use Rattle.base.proofs.Tests.{split_on}
use Rattle.obu.specs.Records.{no_obu}
use Rattle.obu.specs.declared.Obu.{Obu}
use Rattle.packetizer.specs.Records.{no_packet}
use Rattle.packetizer.specs.declared.PacketMetadata.{PacketMetadata}
use Rattle.aggregation.specs.Header.{last_obu, lacking, any_outside, byte_of, header_of}

-- a record that lacks nothing has elements, and their OBUs are among n
pub whole_there : (n : ℕ) (p : PacketMetadata) → lacking n p ≡ false → (1 ≤ p.num_obu_elements) × (p.first_obu_index + p.num_obu_elements ≤ n)
whole_there n p e =
    split_on (eqb p.num_obu_elements 0)
    (λ z. absurd (true≢false (rw z at e)))
    (λ z.
    split_on (ltb n (p.first_obu_index + p.num_obu_elements))
    (λ s. absurd (true≢false (rw (z, s) at e)))
    (λ s.
    let u : p.num_obu_elements ≡ 0 → ⊥ = eqb-false _ _ z in
    (omega arith, ltb-false n (p.first_obu_index + p.num_obu_elements) s)))

-- what is given is no refusal, and is one value
given_refused : {A : Type 0} {a : A} {m at : ℕ} → given a ≡ refused m at → ⊥
given_refused e = true≢false (ap is_given e)
  where
    is_given : {A : Type 0} → Answer A → Bool
    is_given (given a) = true
    is_given (refused m at) = false

given_same : {a b : ℕ} → given a ≡ given b → a ≡ b
given_same {a} e = ap value e
  where
    value : Answer ℕ → ℕ
    value (given x) = x
    value (refused m at) = a

module _ (unit : List ℕ) (obus : List Obu) (packets : List PacketMetadata) (k : ℕ) where
  -- what is so where a header is given
  pub record Whole : Type 0 where
    pub there : k < length packets
    pub lacks_nothing : lacking (length obus) (get_or packets k no_packet) ≡ false
    pub inside : any_outside unit obus ≡ false

  pub given_whole : {h : ℕ} → header_of unit obus packets k ≡ given h → Whole
  unfolding header_of
  given_whole {h} e =
      split_on (leb (length packets) k)
      (λ t. absurd (none_given (rw t at e)))
      (λ t.
      split_on (lacking (length obus) (get_or packets k no_packet))
      (λ u. absurd (none_given (rw (t, u) at e)))
      (λ u.
      split_on (any_outside unit obus)
      (λ v. absurd (none_given (rw (t, u, v) at e)))
      (λ v. record { there = leb-false (length packets) k t; lacks_nothing = u; inside = v })))
    where
      none_given : refused 11 0 ≡ given h → ⊥
      none_given f = let z : ◌≡◌ {A = ℕ} 0 1 = cc in omega arith

  pub none_there : length packets ≤ k → refused 11 0 ≡ header_of unit obus packets k
  unfolding header_of
  none_there h = rw (le-leb (length packets) k h)

  -- by what `last_of` answers for record k
  module _ (there : k < length packets) (n : ℕ) (p : PacketMetadata) (count : n ≡ length obus) (found : p ≡ get_or packets k no_packet) where
    pub lacks : {m at : ℕ} → refused m at ≡ cond (lacking n p) (refused 11 0) (given (last_obu p)) → refused m at ≡ header_of unit obus packets k
    unfolding header_of
    lacks e =
        split_on (lacking n p)
        (λ t. rw (lt-leb (length packets) k there, ← count, ← found, t) (rw t at e))
        (λ t. absurd (given_refused (sym (rw t at e))))

    -- OBU i is the last element's
    pub answers : {i : ℕ} → given i ≡ cond (lacking n p) (refused 11 0) (given (last_obu p)) → (a : Answer ℕ)
        → ((get_or obus i no_obu).size ≡ (get_or obus (last_obu p) no_obu).size → a ≡ cond (any_outside unit obus) (refused 11 0) (given (byte_of unit obus p k)))
        → a ≡ header_of unit obus packets k
    unfolding header_of
    answers e a f =
        split_on (lacking n p)
        (λ t. absurd (given_refused (rw t at e)))
        (λ t.
        rw (lt-leb (length packets) k there, ← count, ← found, t)
        (f (ap (λ (j : ℕ). (get_or obus j no_obu).size) (given_same (rw t at e)))))
