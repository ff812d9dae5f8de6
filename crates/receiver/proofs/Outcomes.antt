-- The receive call's definition, by the tests that the code makes. Assumes nothing.
use Rattle.std.proofs.Common.{◌≡◌, ℕ, ◌≤◌, Bool, true, false, cond, ◌||◌, ltb, length, refl, ◌∙◌, arith, ltb-false, le-ltb, ne_eqb}
use Rattle.base.specs.Answers.{refused}
use Rattle.element.specs.Elements.{payload_limit}
use Rattle.element.specs.declared.Walked.{Walked}
use Rattle.handing.specs.Handing.{fragment_limit}
use Rattle.handing.specs.Inside.{parts_of}
use Rattle.handing.proofs.Cursors.{payload_some, payload_small}
use Rattle.receiver.specs.Packet.{packet_of}
use Rattle.receiver.specs.Joining.{is_ahead}
use Rattle.receiver.specs.Call.{too_long, opened, taken, held_in, Inputs, outcome, leaves, received}
use Rattle.receiver.specs.Inside.{Opened}

-- ---- so many open bytes

pub not_long : {space size : ℕ} → size ≤ space → size ≤ fragment_limit → too_long space size ≡ false
not_long {space} {size} g h = rw (le-ltb space size g, le-ltb fragment_limit size h)

pub long_not : {space size : ℕ} → too_long space size ≡ false → (size ≤ space) × (size ≤ fragment_limit)
long_not {space} {size} = go (ltb space size) refl (ltb fragment_limit size) refl
  where
    go : (a : Bool) → ltb space size ≡ a → (b : Bool) → ltb fragment_limit size ≡ b → a || b ≡ false → (size ≤ space) × (size ≤ fragment_limit)
    go true e b f z = let n : true ≡ false = z in let o : ◌≡◌ {A = ℕ} 0 1 = cc in absurd (omega arith)
    go false e true f z = let n : true ≡ false = z in let o : ◌≡◌ {A = ℕ} 0 1 = cc in absurd (omega arith)
    go false e false f z = (ltb-false space size e, ltb-false fragment_limit size f)

module _ (i : Inputs) where
  -- a refusal leaves all as it was
  pub leaves_refused : {n a : ℕ} → outcome i ≡ refused n a → leaves (refused n a) i.store i.output ≡ received i
  leaves_refused e = rw e refl

  -- ---- R13, R14

  module _ (h : too_long (length i.store) i.state.«open» ≡ false) where
    pub outcome_held : outcome i ≡ taken (length i.store) (length i.output) (held_in i.state i.store) i.packet
    unfolding outcome
    outcome_held = rw h

    module _ (some : length i.packet.payload ≡ 0 → ⊥) where
      module _ (l : length i.packet.payload ≤ payload_limit) (t : Bool) (e : t ≡ is_ahead i.state.begun i.state.last i.packet.label.number) where
        outcome_by : outcome i
            ≡ cond t (opened (length i.store) (length i.output) (held_in i.state i.store) i.packet (packet_of i.packet.payload)) (refused 14 0)
        unfolding taken
        outcome_by = outcome_held ∙ rw (ne_eqb (length i.packet.payload) 0 some, le-ltb payload_limit (length i.packet.payload) l, e)

        pub outcome_behind : t ≡ false → outcome i ≡ refused 14 0
        outcome_behind q = outcome_by ∙ rw q

  -- ---- a packet that is ahead and has been read

  pub outcome_opened : {all : Walked} → Opened i all
      → outcome i ≡ opened (length i.store) (length i.output) (held_in i.state i.store) i.packet (packet_of i.packet.payload)
  outcome_opened o =
      let w = o.read.whole in
      let some = payload_some i.packet.payload (parts_of i.packet.payload) w in
      outcome_by o.possible (λ e. omega (arith, some)) (payload_small i.packet.payload (parts_of i.packet.payload) w) _ refl ∙ rw o.forward
