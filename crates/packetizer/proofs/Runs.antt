-- Packets that go on where the one before ended: what is known of a closed and of a current packet. Assumes nothing.
use mathlib.Core.Path.{◌≡◌, refl, sym, subst}
use Prim.Native.Nat.{ℕ, ◌+◌, ◌-◌, ◌≤◌, ◌<◌}
use native.Mathlib.Omega.{arith}
use mathlib.Core.List.{List, [], ◌∷◌, ◌++◌}
use lib.ListN.{length, get_or}
use borrow.Author.Tests.{lt-ltb, le-ltb}
use Rattle.packetizer.specs.Plan.{alone, Placing}
use Rattle.packetizer.specs.Elements.{elements_of, element_bytes, field_bytes, body_size}
use Rattle.packetizer.specs.Laws.{Position, position, starts_at, ends_at, Sound, Runs, start_of}
use Rattle.packetizer.specs.declared.PacketMetadata.{PacketMetadata}
use Rattle.packetizer.proofs.Bodies.{elements_one}

-- a current packet that ends with the OBU before i
pub record Ends (room : ℕ) (sizes : List ℕ) (i : ℕ) (p : PacketMetadata) : Type 0 where
  pub some : 1 ≤ p.num_obu_elements
  pub next : p.first_obu_index + p.num_obu_elements ≡ i
  pub from : p.first_obu_offset < get_or sizes p.first_obu_index 0
  pub last : 1 ≤ p.last_obu_size
  pub whole : start_of p.num_obu_elements p.first_obu_offset + p.last_obu_size ≡ get_or sizes (i - 1) 0
  pub paid : p.packet_size ≡ body_size (elements_of sizes p)
  pub few : p.num_obu_elements ≤ p.packet_size
  pub fits : p.packet_size ≤ room

-- what an OBU closes leads from a position to the current packet, which ends with the OBU before i
abbrev pub Leads : ℕ → List ℕ → Position → ℕ → Placing → Type 0
Leads room sizes a i x = Runs room sizes a x.closed (starts_at x.current) × Ends room sizes i x.current

module _ (room : ℕ) (sizes : List ℕ) where
  pub runs_append : (a b c : Position) (ps qs : List PacketMetadata) → Runs room sizes a ps b → Runs room sizes b qs c → Runs room sizes a (ps ++ qs) c
  runs_append a b c [] qs h k = subst (λ (x : Position). Runs room sizes x qs c) (sym h) k
  runs_append a b c (p ∷ ps) qs h k = (h.0, h.1, runs_append (ends_at sizes p) b c ps qs h.2 k)

  -- ---- a packet that is closed as it is

  module _ (i : ℕ) (p : PacketMetadata) (h : Ends room sizes i p) where
    pub ends_at_lem : ends_at sizes p ≡ position i 0
    ends_at_lem =
        rw (h.next, le-ltb (start_of p.num_obu_elements p.first_obu_offset + p.last_obu_size) (get_or sizes (i - 1) 0) (omega (arith, h.whole)))

    pub ends_sound : i ≤ length sizes → Sound room sizes p
    ends_sound l =
        record {
          some = h.some;
          inside = omega (arith, h.next);
          from = h.from;
          last = h.last;
          within = rw h.next (omega (arith, h.whole));
          paid = h.paid;
          least = omega (arith, h.some, h.few);
          most = h.fits;
        }

    pub close_runs : i ≤ length sizes → (ps : List PacketMetadata) (b : Position) → Runs room sizes (position i 0) ps b → Runs room sizes (starts_at p) (p ∷ ps) b
    close_runs l ps b r = (refl, ends_sound l, subst (λ (a : Position). Runs room sizes a ps b) (sym ends_at_lem) r)

  -- ---- a packet with one element

  alone_paid : (i o n start : ℕ) → n ≡ body_size (elements_of sizes (alone i o n start))
  unfolding element_bytes field_bytes
  alone_paid i o n start = rw (elements_one sizes i o n) (omega arith)

  module _ (i o n start : ℕ) (inside : i < length sizes) (some : 1 ≤ n) (fits : n ≤ room) where
    pub alone_sound : o + n ≤ get_or sizes i 0 → Sound room sizes (alone i o n start)
    alone_sound h =
        let e : i + 1 - 1 ≡ i = omega arith in
        record {
          some = omega arith;
          inside = omega arith;
          from = omega arith;
          last = some;
          within = rw e h;
          paid = alone_paid i o n start;
          least = some;
          most = fits;
        }

    pub alone_ends : o + n ≡ get_or sizes i 0 → Ends room sizes (i + 1) (alone i o n start)
    alone_ends h =
        let e : i + 1 - 1 ≡ i = omega arith in
        record {
          some = omega arith;
          next = refl;
          from = omega arith;
          last = some;
          whole = rw e h;
          paid = alone_paid i o n start;
          few = some;
          fits = fits;
        }

  pub alone_cut : (i o n start : ℕ) → o + n < get_or sizes i 0 → ends_at sizes (alone i o n start) ≡ position i (o + n)
  alone_cut i o n start h =
      let e : i + 1 - 1 ≡ i = omega arith in
      rw (e, lt-ltb (o + n) (get_or sizes i 0) h)
