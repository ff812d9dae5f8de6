-- Middle and last fragments (P9, P10): a step, and what the code's loop keeps. Assumes nothing.
use mathlib.Core.Path.{◌≡◌, refl, sym, ap, ap₂, ◌∙◌}
use Prim.Native.Nat.{ℕ, zero, suc, ◌+◌, ◌-◌, ◌*◌, ◌≤◌, ◌<◌}
use native.Mathlib.Numerals.{sub-one}
use native.Mathlib.Omega.{arith}
use mathlib.Core.Bool.{Bool, true}
use mathlib.Core.List.{List, [], ◌∷◌, ◌++◌, append_assoc, append-nil}
use lib.ListN.{length, length-append}
use borrow.Author.Tests.{lt-ltb, le-ltb}
use Rattle.obu.specs.Unit.{unit_limit}
use Rattle.packetizer.specs.Plan.{alone, start_after, start_limit, Placing, filling, closing_then, spread}
use Rattle.packetizer.specs.Paper.{recorded}
use Rattle.packetizer.specs.Records.{plan_numbers}
use Rattle.packetizer.specs.Inside.{Closable, Closed}
use Rattle.packetizer.specs.declared.PacketMetadata.{PacketMetadata}
use Rattle.packetizer.proofs.Stores.{recorded_none, recorded_append}
use Rattle.packetizer.proofs.Starts.{lined_sum, spread_lined}

pub spread_more : (most room i s o start : ℕ) → 1 ≤ most → room < s - o
    → spread most room i s o start ≡ closing_then (alone i o room start) (spread (most - 1) room i s (o + room))
unfolding spread
spread_more zero room i s o start p h = absurd (omega arith)
spread_more (suc most) room i s o start p h = rw (lt-ltb room (s - o) h, sub-one)

pub spread_last : (most room i s o start : ℕ) → s - o ≤ room → spread most room i s o start ≡ filling (alone i o (s - o) start)
unfolding spread
spread_last zero room i s o start h = refl
spread_last (suc most) room i s o start h = rw (le-ltb room (s - o) h)

-- ---- the loop: n records are stored, o bytes are placed, the next payload starts at `next`

pub record Spreading (store : Bool) (room i s from start records : ℕ) (l₀ l : List ℕ) (n o next : ℕ) : Type 0 where
  pub most : ℕ
  pub done : List PacketMetadata
  pub enough : s ≤ o + most
  pub inside : o < s
  pub counted : n ≡ records + length done
  pub kept : length l ≡ length l₀
  pub closed : (spread s room i s from start).closed ≡ done ++ (spread most room i s o next).closed
  pub current : (spread s room i s from start).current ≡ (spread most room i s o next).current
  pub wrote : l ≡ recorded store l₀ records done

pub spreading_first : {store : Bool} {room i s from start records : ℕ} {l : List ℕ} → from < s → Spreading store room i s from start records l l records from start
spreading_first {store} {room} {i} {s} {from} {start} {records} {l} h =
    record {
      most = s;
      done = [];
      enough = omega arith;
      inside = h;
      counted = omega arith;
      kept = refl;
      closed = refl;
      current = refl;
      wrote = recorded_none store l records;
    }

module _ {store : Bool} {room i s from start records : ℕ} {l₀ l : List ℕ} {n o next : ℕ} (w : Spreading store room i s from start records l₀ l n o next) where
  -- the packet that is closed next, and what comes after it
  abbrev middle : PacketMetadata
  middle = alone i o room next

  abbrev after : Placing
  after = spread (w.most - 1) room i s (o + room) (start_after middle)

  next_closed : room < s - o → (spread s room i s from start).closed ≡ w.done ++ (middle ∷ after.closed)
  next_closed h = w.closed ∙ ap (λ (x : Placing). w.done ++ x.closed) (spread_more w.most room i s o next (omega arith) h)

  next_current : room < s - o → (spread s room i s from start).current ≡ after.current
  next_current h = w.current ∙ ap (λ (x : Placing). x.current) (spread_more w.most room i s o next (omega arith) h)

  next_count_lem : room < s - o → n + 1 ≤ records + length (spread s room i s from start).closed
  next_count_lem h = omega (arith, ap length (next_closed h), length-append w.done (middle ∷ after.closed))

  -- it is one of the plan's: it can be stored, and what comes after it starts where it ends
  module _ (c : Closable store l₀ records (spread s room i s from start)) (h : room < s - o) where
    pub spreading_room : store ≡ true → (n + 1) * plan_numbers ≤ length l
    spreading_room t = omega (arith, c.room t, next_count_lem h, w.kept)

    pub spreading_near : start_after middle ≤ start_limit
    spreading_near =
        omega (arith, c.near, ap (λ (p : PacketMetadata). p.payload_start) (next_current h), lined_sum (start_after middle) after (spread_lined (w.most - 1) room i s (o + room) (start_after middle)))

  pub spreading_next : {l' : List ℕ} {p : PacketMetadata} → 1 ≤ room → room < s - o → length l' ≡ length l → p ≡ middle → l' ≡ recorded store l n (p ∷ [])
      → Spreading store room i s from start records l₀ l' (n + 1) (o + room) (start_after p)
  spreading_next r h k q e =
      let a = middle ∷ [] in
      rw q (record {
        most = w.most - 1;
        done = w.done ++ a;
        enough = omega arith;
        inside = omega arith;
        counted = omega (arith, length-append w.done a);
        kept = k ∙ w.kept;
        closed = next_closed h ∙ sym (append_assoc w.done a after.closed);
        current = next_current h;
        wrote =
            e
            ∙ ap (λ (x : PacketMetadata). recorded store l n (x ∷ [])) q
            ∙ ap₂ (λ (x : List ℕ) (m : ℕ). recorded store x m a) w.wrote w.counted
            ∙ recorded_append store l₀ records w.done a;
      })

  pub spreading_end : {p : PacketMetadata} → s - o ≤ room → p ≡ alone i o (s - o) next → Closed store l₀ records (spread s room i s from start) p n l
  spreading_end h q =
      let e : spread w.most room i s o next ≡ filling (alone i o (s - o) next) = spread_last w.most room i s o next h in
      let d : (spread s room i s from start).closed ≡ w.done = w.closed ∙ ap (λ (x : Placing). w.done ++ x.closed) e ∙ append-nil w.done in
      record {
        current = q ∙ sym (w.current ∙ ap (λ (x : Placing). x.current) e);
        counted = w.counted ∙ ap (λ (ps : List PacketMetadata). records + length ps) (sym d);
        wrote = w.wrote ∙ ap (recorded store l₀ records) (sym d);
      }
