-- One OBU placed, by the tests that decide it (P5 to P8). Assumes nothing.
use mathlib.Core.Path.{◌≡◌, sym, ap, ◌∙◌}
use Prim.Native.Nat.{ℕ, ◌+◌, ◌-◌, ◌*◌, ◌≤◌, ◌<◌}
use native.Mathlib.Omega.{arith}
use mathlib.Core.Bool.{Bool, true, false, cond}
use mathlib.Core.List.{List, [], ◌∷◌}
use lib.ListN.{length}
use borrow.Author.Tests.{lt-ltb, le-ltb, ltb-false}
use Rattle.base.proofs.Tests.{by_cond}
use Rattle.packetizer.specs.Plan.{new_packet, left_in, charge_of, fourth_or_later, is_full, charged, need_of, with_element, fragment_of, start_after, start_limit, Placing, filling, closing, closing_then, cut_at, put_in, spread, insert, place}
use Rattle.packetizer.specs.Paper.{recorded}
use Rattle.packetizer.specs.Records.{plan_numbers}
use Rattle.packetizer.specs.Inside.{Closable, Closed}
use Rattle.packetizer.specs.declared.PacketMetadata.{PacketMetadata}
use Rattle.packetizer.proofs.Stores.{recorded_none, recorded_append}
use Rattle.packetizer.proofs.Starts.{Lined, lined_sum}

module _ (room i s : ℕ) (p : PacketMetadata) where
  -- q is the packet with the charge, f the first fragment
  pub insert_whole : (q : PacketMetadata) → q ≡ charged p → need_of q s < left_in room q → insert room i s p ≡ filling (with_element q s)
  unfolding insert
  insert_whole q e h =
      ap (λ (x : PacketMetadata). put_in room i s p x (fragment_of room x s)) (sym e)
      ∙ ap (λ (t : Bool). cond t (filling (with_element q s)) (closing_then (cut_at p q (fragment_of room q s)) (spread s room i s (fragment_of room q s))))
      (lt-ltb (need_of q s) (left_in room q) h)

  pub insert_cut : (q : PacketMetadata) (f : ℕ) → q ≡ charged p → f ≡ fragment_of room q s → left_in room q ≤ need_of q s
      → insert room i s p ≡ closing_then (cut_at p q f) (spread s room i s f)
  unfolding insert
  insert_cut q f e g h =
      ap (λ (x : PacketMetadata). put_in room i s p x (fragment_of room x s)) (sym e)
      ∙ ap (put_in room i s p q) (sym g)
      ∙ ap (λ (t : Bool). cond t (filling (with_element q s)) (closing_then (cut_at p q f) (spread s room i s f))) (le-ltb (need_of q s) (left_in room q) h)

  pub place_new : (q : PacketMetadata) → q ≡ new_packet i (start_after p) → is_full room p ≡ true → place room i s p ≡ closing p (insert room i s q)
  unfolding place
  place_new q e h = rw (h, e)

  pub place_on : is_full room p ≡ false → place room i s p ≡ insert room i s p
  unfolding place
  place_on h = rw h

module _ (room : ℕ) (p : PacketMetadata) where
  -- a packet that is not full has room for the charge and a byte, or two
  pub not_full : is_full room p ≡ false → charge_of p + cond (fourth_or_later p) 2 1 ≤ left_in room p
  unfolding is_full
  not_full h = ltb-false (left_in room p) (charge_of p + cond (fourth_or_later p) 2 1) h

  pub one_more : is_full room p ≡ false → p.packet_size + charge_of p + 1 ≤ room
  one_more h =
      let l : charge_of p + cond (fourth_or_later p) 2 1 ≤ left_in room p = not_full h in
      omega (arith, by_cond (λ (x : ℕ). 1 ≤ x) (fourth_or_later p) 2 1 (λ t. omega arith) (λ t. omega arith))

  pub fragment_below : (s : ℕ) → fragment_of room p s ≤ s - 1
  unfolding fragment_of
  fragment_below s = omega arith

pub new_free : (i start room : ℕ) → 1 ≤ room → is_full room (new_packet i start) ≡ false
unfolding is_full charge_of
new_free i start room h = le-ltb (room - 0) 1 (omega arith)

-- ---- no packet is closed: q is the current one

pub filling_stored : {store : Bool} {l : List ℕ} {n : ℕ} {x : Placing} {q : PacketMetadata} → x ≡ filling q → Closed store l n x q n l
filling_stored {store} {l} {n} e =
    record {
      current = sym (ap (λ (z : Placing). z.current) e);
      counted = sym (ap (λ (z : Placing). n + length z.closed) e ∙ omega arith);
      wrote = recorded_none store l n ∙ sym (ap (λ (z : Placing). recorded store l n z.closed) e);
    }

-- ---- a packet that is closed, and what comes after it

module _ {p : PacketMetadata} {x y : Placing} (e : x ≡ closing p y) where
  closing_count : (n : ℕ) → n + length x.closed ≡ n + 1 + length y.closed
  closing_count n = ap (λ (z : Placing). n + length z.closed) e ∙ omega arith

  closing_current : x.current.payload_start ≡ y.current.payload_start
  closing_current = ap (λ (z : Placing). z.current.payload_start) e

  -- it can be stored; what comes after it starts where it ends; and what that asks
  pub closing_room : {store : Bool} {l : List ℕ} {n : ℕ} → Closable store l n x → store ≡ true → (n + 1) * plan_numbers ≤ length l
  closing_room {n = n} c w = omega (arith, c.room w, closing_count n)

  pub closing_near : {store : Bool} {l : List ℕ} {n : ℕ} → Closable store l n x → Lined (start_after p) y → start_after p ≤ start_limit
  closing_near c h = omega (arith, c.near, closing_current, lined_sum (start_after p) y h)

  pub closing_asks : {store : Bool} {l : List ℕ} {n : ℕ} → Closable store l n x → (l₁ : List ℕ) → length l₁ ≡ length l → Closable store l₁ (n + 1) y
  closing_asks {n = n} c l₁ k =
      record {
        few = omega (arith, c.few, closing_count n);
        near = omega (arith, c.near, closing_current);
        room = λ w. omega (arith, c.room w, closing_count n);
      }

  pub closing_stored : {store : Bool} {l l₁ l₂ : List ℕ} {n m : ℕ} {r : PacketMetadata} → l₁ ≡ recorded store l n (p ∷ []) → Closed store l₁ (n + 1) y r m l₂
      → Closed store l n x r m l₂
  closing_stored {store} {l} {n = n} a h =
      record {
        current = h.current ∙ sym (ap (λ (z : Placing). z.current) e);
        counted = h.counted ∙ sym (closing_count n);
        wrote =
            h.wrote
            ∙ ap (λ (k : List ℕ). recorded store k (n + 1) y.closed) a
            ∙ recorded_append store l n (p ∷ []) y.closed
            ∙ sym (ap (λ (z : Placing). recorded store l n z.closed) e);
      }
