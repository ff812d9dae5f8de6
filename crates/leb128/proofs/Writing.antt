-- Laws of writing a size field: a step of it, and what the two loops keep. Assumes nothing.
use mathlib.Core.Path.{◌≡◌, refl, sym, ap, ◌∙◌}
use Prim.Native.Nat.{ℕ, zero, suc, ◌+◌, ◌-◌, ◌/◌, ◌%◌, ◌≤◌, ◌<◌}
use native.Mathlib.Numerals.{add-one, sub-one}
use native.Mathlib.Omega.{arith}
use mathlib.Core.List.{List, [], ◌∷◌}
use lib.ListN.{length, set, length-set}
use lib.Seq.{sets, sets-eq}
use lib.Bits.{bit_and, bit_or, and_mask, or_shifted_r}
use lib.Dec.{ltb}
use borrow.Author.Tests.{lt-ltb, le-ltb}
use Rattle.base.specs.Lists.{replaced}
use Rattle.base.proofs.Tests.{by_cond}
use Rattle.leb128.specs.Field.{encode_in, encode, largest_value}
use Rattle.leb128.specs.Laws.{cap}

-- ---- a step

pub encode_last : (k v : ℕ) → 1 ≤ k → v < 128 → encode_in k v ≡ v ∷ []
unfolding encode_in
encode_last zero v f h = absurd (omega arith)
encode_last (suc k) v f h = rw (lt-ltb v 128 h)

pub encode_more : (k v : ℕ) → 1 ≤ k → 128 ≤ v → encode_in k v ≡ (128 + v % 128) ∷ encode_in (k - 1) (v / 128)
unfolding encode_in
encode_more zero v f h = absurd (omega arith)
encode_more (suc k) v f h = rw (le-ltb v 128 h, sub-one)

pub encode_pos : (k v : ℕ) → 1 ≤ k → 1 ≤ length (encode_in k v)
unfolding encode_in
encode_pos zero v f = absurd (omega arith)
encode_pos (suc k) v f =
    by_cond (λ (l : List ℕ). 1 ≤ length l) (ltb v 128) (v ∷ []) ((128 + v % 128) ∷ encode_in k (v / 128)) (λ t. omega arith) (λ t. omega arith)

pub cap_step : (k v : ℕ) → v < cap k → 128 ≤ v → (v / 128 < cap (k - 1)) × (2 ≤ k)
cap_step zero v h b = absurd (omega arith)
cap_step (suc zero) v h b = absurd (omega arith)
cap_step (suc (suc k)) v h b = rw sub-one (omega arith)

-- ---- the masks

pub low7 : (b : ℕ) → bit_and b 127 ≡ b % 128
low7 b = and_mask b 7

pub byte7 : (r : ℕ) → bit_or (bit_and r 127) 128 ≡ 128 + r % 128
byte7 r = ap (λ (x : ℕ). bit_or x 128) (low7 r) ∙ or_shifted_r 1 7 (r % 128) (omega arith)

-- ---- the loop that counts the bytes: n are counted

pub record Counting (v n rest : ℕ) : Type 0 where
  pub from : 1 ≤ n
  pub most : n ≤ 5
  pub small : rest < cap (6 - n)
  pub ends : n + length (encode_in (6 - n) rest) ≡ length (encode v) + 1

pub counting_first : (v : ℕ) → v ≤ largest_value → Counting v 1 v
counting_first v h = record { from = omega arith; most = omega arith; small = omega arith; ends = omega arith }

pub counting_next : (v n rest : ℕ) → Counting v n rest → 128 ≤ rest → Counting v (n + 1) (rest / 128)
counting_next v n rest c h =
    let s : (rest / 128 < cap (6 - n - 1)) × (2 ≤ 6 - n) = cap_step (6 - n) rest c.small h in
    let e : 6 - (n + 1) ≡ 6 - n - 1 = omega arith in
    let l : length (encode_in (6 - n) rest) ≡ suc (length (encode_in (6 - n - 1) (rest / 128))) = ap length (encode_more (6 - n) rest (omega arith) h) in
    record {
      from = omega arith;
      most = omega arith;
      small = rw e s.0;
      ends = rw e (omega arith);
    }

pub counting_last : (v n rest : ℕ) → Counting v n rest → rest < 128 → n ≡ length (encode v)
counting_last v n rest c h =
    let l : length (encode_in (6 - n) rest) ≡ 1 = ap length (encode_last (6 - n) rest (omega arith) h) in
    omega arith

-- ---- the loop that writes: the stores that are left, on the list as it is, give what all of them give on the list as it was

pub record Writing (out₀ : List ℕ) (at v : ℕ) (out : List ℕ) (i rest : ℕ) : Type 0 where
  pub from : at ≤ i
  pub most : i ≤ at + 4
  pub small : rest < cap (at + 5 - i)
  pub ends : i + length (encode_in (at + 5 - i) rest) ≡ at + length (encode v)
  pub same : length out ≡ length out₀
  pub room : at + length (encode v) ≤ length out₀
  pub to : sets out i (encode_in (at + 5 - i) rest) ≡ sets out₀ at (encode v)

pub writing_first : (out : List ℕ) (at v : ℕ) → v ≤ largest_value → at + length (encode v) ≤ length out → Writing out at v out at v
writing_first out at v h r =
    let e : at + 5 - at ≡ 5 = omega arith in
    record {
      from = omega arith;
      most = omega arith;
      small = rw e (omega arith);
      ends = rw e;
      same = refl;
      room = r;
      to = rw e;
    }

module _ (out₀ : List ℕ) (at v : ℕ) (out : List ℕ) (i rest : ℕ) (w : Writing out₀ at v out i rest) where
  pub writing_room : i < length out
  writing_room =
      let h : 1 ≤ length (encode_in (at + 5 - i) rest) = encode_pos (at + 5 - i) rest (omega arith) in
      omega arith

  pub writing_next : 128 ≤ rest → Writing out₀ at v (set out i (128 + rest % 128)) (i + 1) (rest / 128)
  writing_next h =
      let k : ℕ = at + 5 - i in
      let s : (rest / 128 < cap (k - 1)) × (2 ≤ k) = cap_step k rest w.small h in
      let e : at + 5 - (i + 1) ≡ k - 1 = omega arith in
      let m : encode_in k rest ≡ (128 + rest % 128) ∷ encode_in (k - 1) (rest / 128) = encode_more k rest (omega arith) h in
      let l : length (encode_in k rest) ≡ suc (length (encode_in (k - 1) (rest / 128))) = ap length m in
      record {
        from = omega arith;
        most = omega arith;
        small = rw e s.0;
        ends = rw e (omega arith);
        same = simp length-set w.same;
        room = w.room;
        to = rw (e, add-one) (sym (ap (sets out i) m) ∙ w.to);
      }

  pub writing_last : rest < 128 → (i + 1 ≡ at + length (encode v)) × (set out i rest ≡ replaced out₀ at (encode v))
  writing_last h =
      let k : ℕ = at + 5 - i in
      let m : encode_in k rest ≡ rest ∷ [] = encode_last k rest (omega arith) h in
      let l : length (encode_in k rest) ≡ 1 = ap length m in
      (omega arith, sym (ap (sets out i) m) ∙ w.to ∙ sets-eq (encode v) out₀ at w.room)
