-- Length fields grow with what they count, and the largest fragment is the largest (P12). Assumes nothing.
use mathlib.Core.Path.{◌≡◌, refl, ap, ◌∙◌}
use Prim.Native.Nat.{ℕ, zero, suc, ◌+◌, ◌-◌, ◌/◌, ◌≤◌, ◌<◌}
use native.Mathlib.Nat.{sub-zero}
use native.Mathlib.Numerals.{sub-one}
use native.Mathlib.Omega.{arith}
use mathlib.Core.Bool.{Bool, true, false}
use lib.ListN.{length}
use lib.Dec.{ltb}
use borrow.Author.Tests.{ltb-true, ltb-false, leb-true, leb-false}
use Rattle.base.proofs.Tests.{by_cond, split_on}
use Rattle.leb128.specs.Field.{encode_in}
use Rattle.leb128.specs.Laws.{cap}
use Rattle.leb128.proofs.Reading.{cap_pos, cap_le}
use Rattle.leb128.proofs.Writing.{encode_last, encode_more, encode_pos}
use Rattle.packetizer.specs.Fragment.{field_size, fits_in, largest_fragment, Largest}

-- ---- how many bytes a length field has

module _ (k v : ℕ) where
  size_last : v < 128 → length (encode_in (suc k) v) ≡ 1
  size_last h = ap length (encode_last (suc k) v (omega arith) h)

  size_more : 128 ≤ v → length (encode_in (suc k) v) ≡ suc (length (encode_in k (v / 128)))
  size_more h = ap length (encode_more (suc k) v (omega arith) h) ∙ rw sub-one

size_most : (k v : ℕ) → length (encode_in k v) ≤ k
unfolding encode_in
size_most zero v = omega arith
size_most (suc k) v =
    let h : length (encode_in k (v / 128)) ≤ k = size_most k (v / 128) in
    split_on (ltb v 128)
    (λ t. omega (arith, size_last k v (ltb-true v 128 t)))
    (λ t. omega (arith, size_more k v (ltb-false v 128 t)))

size_mono : (k m n : ℕ) → m ≤ n → length (encode_in k m) ≤ length (encode_in k n)
unfolding encode_in
size_mono zero m n h = omega arith
size_mono (suc k) m n h =
    let i : length (encode_in k (m / 128)) ≤ length (encode_in k (n / 128)) = size_mono k (m / 128) (n / 128) (omega arith) in
    split_on (ltb m 128)
    (λ t. omega (arith, size_last k m (ltb-true m 128 t), encode_pos (suc k) n (omega arith)))
    (λ t.
    let g : 128 ≤ m = ltb-false m 128 t in
    omega (arith, size_more k m g, size_more k n (omega arith)))

-- below 128 to the j, at most j bytes; from there on, more
size_below : (k j v : ℕ) → 1 ≤ j → v < cap j → length (encode_in k v) ≤ j
unfolding encode_in
size_below zero j v p h = omega arith
size_below (suc k) zero v p h = absurd (omega arith)
size_below (suc k) (suc zero) v p h = omega (arith, size_last k v (omega arith))
size_below (suc k) (suc (suc j)) v p h =
    let i : length (encode_in k (v / 128)) ≤ suc j = size_below k (suc j) (v / 128) (omega arith) (omega arith) in
    split_on (ltb v 128)
    (λ t. omega (arith, size_last k v (ltb-true v 128 t)))
    (λ t. omega (arith, size_more k v (ltb-false v 128 t)))

size_above : (k j v : ℕ) → j < k → (1 ≤ j → cap j ≤ v) → suc j ≤ length (encode_in k v)
size_above zero j v p h = absurd (omega arith)
size_above (suc k) zero v p h = encode_pos (suc k) v (omega arith)
size_above (suc k) (suc zero) v p h =
    let g : 128 ≤ v = h (omega arith) in
    omega (arith, size_more k v g, encode_pos k (v / 128) (omega arith))
size_above (suc k) (suc (suc j)) v p h =
    let g : cap (suc (suc j)) ≤ v = h (omega arith) in
    let i : suc (suc j) ≤ length (encode_in k (v / 128)) = size_above k (suc j) (v / 128) (omega arith) (λ q. omega arith) in
    omega (arith, size_more k v (omega (arith, cap_pos j)))

pub field_pos : (n : ℕ) → 1 ≤ field_size n
field_pos n = encode_pos 5 n (omega arith)

pub field_most : (n : ℕ) → field_size n ≤ 5
field_most n = size_most 5 n

pub field_one : field_size 1 ≡ 1
field_one = size_last 4 1 (omega arith)

pub field_mono : (m n : ℕ) → m ≤ n → field_size m ≤ field_size n
field_mono m n h = size_mono 5 m n h

-- ---- the largest fragment

-- the next larger one does not fit
largest_by : (r n : ℕ) → (2 ≤ r → n + field_size n ≤ r) → r < n + 1 + field_size (n + 1) → (r ≤ 1 → n ≡ 0) → Largest r n
largest_by r n f g z =
    record {
      fits = f;
      most = λ m h. split_on (ltb n m)
          (λ t. let l : n < m = ltb-true n m t in absurd (omega (arith, field_mono (n + 1) m (omega arith))))
          (λ t. ltb-false n m t);
      none = z;
    }

pub largest_none : (r : ℕ) → r ≤ 1 → Largest r 0
largest_none r h = largest_by r 0 (λ p. absurd (omega arith)) (omega (arith, field_pos 1)) (λ p. refl)

pub largest_one : (r a b : ℕ) → Largest r a → Largest r b → a ≡ b
largest_one r a b x y =
    split_on (ltb r 2)
    (λ t.
    let l : r < 2 = ltb-true r 2 t in
    let p : a ≡ 0 = x.none (omega arith) in
    let q : b ≡ 0 = y.none (omega arith) in
    omega arith)
    (λ t.
    let l : 2 ≤ r = ltb-false r 2 t in
    omega (arith, y.most a (x.fits l), x.most b (y.fits l)))

-- of those just below r, the first that fits
module _ (r : ℕ) where
  largest_at : (k : ℕ) → r < r - k + field_size (r - k) → r - suc k + field_size (r - suc k) ≤ r → Largest r (r - suc k)
  largest_at k g f = largest_by r (r - suc k) (λ p. f) (next (ltb k r) refl) (λ p. omega (arith, field_pos (r - suc k)))
    where
      next : (t : Bool) → ltb k r ≡ t → r < r - suc k + 1 + field_size (r - suc k + 1)
      next true t =
          let l : k < r = ltb-true k r t in
          let e : r - suc k + 1 ≡ r - k = omega arith in
          rw e g
      next false t =
          let l : r ≤ k = ltb-false k r t in
          let a : r - k ≡ 0 = omega arith in
          let b : r - suc k ≡ 0 = omega arith in
          let x : r < 0 + field_size 0 = rw a at g in
          let y : 0 + field_size 0 ≤ r = rw b at f in
          absurd (omega arith)

  largest_end : r < r - 4 + field_size (r - 4) → Largest r (r - 5)
  largest_end g =
      split_on (ltb r 5)
      (λ t.
      let l : r < 5 = ltb-true r 5 t in
      let a : r - 4 ≡ 0 = omega arith in
      let b : r - 5 ≡ 0 = omega arith in
      let x : r < 0 + field_size 0 = rw a at g in
      let z : field_size 0 ≤ 1 = size_below 5 1 0 (omega arith) (omega arith) in
      rw b (largest_by r 0 (λ p. absurd (omega arith)) (omega arith) (λ p. refl)))
      (λ t. let l : 5 ≤ r = ltb-false r 5 t in largest_at 4 g (omega (arith, field_most (r - 5))))

  pub largest_is : Largest r (largest_fragment r)
  unfolding largest_fragment
  largest_is =
      by_cond (Largest r) (fits_in r (r - 1)) _ _
      (λ t. largest_at 0 (rw (sub-zero r) (omega (arith, field_pos r))) (leb-true _ _ t))
      (λ t.
      by_cond (Largest r) (fits_in r (r - 2)) _ _
      (λ u. largest_at 1 (leb-false _ _ t) (leb-true _ _ u))
      (λ u.
      by_cond (Largest r) (fits_in r (r - 3)) _ _
      (λ v. largest_at 2 (leb-false _ _ u) (leb-true _ _ v))
      (λ v.
      by_cond (Largest r) (fits_in r (r - 4)) _ _
      (λ w. largest_at 3 (leb-false _ _ v) (leb-true _ _ w))
      (λ w. largest_end (leb-false _ _ w)))))

-- ---- the rooms whose field has i bytes, as the crate's loop goes through them: fields of i bytes count up to 128 to the i

pub record Shifting (r i : ℕ) : Type 0 where
  pub from : 1 ≤ i
  pub most : i ≤ 5
  pub two : 2 ≤ r
  pub passed : 1 ≤ i - 1 → cap (i - 1) + (i - 1) ≤ r

pub shifting_next : (r i : ℕ) → r < 4294967296 → Shifting r i → cap i + i ≤ r → Shifting r (i + 1)
shifting_next r i b s h =
    let e : i + 1 - 1 ≡ i = omega arith in
    record {
      from = omega arith;
      most = split_on (ltb i 5)
          (λ t. let l : i < 5 = ltb-true i 5 t in omega arith)
          (λ t. let c : cap 5 ≤ cap i = cap_le 5 i (ltb-false i 5 t) in absurd (omega arith));
      two = s.two;
      passed = λ q. rw e h;
    }

pub shifting_room : (r i : ℕ) → Shifting r i → i ≤ r
shifting_room r i s =
    split_on (ltb 1 i)
    (λ t.
    let l : 1 < i = ltb-true 1 i t in
    omega (arith, s.passed (omega arith), cap_pos (i - 1)))
    (λ t. let l : i ≤ 1 = ltb-false 1 i t in omega arith)

pub shifting_end : (r i : ℕ) → Shifting r i → r < cap i + i → Largest r (r - i)
shifting_end r i s h =
    let l : i ≤ r = shifting_room r i s in
    largest_by r (r - i)
    (λ q. omega (arith, size_below 5 i (r - i) s.from (omega arith)))
    (omega (arith, size_above 5 (i - 1) (r - i + 1) (omega arith) (λ q. omega (arith, s.passed q))))
    (λ q. absurd (omega arith))

pub largest_less : {r i : ℕ} → 1 ≤ i → i ≤ 5 → (1 < i → cap (i - 1) + (i - 1) ≤ r) → r < cap i + i → Largest r (r - i)
largest_less {r} {i} s m p h =
    split_on (ltb r 2)
    (λ t.
    let l : r < 2 = ltb-true r 2 t in
    let z : r - i ≡ 0 = omega arith in
    rw z (largest_none r (omega arith)))
    (λ t.
    let l : 2 ≤ r = ltb-false r 2 t in
    shifting_end r i (record { from = s; most = m; two = l; passed = λ q. p (omega arith) }) h)
