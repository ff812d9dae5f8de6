-- A line of a text, byte by byte, and how long the words of a refusal are. Assumes nothing.
use mathlib.Core.Path.{◌≡◌, refl, sym, ap, subst, ◌∙◌}
use Prim.Native.Nat.{ℕ, zero, suc, ◌+◌, ◌≤◌, ◌<◌}
use native.Mathlib.Nat.{add-zero, zero-add}
use native.Mathlib.Numerals.{add-one}
use native.Mathlib.Omega.{arith}
use Prim.Native.String as string
use mathlib.Core.List.{List, [], ◌∷◌, ◌++◌}
use mathlib.Core.Bool.{Bool, true, false, not, ◌&&◌, false≢true}
use lib.ListN.{length, get_or, drop, set}
use lib.Seq.{drop-cons, drop-length}
use lib.Dec.{eqb}
use borrow.Author.Tests.{eq-eqb, ne_eqb}
use Rattle.base.specs.Lists.{Put}
use Rattle.base.specs.Words.{ascii, words, words_of, words_most}
use Rattle.base.specs.Inside.{lines, line_from}
use Rattle.base.proofs.Tests.{by_cond}
use Rattle.base.proofs.Storing.{Storing, storing_first, storing_next, storing_done}

-- i bytes of a text were looked at, and what of line n comes after them is left to be stored
pub record Looking (n : ℕ) (text l₀ : List ℕ) (at i line to : ℕ) (l : List ℕ) : Type 0 where
  pub looked : i ≤ length text
  pub line_within : line ≤ i
  pub to_within : to ≤ at + i
  pub storing : Storing l₀ at (line_from n 0 text) l to (line_from n line (drop i text))

pub looking_first : (n : ℕ) (text l : List ℕ) (at : ℕ) → Looking n text l at 0 0 at l
looking_first n text l at = record { looked = omega arith; line_within = omega arith; to_within = omega arith; storing = storing_first l at (line_from n 0 text) }

module _ {n : ℕ} {text l₀ : List ℕ} {at i line to : ℕ} {l : List ℕ} (s : Looking n text l₀ at i line to l) (more : i < length text) where
  abbrev byte : ℕ
  byte = get_or text i 0

  abbrev left : List ℕ
  left = drop (i + 1) text

  here : Storing l₀ at (line_from n 0 text) l to (line_from n line (byte ∷ left))
  here =
      let e : drop i text ≡ byte ∷ left = rw add-one (drop-cons text i 0 more) in
      subst (λ (x : List ℕ). Storing l₀ at (line_from n 0 text) l to (line_from n line x)) e s.storing

  pub line_passed : byte ≡ 10 → Looking n text l₀ at (i + 1) (line + 1) to l
  unfolding line_from
  line_passed e = record { looked = omega arith; line_within = omega arith; to_within = omega arith; storing = rw (eq-eqb byte 10 e) at here }

  pub byte_stored : (byte ≡ 10 → ⊥) → line ≡ n → Looking n text l₀ at (i + 1) line (to + 1) (set l to byte)
  unfolding line_from
  byte_stored e f =
      record {
        looked = omega arith;
        line_within = omega arith;
        to_within = omega arith;
        storing =
            storing_next (byte ∷ []) (line_from n line left) (rw (ne_eqb byte 10 e, eq-eqb line n f) at here)
            (record { cursor = omega arith; stored = refl });
      }

  pub byte_passed : (byte ≡ 10 → ⊥) → (line ≡ n → ⊥) → Looking n text l₀ at (i + 1) line to l
  unfolding line_from
  byte_passed e f =
      record { looked = omega arith; line_within = omega arith; to_within = omega arith; storing = rw (ne_eqb byte 10 e, ne_eqb line n f) at here }

-- the whole text was looked at
pub stored : {n : ℕ} {text l₀ : List ℕ} {at i line to : ℕ} {l : List ℕ} → Looking n text l₀ at i line to l → i ≡ length text
    → Put l₀ l at to (line_from n 0 text)
unfolding line_from
stored {n} {text} {l₀} {at} {i} {line} {to} {l} s e =
    let none : drop i text ≡ [] = rw e (drop-length text) in
    storing_done (subst (λ (x : List ℕ). Storing l₀ at (line_from n 0 text) l to (line_from n line x)) none s.storing)

-- ---- a line is no longer than its text

pub line_short : (n k : ℕ) (l : List ℕ) → length (line_from n k l) ≤ length l
unfolding line_from
line_short n k [] = omega arith
line_short n k (b ∷ l) =
    by_cond (λ (x : List ℕ). length x ≤ suc (length l)) (eqb b 10) _ _
    (λ _. omega (arith, line_short n (k + 1) l))
    (λ _. by_cond (λ (x : List ℕ). length x ≤ suc (length l)) (eqb k n) _ _ (λ _. omega (arith, line_short n k l)) (λ _. omega (arith, line_short n k l)))

-- ---- the words of a refusal are its line

-- no line ends in these bytes, in these texts
plain : List ℕ → Bool
plain [] = true
plain (b ∷ l) = not (eqb b 10) && plain l

all_plain : List string.String → Bool
all_plain [] = true
all_plain (s ∷ l) = plain (ascii s) && all_plain l

both : (a b : Bool) → (a && b) ≡ true → (a ≡ true) × (b ≡ true)
both true b e = (refl, e)
both false b e = absurd (false≢true e)

-- line n was passed before
line_past : (n k : ℕ) (l : List ℕ) → n < k → line_from n k l ≡ []
unfolding line_from
line_past n k [] h = refl
line_past n k (b ∷ l) h =
    by_cond (λ (x : List ℕ). x ≡ []) (eqb b 10) _ _ (λ _. line_past n (k + 1) l (omega arith))
    (λ _. rw (ne_eqb k n (omega arith)) (line_past n k l h))

first_plain : (b : ℕ) (l : List ℕ) → plain (b ∷ l) ≡ true → (eqb b 10 ≡ false) × (plain l ≡ true)
unfolding plain
first_plain b l p =
    let q = both (not (eqb b 10)) (plain l) p in
    (clear (eqb b 10) q.0, q.1)
  where
    clear : (t : Bool) → not t ≡ true → t ≡ false
    clear true e = absurd (false≢true e)
    clear false e = refl

-- on another line, and on this one
line_other : (n k : ℕ) (a l : List ℕ) → plain a ≡ true → (k ≡ n → ⊥) → line_from n k (a ++ (10 ∷ l)) ≡ line_from n (k + 1) l
unfolding line_from
line_other n k [] l p h = refl
line_other n k (b ∷ a) l p h =
    let q = first_plain b a p in
    rw (q.0, ne_eqb k n h) (line_other n k a l q.1 h)

line_this : (n : ℕ) (a l : List ℕ) → plain a ≡ true → line_from n n (a ++ (10 ∷ l)) ≡ a
unfolding line_from
line_this n [] l p = line_past n (n + 1) l (omega arith)
line_this n (b ∷ a) l p =
    let q = first_plain b a p in
    rw (q.0, eq-eqb n n refl) (ap (λ (x : List ℕ). b ∷ x) (line_this n a l q.1))

lines_at : (ws : List string.String) (n k : ℕ) → all_plain ws ≡ true → line_from (k + n) k (lines ws) ≡ ascii (get_or ws n "")
unfolding line_from lines all_plain
lines_at [] n k p = refl
lines_at (w ∷ ws) zero k p = rw (add-zero k) (line_this k (ascii w) (lines ws) (both (plain (ascii w)) (all_plain ws) p).0)
lines_at (w ∷ ws) (suc n) k p =
    let q = both (plain (ascii w)) (all_plain ws) p in
    let e : k + suc n ≡ k + 1 + n = omega arith in
    line_other (k + suc n) k (ascii w) (lines ws) q.0 (omega arith) ∙ ap (λ (m : ℕ). line_from m (k + 1) (lines ws)) e ∙ lines_at ws n (k + 1) q.1

words_plain : all_plain words ≡ true
unfolding words plain all_plain
words_plain = refl

words_line : (n : ℕ) → line_from n 0 (lines words) ≡ words_of n
unfolding words_of
words_line n = ap (λ (m : ℕ). line_from m 0 (lines words)) (sym (zero-add n)) ∙ lines_at words n 0 words_plain

pub words_put : (n : ℕ) {l l' : List ℕ} {at end : ℕ} → Put l l' at end (line_from n 0 (lines words)) → Put l l' at end (words_of n)
words_put n p = rw (words_line n) at p

words_length : length (lines words) ≡ words_most
unfolding words lines
words_length = refl

pub words_short : (n : ℕ) → length (words_of n) ≤ words_most
words_short n = omega (arith, line_short n 0 (lines words), words_length, ap length (words_line n))
