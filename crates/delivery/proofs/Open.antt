-- Fragments left open along a walk: each is empty or the beginning of an OBU, so that none is longer than the largest OBU. Assumes nothing.
use mathlib.Core.Path.{◌≡◌, refl}
use Prim.Native.Nat.{ℕ, suc, ◌≤◌}
use native.Mathlib.Omega.{arith}
use mathlib.Core.List.{List, [], ◌∷◌, ◌++◌}
use mathlib.Core.Bool.{Bool, true, false, cond, ◌&&◌, false≢true}
use lib.ListN.{length, length-append}
use Rattle.base.specs.Lists.{All}
use Rattle.receiver.specs.Packet.{Packet}
use Rattle.receiver.specs.Joining.{with_fragment, left, kept_open}
use Rattle.lawful.specs.Train.{Piece, cut, inner, final, Full, closed, packets, packets_of_pieces, Portion, portion, obus, obus_of_pieces, join, whole}
use Rattle.lawful.proofs.Trains.{join_portion}
use Rattle.delivery.proofs.Walk.{walk, left_snoc, Ready, start, inside, cut_at_lem}

-- the fragment that a packet leaves open
abbrev pub noted : List ℕ → Packet → List (List ℕ)
noted o p = kept_open o p ∷ []

-- the beginnings of OBUs at which a packet ends
unfoldable cuts : List ℕ → List Piece → List (List ℕ)
cuts x [] = []
cuts x (cut b ∷ t) = (x ++ b) ∷ cuts (x ++ b) t
cuts x (inner b ∷ t) = cuts [] t
cuts x (final b ∷ t) = cuts [] t

-- ---- what is true of these, and of no bytes, is true of each fragment

module _ (Q : List ℕ → Type 0) (q : Q []) where
  at_cut : (b w : Bool) (j : List (List ℕ)) (x : List ℕ) (f : List ℕ → List (List ℕ)) → (w ≡ false → j ≡ []) → Q x → ((o : List ℕ) → o ≡ cond (w && b) x [] → All Q (f o))
      → All Q (cond b (left true (j ++ cond w (x ∷ []) []) ∷ f (left true (j ++ cond w (x ∷ []) []))) (f []))
  unfolding left
  at_cut true true j x f l i h = (rw (left_snoc j x) i, h (left true (j ++ (x ∷ []))) (left_snoc j x))
  at_cut true false j x f l i h = rw (l refl) (q, h [] refl)
  at_cut false true j x f l i h = h [] refl
  at_cut false false j x f l i h = h [] refl

  none_open : (b : Bool) (l : List (List ℕ)) → All Q l → All Q (cond b ([] ∷ l) l)
  none_open true l h = (q, h)
  none_open false l h = h

  wave : (taken : ℕ → Bool) (t : List Piece) (k : ℕ) (o : List ℕ) (z : Bool) (es : List (List ℕ)) (ps : List Portion) → Full t → Ready o z es (whole taken ps) (join ps)
      → All Q (cuts (join ps) t) → All Q (walk noted taken k o (packets z es t))
  unfolding walk packets cuts join whole kept_open left
  wave taken [] k o z [] ps f r h = tt
  wave taken [] k o z (e ∷ es) ps f r h = none_open (taken k) [] tt
  wave taken (cut b ∷ t) k o z es ps f r h =
      rw (r.joins b)
      (at_cut (taken k) (whole taken ps) (with_fragment o z es) (join ps ++ b) (λ n. walk noted taken (suc k) n (packets true [] t)) r.lost h.0
      (λ n e. wave taken t (suc k) n true [] (ps ++ (portion k b ∷ [])) f.1 (cut_at_lem taken ps k b n f.0 e) (rw (join_portion ps k b) h.1)))
  wave taken (inner b ∷ t) k o z es ps f r h = wave taken t k o z (es ++ (b ∷ [])) [] f.1 (inside o z es b) h
  wave taken (final b ∷ t) k o z es ps f r h = none_open (taken k) _ (wave taken t (suc k) [] false [] [] f.1 (start []) h)

-- ---- an OBU's beginnings have at most its size

module _ (size : ℕ) where
  abbrev pub Small : List ℕ → Type 0
  Small x = length x ≤ size

  beginning : (t : List Piece) (k : ℕ) (ps : List Portion) → closed false t ≡ true → All (λ o. Small (join o)) (obus k ps t) → Small (join ps)
  unfolding obus closed
  beginning [] k ps c h = absurd (false≢true c)
  beginning (cut b ∷ t) k ps c h = omega (arith, rw (join_portion ps k b, length-append) at (beginning t (suc k) (ps ++ (portion k b ∷ [])) c h))
  beginning (inner b ∷ t) k ps c h = omega (arith, rw (join_portion ps k b, length-append) at h.0)
  beginning (final b ∷ t) k ps c h = omega (arith, rw (join_portion ps k b, length-append) at h.0)

  cuts_small : (t : List Piece) (c : Bool) (k : ℕ) (ps : List Portion) → closed c t ≡ true → All (λ o. Small (join o)) (obus k ps t) → All Small (cuts (join ps) t)
  unfolding obus closed cuts join
  cuts_small [] c k ps e h = tt
  cuts_small (cut b ∷ t) c k ps e h =
      (rw (join_portion ps k b) at (beginning t (suc k) (ps ++ (portion k b ∷ [])) e h), rw (join_portion ps k b) at (cuts_small t false (suc k) (ps ++ (portion k b ∷ [])) e h))
  cuts_small (inner b ∷ t) c k ps e h = cuts_small t false k [] e h.1
  cuts_small (final b ∷ t) c k ps e h = cuts_small t true (suc k) [] e h.1

  pub walk_noted : (taken : ℕ → Bool) (t : List Piece) → Full t → closed true t ≡ true → All (λ o. Small (join o)) (obus_of_pieces t) → All Small (walk noted taken 0 [] (packets_of_pieces t))
  unfolding join whole
  walk_noted taken t f c h = wave Small (omega arith) taken t 0 [] false [] [] f (start []) (cuts_small t true 0 [] c h)
