-- The receiver over a run of which each packet is taken or lost: what it hands out is the OBUs all of whose packets are taken. Assumes nothing.
use mathlib.Core.Path.{◌≡◌, refl, ap, ◌∙◌}
use Prim.Native.Nat.{ℕ, suc}
use native.Mathlib.Nat.{not-suc-le-zero}
use native.Mathlib.Omega.{arith}
use mathlib.Core.List.{List, [], ◌∷◌, ◌++◌, map, append_assoc, append-nil}
use mathlib.Core.Bool.{Bool, true, false, cond, ◌&&◌, true≢false}
use lib.ListN.{length-append}
use Rattle.base.specs.Lists.{keep}
use Rattle.receiver.specs.Packet.{Packet}
use Rattle.receiver.specs.Joining.{with_fragment, finished, left, handed, kept_open}
use Rattle.lawful.specs.Train.{Piece, cut, inner, final, NonEmpty, Full, packets, packets_of_pieces, Portion, portion, obus, obus_of_pieces, join, whole}
use Rattle.lawful.proofs.Trains.{join_portion, whole_portion}

-- `emit` says what is noted of each packet that is taken, by the fragment that it may join: `handed`, or another view of the same walk.
-- `k` is the place of the first of the packets, and `o` the fragment that is open before it, none if the packet before was lost
module _ {E : Type 0} (emit : List ℕ → Packet → List E) where
  unfoldable pub walk : (ℕ → Bool) → ℕ → List ℕ → List Packet → List E
  walk taken k o [] = []
  walk taken k o (p ∷ ps) = cond (taken k) (emit o p ++ walk taken (suc k) (kept_open o p) ps) (walk taken (suc k) [] ps)

-- ---- the last of several elements

finished_snoc : (js : List (List ℕ)) (j : List ℕ) → finished true (js ++ (j ∷ [])) ≡ js
unfolding finished
finished_snoc [] j = refl
finished_snoc (x ∷ []) j = refl
finished_snoc (x ∷ y ∷ js) j = ap {B = List (List ℕ)} (λ l. x ∷ l) (finished_snoc (y ∷ js) j)

pub left_snoc : (js : List (List ℕ)) (j : List ℕ) → left true (js ++ (j ∷ [])) ≡ j
unfolding left
left_snoc [] j = refl
left_snoc (x ∷ []) j = refl
left_snoc (x ∷ y ∷ js) j = left_snoc (y ∷ js) j

-- ---- where the next piece stands

-- `o`, `z` and `es` are the open fragment, Z and the elements so far of its packet;
-- `w` says whether all packets so far of its OBU are taken, and `x` is what the OBU has so far
pub record Ready (o : List ℕ) (z : Bool) (es : List (List ℕ)) (w : Bool) (x : List ℕ) : Type 0 where
  pub joins : (b : List ℕ) → with_fragment o z (es ++ (b ∷ [])) ≡ with_fragment o z es ++ cond w ((x ++ b) ∷ []) []
  pub lost : w ≡ false → with_fragment o z es ≡ []

pub start : (o : List ℕ) → Ready o false [] true []
unfolding with_fragment
start o = record { joins = λ b. refl; lost = λ h. refl }

more : (o : List ℕ) (z : Bool) (e : List ℕ) (es : List (List ℕ)) (b : List ℕ) → with_fragment o z ((e ∷ es) ++ (b ∷ [])) ≡ with_fragment o z (e ∷ es) ++ (b ∷ [])
unfolding with_fragment
more o false e es b = refl
more [] true e es b = refl
more (c ∷ o) true e es b = refl

pub inside : (o : List ℕ) (z : Bool) (es : List (List ℕ)) (b : List ℕ) → Ready o z (es ++ (b ∷ [])) true []
inside o z [] b = record { joins = more o z b []; lost = λ h. absurd (true≢false h) }
inside o z (e ∷ es) b = record { joins = more o z e (es ++ (b ∷ [])); lost = λ h. absurd (true≢false h) }

after_cut : (w : Bool) (x : List ℕ) → NonEmpty x → Ready (cond w x []) true [] w x
unfolding with_fragment
after_cut true [] h = absurd (not-suc-le-zero h)
after_cut true (c ∷ x) h = record { joins = λ b. refl; lost = λ h. refl }
after_cut false x h = record { joins = λ b. refl; lost = λ h. refl }

-- after the piece b, in packet k, of which the OBU is cut
pub cut_at_lem : (taken : ℕ → Bool) (ps : List Portion) (k : ℕ) (b o : List ℕ) → NonEmpty b → o ≡ cond (whole taken ps && taken k) (join ps ++ b) []
    → Ready o true [] (whole taken (ps ++ (portion k b ∷ []))) (join (ps ++ (portion k b ∷ [])))
cut_at_lem taken ps k b o f e =
    rw (e, whole_portion taken ps k b, join_portion ps k b)
    (after_cut (whole taken ps && taken k) (join ps ++ b) (rw length-append (omega arith)))

-- ---- what is handed out

-- `b` says whether the packet is taken, `w` whether the packets before it that carry the OBU x are; j goes out before the OBU, m after it
in_packet : (b w : Bool) (j m : List (List ℕ)) (x : List ℕ) → cond b (j ++ cond w (x ∷ []) []) [] ++ m ≡ cond b j [] ++ cond (w && b) (x ∷ m) m
in_packet true true j m x = append_assoc j (x ∷ []) m
in_packet true false j m x = rw append-nil
in_packet false true j m x = refl
in_packet false false j m x = refl

at_end : (b w : Bool) (j m : List (List ℕ)) (x : List ℕ) → cond b ((j ++ cond w (x ∷ []) []) ++ m) m ≡ cond b j [] ++ cond (w && b) (x ∷ m) m
at_end true true j m x = append_assoc j (x ∷ []) m
at_end true false j m x = rw append-nil
at_end false true j m x = refl
at_end false false j m x = refl

at_cut : (b w : Bool) (j m : List (List ℕ)) (x : List ℕ) (f : List ℕ → List (List ℕ)) → (w ≡ false → j ≡ []) → ((o : List ℕ) → o ≡ cond (w && b) x [] → f o ≡ m)
    → cond b (finished true (j ++ cond w (x ∷ []) []) ++ f (left true (j ++ cond w (x ∷ []) []))) (f []) ≡ cond b j [] ++ m
unfolding finished left
at_cut true true j m x f l h = rw (finished_snoc j x, h (left true (j ++ (x ∷ []))) (left_snoc j x))
at_cut true false j m x f l h = rw (l refl) (h [] refl)
at_cut false true j m x f l h = h [] refl
at_cut false false j m x f l h = h [] refl

nothing_yet : (b : Bool) (o : List ℕ) (z : Bool) → cond b (with_fragment o z []) [] ≡ []
unfolding with_fragment
nothing_yet true o true = refl
nothing_yet true o false = refl
nothing_yet false o z = refl

alone : (b : Bool) (j : List (List ℕ)) → cond b (finished false j ++ []) [] ≡ cond b j [] ++ []
unfolding finished
alone true j = refl
alone false j = refl

-- one more OBU, with its last portion
pub kept_cons : (taken : ℕ → Bool) (ps : List Portion) (k : ℕ) (b : List ℕ) (l : List (List Portion))
    → map join (keep (whole taken) ((ps ++ (portion k b ∷ [])) ∷ l))
    ≡ cond (whole taken ps && taken k) ((join ps ++ b) ∷ map join (keep (whole taken) l)) (map join (keep (whole taken) l))
unfolding keep
kept_cons taken ps k b l = rw (whole_portion taken ps k b, ← join_portion ps k b) (go (whole taken ps && taken k))
  where
    go : (c : Bool) → map join (cond c ((ps ++ (portion k b ∷ [])) ∷ keep (whole taken) l) (keep (whole taken) l))
        ≡ cond c (join (ps ++ (portion k b ∷ [])) ∷ map join (keep (whole taken) l)) (map join (keep (whole taken) l))
    go true = refl
    go false = refl

module _ (taken : ℕ → Bool) where
  out_of : ℕ → List Portion → List Piece → List (List ℕ)
  out_of k ps t = map join (keep (whole taken) (obus k ps t))

  wave : (t : List Piece) (k : ℕ) (o : List ℕ) (z : Bool) (es : List (List ℕ)) (ps : List Portion) → Full t → Ready o z es (whole taken ps) (join ps)
      → walk handed taken k o (packets z es t) ≡ cond (taken k) (with_fragment o z es) [] ++ out_of k ps t
  unfolding walk packets obus keep join whole finished left handed kept_open out_of
  wave [] k o z [] ps f r = rw (nothing_yet (taken k) o z)
  wave [] k o z (e ∷ es) ps f r = alone (taken k) (with_fragment o z (e ∷ es))
  wave (cut b ∷ t) k o z es ps f r =
      rw (r.joins b)
      (at_cut (taken k) (whole taken ps) (with_fragment o z es) _ (join ps ++ b) (λ n. walk handed taken (suc k) n (packets true [] t)) r.lost
      (λ n e. wave t (suc k) n true [] (ps ++ (portion k b ∷ [])) f.1 (cut_at_lem taken ps k b n f.0 e) ∙ rw (nothing_yet (taken (suc k)) n true)))
  wave (inner b ∷ t) k o z es ps f r =
      wave t k o z (es ++ (b ∷ [])) [] f.1 (inside o z es b)
      ∙ rw (r.joins b, kept_cons taken ps k b (obus k [] t)) (in_packet (taken k) (whole taken ps) (with_fragment o z es) _ (join ps ++ b))
  wave (final b ∷ t) k o z es ps f r =
      rw (r.joins b, kept_cons taken ps k b (obus (suc k) [] t), wave t (suc k) [] false [] [] f.1 (start []), nothing_yet (taken (suc k)) [] false)
      (at_end (taken k) (whole taken ps) (with_fragment o z es) _ (join ps ++ b))

pub walk_handed : (taken : ℕ → Bool) (t : List Piece) → Full t → walk handed taken 0 [] (packets_of_pieces t) ≡ map join (keep (whole taken) (obus_of_pieces t))
unfolding join whole out_of
walk_handed taken t f = wave taken t 0 [] false [] [] f (start []) ∙ rw (nothing_yet (taken 0) [] false)
