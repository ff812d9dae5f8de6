-- What holds of a stream, whatever its items are. Assumes nothing.
--     stream-skip    bytes of the item before are passed over
--     stream-step    the item at the front, and the stream of the bytes after it; stream-next, of any bytes
--     stream-each    what holds of bytes wherever it holds of those after their first item holds of all bytes
--     stream-all     what holds of the item at the front of any bytes holds of all items
--     stream-count   there are no more items than bytes
--     stream-cut     the items of the first bytes are the first items
use mathlib.Core.Path.{◌≡◌, refl, sym, ap, subst, ◌∙◌}
use Prim.Native.Nat.{ℕ, zero, suc, ◌-◌, ◌≤◌}
use native.Mathlib.Omega.{arith}
use mathlib.Core.List.{List, [], ◌∷◌, ◌++◌}
use lib.ListN.{length, take, drop, take-append-drop}
use lib.Seq.{drop-nil}
use Rattle.base.specs.Lists.{All, Prefix}
use Rattle.base.specs.Streams.{Next, item, halt, Stream, chained, stream_from, stream_of}
use Rattle.base.proofs.Lists.{prefix_none}

-- ---- what is asked of items

module _ {A S T : Type 0} where
  -- an item has a byte
  abbrev pub Some : Next A S T → Type 0
  Some (item a n t) = 1 ≤ n
  Some (halt s) = Unit {0}

  -- the same item, where there was one
  abbrev pub Same : Next A S T → Next A S T → Type 0
  Same (item a n t) y = y ≡ item a n t
  Same (halt s) y = Unit {0}

  -- an item of these bytes is so, and the bytes after it are so
  abbrev pub Keeps : (A → Type 0) → (T → List ℕ → Type 0) → List ℕ → Next A S T → Type 0
  Keeps P Q l (item a n t) = P a × Q t (drop n l)
  Keeps P Q l (halt s) = Unit {0}

  -- it holds of what comes of the bytes after an item of these
  abbrev pub After : (List ℕ → T → Stream A S → Type 0) → (List ℕ → T → Stream A S) → List ℕ → Next A S T → Type 0
  After R of l (item a n t) = R (drop n l) t (of (drop n l) t)
  After R of l (halt s) = Unit {0}

module _ {A S T : Type 0} (next : T → List ℕ → Next A S T) (ended : S) where
  abbrev from : List ℕ → ℕ → T → Stream A S
  from l skip t = stream_from next ended l skip t

  abbrev of : List ℕ → T → Stream A S
  of l t = stream_of next ended l t

  -- what comes next in these bytes, and then the stream of the bytes after it
  abbrev onward : List ℕ → Next A S T → Stream A S
  onward l x = chained x (λ n u. of (drop n l) u)

  -- ---- from item to item

  pub stream_skip : (l : List ℕ) (skip : ℕ) (t : T) → from l skip t ≡ of (drop skip l) t
  unfolding stream_from
  stream_skip [] skip t = rw (drop-nil skip)
  stream_skip (b ∷ l) zero t = refl
  stream_skip (b ∷ l) (suc skip) t = stream_skip l skip t

  pub stream_none : (t : T) → of [] t ≡ record { items = []; stop = ended }
  unfolding stream_from
  stream_none t = refl

  -- the rest matters only where an item is found
  chained_same : (x : Next A S T) (f g : ℕ → T → Stream A S) → Some x → ((n : ℕ) (t : T) → 1 ≤ n → f n t ≡ g n t) → chained x f ≡ chained x g
  chained_same (item a n t) f g some same = ap (λ (r : Stream A S). record { items = a ∷ r.items; stop = r.stop }) (same n t some)
  chained_same (halt s) f g some same = refl

  module _ (some : (t : T) (l : List ℕ) → Some (next t l)) where
    pub stream_step : (l : List ℕ) (t : T) → 1 ≤ length l → of l t ≡ onward l (next t l)
    unfolding stream_from
    stream_step [] t h = absurd (omega arith)
    stream_step (b ∷ l) t h =
        chained_same (next t (b ∷ l)) _ _ (some t (b ∷ l))
        (λ n u k.
        let e : suc (n - 1) ≡ n = omega arith in
        stream_skip l (n - 1) u ∙ ap (λ (m : ℕ). of (drop m (b ∷ l)) u) e)

    -- of any bytes, where no bytes are read as the end
    pub stream_next : ((t : T) → next t [] ≡ halt ended) → (l : List ℕ) (t : T) → of l t ≡ onward l (next t l)
    stream_next none [] t = stream_none t ∙ sym (ap (onward []) (none t))
    stream_next none (b ∷ l) t = stream_step (b ∷ l) t (omega arith)

    -- ---- each item

    module _ (R : List ℕ → T → Stream A S → Type 0) (none : (t : T) → R [] t (record { items = []; stop = ended }))
        (more : (t : T) (l : List ℕ) → 1 ≤ length l → After R of l (next t l) → R l t (onward l (next t l)))
      where
        each_from : (l : List ℕ) (skip : ℕ) (t : T) → R (drop skip l) t (of (drop skip l) t)
        unfolding stream_from
        each_from [] skip t = rw (drop-nil skip) (none t)
        each_from (b ∷ l) (suc skip) t = each_from l skip t
        each_from (b ∷ l) zero t =
            subst (R (b ∷ l) t) (sym (stream_step (b ∷ l) t (omega arith)))
            (more t (b ∷ l) (omega arith) (go (next t (b ∷ l)) (some t (b ∷ l)) (λ n u. each_from l (n - 1) u)))
          where
            go : (x : Next A S T) → Some x → ((n : ℕ) (u : T) → R (drop (n - 1) l) u (of (drop (n - 1) l) u)) → After R of (b ∷ l) x
            go (item a n u) k h =
                let e : suc (n - 1) ≡ n = omega arith in
                subst (λ (m : ℕ). R (drop m (b ∷ l)) u (of (drop m (b ∷ l)) u)) e (h n u)
            go (halt s) k h = tt

        pub stream_each : (l : List ℕ) (t : T) → R l t (of l t)
        stream_each l t = each_from l 0 t

    -- P of each item follows from Q of the bytes that begin with it
    module _ (P : A → Type 0) (Q : T → List ℕ → Type 0) where
      abbrev AllOf : List ℕ → T → Stream A S → Type 0
      AllOf l t s = Q t l → All P s.items

      all_next : (l : List ℕ) (x : Next A S T) → Keeps P Q l x → After AllOf of l x → All P (onward l x).items
      all_next l (item a n u) k r = (k.0, r k.1)
      all_next l (halt s) k r = tt

      pub stream_all : ((t : T) (l : List ℕ) → 1 ≤ length l → Q t l → Keeps P Q l (next t l)) → (l : List ℕ) (t : T) → Q t l → All P (of l t).items
      stream_all keeps = stream_each AllOf (λ t q. tt) (λ t l h r q. all_next l (next t l) (keeps t l h q) r)

  -- ---- how many

  count_next : (k : ℕ) (x : Next A S T) (f : ℕ → T → Stream A S) → ((n : ℕ) (t : T) → length (f n t).items ≤ k) → length (chained x f).items ≤ suc k
  count_next k (item a n t) f h = omega (arith, h n t)
  count_next k (halt s) f h = omega arith

  count_from : (l : List ℕ) (skip : ℕ) (t : T) → length (from l skip t).items ≤ length l
  unfolding stream_from
  count_from [] skip t = omega arith
  count_from (b ∷ l) (suc skip) t = omega (arith, count_from l skip t)
  count_from (b ∷ l) zero t = count_next (length l) (next t (b ∷ l)) _ (λ n u. count_from l (n - 1) u)

  pub stream_count : (l : List ℕ) (t : T) → length (of l t).items ≤ length l
  stream_count l t = count_from l 0 t

  -- ---- cut, where more bytes change no item at the front

  cut_next : (x y : Next A S T) (f g : ℕ → T → Stream A S) → Same x y → ((n : ℕ) (t : T) → Prefix (f n t).items (g n t).items)
      → Prefix (chained x f).items (chained y g).items
  cut_next (halt s) y f g e rest = prefix_none (chained y g).items
  cut_next (item a n t) y f g e rest =
      let p = rest n t in
      record { rest = p.rest; is = ap (λ (z : Next A S T). (chained z g).items) e ∙ ap (λ (l : List A). a ∷ l) p.is }

  module _ (same : (t : T) (l m : List ℕ) → Same (next t l) (next t (l ++ m))) where
    cut_from : (n : ℕ) (l : List ℕ) (skip : ℕ) (t : T) → Prefix (from (take n l) skip t).items (from l skip t).items
    unfolding stream_from
    cut_from zero l skip t = prefix_none (from l skip t).items
    cut_from (suc n) [] skip t = prefix_none []
    cut_from (suc n) (b ∷ l) (suc skip) t = cut_from n l skip t
    cut_from (suc n) (b ∷ l) zero t =
        cut_next (next t (b ∷ take n l)) (next t (b ∷ l)) _ _
        (subst (λ (m : List ℕ). Same (next t (b ∷ take n l)) (next t (b ∷ m))) (take-append-drop n l) (same t (b ∷ take n l) (drop n l)))
        (λ k u. cut_from n l (k - 1) u)

    pub stream_cut : (n : ℕ) (l : List ℕ) (t : T) → Prefix (of (take n l) t).items (of l t).items
    stream_cut n l t = cut_from n l 0 t
