-- What is joined, finished and left open, by the tests that the code makes. Assumes nothing.
use Rattle.std.proofs.Common.{◌≡◌, ℕ, zero, suc, ◌+◌, ◌-◌, ◌<◌, ◌≤◌, Bool, true, false, cond, not, ◌&&◌, eqb, ltb, List, [], ◌∷◌, ◌++◌, map, length, get_or, take, drop, sym, refl, ap, ◌∙◌, subst, ap₂, arith, length-drop, drop_of_length-le, length-take-le, get_or-drop, ltb-false, ltb-true, le-ltb, lt-ltb, eq-eqb, ne_eqb, eqb-true}
use lib.ListN.{length-map, get_or-map}
use lib.Seq.{take-length}
use borrow.Author.Tests.{eqb-false}
use Rattle.base.proofs.Tests.{by_cond, split_on}
use Rattle.element.specs.Elements.{bytes_of, nowhere}
use Rattle.element.specs.declared.Part.{Part}
use Rattle.element.specs.declared.Walked.{Walked}
use Rattle.handing.specs.Inside.{parts_of, led}
use Rattle.receiver.specs.declared.Fragment.{Fragment}
use Rattle.handing.proofs.Cursors.{part_at}
use Rattle.handing.proofs.Turns.{led_none}
use Rattle.receiver.specs.Joining.{with_fragment, some, finished, left}
use Rattle.receiver.specs.Inside.{fragment_of, thrown, finished_end, left_open, Read}

-- ---- the last one

left_last : (m : ℕ) (js : List (List ℕ)) → length js ≡ suc m → left true js ≡ get_or js m []
unfolding left
left_last m [] e = absurd (omega arith)
left_last zero (j ∷ []) e = refl
left_last zero (j ∷ i ∷ js) e = absurd (omega arith)
left_last (suc m) (j ∷ []) e = absurd (omega arith)
left_last (suc m) (j ∷ i ∷ js) e = left_last m (i ∷ js) (omega arith)

led_length : (f : List ℕ) (es : List (List ℕ)) → length (led f es) ≡ length es
led_length f [] = refl
led_length f (e ∷ es) = refl

led_nth : (f : List ℕ) (es : List (List ℕ)) (m : ℕ) → m < length es → get_or (led f es) m [] ≡ cond (eqb m 0) f [] ++ get_or es m []
led_nth f [] m h = absurd (omega arith)
led_nth f (e ∷ es) zero h = refl
led_nth f (e ∷ es) (suc m) h = rw (ne_eqb (suc m) 0 (λ z. omega arith))

abbrev none : Fragment
none = record { kept = 0; start = 0; size = 0 }

-- what is left open of the elements from `from` on, the first of which has `joined` bytes of the store in front
pub record LeftOpen (payload : List ℕ) (y : Bool) (from joined : ℕ) (r : Fragment) : Type 0 where
  pub kept_most : r.kept ≤ joined
  pub lies : r.start + r.size ≤ length payload
  pub bytes : (store : List ℕ) → fragment_of store payload r ≡ left y (led (take joined store) (drop from (map (bytes_of payload) (parts_of payload))))

module _ {payload : List ℕ} {all : Walked} (read : Read payload all) where
  pub read_count : all.elements ≡ length (parts_of payload)
  read_count = ap (λ (w : Walked). w.elements) read.is

  pub read_first : all.kept ≡ get_or (parts_of payload) 0 nowhere
  read_first = ap (λ (w : Walked). w.kept) read.is

  read_last : all.last ≡ get_or (parts_of payload) (all.elements - 1) nowhere
  read_last = ap (λ (w : Walked). w.last) read.is ∙ ap (λ (n : ℕ). get_or (parts_of payload) (n - 1) nowhere) (sym read_count)

  abbrev n : ℕ
  n = all.elements

  abbrev last : Part
  last = all.last

  abbrev es : List (List ℕ)
  es = map (bytes_of payload) (parts_of payload)

  es_length : length es ≡ n
  es_length = length-map (parts_of payload) (bytes_of payload) ∙ sym read_count

  module _ (from size : ℕ) where
    left_none : LeftOpen payload false from size none
    unfolding left
    left_none = record { kept_most = omega arith; lies = omega arith; bytes = λ store. refl }

    left_thrown : n ≤ from → LeftOpen payload true from size none
    unfolding left
    left_thrown h =
        record { kept_most = omega arith; lies = omega arith; bytes = λ store. rw (drop_of_length-le es {i = from} (omega (arith, es_length))) }

    -- the joined bytes are in front of the last, or none are
    abbrev front : Bool → ℕ
    front t = cond t size 0

    in_front : (store : List ℕ) (t : Bool) → cond t (take size store) [] ≡ take (front t) store
    in_front store true = refl
    in_front store false = refl

    module _ (some : from < n) where
      lies : last.start + last.length ≤ length payload
      lies =
          let l = part_at payload (parts_of payload) read.whole (n - 1) (omega (arith, read_count)) in
          subst (λ (q : Part). q.start + q.length ≤ length payload) (sym read_last) (omega arith)

      same_test : (m : ℕ) → n - from ≡ suc m → eqb m 0 ≡ eqb (n - from) 1
      same_test m e = split_on (eqb (n - from) 1)
          (λ t. let i : n - from ≡ 1 = eqb-true (n - from) 1 t in eq-eqb m 0 (omega arith) ∙ sym t)
          (λ t. ne_eqb m 0 (λ z. eqb-false (n - from) 1 t (omega arith)) ∙ sym t)

      left_some : LeftOpen payload true from size (record { kept = front (eqb (n - from) 1); start = last.start; size = last.length })
      left_some =
          record {
            kept_most = by_cond (λ (x : ℕ). x ≤ size) (eqb (n - from) 1) size 0 (λ t. omega arith) (λ t. omega arith);
            lies = lies;
            bytes = λ store. sym (is store);
          }
        where
          is : (store : List ℕ) → left true (led (take size store) (drop from es))
              ≡ fragment_of store payload (record { kept = front (eqb (n - from) 1); start = last.start; size = last.length })
          is store =
              let m : ℕ = n - from - 1 in
              let e : n - from ≡ suc m = omega arith in
              let i : from + m ≡ n - 1 = omega arith in
              let d : length (drop from es) ≡ n - from = length-drop from es ∙ ap (λ (x : ℕ). x - from) es_length in
              let g : get_or (drop from es) m [] ≡ bytes_of payload last =
              get_or-drop from es m []
              ∙ ap (λ (x : ℕ). get_or es x []) i
              ∙ get_or-map (bytes_of payload) (parts_of payload) (n - 1) nowhere
              ∙ ap (bytes_of payload) (sym read_last) in
              let f : cond (eqb m 0) (take size store) [] ≡ take (front (eqb (n - from) 1)) store =
              ap (λ (t : Bool). cond t (take size store) []) (same_test m e) ∙ in_front store (eqb (n - from) 1) in
              left_last m (led (take size store) (drop from es)) (led_length (take size store) (drop from es) ∙ d ∙ e)
              ∙ led_nth (take size store) (drop from es) m (omega arith)
              ∙ ap₂ ◌++◌ f g

    pub left_is : (y : Bool) → LeftOpen payload y from size (left_open y from all size)
    left_is false = left_none
    left_is true = by_cond (LeftOpen payload true from size) (ltb from n) _ _ (λ t. left_some (ltb-true from n t)) (λ t. left_thrown (ltb-false from n t))

-- ---- joined, and finished

joined_led : (o : List ℕ) (es : List (List ℕ)) → (length o ≡ 0 → ⊥) → with_fragment o true es ≡ led o es
unfolding with_fragment
joined_led [] _ h = absurd (h refl)
joined_led (b ∷ o) [] h = refl
joined_led (b ∷ o) (e ∷ _) h = refl

joined_thrown : (es : List (List ℕ)) → with_fragment [] true es ≡ led [] (drop 1 es)
unfolding with_fragment
joined_thrown [] = refl
joined_thrown (e ∷ es) = sym (led_none es)

and_true : (t : Bool) → t && true ≡ t
and_true true = refl
and_true false = refl

some_take : (store : List ℕ) (size : ℕ) → size ≤ length store → some (take size store) ≡ ltb 0 size
some_take store size h = rw (length-take-le size store h)

-- z: the flag; t: in step; of the store, `size` bytes are open and k are joined; `from` elements are thrown away
pub joined_is : (store : List ℕ) (size : ℕ) (z t : Bool) (es : List (List ℕ)) (k from : ℕ) → size ≤ length store → k ≡ cond (z && t) size 0 → from ≡ thrown z k
    → with_fragment (cond t (take size store) []) z es ≡ led (take k store) (drop from es)
unfolding with_fragment
joined_is store size false t es k from h a b = rw (b, a) (sym (led_none es))
joined_is store size true false es k from h a b = rw (b, a) (joined_thrown es)
joined_is store zero true true es k from h a b = rw (b, a) (joined_thrown es)
joined_is store (suc m) true true es k from h a b =
    rw (b, a, ne_eqb (suc m) 0 (λ z. omega arith))
    (joined_led (take (suc m) store) es (λ z. omega (arith, length-take-le (suc m) store h)))

-- what is lost, from the same: fewer bytes are joined than are open; an element is thrown away
pub lost_is : (store : List ℕ) (size : ℕ) (z t : Bool) (k from : ℕ) → size ≤ length store → k ≡ cond (z && t) size 0 → from ≡ thrown z k
    → (some (take size store) && not (z && some (cond t (take size store) [])) ≡ ltb k size) × (z && not (some (cond t (take size store) [])) ≡ ltb 0 from)
lost_is store size z t k from h a b = rw (b, a) (go z t size h)
  where
    go : (z t : Bool) (size : ℕ) → size ≤ length store
        → (some (take size store) && not (z && some (cond t (take size store) [])) ≡ ltb (cond (z && t) size 0) size)
        × (z && not (some (cond t (take size store) [])) ≡ ltb 0 (thrown z (cond (z && t) size 0)))
    go false t size h = (and_true (some (take size store)) ∙ some_take store size h, refl)
    go true false size h = (and_true (some (take size store)) ∙ some_take store size h, refl)
    go true true zero h = (refl, refl)
    go true true (suc m) h = rw (some_take store (suc m) h, lt-ltb 0 (suc m) (omega arith), le-ltb (suc m) (suc m) (omega arith), ne_eqb (suc m) 0 (λ z. omega arith)) (refl, refl)

finished_take : (y : Bool) (js : List (List ℕ)) → finished y js ≡ take (finished_end y (length js)) js
unfolding finished
finished_take false js = sym (take-length js)
finished_take true [] = refl
finished_take true (j ∷ []) = refl
finished_take true (j ∷ i ∷ js) =
    let e : suc (suc (length js)) - 1 ≡ suc (length (i ∷ js) - 1) = omega arith in
    rw e (ap (λ (l : List (List ℕ)). j ∷ l) (finished_take true (i ∷ js)))

pub finished_is : (y : Bool) (f : List ℕ) (es : List (List ℕ)) (from n : ℕ) → n ≡ length es
    → finished y (led f (drop from es)) ≡ take (finished_end y n - from) (led f (drop from es))
finished_is y f es from n e =
    finished_take y (led f (drop from es))
    ∙ ap (λ (m : ℕ). take m (led f (drop from es))) (ends y (length (led f (drop from es))) (led_length f (drop from es) ∙ length-drop from es ∙ ap (λ (m : ℕ). m - from) (sym e)))
  where
    ends : (y : Bool) (m : ℕ) → m ≡ n - from → finished_end y m ≡ finished_end y n - from
    ends true m q = omega arith
    ends false m q = q
