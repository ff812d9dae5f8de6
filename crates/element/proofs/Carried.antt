-- Elements that are written read back: with length fields in any form that reads, shortest or padded. Assumes nothing.
--     encode-states, padded-states    the two forms
--     carried-end    with W 0: every element has a length field
--     carried-w      with W 1 to 3: the last has none
use mathlib.Core.Path.{◌≡◌, refl, sym, ap, ap₂, ◌∙◌}
use Prim.Native.Nat.{ℕ, suc, ◌+◌, ◌-◌, ◌≤◌, ◌<◌}
use native.Mathlib.Omega.{arith}
use mathlib.Core.List.{List, [], ◌∷◌, ◌++◌, append_assoc, append-nil, map, flat_map}
use mathlib.Core.Bool.{Bool, true, false, cond, not, ◌&&◌}
use lib.ListN.{length, take, drop, length-append}
use lib.Seq.{take_at, drop_at}
use lib.Dec.{eqb}
use borrow.Author.Tests.{ne_eqb}
use Rattle.base.specs.Answers.{Answer, given, refused}
use Rattle.base.specs.Streams.{stream_from}
use Rattle.leb128.specs.Field.{sized, size_field, encode, form, longest_field, largest_value}
use Rattle.leb128.specs.Laws.{cap}
use Rattle.leb128.proofs.Theorems.{read_back_lem, padded_read, form_length}
use Rattle.element.specs.Header.{z_bit, w_of, n_bit}
use Rattle.element.specs.Elements.{bytes_of, counted, element_at, first, followed, until_end, exactly, counting, elements_of}
use Rattle.element.specs.Laws.{ReadsAs}
use Rattle.element.specs.declared.Part.{Part}
use Rattle.element.proofs.Reading.{field_found, rest_found}
use Rattle.element.proofs.Laws.{until_step}

-- an element with its length field
pub record Framed : Type 0 where
  pub field : List ℕ
  pub bytes : List ℕ

-- it has a byte, and the field states how many, whatever follows
pub record States (x : Framed) : Type 0 where
  pub some : 1 ≤ length x.bytes
  pub reads : (rest : List ℕ) → size_field (x.field ++ rest) ≡ sized (length x.bytes) (length x.field)

abbrev pub AllState : List Framed → Type 0
AllState [] = Unit {0}
AllState (x ∷ xs) = States x × AllState xs

abbrev pub framed : Framed → List ℕ
framed x = x.field ++ x.bytes

pub encode_states : (bytes : List ℕ) → 1 ≤ length bytes → length bytes ≤ largest_value → States (record { field = encode (length bytes); bytes = bytes })
encode_states bytes s h = record { some = s; reads = λ rest. read_back_lem (length bytes) rest h }

pub padded_states : (n : ℕ) (bytes : List ℕ) → n < longest_field → length bytes < cap (suc n) → 1 ≤ length bytes → length bytes ≤ largest_value
    → States (record { field = form n (length bytes); bytes = bytes })
padded_states n bytes p c s h =
    record {
      some = s;
      reads = λ rest. padded_read n (length bytes) rest p c h ∙ ap (sized (length bytes)) (sym (form_length n (length bytes)));
    }

-- ---- where they lie, the first at a cursor

abbrev part_at : ℕ → Framed → Part
part_at at x = record { start = at + length x.field; length = length x.bytes; next = at + length x.field + length x.bytes }

abbrev parts_at : ℕ → List Framed → List Part
parts_at at [] = []
parts_at at (x ∷ xs) = part_at at x ∷ parts_at (part_at at x).next xs

element_written : (at : ℕ) (x : Framed) (rest : List ℕ) → States x → element_at true at (framed x ++ rest) ≡ given (part_at at x)
unfolding element_at
element_written at x rest s =
    let n : length (framed x ++ rest) ≡ length x.field + length x.bytes + length rest = simp length-append in
    ap (counted at (length (framed x ++ rest))) (ap size_field (append_assoc x.field x.bytes rest) ∙ s.reads (x.bytes ++ rest))
    ∙ field_found at (length (framed x ++ rest)) (length x.bytes) (length x.field) (λ e. omega (arith, s.some)) (omega arith)

-- what is left after it
after_written : (at : ℕ) (x : Framed) (rest : List ℕ) → drop ((part_at at x).next - at) (framed x ++ rest) ≡ rest
after_written at x rest = drop_at (framed x) rest ((part_at at x).next - at) (length-append x.field x.bytes ∙ omega arith)

until_written : (at : ℕ) (xs : List Framed) → AllState xs → until_end (flat_map framed xs) at ≡ given (parts_at at xs)
unfolding flat_map stream_from
until_written at [] s = refl
until_written at (x ∷ xs) s =
    let l : List ℕ = framed x ++ flat_map framed xs in
    let n : length l ≡ length x.field + length x.bytes + length (flat_map framed xs) = simp length-append in
    let h : 0 < length l = omega (arith, s.0.some) in
    until_step l at h
    ∙ ap (λ (a : Answer Part). followed a (λ next. until_end (drop (next - at) l) next)) (element_written at x (flat_map framed xs) s.0)
    ∙ ap (first (part_at at x))
    (ap (λ (r : List ℕ). until_end r (part_at at x).next) (after_written at x (flat_map framed xs)) ∙ until_written (part_at at x).next xs s.1)

-- the same with a last element that has no length field
abbrev last_at : ℕ → List ℕ → Part
last_at at last = record { start = at; length = length last; next = at + length last }

abbrev parts_to : ℕ → List Framed → List ℕ → List Part
parts_to at [] last = last_at at last ∷ []
parts_to at (x ∷ xs) last = part_at at x ∷ parts_to (part_at at x).next xs last

exactly_written : (at : ℕ) (xs : List Framed) (last : List ℕ) → AllState xs → 1 ≤ length last
    → exactly (suc (length xs)) (flat_map framed xs ++ last) at ≡ given (parts_to at xs last)
unfolding flat_map exactly element_at
exactly_written at [] last s h =
    ap (λ (a : Answer Part). followed a (λ next. exactly 0 (drop (next - at) last) next)) (rest_found at (length last) (λ e. omega arith))
exactly_written at (x ∷ xs) last s h =
    let rest : List ℕ = flat_map framed xs ++ last in
    let l : List ℕ = framed x ++ rest in
    ap (λ (r : List ℕ). exactly (suc (length (x ∷ xs))) r at) (append_assoc (framed x) (flat_map framed xs) last)
    ∙ ap (λ (t : Bool). followed (element_at (not t) at l) (λ next. exactly (suc (length xs)) (drop (next - at) l) next)) (ne_eqb (suc (length xs)) 0 (λ e. omega arith))
    ∙ ap (λ (a : Answer Part). followed a (λ next. exactly (suc (length xs)) (drop (next - at) l) next)) (element_written at x rest s.0)
    ∙ ap (first (part_at at x))
    (ap (λ (r : List ℕ). exactly (suc (length xs)) r (part_at at x).next) (after_written at x rest) ∙ exactly_written (part_at at x).next xs last s.1 h)

-- ---- what they hold

part_bytes : (payload pre bytes post : List ℕ) (at : ℕ) → payload ≡ pre ++ (bytes ++ post) → length pre ≡ at → take (length bytes) (drop at payload) ≡ bytes
part_bytes payload pre bytes post at e n =
    ap (λ (l : List ℕ). take (length bytes) (drop at l)) e
    ∙ ap (take (length bytes)) (drop_at pre (bytes ++ post) at n)
    ∙ take_at bytes post (length bytes) refl

module _ (payload : List ℕ) where
  -- of the first, and the bytes before the others
  head_bytes_lem : (pre : List ℕ) (x : Framed) (post : List ℕ) (at : ℕ) → payload ≡ pre ++ (framed x ++ post) → length pre ≡ at
      → bytes_of payload (part_at at x) ≡ x.bytes
  head_bytes_lem pre x post at e n =
      part_bytes payload (pre ++ x.field) x.bytes post (at + length x.field) (e ∙ simp append_assoc) (simp length-append (omega arith))

  next_pre : (pre : List ℕ) (x : Framed) (at : ℕ) → length pre ≡ at → length (pre ++ framed x) ≡ (part_at at x).next
  next_pre pre x at n = simp length-append (omega arith)

  end_bytes : (pre : List ℕ) (xs : List Framed) (at : ℕ) → payload ≡ pre ++ flat_map framed xs → length pre ≡ at
      → map (bytes_of payload) (parts_at at xs) ≡ map (λ (x : Framed). x.bytes) xs
  unfolding flat_map
  end_bytes pre [] at e n = refl
  end_bytes pre (x ∷ xs) at e n =
      ap₂ (λ (b : List ℕ) (bs : List (List ℕ)). b ∷ bs) (head_bytes_lem pre x (flat_map framed xs) at e n)
      (end_bytes (pre ++ framed x) xs (part_at at x).next (e ∙ sym (append_assoc pre (framed x) (flat_map framed xs))) (next_pre pre x at n))

  to_bytes : (pre : List ℕ) (xs : List Framed) (last : List ℕ) (at : ℕ) → payload ≡ pre ++ (flat_map framed xs ++ last) → length pre ≡ at
      → map (bytes_of payload) (parts_to at xs last) ≡ map (λ (x : Framed). x.bytes) xs ++ (last ∷ [])
  unfolding flat_map
  to_bytes pre [] last at e n = ap (λ (b : List ℕ). b ∷ []) (part_bytes payload pre last [] at (e ∙ ap (λ (l : List ℕ). pre ++ l) (sym (append-nil last))) n)
  to_bytes pre (x ∷ xs) last at e n =
      let f : payload ≡ pre ++ (framed x ++ (flat_map framed xs ++ last)) = e ∙ simp append_assoc in
      ap₂ (λ (b : List ℕ) (bs : List (List ℕ)). b ∷ bs) (head_bytes_lem pre x (flat_map framed xs ++ last) at f n)
      (to_bytes (pre ++ framed x) xs last (part_at at x).next (f ∙ sym (append_assoc pre (framed x) (flat_map framed xs ++ last))) (next_pre pre x at n))

-- ---- a payload carries these elements

flat_some : (xs : List Framed) → AllState xs → 1 ≤ length xs → 1 ≤ length (flat_map framed xs)
unfolding flat_map
flat_some [] s n = absurd (omega arith)
flat_some (x ∷ xs) s n = simp length-append (omega (arith, s.0.some))

count_zero : (l : List ℕ) → 1 ≤ length l → counting 0 l ≡ until_end l 1
unfolding counting
count_zero l n = rw (ne_eqb (length l) 0 (λ e. omega arith))

count_some : (w : ℕ) (l : List ℕ) → counting (suc w) l ≡ exactly (suc w) l 1
unfolding counting
count_some w l = rw (ne_eqb (suc w) 0 (λ e. omega arith))

module _ (h : ℕ) (bits : (eqb (z_bit h) 1 && eqb (n_bit h) 1) ≡ false) where
  by_w : (w : ℕ) (l : List ℕ) → w_of h ≡ w → elements_of (h ∷ l) ≡ counting w l
  unfolding elements_of
  by_w w l e = ap (λ (t : Bool). cond t (refused 15 0) (counting (w_of h) l)) bits ∙ ap (λ (n : ℕ). counting n l) e

  module _ (xs : List Framed) (s : AllState xs) where
    pub carried_end : w_of h ≡ 0 → 1 ≤ length xs → ReadsAs (h ∷ flat_map framed xs) (map (λ (x : Framed). x.bytes) xs)
    carried_end w n =
        record {
          parts = parts_at 1 xs;
          read = by_w 0 (flat_map framed xs) w ∙ count_zero (flat_map framed xs) (flat_some xs s n) ∙ until_written 1 xs s;
          holds = end_bytes (h ∷ flat_map framed xs) (h ∷ []) xs 1 refl refl;
        }

    pub carried_w : (last : List ℕ) → w_of h ≡ suc (length xs) → 1 ≤ length last
        → ReadsAs (h ∷ (flat_map framed xs ++ last)) (map (λ (x : Framed). x.bytes) xs ++ (last ∷ []))
    carried_w last w n =
        record {
          parts = parts_to 1 xs last;
          read =
              by_w (suc (length xs)) (flat_map framed xs ++ last) w
              ∙ count_some (length xs) (flat_map framed xs ++ last)
              ∙ exactly_written 1 xs last s n;
          holds = to_bytes (h ∷ (flat_map framed xs ++ last)) (h ∷ []) xs last 1 refl refl;
        }
