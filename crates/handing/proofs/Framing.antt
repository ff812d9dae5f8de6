-- An OBU as it goes out: how long it is, and written piece after piece. Assumes nothing.
use mathlib.Core.Path.{◌≡◌, refl, sym, ap, ap₂, ◌∙◌}
use Prim.Native.Nat.{ℕ, ◌+◌, ◌≤◌}
use native.Mathlib.Omega.{arith}
use mathlib.Core.List.{List, [], ◌∷◌, ◌++◌, append_assoc}
use mathlib.Core.Bool.{Bool, true, false, cond}
use lib.ListN.{length, drop, length-append, length-drop}
use lib.Dec.{eqb}
use borrow.Author.Tests.{eqb-true, eqb-false}
use Rattle.base.specs.Answers.{Answer, given, refused}
use Rattle.base.specs.Lists.{replaced}
use Rattle.base.proofs.Tests.{by_cond, cond_same}
use Rattle.leb128.specs.Field.{encode, is_padded, largest_value}
use Rattle.leb128.proofs.Theorems.{size_most}
use Rattle.obu.specs.Header.{type_of, extension_bit, header_length, marked, drops}
use Rattle.obu.specs.Front.{Front, start_of, span_of, Seen, found, stopped, front_of}
use Rattle.obu.specs.Wire.{extension_bytes, exactly, whole_of, framed, wire, padded_size}
use Rattle.handing.specs.Inside.{handed_of, counted_one, put_at}
use Rattle.handing.specs.declared.Handed.{Handed}
use Rattle.handing.proofs.Lists.{replaced_none, replaced_more}

extension_length : (h e : ℕ) → length (extension_bytes h e) ≡ extension_bit h
extension_length h e =
    by_cond (λ (l : List ℕ). length l ≡ extension_bit h) (eqb (extension_bit h) 1) (e ∷ []) []
    (λ t. sym (eqb-true (extension_bit h) 1 t))
    (λ t. let n : (extension_bit h ≡ 1 → ⊥) = eqb-false (extension_bit h) 1 t in omega arith)

pub framed_length : (h e : ℕ) (body : List ℕ) → length (framed h e body) ≡ header_length h + length (encode (length body)) + length body
framed_length h e body =
    omega (arith, length-append (extension_bytes h e) (encode (length body) ++ body), length-append (encode (length body)) body, extension_length h e)

-- what is known of an OBU of exactly these bytes
module _ (all : List ℕ) (f : Front) (s : span_of f ≡ length all) where
  pub body_length : length (drop (start_of f) all) ≡ f.payload
  body_length = omega (arith, length-drop (start_of f) all)

  pub out_length : length (framed f.header f.extension (drop (start_of f) all)) ≡ header_length f.header + length (encode f.payload) + f.payload
  out_length =
      framed_length f.header f.extension (drop (start_of f) all)
      ∙ ap (λ (n : ℕ). header_length f.header + length (encode n) + n) body_length

  pub out_put : (out one two three : List ℕ) (at field cursor skip : ℕ) → at ≤ length out
      → field ≡ at + header_length f.header → one ≡ replaced out at (marked f.header ∷ extension_bytes f.header f.extension)
      → cursor ≡ field + length (encode f.payload) → two ≡ replaced one field (encode f.payload)
      → skip ≡ start_of f → three ≡ replaced two cursor (drop skip all)
      → three ≡ replaced out at (framed f.header f.extension (drop (start_of f) all))
  out_put out one two three at field cursor skip room a e b g c k =
      let h : List ℕ = marked f.header ∷ extension_bytes f.header f.extension in
      let v : List ℕ = encode f.payload in
      let body : List ℕ = drop (start_of f) all in
      let n : field ≡ at + length h = omega (arith, extension_length f.header f.extension) in
      let m : cursor ≡ at + length (h ++ v) = omega (arith, length-append h v) in
      let x : two ≡ replaced out at (h ++ v) = g ∙ ap₂ (λ (l : List ℕ) (i : ℕ). replaced l i v) e n ∙ replaced_more out at h v room in
      let y : three ≡ replaced out at ((h ++ v) ++ body) =
      k ∙ ap (λ (i : ℕ). replaced two cursor (drop i all)) c ∙ ap₂ (λ (l : List ℕ) (i : ℕ). replaced l i body) x m ∙ replaced_more out at (h ++ v) body room in
      y
      ∙ ap (replaced out at) (append_assoc h v body ∙ ap (λ (i : ℕ). h ++ (encode i ++ body)) (sym body_length))

-- ---- what goes out, by what the code finds

pub field_most : (v : ℕ) → v ≤ largest_value → length (encode v) ≤ 5
field_most v h = size_most 5 v (omega arith) (omega arith) h

module _ (all : List ℕ) where
  pub whole_spans : (f : Front) → given f ≡ whole_of all → span_of f ≡ length all
  unfolding whole_of
  whole_spans f = go (front_of all)
    where
      go : (s : Seen) → given f ≡ exactly all s → span_of f ≡ length all
      go (stopped n) e = let z : ◌≡◌ {A = ℕ} 0 1 = cc in absurd (omega arith)
      go (found g) e = by (eqb (span_of g) (length all)) refl e
        where
          by : (t : Bool) → eqb (span_of g) (length all) ≡ t → given f ≡ cond t (given g) (refused 18 0) → span_of f ≡ length all
          by true q e = let h : f ≡ g = cc in ap span_of h ∙ eqb-true (span_of g) (length all) q
          by false q e = let z : ◌≡◌ {A = ℕ} 0 1 = cc in absurd (omega arith)

  pub wire_dropped : (f : Front) → given f ≡ whole_of all → drops (type_of f.header) ≡ true → wire all ≡ given []
  unfolding wire
  wire_dropped f e d = rw (← e, d)

  pub wire_kept : (f : Front) → given f ≡ whole_of all → drops (type_of f.header) ≡ false
      → wire all ≡ given (framed f.header f.extension (drop (start_of f) all))
  unfolding wire
  wire_kept f e d = rw (← e, d)

  pub wire_broken : (n at : ℕ) → refused n at ≡ whole_of all → wire all ≡ refused n at
  unfolding wire
  wire_broken n at e = rw (← e)

  -- its size field, as it was found
  pub size_padded : (f : Front) → given f ≡ whole_of all → {n : ℕ} → n ≡ cond (is_padded f.payload f.field) 1 0 → n ≡ cond (padded_size all) 1 0
  unfolding padded_size
  size_padded f e p = rw (← e) p

-- the promise of one finished OBU
abbrev pub Finished : List ℕ → List ℕ → ℕ → Bool → Answer Handed → List ℕ → Type 0
Finished o out at write answer after = (answer ≡ counted_one o) × (after ≡ cond write (put_at out at (wire o)) out)

module _ (o out : List ℕ) (at : ℕ) (write : Bool) where
  pub finished_none : {n : ℕ} → wire o ≡ given [] → n ≡ cond (padded_size o) 1 0 → Finished o out at write (given (handed_of n [])) out
  finished_none e p = rw e (ap (λ (m : ℕ). given (handed_of m [])) p, same write)
    where
      same : (t : Bool) → out ≡ cond t (replaced out at []) out
      same true = sym (replaced_none out at)
      same false = refl

  pub finished_bad : {n a : ℕ} → wire o ≡ refused n a → Finished o out at write (refused n a) out
  finished_bad e = rw e (refl, sym (cond_same write out))

  pub finished_some : {bytes after : List ℕ} {h : Handed} → wire o ≡ given bytes → h ≡ handed_of (cond (padded_size o) 1 0) bytes
      → after ≡ cond write (replaced out at bytes) out → Finished o out at write (given h) after
  finished_some e l p = rw e (ap given l, p)
