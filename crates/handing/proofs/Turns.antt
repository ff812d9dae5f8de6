-- Finishing element after element, turn by turn. Assumes nothing.
use mathlib.Core.Path.{◌≡◌, refl, sym, ap, ap₂, subst, ◌∙◌}
use Prim.Native.Nat.{ℕ, suc, ◌+◌, ◌-◌, ◌*◌, ◌≤◌, ◌<◌}
use native.Mathlib.Numerals.{add-one}
use native.Mathlib.Omega.{arith}
use mathlib.Core.List.{List, [], ◌∷◌, ◌++◌, append-nil, map}
use mathlib.Core.Bool.{Bool, true, false, cond}
use lib.ListN.{length, get_or, take, drop, length-append, length-drop, length-map, get_or-map}
use lib.Seq.{drop-cons, length-take-le}
use Rattle.base.specs.Answers.{Answer, given, refused}
use Rattle.base.specs.Lists.{replaced, front}
use Rattle.base.proofs.Lists.{front_more}
use Rattle.leb128.specs.Field.{encode}
use Rattle.leb128.proofs.Theorems.{size_most}
use Rattle.obu.specs.Header.{type_of, drops}
use Rattle.obu.specs.Front.{Front, start_of, span_of}
use Rattle.obu.specs.Wire.{whole_of, framed, wire, padded_size}
use Rattle.element.specs.Header.{w_of}
use Rattle.element.specs.Elements.{bytes_of, nowhere, element_at, has_field}
use Rattle.element.specs.Laws.{Lies, Stands}
use Rattle.element.specs.declared.Part.{Part}
use Rattle.handing.specs.Handing.{fragment_limit, before, wires, padded_sizes}
use Rattle.handing.specs.Inside.{across, handed_of, both, counted, counted_all, RoomAt, put_at, put_first, parts_of, cursor_of, led, between, Finishing}
use Rattle.handing.specs.declared.Handed.{Handed}
use Rattle.handing.proofs.Wires.{before_assoc, before_none, sizes_none, sizes_next, sizes_one}
use Rattle.handing.proofs.Cursors.{cursor_next, cursor_some, cursor_inside, payload_small, read_at, part_at}
use Rattle.handing.proofs.Across.{across_length}
use Rattle.handing.proofs.Framing.{out_length, whole_spans, wire_dropped, wire_kept, wire_broken}

-- ---- one OBU grows by 3 bytes at most

pub wire_grows : (all bytes : List ℕ) → length all < 2097152 → wire all ≡ given bytes → length bytes ≤ length all + 3
wire_grows all bytes small e = go (whole_of all) refl
  where
    by_type : (f : Front) → given f ≡ whole_of all → (t : Bool) → drops (type_of f.header) ≡ t → length bytes ≤ length all + 3
    by_type f h true d =
        let q : given bytes ≡ given [] = sym e ∙ wire_dropped all f h d in
        let r : bytes ≡ [] = cc in
        rw r (omega arith)
    by_type f h false d =
        let b : List ℕ = framed f.header f.extension (drop (start_of f) all) in
        let q : given bytes ≡ given b = sym e ∙ wire_kept all f h d in
        let r : bytes ≡ b = cc in
        let s : span_of f ≡ length all = whole_spans all f h in
        let n : length (encode f.payload) ≤ 3 = size_most 3 f.payload (omega arith) (omega arith) (omega arith) in
        rw r (omega (arith, out_length all f s))

    go : (a : Answer Front) → whole_of all ≡ a → length bytes ≤ length all + 3
    go (given f) h = by_type f (sym h) (drops (type_of f.header)) refl
    go (refused n at) h =
        let q : given bytes ≡ refused n at = sym e ∙ wire_broken all n at (sym h) in
        let z : ◌≡◌ {A = ℕ} 0 1 = cc in
        absurd (omega arith)

-- ---- answers

-- what was counted
pub counted_given : (w : Answer (List ℕ)) {m : ℕ} {h : Handed} → given h ≡ counted m w → (bytes : List ℕ) × (w ≡ given bytes) × (h ≡ handed_of m bytes)
counted_given (given bytes) {m} {h} e = let f : h ≡ handed_of m bytes = cc in (bytes, refl, f)
counted_given (refused k at) e = let z : ◌≡◌ {A = ℕ} 0 1 = cc in absurd (omega arith)

pub counted_refused : (m : ℕ) (w : Answer (List ℕ)) {n at : ℕ} → refused n at ≡ counted m w → w ≡ refused n at
counted_refused m (given bytes) e = let z : ◌≡◌ {A = ℕ} 0 1 = cc in absurd (omega arith)
counted_refused m (refused k a) {n} {at} e =
    let h : k ≡ n = cc in
    let j : a ≡ at = cc in
    ap₂ refused h j

-- room for all is room for the next
room_next : (room : ℕ) (a : List ℕ) (w x : Answer (List ℕ)) → RoomAt room 0 (before (given a) (before w x)) → RoomAt room (length a) w
room_next room a (given b) (given c) h = omega (arith, length-append a (b ++ c), length-append b c)
room_next room a (given b) (refused n at) h = absurd h
room_next room a (refused n at) x h = absurd h

-- ---- the OBUs that are left

pub led_none : (es : List (List ℕ)) → led [] es ≡ es
led_none [] = refl
led_none (e ∷ es) = refl

-- the next one, and then the rest with nothing in front
pub between_next : (store payload : List ℕ) (kept i to : ℕ) → i < to → i < length (parts_of payload)
    → let p : Part = get_or (parts_of payload) i nowhere in
    between store kept payload i to ≡ across store kept payload p.start p.length ∷ between store 0 payload (i + 1) to
between_next store payload kept i to h k =
    let ps : List Part = parts_of payload in
    let es : List (List ℕ) = map (bytes_of payload) ps in
    let n : to - i ≡ suc (to - (i + 1)) = omega arith in
    let d : drop i es ≡ bytes_of payload (get_or ps i nowhere) ∷ drop (i + 1) es =
    drop-cons es i [] (omega (arith, length-map ps (bytes_of payload)))
    ∙ rw (add-one i, get_or-map (bytes_of payload) ps i nowhere) in
    rw (n, d, led_none (drop (i + 1) es))

pub between_end : (store payload : List ℕ) (kept i to : ℕ) → to ≤ i → between store kept payload i to ≡ []
between_end store payload kept i to h = let n : to - i ≡ 0 = omega arith in rw n

-- ---- what the loop keeps: those before element i are finished, and what goes out for them is stored where told to

pub record Handing (payload store : List ℕ) (from to joined : ℕ) (write : Bool) (out₀ : List ℕ) (at i kept : ℕ) (sum : Handed) (out : List ℕ) : Type 0 where
  pub done : List ℕ
  pub cursor : at ≡ cursor_of (parts_of payload) i
  pub within : i ≤ length (parts_of payload)
  pub stored : kept ≤ length store
  pub small : kept ≤ fragment_limit
  pub bound : sum.bytes + kept ≤ fragment_limit + 4 * at
  pub same : length out ≡ length out₀
  pub bytes_done : sum.bytes ≡ length done
  pub sizes_done : sum.padded + padded_sizes (between store kept payload i to) ≡ padded_sizes (between store joined payload from to)
  pub few : sum.padded ≤ at
  pub wrote : out ≡ cond write (front done out₀) out₀
  pub all : wires (between store joined payload from to) ≡ before (given done) (wires (between store kept payload i to))

pub handing_first : {payload store : List ℕ} {cursor from to joined : ℕ} → Finishing payload cursor from to store joined → (write : Bool) (out : List ℕ)
    → Handing payload store from to joined write out cursor from joined (handed_of 0 []) out
handing_first {payload} {store} {cursor} {from} {to} {joined} f write out =
    record {
      done = [];
      cursor = f.cursor_is;
      within = f.from_in;
      stored = f.stored;
      small = f.small;
      bound = omega arith;
      same = refl;
      bytes_done = refl;
      sizes_done = omega arith;
      few = omega arith;
      wrote = same write;
      all = sym (before_none (wires (between store joined payload from to)));
    }
  where
    same : (t : Bool) → out ≡ cond t out out
    same true = refl
    same false = refl

-- this part is element i, and comes before element `to`
pub record Turn (payload : List ℕ) (i to : ℕ) (p : Part) : Type 0 where
  pub here : p ≡ get_or (parts_of payload) i nowhere
  pub more : i < to
  pub some : i < length (parts_of payload)

module _ {payload store : List ℕ} {cursor from to joined : ℕ} {write : Bool} {out₀ : List ℕ} {at i kept : ℕ} {sum : Handed} {out : List ℕ}
    (s : Handing payload store from to joined write out₀ at i kept sum out) (f : Finishing payload cursor from to store joined) where
  -- the answer, and what stands in the output
  abbrev Ends : Answer Handed → Type 0
  Ends answer =
      (answer ≡ counted_all (between store joined payload from to))
      × (out ≡ cond write (put_first out₀ (wires (between store joined payload from to))) out₀)

  pub handing_end : to ≤ i → Ends (given sum)
  unfolding wires
  handing_end h =
      let e : wires (between store joined payload from to) ≡ given s.done =
      s.all ∙ ap (λ (os : List (List ℕ)). before (given s.done) (wires os)) (between_end store payload kept i to h) ∙ ap given (append-nil s.done) in
      let p : sum.padded ≡ padded_sizes (between store joined payload from to) =
      omega (arith, s.sizes_done, ap padded_sizes (between_end store payload kept i to h), sizes_none) in
      let c : sum ≡ handed_of (padded_sizes (between store joined payload from to)) s.done = ap₂ (λ (b m : ℕ). record { bytes = b; padded = m }) s.bytes_done p in
      (ap given c ∙ sym (ap (counted (padded_sizes (between store joined payload from to))) e), s.wrote ∙ ap (λ (w : Answer (List ℕ)). cond write (put_first out₀ w) out₀) (sym e))

  -- element i is read at its cursor
  module _ {w : ℕ} {field : Bool} (more : i < to) (v : w ≡ w_of (get_or payload 0 0)) (e : field ≡ has_field w i) where
    read_here : element_at field at (drop at payload) ≡ given (get_or (parts_of payload) i nowhere)
    read_here =
        ap (λ (t : Bool). element_at t at (drop at payload)) (e ∙ ap (λ (n : ℕ). has_field n i) v)
        ∙ ap (λ (n : ℕ). element_at (has_field (w_of (get_or payload 0 0)) i) n (drop n payload)) s.cursor
        ∙ read_at payload (parts_of payload) f.whole i (omega (arith, f.to_in))

    pub handing_stands : Stands field at payload
    handing_stands =
        record {
          inside = rw s.cursor (cursor_inside payload (parts_of payload) f.whole i s.within);
          part = get_or (parts_of payload) i nowhere;
          is = read_here;
        }

    pub handing_turn : {p : Part} → given p ≡ element_at field at (drop at payload) → Turn payload i to p
    handing_turn {p} q =
        let g : given p ≡ given (get_or (parts_of payload) i nowhere) = q ∙ read_here in
        record { here = cc; more = more; some = omega (arith, f.to_in) }

  module _ {p : Part} (t : Turn payload i to p) where
    pub handing_part : Lies at (length payload) p
    handing_part =
        subst (λ (q : Part). Lies at (length payload) q) (sym t.here)
        (subst (λ (n : ℕ). Lies n (length payload) (get_or (parts_of payload) i nowhere)) (sym s.cursor) (part_at payload (parts_of payload) f.whole i t.some))

    pub handing_size : kept + p.length < 2097152
    handing_size = let l = handing_part in omega (arith, s.small, s.cursor, payload_small payload (parts_of payload) f.whole, cursor_some payload (parts_of payload) f.whole i s.within)

    -- the OBU that this element finishes, as it is lent
    abbrev obu : List ℕ
    obu = take kept store ++ take (p.next - p.start) (drop p.start payload)

    pub handing_lent :
        (obu ≡ across store kept payload p.start p.length)
        × (1 ≤ length (take (p.next - p.start) (drop p.start payload)))
        × (length (take kept store) + length (take (p.next - p.start) (drop p.start payload)) < 4294967296)
    handing_lent =
        let l = handing_part in
        let z = handing_size in
        let n : p.next - p.start ≡ p.length = omega arith in
        let e = length-take-le (p.next - p.start) (drop p.start payload) (omega (arith, length-drop p.start payload)) in
        let k = length-take-le kept store s.stored in
        (ap (λ (m : ℕ). take kept store ++ take m (drop p.start payload)) n, omega arith, omega arith)

    all_next : wires (between store joined payload from to) ≡ before (given s.done) (before (wire obu) (wires (between store 0 payload (i + 1) to)))
    unfolding wires
    all_next =
        s.all
        ∙ ap (λ (os : List (List ℕ)). before (given s.done) (wires os)) (between_next store payload kept i to t.more t.some)
        ∙ ap (λ (q : Part). before (given s.done) (before (wire (across store kept payload q.start q.length)) (wires (between store 0 payload (i + 1) to)))) (sym t.here)
        ∙ ap (λ (o : List ℕ). before (given s.done) (before (wire o) (wires (between store 0 payload (i + 1) to)))) (sym handing_lent.0)

    -- the padded size fields that are left
    sizes_left : padded_sizes (between store kept payload i to) ≡ cond (padded_size obu) 1 0 + padded_sizes (between store 0 payload (i + 1) to)
    sizes_left =
        ap padded_sizes (between_next store payload kept i to t.more t.some)
        ∙ ap (λ (q : Part). padded_sizes (across store kept payload q.start q.length ∷ between store 0 payload (i + 1) to)) (sym t.here)
        ∙ ap (λ (o : List ℕ). padded_sizes (o ∷ between store 0 payload (i + 1) to)) (sym handing_lent.0)
        ∙ sizes_next obu (between store 0 payload (i + 1) to)

    pub handing_most : (b : List ℕ) → wire obu ≡ given b → length b ≤ kept + p.length + 3
    handing_most b e =
        let l = handing_part in
        let n : length obu ≡ kept + p.length = ap length handing_lent.0 ∙ across_length store payload kept p.start p.length s.stored (omega arith) in
        omega (arith, n, handing_size, wire_grows obu b (omega (arith, n, handing_size)) e)

    -- what it adds fits
    pub handing_fits : {b : List ℕ} {one : Handed} → wire obu ≡ given b → one ≡ handed_of (cond (padded_size obu) 1 0) b
        → (sum.bytes + one.bytes < 18446744073709551616) × (sum.padded + one.padded < 18446744073709551616)
    handing_fits {b} {one} e l =
        let h = handing_part in
        let m = handing_most b e in
        let z = payload_small payload (parts_of payload) f.whole in
        (omega (arith, ap (λ (h : Handed). h.bytes) l, h, m, s.bound, z, s.small), omega (arith, ap (λ (h : Handed). h.padded) l, h, sizes_one obu, s.few, z))

    pub handing_room : (write ≡ true → RoomAt (length out₀) 0 (wires (between store joined payload from to))) → write ≡ true → RoomAt (length out) sum.bytes (wire obu)
    handing_room room t =
        let r : RoomAt (length out₀) (length s.done) (wire obu) =
        room_next (length out₀) s.done (wire obu) (wires (between store 0 payload (i + 1) to)) (subst (RoomAt (length out₀) 0) all_next (room t)) in
        rw (s.same, s.bytes_done) r

    pub handing_broken : {n a : ℕ} → (write ≡ true → RoomAt (length out₀) 0 (wires (between store joined payload from to))) → wire obu ≡ refused n a
        → {new : List ℕ} → new ≡ cond write (put_at out sum.bytes (wire obu)) out
        → (refused n a ≡ counted_all (between store joined payload from to))
        × (new ≡ cond write (put_first out₀ (wires (between store joined payload from to))) out₀)
    handing_broken {n} {a} room e {new} g =
        let w : wires (between store joined payload from to) ≡ refused n a =
        all_next ∙ ap (λ (x : Answer (List ℕ)). before (given s.done) (before x (wires (between store 0 payload (i + 1) to)))) e in
        (sym (ap (counted (padded_sizes (between store joined payload from to))) w), g ∙ rw (e, w) (unwritten write (λ t. subst (RoomAt (length out₀) 0) w (room t)) s.wrote))
      where
        unwritten : (t : Bool) → (t ≡ true → ⊥) → out ≡ cond t (front s.done out₀) out₀ → cond t out out ≡ cond t out₀ out₀
        unwritten true never e = absurd (never refl)
        unwritten false never e = e

    pub handing_next : {new b : List ℕ} {one next : Handed} → wire obu ≡ given b → one ≡ handed_of (cond (padded_size obu) 1 0) b → next ≡ both sum one → length new ≡ length out
        → new ≡ cond write (put_at out sum.bytes (wire obu)) out
        → Handing payload store from to joined write out₀ p.next (i + 1) 0 next new
    handing_next {new} {b} {one} {next} e l m k g =
        let c : next ≡ both sum (handed_of (cond (padded_size obu) 1 0) b) = m ∙ ap (both sum) l in
        let n : next.bytes ≡ length (s.done ++ b) = omega (arith, ap (λ (h : Handed). h.bytes) c, s.bytes_done, length-append s.done b) in
        let q : next.padded ≡ sum.padded + cond (padded_size obu) 1 0 = ap (λ (h : Handed). h.padded) c in
        record {
          done = s.done ++ b;
          cursor = ap (λ (q : Part). q.next) t.here ∙ sym (cursor_next (parts_of payload) i);
          within = omega arith;
          stored = omega arith;
          small = omega arith;
          bound = let h = handing_part in omega (arith, n, length-append s.done b, s.bytes_done, handing_most b e);
          same = k ∙ s.same;
          bytes_done = n;
          sizes_done = omega (arith, q, sizes_left, s.sizes_done);
          few = let h = handing_part in omega (arith, q, s.few, sizes_one obu);
          wrote = g ∙ rw e (written write s.wrote);
          all =
              all_next
              ∙ ap (λ (x : Answer (List ℕ)). before (given s.done) (before x (wires (between store 0 payload (i + 1) to)))) e
              ∙ sym (before_assoc (given s.done) (given b) (wires (between store 0 payload (i + 1) to)));
        }
      where
        written : (t : Bool) → out ≡ cond t (front s.done out₀) out₀ → cond t (replaced out sum.bytes b) out ≡ cond t (front (s.done ++ b) out₀) out₀
        written true e = ap₂ (λ (x : List ℕ) (m : ℕ). replaced x m b) e s.bytes_done ∙ front_more s.done b out₀
        written false e = e
