-- What holds of a unit's OBUs, and of what goes out for them. Assumes nothing.
--     kept-inside   a kept OBU lies in its unit: its size is at least 1 and at most the unit's length, and so on (Inside)
--     kept_small    its header and extension byte are bytes
--     sent-length   what is sent of it has its size
--     wire-sent     what a receiver makes of that: bit 1 set, extension byte, shortest size field, payload
--     wire-small    for all kept OBUs of a unit that is at most the unit's length plus 3 bytes
--     sizes-small   the sizes of all kept OBUs of a unit together are at most the unit's length
use mathlib.Core.Path.{◌≡◌, refl, sym, ap, ap₂, ◌∙◌}
use Prim.Native.Nat.{ℕ, suc, ◌+◌, ◌-◌, ◌*◌, ◌/◌, ◌%◌, ◌≤◌, ◌<◌}
use native.Mathlib.Omega.{arith}
use mathlib.Core.List.{List, [], ◌∷◌, ◌++◌, map, flat_map}
use mathlib.Core.Bool.{Bool, true, false, cond}
use mathlib.Core.Logic.{⊎_elim}
use lib.ListN.{length, drop, length-append, length-drop}
use lib.Seq.{length-take-le, get_or-drop}
use lib.Dec.{leb, eqb}
use lib.Pow.{shr-shr}
use borrow.Author.Tests.{eq-eqb, ne_eqb, eqb-true, eqb-false}
use Rattle.base.specs.Answers.{given}
use Rattle.base.specs.Lists.{keep, All}
use Rattle.base.specs.Streams.{chained}
use Rattle.base.proofs.Lists.{all_keep}
use Rattle.base.proofs.Tests.{by_cond}
use Rattle.base.proofs.Streams.{Keeps, After, stream_each, stream_all}
use Rattle.leb128.specs.Field.{Field, sized, unreadable, size_field, encode}
use Rattle.leb128.proofs.Theorems.{size_most}
use Rattle.obu.specs.Header.{type_of, extension_bit, size_bit, header_length, cleared, marked, drops}
use Rattle.obu.specs.Front.{span_of, Seen, found, stopped, sized_by, headed, extended, front_of}
use Rattle.obu.specs.Unit.{unit_limit, Placed, ended, Scan, obu_by, obu_next, scan_from, scan_of, is_kept, kept_of, obus_of}
use Rattle.obu.specs.Wire.{extension_bytes, payload_of, sent, whole_of, wire, wire_of}
use Rattle.obu.specs.Laws.{Inside, Bytes, Small, Spans}
use Rattle.obu.specs.declared.Obu.{Obu}
use Rattle.obu.proofs.Fronts.{front_spans, obu_some}

-- ---- an OBU lies in its unit

-- bytes that end where the unit ends
abbrev EndsAt : ℕ → ℕ → List ℕ → Type 0
EndsAt total at l = at + length l ≡ total

inside_found : (total at : ℕ) (l : List ℕ) (x : Seen) → Spans l x → EndsAt total at l → Keeps (Inside total) (EndsAt total) l (obu_by at x)
inside_found total at l (stopped n) s q = tt
inside_found total at l (found f) s q = (record { start = refl; within = omega arith; size = refl }, omega (arith, length-drop (span_of f) l))

pub kept_inside : (unit : List ℕ) → All (Inside (length unit)) (kept_of unit)
kept_inside unit =
    all_keep (Inside (length unit)) is_kept (scan_of unit).items
    (stream_all obu_next ended obu_some (Inside (length unit)) (EndsAt (length unit))
    (λ at l h q. inside_found (length unit) at l (front_of l) (front_spans l) q)
    unit 0 (omega arith))

abbrev SmallFront : Seen → Type 0
SmallFront (found f) = (f.header < 256) × (f.extension < 256)
SmallFront (stopped n) = Unit {0}

small_sized : (h e left : ℕ) (f : Field) → h < 256 → e < 256 → SmallFront (sized_by h e left f)
small_sized h e left (unreadable k) a b = tt
small_sized h e left (sized v k) a b = by_cond SmallFront (leb v (left - k)) _ _ (λ t. (a, b)) (λ t. tt)

small_headed : (h e : ℕ) (rest : List ℕ) → h < 256 → e < 256 → SmallFront (headed h e rest)
unfolding headed
small_headed h e rest a b =
    by_cond SmallFront (eqb (size_bit h) 1) _ _
    (λ s. by_cond SmallFront (eqb (length rest) 0) _ _ (λ t. tt) (λ t. small_sized h e (length rest) (size_field rest) a b))
    (λ s. (a, b))

small_front : (l : List ℕ) → Bytes l → SmallFront (front_of l)
unfolding front_of
small_front [] q = tt
small_front (h ∷ l) q = by_cond SmallFront (eqb (extension_bit h) 1) (extended h l) (headed h 0 l) (λ t. second l q) (λ t. small_headed h 0 l (q 0) (omega arith))
  where
    second : (m : List ℕ) → Bytes (h ∷ m) → SmallFront (extended h m)
    second [] r = tt
    second (e ∷ m) r = small_headed h e m (r 0) (r 1)

small_found : (at : ℕ) (l : List ℕ) (x : Seen) → SmallFront x → Bytes l → Keeps Small (λ t. Bytes) l (obu_by at x)
small_found at l (stopped n) s q = tt
small_found at l (found f) s q = (record { header = s.0; extension = s.1 }, λ i. rw (get_or-drop (span_of f) l i 0) (q (span_of f + i)))

pub kept_small : (unit : List ℕ) → Bytes unit → All Small (kept_of unit)
kept_small unit q =
    all_keep Small is_kept (scan_of unit).items
    (stream_all obu_next ended obu_some Small (λ t. Bytes) (λ at l h r. small_found at l (front_of l) (small_front l r) r) unit 0 q)

pub inside_size : (total : ℕ) (p : Placed) → Inside total p → (1 ≤ p.obu.size) × (p.obu.size ≤ total)
inside_size total p i = omega arith

-- ---- what is sent of an OBU, and what a receiver makes of it

cleared_bits : (h : ℕ) → (size_bit (cleared h) ≡ 0) × (extension_bit (cleared h) ≡ extension_bit h) × (type_of (cleared h) ≡ type_of h) × (cleared (cleared h) ≡ cleared h)
cleared_bits h =
    let a : h / 2 / 2 ≡ h / 4 = shr-shr h 1 1 in
    let b : h / 4 / 2 ≡ h / 8 = shr-shr h 2 1 in
    let k : ℕ = h - h / 2 % 2 * 2 in
    let c : k / 2 / 2 ≡ k / 4 = shr-shr k 1 1 in
    let d : k / 4 / 2 ≡ k / 8 = shr-shr k 2 1 in
    let e : k / 2 ≡ h / 4 * 2 = omega arith in
    let f : k / 4 ≡ h / 4 = omega arith in
    let g : k / 8 ≡ h / 8 = omega arith in
    let z : k / 2 % 2 ≡ 0 = omega arith in
    (z, ap (λ (x : ℕ). x % 2) f, ap (λ (x : ℕ). x % 16) g, omega arith)

pub extension_length : (h e : ℕ) → length (extension_bytes h e) ≡ extension_bit h
extension_length h e =
    by_cond (λ (l : List ℕ). length l ≡ extension_bit h) (eqb (extension_bit h) 1) (e ∷ []) []
    (λ t. sym (eqb-true (extension_bit h) 1 t))
    (λ t. let n : (extension_bit h ≡ 1 → ⊥) = eqb-false (extension_bit h) 1 t in omega arith)

pub payload_length : (unit : List ℕ) (o : Obu) → o.start + o.length ≤ length unit → length (payload_of unit o) ≡ o.length
payload_length unit o h = length-take-le o.length (drop o.start unit) (omega (arith, length-drop o.start unit))

pub sent_length : (unit : List ℕ) (p : Placed) → Inside (length unit) p → length (sent unit p.obu) ≡ p.obu.size
sent_length unit p i =
    let o = p.obu in
    omega (arith, length-append (extension_bytes o.header o.extension) (payload_of unit o), extension_length o.header o.extension, payload_length unit o i.within)

-- an OBU without a size field, of exactly its header bytes and its payload
wire_bare : (h e : ℕ) (payload : List ℕ) (t : Bool) → eqb (extension_bit h) 1 ≡ t → size_bit h ≡ 0 → drops (type_of h) ≡ false
    → wire (h ∷ (cond t (e ∷ []) [] ++ payload)) ≡ given (marked h ∷ (cond t (e ∷ []) [] ++ (encode (length payload) ++ payload)))
unfolding wire whole_of front_of headed
wire_bare h e payload true q s d =
    let x : extension_bit h ≡ 1 = eqb-true (extension_bit h) 1 q in
    let y : header_length h + 0 ≡ 2 = omega arith in
    rw (q, ne_eqb (size_bit h) 1 (omega arith), eq-eqb (header_length h + 0 + length payload) (suc (suc (length payload))) (omega arith), d, y, q)
wire_bare h e payload false q s d =
    let x : (extension_bit h ≡ 1 → ⊥) = eqb-false (extension_bit h) 1 q in
    let y : header_length h + 0 ≡ 1 = omega arith in
    rw (q, ne_eqb (size_bit h) 1 (omega arith), eq-eqb (header_length h + 0 + length payload) (suc (length payload)) (omega arith), d, y, q)

pub wire_sent : (unit : List ℕ) (o : Obu) → drops (type_of o.header) ≡ false → wire (sent unit o) ≡ given (wire_of unit o)
wire_sent unit o d =
    let h = o.header in
    let b = cleared_bits h in
    let q : eqb (extension_bit (cleared h)) 1 ≡ eqb (extension_bit h) 1 = ap (λ (x : ℕ). eqb x 1) b.1 in
    wire_bare (cleared h) o.extension (payload_of unit o) (eqb (extension_bit h) 1) q b.0 (ap drops b.2 ∙ d)
    ∙ ap (λ (x : ℕ). given ((x + 2) ∷ (extension_bytes h o.extension ++ (encode (length (payload_of unit o)) ++ payload_of unit o)))) b.3

-- ---- how much is sent and goes out for a unit

-- so much for each OBU, together
unfoldable pub weight : (Placed → ℕ) → List Placed → ℕ
weight each [] = 0
weight each (p ∷ ps) = each p + weight each ps

weight_keep : (each : Placed → ℕ) (test : Placed → Bool) (ps : List Placed) → weight each (keep test ps) ≤ weight each ps
unfolding keep weight
weight_keep each test [] = omega arith
weight_keep each test (p ∷ ps) =
    by_cond (λ (qs : List Placed). weight each qs ≤ each p + weight each ps) (test p) (p ∷ keep test ps) (keep test ps)
    (λ t. omega (arith, weight_keep each test ps))
    (λ t. omega (arith, weight_keep each test ps))

abbrev pub size_of : Placed → ℕ
size_of p = p.obu.size

abbrev Sized : List ℕ → ℕ → Scan → Type 0
Sized l at s = weight size_of s.items ≤ length l

size_next : (at : ℕ) (l : List ℕ) (x : Seen) → Spans l x → After Sized scan_from l (obu_by at x)
    → Sized l at (chained (obu_by at x) (λ n t. scan_from (drop n l) t))
unfolding weight
size_next at l (stopped n) s r = omega arith
size_next at l (found f) s r = omega (arith, r, s.0, length-drop (span_of f) l)

pub sizes_small : (unit : List ℕ) → weight size_of (kept_of unit) ≤ length unit
unfolding weight
sizes_small unit =
    omega (arith, weight_keep size_of is_kept (scan_of unit).items, stream_each obu_next ended obu_some Sized (λ t. omega arith) (λ at l h r. size_next at l (front_of l) (front_spans l) r) unit 0)

wire_size : Placed → ℕ
wire_size p = header_length p.obu.header + length (encode p.obu.length) + p.obu.length

-- at most so much for so many bytes, and for none nothing
abbrev Bounded : ℕ → ℕ → Type 0
Bounded left w = (w ≤ left + 3) × (left ≡ 0 → w ≡ 0)

field_small : (v : ℕ) → v ≤ unit_limit → length (encode v) ≤ 3
field_small v h = size_most 3 v (omega arith) (omega arith) (omega arith)

-- of a scan of so many bytes
abbrev Weighs : List ℕ → ℕ → Scan → Type 0
Weighs l at s = length l ≤ unit_limit → Bounded (length l) (weight wire_size s.items)

weight_next : (at : ℕ) (l : List ℕ) (x : Seen) → Spans l x → After Weighs scan_from l (obu_by at x)
    → Weighs l at (chained (obu_by at x) (λ n t. scan_from (drop n l) t))
unfolding weight wire_size
weight_next at l (stopped n) s r u = omega arith
weight_next at l (found f) s r u =
    let d : length (drop (span_of f) l) ≡ length l - span_of f = length-drop (span_of f) l in
    let k = r (omega arith) in
    ⊎_elim
    (λ short. (omega arith, λ z. absurd (omega arith)))
    (λ last.
    let none : weight wire_size (scan_from (drop (span_of f) l) (at + span_of f)).items ≡ 0 = k.1 (omega arith) in
    (omega (arith, field_small f.payload (omega arith)), λ z. absurd (omega arith)))
    s.1

weight_from : (l : List ℕ) (at : ℕ) → Weighs l at (scan_from l at)
unfolding weight
weight_from = stream_each obu_next ended obu_some Weighs (λ t u. omega arith) (λ at l h r. weight_next at l (front_of l) (front_spans l) r)

wire_length : (unit : List ℕ) (p : Placed) → Inside (length unit) p → length (wire_of unit p.obu) ≡ wire_size p
unfolding wire_size
wire_length unit p i =
    let o = p.obu in
    let l : length (payload_of unit o) ≡ o.length = payload_length unit o i.within in
    omega (arith, length-append (extension_bytes o.header o.extension) (encode (length (payload_of unit o)) ++ payload_of unit o), length-append (encode (length (payload_of unit o))) (payload_of unit o), extension_length o.header o.extension, ap (λ (n : ℕ). length (encode n)) l)

weight_is : (unit : List ℕ) (ps : List Placed) → All (Inside (length unit)) ps → length (flat_map (wire_of unit) (map (λ (p : Placed). p.obu) ps)) ≡ weight wire_size ps
unfolding flat_map weight
weight_is unit [] h = refl
weight_is unit (p ∷ ps) h =
    length-append (wire_of unit p.obu) (flat_map (wire_of unit) (map (λ (q : Placed). q.obu) ps)) ∙ ap₂ ◌+◌ (wire_length unit p h.0) (weight_is unit ps h.1)

pub wire_small : (unit : List ℕ) → length unit ≤ unit_limit → length (flat_map (wire_of unit) (obus_of unit)) ≤ length unit + 3
wire_small unit u =
    omega (arith, weight_is unit (kept_of unit) (kept_inside unit), weight_keep wire_size is_kept (scan_of unit).items, (weight_from unit 0 u).0)
