-- How much one packet hands out, so that the space of V17 is enough. Assumes nothing.
--     elements-small   a payload's elements have a byte each, and are together shorter than the payload
--     handed-most      what goes out is no longer than the fragment that was open and four times the elements
--     output-enough    nor than that fragment and four times the payload
use Rattle.std.proofs.Common.{◌≡◌, ℕ, ◌+◌, ◌*◌, ◌<◌, ◌≤◌, Bool, true, false, List, [], ◌∷◌, ◌++◌, map, length, refl, arith, length-append}
use Rattle.base.specs.Answers.{Answer, given, refused}
use Rattle.base.specs.Lists.{All}
use Rattle.obu.specs.Wire.{wire}
use Rattle.element.specs.Elements.{payload_limit, bytes_of, payload_elements}
use Rattle.element.specs.Laws.{InOrder}
use Rattle.element.specs.declared.Part.{Part}
use Rattle.element.proofs.Laws.{bytes_length}
use Rattle.element.proofs.Order.{in_order_lem, checked}
use Rattle.handing.specs.Handing.{fragment_limit, before, wires}
use Rattle.handing.proofs.Cursors.{payload_some}
use Rattle.handing.proofs.Turns.{wire_grows}
use Rattle.receiver.specs.Packet.{Packet, packet_by, packet_of}
use Rattle.receiver.specs.Joining.{with_fragment, finished, handed}

-- the bytes of several elements
unfoldable pub total : List (List ℕ) → ℕ
total [] = 0
total (e ∷ es) = length e + total es

abbrev pub Some : List ℕ → Type 0
Some e = 1 ≤ length e

-- ---- a payload's elements

parts_small : (payload : List ℕ) (at : ℕ) (ps : List Part) → InOrder at (length payload) ps
    → All Some (map (bytes_of payload) ps) × (at ≤ length payload → at + total (map (bytes_of payload) ps) ≤ length payload)
unfolding total
parts_small payload at [] o = (tt, λ h. omega arith)
parts_small payload at (p ∷ ps) o =
    let l = o.0 in
    let n : length (bytes_of payload p) ≡ p.length = bytes_length payload at p l in
    let r = parts_small payload p.next ps o.1 in
    let s : p.next + total (map (bytes_of payload) ps) ≤ length payload = r.1 l.within in
    ((omega (arith, l.some), r.0), λ h. omega (arith, l.after, l.ends))

pub elements_small : (payload : List ℕ) (p : Packet) → packet_of payload ≡ given p
    → All Some p.elements × (1 + total p.elements ≤ length payload) × (length payload ≤ payload_limit)
elements_small payload p e = go (payload_elements payload) refl e
  where
    go : (x : Answer (List Part)) → payload_elements payload ≡ x → packet_by payload x ≡ given p
        → All Some p.elements × (1 + total p.elements ≤ length payload) × (length payload ≤ payload_limit)
    go (refused n at) q e = let z : ◌≡◌ {A = ℕ} 0 1 = cc in absurd (omega arith)
    go (given ps) q e =
        let c = checked payload ps q in
        let r = parts_small payload 1 ps (in_order_lem payload ps c.1) in
        let f : map (bytes_of payload) ps ≡ p.elements = cc in
        rw (← f) (r.0, r.1 (payload_some payload ps q), c.0)

-- ---- what goes out

grows : (o b : List ℕ) (os : List (List ℕ)) → length o < 2097152 → wires (o ∷ os) ≡ given b
    → (c : List ℕ) × (wires os ≡ given c) × (length b ≤ length o + 3 + length c)
unfolding wires
grows o b os h e = go (wire o) refl (wires os) refl e
  where
    go : (x : Answer (List ℕ)) → wire o ≡ x → (y : Answer (List ℕ)) → wires os ≡ y → before x y ≡ given b
        → (c : List ℕ) × (wires os ≡ given c) × (length b ≤ length o + 3 + length c)
    go (refused n at) p y q e = let z : ◌≡◌ {A = ℕ} 0 1 = cc in absurd (omega arith)
    go (given a) p (refused n at) q e = let z : ◌≡◌ {A = ℕ} 0 1 = cc in absurd (omega arith)
    go (given a) p (given c) q e =
        let f : b ≡ a ++ c = cc in
        (c, q, rw f (omega (arith, length-append a c, wire_grows o a h p)))

finished_most : (y : Bool) (es : List (List ℕ)) (b : List ℕ) → All Some es → total es < 2097152 → wires (finished y es) ≡ given b → length b ≤ 4 * total es
unfolding finished wires total
finished_most false [] b s h e = let f : b ≡ [] = cc in rw f (omega arith)
finished_most true [] b s h e = let f : b ≡ [] = cc in rw f (omega arith)
finished_most true (o ∷ []) b s h e = let f : b ≡ [] = cc in rw f (omega arith)
finished_most false (o ∷ es) b s h e =
    let g = grows o b es (omega arith) e in
    omega (arith, g.2, s.0, finished_most false es g.0 s.1 (omega arith) g.1)
finished_most true (o ∷ i ∷ es) b s h e =
    let g = grows o b (finished true (i ∷ es)) (omega arith) e in
    omega (arith, g.2, s.0, finished_most true (i ∷ es) g.0 s.1 (omega arith) g.1)

first_most : (y : Bool) (o : List ℕ) (es : List (List ℕ)) (b : List ℕ) → All Some es → length o + total es < 2097152 → wires (finished y (o ∷ es)) ≡ given b
    → length b ≤ length o + 3 + 4 * total es
unfolding finished wires total
first_most false o es b s h e =
    let g = grows o b es (omega arith) e in
    omega (arith, g.2, finished_most false es g.0 s (omega arith) g.1)
first_most true o [] b s h e = let f : b ≡ [] = cc in rw f (omega arith)
first_most true o (i ∷ es) b s h e =
    let g = grows o b (finished true (i ∷ es)) (omega arith) e in
    omega (arith, g.2, finished_most true (i ∷ es) g.0 s (omega arith) g.1)

joined_most : (y z : Bool) (o : List ℕ) (es : List (List ℕ)) (b : List ℕ) → All Some es → length o + total es < 2097152
    → wires (finished y (with_fragment o z es)) ≡ given b → length b ≤ length o + 4 * total es
unfolding with_fragment total
joined_most y false o es b s h e = omega (arith, finished_most y es b s (omega arith) e)
joined_most y true o [] b s h e = omega (arith, finished_most y [] b s (omega arith) e)
joined_most y true [] (e ∷ es) b s h w = omega (arith, finished_most y es b s.1 (omega arith) w)
joined_most y true (a ∷ o) (e ∷ es) b s h w =
    let n : length ((a ∷ o) ++ e) ≡ length (a ∷ o) + length e = length-append (a ∷ o) e in
    omega (arith, n, s.0, first_most y ((a ∷ o) ++ e) es b s.1 (omega (arith, n)) w)

pub handed_most : (fragment : List ℕ) (p : Packet) (b : List ℕ) → All Some p.elements → length fragment + total p.elements < 2097152
    → wires (handed fragment p) ≡ given b → length b ≤ length fragment + 4 * total p.elements
unfolding handed
handed_most fragment p b s h e = joined_most p.y p.z fragment p.elements b s h e

pub output_enough : (payload fragment : List ℕ) (p : Packet) (b : List ℕ) → packet_of payload ≡ given p → length fragment ≤ fragment_limit
    → wires (handed fragment p) ≡ given b → length b + 4 ≤ length fragment + 4 * length payload
output_enough payload fragment p b r h e =
    let s = elements_small payload p r in
    omega (arith, s.1, s.2, handed_most fragment p b s.0 (omega (arith, s.1, s.2)) e)
