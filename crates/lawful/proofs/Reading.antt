-- A payload that carries a packet is read as its elements, with its Z and Y: never R13, R15, R16 or R17. Assumes nothing.
--     carried-read    this, in the terms of `element`
--     carried-short   its length is within L3
--     carried-count   there are as many payloads as packets
--     carry-append    trains one after the other
use mathlib.Core.Path.{◌≡◌, refl, sym, ap, subst, ◌∙◌}
use Prim.Native.Nat.{ℕ, zero, suc, ◌+◌, ◌*◌, ◌^◌, ◌≤◌, ◌<◌}
use native.Mathlib.Nat.{pow-succ'}
use native.Mathlib.Numerals.{add-one}
use native.Mathlib.Omega.{arith}
use mathlib.Core.List.{List, [], ◌∷◌, ◌++◌, map, append_assoc, append-nil, flat_map}
use mathlib.Core.Bool.{true, false, ◌&&◌}
use lib.ListN.{length, length-append, length-map}
use lib.Dec.{eqb}
use Rattle.base.specs.Lists.{All}
use Rattle.base.proofs.Lists.{length_snoc}
use Rattle.leb128.specs.Field.{form, largest_value}
use Rattle.leb128.specs.Laws.{cap}
use Rattle.element.specs.Header.{z_bit, w_of, n_bit}
use Rattle.element.specs.Elements.{payload_limit}
use Rattle.element.specs.Laws.{ReadsAs}
use Rattle.element.proofs.Carried.{Framed, framed, States, AllState, padded_states, carried_end, carried_w}
use Rattle.lawful.specs.Train.{NonEmpty, Packet}
use Rattle.lawful.specs.Payload.{Holds, Laid, bare, last, more, Counted, each, exact, Carry, CarryAll}

-- ---- an element with its length in front

pub cap_power : (n : ℕ) → 128 ^ (n + 1) ≡ cap (suc n)
cap_power n = rw add-one (go n)
  where
    go : (k : ℕ) → 128 ^ suc k ≡ 128 * cap k
    go zero = refl
    go (suc k) = pow-succ' 128 (suc k) ∙ ap (λ (x : ℕ). 128 * x) (go k)

abbrev with_form : ℕ → List ℕ → Framed
with_form n e = record { field = form n (length e); bytes = e }

form_states : (n : ℕ) (e : List ℕ) → Holds n (length e) → NonEmpty e → length e ≤ largest_value → States (with_form n e)
form_states n e h s l = padded_states n e h.0 (subst (λ (m : ℕ). length e < m) (cap_power n) h.1) s l

-- ---- the elements of a payload, each with its length; and those before a last one without

abbrev elements_in : List Framed → List (List ℕ)
elements_in xs = map (λ (x : Framed). x.bytes) xs

record Each (es : List (List ℕ)) (bytes : List ℕ) : Type 0 where
  xs : List Framed
  states : AllState xs
  some : 1 ≤ length xs
  is : flat_map framed xs ≡ bytes
  holds : elements_in xs ≡ es

record Exact (es : List (List ℕ)) (bytes : List ℕ) : Type 0 where
  xs : List Framed
  end : List ℕ
  states : AllState xs
  some : NonEmpty end
  is : flat_map framed xs ++ end ≡ bytes
  holds : elements_in xs ++ (end ∷ []) ≡ es

laid_each : {es : List (List ℕ)} {bytes : List ℕ} → Laid true es bytes → All NonEmpty es → length bytes ≤ largest_value → Each es bytes
unfolding flat_map
laid_each (last {e} n h) f l =
    record {
      xs = with_form n e ∷ [];
      states = (form_states n e h f.0 (omega (arith, length-append (form n (length e)) e)), tt);
      some = omega arith;
      is = append-nil (form n (length e) ++ e);
      holds = refl;
    }
laid_each (more {e = e} {bytes = bytes} n h r) f l =
    let s : length (form n (length e) ++ (e ++ bytes)) ≡ length (form n (length e)) + (length e + length bytes) = simp length-append in
    let i : Each _ bytes = laid_each r f.1 (omega arith) in
    record {
      xs = with_form n e ∷ i.xs;
      states = (form_states n e h f.0 (omega arith), i.states);
      some = omega arith;
      is = append_assoc (form n (length e)) e (flat_map framed i.xs) ∙ rw i.is;
      holds = rw i.holds;
    }

laid_exact : {es : List (List ℕ)} {bytes : List ℕ} → Laid false es bytes → All NonEmpty es → length bytes ≤ largest_value → Exact es bytes
unfolding flat_map
laid_exact (bare {e}) f l = record { xs = []; end = e; states = tt; some = f.0; is = refl; holds = refl }
laid_exact (more {e = e} {bytes = bytes} n h r) f l =
    let s : length (form n (length e) ++ (e ++ bytes)) ≡ length (form n (length e)) + (length e + length bytes) = simp length-append in
    let i : Exact _ bytes = laid_exact r f.1 (omega arith) in
    record {
      xs = with_form n e ∷ i.xs;
      end = i.end;
      states = (form_states n e h f.0 (omega arith), i.states);
      some = i.some;
      is = simp append_assoc (rw i.is);
      holds = rw i.holds;
    }

-- ---- a payload

counted_read : (h : ℕ) {w : ℕ} {es : List (List ℕ)} {bytes : List ℕ} → eqb (z_bit h) 1 && eqb (n_bit h) 1 ≡ false → w_of h ≡ w → Counted w es bytes → All NonEmpty es → length bytes ≤ largest_value
    → ReadsAs (h ∷ bytes) es
counted_read h b e (each {es} {bytes} l) f s =
    let x : Each es bytes = laid_each l f s in
    subst (λ (q : List ℕ). ReadsAs (h ∷ q) es) x.is
    (subst (ReadsAs (h ∷ flat_map framed x.xs)) x.holds (carried_end h b x.xs x.states e x.some))
counted_read h b e (exact {es = es} {bytes = bytes} c l) f s =
    let x : Exact es bytes = laid_exact l f s in
    let n : suc (length x.xs) ≡ length es = omega (arith, length-map x.xs (λ (y : Framed). y.bytes), length_snoc (elements_in x.xs) x.end, ap length x.holds) in
    subst (λ (q : List ℕ). ReadsAs (h ∷ q) es) x.is
    (subst (ReadsAs (h ∷ (flat_map framed x.xs ++ x.end))) x.holds (carried_w h b x.xs x.states x.end (e ∙ sym c ∙ sym n) x.some))

pub carried_read : (payload : List ℕ) (p : Packet) → Carry payload p → All NonEmpty p.elements → ReadsAs payload p.elements
carried_read [] p c f = absurd c
carried_read (h ∷ bytes) p c f = counted_read h c.n_clear refl c.counted f (omega (arith, c.short))

pub carried_short : (payload : List ℕ) (p : Packet) → Carry payload p → (1 ≤ length payload) × (length payload ≤ payload_limit)
carried_short [] p c = absurd c
carried_short (h ∷ bytes) p c = (omega arith, c.short)

-- as many payloads as packets
pub carried_count : (payloads : List (List ℕ)) (run : List Packet) → CarryAll payloads run → length payloads ≡ length run
carried_count [] [] c = refl
carried_count [] (p ∷ run) c = absurd c
carried_count (b ∷ payloads) [] c = absurd c
carried_count (b ∷ payloads) (p ∷ run) c = ap suc (carried_count payloads run c.1)

pub carry_append : (a b : List (List ℕ)) (p q : List Packet) → CarryAll a p → CarryAll b q → CarryAll (a ++ b) (p ++ q)
carry_append [] b [] q c d = d
carry_append [] b (x ∷ p) q c d = absurd c
carry_append (x ∷ a) b [] q c d = absurd c
carry_append (x ∷ a) b (y ∷ p) q c d = (c.0, carry_append a b p q c.1 d)
