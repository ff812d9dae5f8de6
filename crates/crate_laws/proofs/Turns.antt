-- The turns that the definitions of the crate's loops have are enough. Assumes nothing.
use mathlib.Core.Path.{◌≡◌, refl, ap}
use Prim.Native.Nat.{ℕ, zero, suc, ◌+◌, ◌-◌, ◌/◌, ◌≤◌, ◌<◌}
use native.Mathlib.Nat.{zero-add, suc-add}
use native.Mathlib.Omega.{arith}
use mathlib.Core.List.{List, [], ◌∷◌}
use mathlib.Core.Bool.{cond}
use lib.ListN.{length}
use lib.Dec.{ltb, leb, eqb}
use lib.Bits.{bit_and, bit_or}
use borrow.Author.Tests.{eq-eqb, lt-leb, le-ltb}
use Rattle.base.proofs.Tests.{by_cond}
use Rattle.leb128.specs.Laws.{cap}
use Rattle.crate_laws.specs.Rust.{Outcome, ok, err, panic, ◌>>=◌, at, push, slice, as_u8, as_u32, shl_u32, shl_u64}
use Rattle.crate_laws.specs.Leb128.{encode_turns, decode_turns, size_turns, put_turns}
use Rattle.crate_laws.specs.Obu.{CrateObu, obu_has_extension, header_size, extension_header_at, obu_payload, obu_at, parse_from, pushed}
use Rattle.crate_laws.specs.Packetizer.{packet, Reached, middles}
use Rattle.crate_laws.specs.Turns.{EnoughTurns}
use Rattle.crate_laws.proofs.Fields.{bytes_cap}

-- ---- what an outcome holds, if it holds something

abbrev Holds : {A : Type 0} → (A → Type 0) → Outcome A → Type 0
Holds P (ok a) = P a
Holds P (err e) = Unit {0}
Holds P panic = Unit {0}

holds_next : {A B : Type 0} (P : B → Type 0) (o : Outcome A) (next : A → Outcome B) → ((a : A) → Holds P (next a)) → Holds P (o >>= next)
holds_next P (ok a) next h = h a
holds_next P (err e) next h = tt
holds_next P panic next h = tt

next_same : {A B : Type 0} (P : A → Type 0) (o : Outcome A) (f g : A → Outcome B) → Holds P o → ((a : A) → P a → f a ≡ g a) → (o >>= f) ≡ (o >>= g)
next_same P (ok a) f g h e = e a h
next_same P (err x) f g h e = refl
next_same P panic f g h e = refl

-- ---- parse_obus: an OBU has a byte at least

some_header : (header : ℕ) → 1 ≤ header_size header
some_header header = by_cond (λ (n : ℕ). 1 ≤ n) (obu_has_extension header) 2 1 (λ t. omega arith) (λ t. omega arith)

abbrev HasByte : CrateObu × ℕ → Type 0
HasByte turn = 1 ≤ turn.0.size

obu_some : (payload : List ℕ) (remaining index : ℕ) → Holds HasByte (obu_at payload remaining index)
unfolding obu_at
obu_some payload remaining index =
    holds_next HasByte (at payload index) _ λ header.
    holds_next HasByte (extension_header_at payload remaining index header) _ λ extension.
    holds_next HasByte (slice payload (index + header_size header) (length payload)) _ λ withoutHeader.
    holds_next HasByte (obu_payload header withoutHeader) _ λ turn. omega (arith, some_header header)

module _ (payload : List ℕ) where
  no_turn : (turns index : ℕ) (obus : List CrateObu) → parse_from turns payload 0 index obus ≡ ok obus
  unfolding parse_from
  no_turn zero index obus = refl
  no_turn (suc turns) index obus = refl

  parse_more : (turns more remaining index : ℕ) (obus : List CrateObu) → remaining ≤ turns
      → parse_from (turns + more) payload remaining index obus ≡ parse_from turns payload remaining index obus
  unfolding parse_from
  parse_more zero more remaining index obus h = let z : remaining ≡ 0 = omega arith in rw z (no_turn (0 + more) index obus)
  parse_more (suc turns) more remaining index obus h =
      rw (suc-add turns more)
      (ap (λ (o : Outcome (List CrateObu)). cond (ltb 0 remaining) o (ok obus))
      (next_same HasByte (obu_at payload remaining index) _ _ (obu_some payload remaining index)
      (λ turn b. parse_more turns more (remaining - turn.1 - turn.0.size) (index + turn.1 + turn.0.size) (pushed obus turn.0) (omega arith))))

-- ---- decode_leb128: each turn takes a byte off

decode_more : (turns more b val : ℕ) → val < bytes_cap (suc turns) → decode_turns (suc turns + more) b val ≡ decode_turns (suc turns) b val
unfolding decode_turns
decode_more zero more b val h = rw (suc-add 0 more, eq-eqb (val / 256) 0 (omega arith))
decode_more (suc turns) more b val h =
    rw (suc-add (suc turns) more)
    (ap (λ (n : ℕ). cond (eqb (val / 256) 0) (as_u32 (bit_or b (bit_and val 127))) n)
    (decode_more turns more (shl_u64 (bit_or b (bit_and val 127)) 7) (val / 256) (omega arith)))

-- ---- encode_leb128, leb128_size and put_leb128: each turn takes seven bits off

encode_more : (turns more b val : ℕ) → val < cap (suc turns) → encode_turns (suc turns + more) b val ≡ encode_turns (suc turns) b val
unfolding encode_turns
encode_more zero more b val h = rw (suc-add 0 more, eq-eqb (val / 128) 0 (omega arith))
encode_more (suc turns) more b val h =
    rw (suc-add (suc turns) more)
    (ap (λ (n : ℕ). cond (eqb (val / 128) 0) (bit_or b (bit_and val 127)) n)
    (encode_more turns more (shl_u32 (bit_or (bit_or b (bit_and val 127)) 128) 8) (val / 128) (omega arith)))

size_more : (turns more size value : ℕ) → value < cap (suc turns) → size_turns (suc turns + more) size value ≡ size_turns (suc turns) size value
unfolding size_turns
size_more zero more size value h = rw (suc-add 0 more, lt-leb 128 value (omega arith))
size_more (suc turns) more size value h =
    rw (suc-add (suc turns) more)
    (ap (λ (n : ℕ). cond (leb 128 value) n (size + 1)) (size_more turns more (size + 1) (value / 128) (omega arith)))

put_more : (turns more n : ℕ) → n < cap (suc turns) → put_turns (suc turns + more) n ≡ put_turns (suc turns) n
unfolding put_turns
put_more zero more n h = rw (suc-add 0 more, lt-leb 128 n (omega arith))
put_more (suc turns) more n h =
    rw (suc-add (suc turns) more)
    (ap (λ (l : List ℕ). cond (leb 128 n) (bit_or 128 (as_u8 (bit_and n 127)) ∷ l) (as_u8 n ∷ [])) (put_more turns more (n / 128) (omega arith)))

-- ---- packetize: a middle fragment takes a byte at least off what is left of the OBU

middles_more : (turns more room i s : ℕ) (v : Reached) → 1 ≤ room → s ≤ turns + v.offset → middles (turns + more) room i s v ≡ middles turns room i s v
unfolding middles
middles_more zero zero room i s v r h = refl
middles_more zero (suc more) room i s v r h = rw (zero-add (suc more), le-ltb (v.offset + room) s (omega arith))
middles_more (suc turns) more room i s v r h =
    rw (suc-add turns more)
    (ap (λ (w : Reached). cond (ltb (v.offset + room) s) w v)
    (middles_more turns more room i s (record { packets = push v.packets (packet i 1 v.offset room room); offset = v.offset + room }) r (omega arith)))

-- ---- all of them

pub enough_turns : EnoughTurns
enough_turns =
    record {
      encode = λ more val h. encode_more 4 more 0 val (omega arith);
      decode = λ more val h. decode_more 7 more 0 val h;
      size = λ more value h. size_more 4 more 0 value (omega arith);
      put = λ more encoded h. put_more 4 more encoded (omega arith);
      parse = λ payload more. parse_more payload (length payload) more (length payload) 0 [] (omega arith);
      spread = λ more room i s packets first r. middles_more s more room i s (record { packets = packets; offset = first }) r (omega arith);
    }
