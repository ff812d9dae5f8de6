-- leb128.rs. `encoded`, `val` and `b` of the readers are of 64 bits: of a field of more than eight bytes the leading ones are
-- lost. Those of the writers are of 32 bits. A loop has as many turns as its numbers can take.
use Rattle.std.specs.Prelude.{ℕ, zero, suc, ◌+◌, ◌/◌, List, [], ◌∷◌, cond, leb, eqb}
use Rattle.std.specs.Int.Bits.{bit_and, bit_or}
use Rattle.crate_laws.specs.Rust.{as_u8, as_u32, shl_u32, shl_u64}

-- the loop of encode_leb128
unfoldable pub encode_turns : ℕ → ℕ → ℕ → ℕ
encode_turns zero b val = b
encode_turns (suc turns) b val =
    cond (eqb (val / 128) 0)
    (bit_or b (bit_and val 0b0111_1111))
    (encode_turns turns (shl_u32 (bit_or (bit_or b (bit_and val 0b0111_1111)) 0b1000_0000) 8) (val / 128))

abbrev pub encode_leb128 : ℕ → ℕ
encode_leb128 val = encode_turns 5 0 val

-- the loop of decode_leb128: `val` has eight bytes, and each turn takes one off
unfoldable pub decode_turns : ℕ → ℕ → ℕ → ℕ
decode_turns zero b val = as_u32 b
decode_turns (suc turns) b val =
    cond (eqb (val / 256) 0)
    (as_u32 (bit_or b (bit_and val 0b0111_1111)))
    (decode_turns turns (shl_u64 (bit_or b (bit_and val 0b0111_1111)) 7) (val / 256))

abbrev pub decode_leb128 : ℕ → ℕ
decode_leb128 val = decode_turns 8 0 val

-- the loop of read_leb128, at byte i, where these bytes are left: (value, bytes taken)
unfoldable pub read_from : ℕ → ℕ → List ℕ → ℕ × ℕ
read_from i encoded [] = (0, 0)
read_from i encoded (byte ∷ bytes) =
    cond (eqb (bit_and byte 0b1000_0000) 0)
    (decode_leb128 (bit_or encoded byte), i + 1)
    (read_from (i + 1) (shl_u64 (bit_or encoded byte) 8) bytes)

abbrev pub read_leb128 : List ℕ → ℕ × ℕ
read_leb128 bytes = read_from 0 0 bytes

-- the loop of leb128_size
unfoldable pub size_turns : ℕ → ℕ → ℕ → ℕ
size_turns zero size value = size + 1
size_turns (suc turns) size value = cond (leb 0b1000_0000 value) (size_turns turns (size + 1) (value / 128)) (size + 1)

abbrev pub leb128_size : ℕ → ℕ
leb128_size value = size_turns 5 0 value

-- the loop of put_leb128: the bytes that are put
unfoldable pub put_turns : ℕ → ℕ → List ℕ
put_turns zero encoded = []
put_turns (suc turns) encoded =
    cond (leb 0b1000_0000 encoded)
    (bit_or 0b1000_0000 (as_u8 (bit_and encoded 0b0111_1111)) ∷ put_turns turns (encoded / 128))
    (as_u8 encoded ∷ [])

-- what encode_leb128 gives is encoded once more
abbrev pub put_leb128 : ℕ → List ℕ
put_leb128 n = put_turns 5 (encode_leb128 n)
