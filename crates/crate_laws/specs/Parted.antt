-- Where crate and port part (X3 to X9): the statements.
--     RefusedSame                      what the crate does with a unit that we refuse by 3, 4 or 7
--     UnendingRead, LowRead, LastRead  what it reads of a size field that does not end, is over 32 bits, has more than eight bytes
--     ShortLengths, LongLengths, NeverSame   how it writes a length below 128, and from there to the limit of a unit
--     ThreeHundred                     300, in both
--     Outgrows                         so a payload of it may outgrow the mtu
--     NewDiffers                       N of packet 0, which it alone sets, or we alone
use Rattle.std.specs.Prelude.{◌≡◌, ℕ, ◌+◌, ◌≤◌, ◌<◌, List, [], ◌∷◌, ◌++◌, map, cond, length, take, drop, replicate, eqb}
use Rattle.base.specs.Lists.{All}
use Rattle.leb128.specs.Field.{sized, field_in, longest_field, encode}
use Rattle.obu.specs.Laws.{Bytes}
use Rattle.obu.specs.Unit.{unit_limit, refused_by, scan_of}
use Rattle.payloader.specs.Payload.{payloads_of}
use Rattle.crate_laws.specs.Rust.{ErrPayloadTooSmallForObuExtensionHeader, ErrPayloadTooSmallForObuPayloadSize, Outcome, ok, err, panic, ◌>>=◌, as_u32}
use Rattle.crate_laws.specs.Leb128.{read_leb128}
use Rattle.crate_laws.specs.Obu.{parse_obus}
use Rattle.crate_laws.specs.Payload.{put_length, payload}

-- ---- refused units

-- the crate's two errors for 3 and 4, and a panic for 7
unfoldable pub at_refusal : {A : Type 0} → ℕ → Outcome A
at_refusal n =
    cond (eqb n 3)
    (err ErrPayloadTooSmallForObuExtensionHeader)
    (cond (eqb n 4) (err ErrPayloadTooSmallForObuPayloadSize) panic)

-- refused by any number but 5 and 6
abbrev pub RefusedSame : Type 0
RefusedSame =
    (unit : List ℕ) (n offset : ℕ) → Bytes unit → (n ≡ 5 → ⊥) → (n ≡ 6 → ⊥) → (scan_of unit).stop ≡ refused_by n offset
    → (parse_obus unit ≡ at_refusal n) × ((mtu : ℕ) → payload mtu unit ≡ at_refusal n)

-- ---- size fields: (value, bytes taken)

-- a byte with its top bit set
abbrev pub Going : ℕ → Type 0
Going b = (128 ≤ b) × (b < 256)

abbrev pub UnendingRead : Type 0
UnendingRead = (l : List ℕ) → All Going l → read_leb128 l ≡ (0, 0)

-- of the value that our rule gives, the low 32 bits
abbrev pub LowRead : Type 0
LowRead = (l : List ℕ) (v n : ℕ) → Bytes l → field_in longest_field l ≡ sized v n → read_leb128 l ≡ (as_u32 v, n)

-- of a longer field, what its last eight bytes say
abbrev pub LastRead : Type 0
LastRead =
    (a l : List ℕ) (v : ℕ) → All Going a → Bytes l → field_in longest_field l ≡ sized v longest_field
    → read_leb128 (a ++ l) ≡ (as_u32 v, length a + longest_field)

-- ---- lengths written

abbrev pub ShortLengths : Type 0
ShortLengths = (n : ℕ) → n < 128 → put_length n ≡ encode n

-- a byte more than ours
abbrev pub LongLengths : Type 0
LongLengths = (n : ℕ) → 128 ≤ n → n ≤ unit_limit → length (put_length n) ≡ length (encode n) + 1

abbrev pub NeverSame : Type 0
NeverSame = (n : ℕ) → 128 ≤ n → n ≤ unit_limit → put_length n ≡ encode n → ⊥

abbrev pub ThreeHundred : Type 0
ThreeHundred = (encode 300 ≡ 0xac ∷ 2 ∷ []) × (put_length 300 ≡ 0x82 ∷ 0xd8 ∷ 2 ∷ [])

-- a payload of the crate outgrows the mtu, where ours keeps to it: lengths, and the first bytes after the header byte
unfoldable pub outgrown : List ℕ
outgrown = 0x32 ∷ 0x7f ∷ replicate 127 0xa1 ++ (0x30 ∷ 0 ∷ [])

abbrev pub four_after_header : List ℕ → List ℕ
four_after_header l = take 4 (drop 1 l)

pub record Outgrows : Type 0 where
  pub crate_lengths : (payload 132 outgrown >>= λ l. ok (map length l)) ≡ ok (133 ∷ 2 ∷ [])
  pub our_lengths : map length (payloads_of 132 outgrown) ≡ 132 ∷ 2 ∷ []
  pub crate_first :
      (payload 132 outgrown >>= λ l. ok (map four_after_header l)) ≡ ok ((0x81 ∷ 0x80 ∷ 2 ∷ 0x30 ∷ []) ∷ (0 ∷ []) ∷ [])
  pub our_first : map four_after_header (payloads_of 132 outgrown) ≡ (0x80 ∷ 1 ∷ 0x30 ∷ 0xa1 ∷ []) ∷ (0 ∷ []) ∷ []

-- ---- N of packet 0: the two payloads of a unit differ in it alone

-- a sequence header before a frame that is no shown key frame: the crate alone sets N
abbrev pub no_key_frame : List ℕ
no_key_frame = 0x0a ∷ 1 ∷ 0 ∷ 0x32 ∷ 1 ∷ 0 ∷ []

-- metadata, and then a sequence header before a shown key frame: we alone do
abbrev pub metadata_first : List ℕ
metadata_first = 0x2a ∷ 1 ∷ 0 ∷ 0x0a ∷ 1 ∷ 0 ∷ 0x32 ∷ 1 ∷ 0x10 ∷ []

pub record NewDiffers : Type 0 where
  pub crate_sets : payload 20 no_key_frame ≡ ok ((0x28 ∷ 2 ∷ 8 ∷ 0 ∷ 0x30 ∷ 0 ∷ []) ∷ [])
  pub ours_clear : payloads_of 20 no_key_frame ≡ (0x20 ∷ 2 ∷ 8 ∷ 0 ∷ 0x30 ∷ 0 ∷ []) ∷ []
  pub crate_clear : payload 20 metadata_first ≡ ok ((0x30 ∷ 2 ∷ 0x28 ∷ 0 ∷ 2 ∷ 8 ∷ 0 ∷ 0x30 ∷ 0x10 ∷ []) ∷ [])
  pub ours_sets : payloads_of 20 metadata_first ≡ (0x38 ∷ 2 ∷ 0x28 ∷ 0 ∷ 2 ∷ 8 ∷ 0 ∷ 0x30 ∷ 0x10 ∷ []) ∷ []
