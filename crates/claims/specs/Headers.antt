-- The aggregation header of a packet, bit by bit (H1 to H5, H8).
use Rattle.std.specs.Prelude.{◌≡◌, ℕ, ◌+◌, ◌/◌, ◌%◌, List, Result, cond, ◌&&◌, get_or, ltb, eqb}
use Rattle.base.specs.Answers.{paper}
use Rattle.base.specs.declared.Refusal.{Refusal}
use Rattle.obu.specs.Records.{flat, no_obu, obus_in}
use Rattle.obu.specs.declared.Obu.{Obu}
use Rattle.packetizer.specs.Records.{flat_plan, packets_in}
use Rattle.packetizer.specs.declared.PacketMetadata.{PacketMetadata}
use Rattle.aggregation.specs.New.{new_sequence}
use Rattle.aggregation.specs.Header.{last_obu, last_start, w_of, byte_of, header_of}

-- H2: Z, where the first element goes on with an OBU
abbrev pub ByteZ : Type 0
ByteZ =
    (unit : List ℕ) (obus : List Obu) (p : PacketMetadata) (k : ℕ)
    → byte_of unit obus p k / 128 % 2 ≡ cond (ltb 0 p.first_obu_offset) 1 0

-- H3: Y, where the last element ends before its OBU
abbrev pub ByteY : Type 0
ByteY =
    (unit : List ℕ) (obus : List Obu) (p : PacketMetadata) (k : ℕ)
    → byte_of unit obus p k / 64 % 2 ≡ cond (ltb (last_start p + p.last_obu_size) (get_or obus (last_obu p) no_obu).size) 1 0

-- H4: W
abbrev pub ByteW : Type 0
ByteW = (unit : List ℕ) (obus : List Obu) (p : PacketMetadata) (k : ℕ) → byte_of unit obus p k / 16 % 4 ≡ w_of p

-- H5: N, on packet 0 of a unit that begins a new coded video sequence
abbrev pub ByteN : Type 0
ByteN =
    (unit : List ℕ) (obus : List Obu) (p : PacketMetadata) (k : ℕ)
    → byte_of unit obus p k / 8 % 2 ≡ cond (eqb k 0 && new_sequence unit obus) 1 0

-- H1: the low three bits are clear
abbrev pub ByteLow : Type 0
ByteLow = (unit : List ℕ) (obus : List Obu) (p : PacketMetadata) (k : ℕ) → byte_of unit obus p k % 8 ≡ 0

-- H8: flat lists and slices of records: the same header of the same records, and the same answer of the two calls
abbrev pub Alike : Type 0
Alike =
    (unit : List ℕ) (os : List Obu) (ps : List PacketMetadata) (k : ℕ)
    → header_of unit (obus_in (flat os)) (packets_in (flat_plan ps)) k ≡ header_of unit os ps k

abbrev pub SameHeader : Type 0
SameHeader =
    (a b : Result ℕ Refusal) (unit : List ℕ) (os : List Obu) (ps : List PacketMetadata) (k : ℕ)
    → paper a ≡ header_of unit (obus_in (flat os)) (packets_in (flat_plan ps)) k → paper b ≡ header_of unit os ps k → a ≡ b
