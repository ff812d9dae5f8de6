-- A written train reads back, over the width of the length field. Assumes nothing.
--     records-then   written records, and then anything: reading gives them, and goes on with the rest
--     head-taken, written_read   a train reads back as the same packets
use mathlib.Core.Path.{◌≡◌, refl, sym, ap, ap₂, ◌∙◌}
use Prim.Native.Nat.{ℕ, zero, suc, ◌+◌, ◌-◌, ◌≤◌}
use native.Mathlib.Omega.{arith}
use mathlib.Core.List.{List, [], ◌∷◌, ◌++◌, append-nil, append_assoc, flat_map}
use lib.ListN.{length, take, drop, length-append}
use lib.Seq.{take_at, drop_at}
use lib.Dec.{ltb}
use Rattle.base.specs.Answers.{given}
use Rattle.base.specs.BigEndian.{big_endian, value_of, value_at}
use Rattle.base.specs.Streams.{stream_from}
use Rattle.base.proofs.BigEndian.{big_length, value_back}
use Rattle.base.proofs.Tests.{by_cond}
use Rattle.train.specs.Train.{Numbered, ended, short_payload, head_for, number_width, holds, front_by, front_of, record_fields, record_bytes, packet_in, records_of, head_with, head_of, train_of, train_by, train_in}
use Rattle.train.specs.Laws.{Known, Fits, AllFit}
use Rattle.train.specs.declared.TrainHead.{TrainHead}
use Rattle.train.specs.declared.RecordFields.{RecordFields}
use Rattle.train.specs.declared.RecordHead.{RecordHead}
use Rattle.train.proofs.Fields.{fields_length}
use Rattle.train.proofs.Reading.{fields_there, held_whole}
use Rattle.train.proofs.Stepping.{onward, records_step, chain}

-- ---- what is written reads back

width_some : (w : ℕ) (p : Numbered) → Fits w p → 1 ≤ w
width_some zero p f = absurd (omega (arith, f.short))
width_some (suc w) p f = omega arith

-- the length that a record of these packets states, and what is read before its payload
abbrev stated_by : Numbered → ℕ
stated_by p = number_width + length p.payload

abbrev fields_for : Numbered → RecordFields
fields_for p = record { number = p.number; length = stated_by p - number_width }

abbrev written_head : ℕ → Numbered → RecordHead
written_head w p = record { number = p.number; start = 0 + w + number_width; length = stated_by p - number_width }

module _ (w : ℕ) (p : Numbered) (rest : List ℕ) (f : Fits w p) where
  -- number and payload, and all the bytes
  after : List ℕ
  after = big_endian number_width p.number ++ (p.payload ++ rest)

  all : List ℕ
  all = big_endian w (stated_by p) ++ after

  is_all : record_bytes w p ++ rest ≡ all
  unfolding all after
  is_all = simp append_assoc

  all_length : length all ≡ w + stated_by p + length rest
  unfolding all after
  all_length = simp length-append (omega (arith, big_length w (stated_by p), big_length number_width p.number))

  length_written : value_at all 0 w ≡ stated_by p
  unfolding all
  length_written = ap value_of (take_at (big_endian w (stated_by p)) after w (big_length w (stated_by p))) ∙ value_back w (stated_by p) f.short

  number_written : value_at all w number_width ≡ p.number
  unfolding all after
  number_written =
      ap (λ (l : List ℕ). value_of (take number_width l)) (drop_at (big_endian w (stated_by p)) after w (big_length w (stated_by p)))
      ∙ ap value_of (take_at (big_endian number_width p.number) (p.payload ++ rest) number_width (big_length number_width p.number))
      ∙ value_back number_width p.number f.numbered

  front_written : front_of w 0 (record_bytes w p ++ rest) ≡ holds (written_head w p)
  front_written =
      let n = all_length in
      let g =
      fields_there w all (λ e. omega (arith, f.some)) (omega arith) (sym length_written) (omega (arith, f.some)) (omega arith) (sym number_written) in
      ap (front_of w 0) is_all
      ∙ ap (front_by w 0 all) (sym g)
      ∙ sym (held_whole w 0 all (fields_for p) (omega arith))

  head_size : length (record_fields w (stated_by p) p.number) ≡ 0 + w + number_width
  head_size = omega (arith, fields_length w (stated_by p) p.number)

  packet_written : packet_in (record_bytes w p ++ rest) (written_head w p) ≡ p
  packet_written =
      let n : stated_by p - number_width ≡ length p.payload = omega arith in
      ap (λ (l : List ℕ). record { number = p.number; payload = l })
      (ap (λ (l : List ℕ). take (stated_by p - number_width) (drop (0 + w + number_width) l)) (append_assoc (record_fields w (stated_by p) p.number) p.payload rest)
      ∙ ap (take (stated_by p - number_width)) (drop_at (record_fields w (stated_by p) p.number) (p.payload ++ rest) (0 + w + number_width) head_size)
      ∙ take_at p.payload rest (stated_by p - number_width) (sym n))

  rest_written : drop (0 + w + number_width + (stated_by p - number_width)) (record_bytes w p ++ rest) ≡ rest
  rest_written =
      drop_at (record_bytes w p) rest (0 + w + number_width + (stated_by p - number_width))
      (length-append (record_fields w (stated_by p) p.number) p.payload ∙ omega (arith, head_size))

  pub record_then : records_of w (record_bytes w p ++ rest) ≡ chain p (records_of w rest)
  record_then =
      records_step w (record_bytes w p ++ rest)
      ∙ ap (onward w (record_bytes w p ++ rest)) front_written
      ∙ ap₂ chain packet_written (ap (records_of w) rest_written)

pub records_then : (w : ℕ) (ps : List Numbered) (rest : List ℕ) → AllFit w ps
    → records_of w (flat_map (record_bytes w) ps ++ rest)
    ≡ record { items = ps ++ (records_of w rest).items; stop = (records_of w rest).stop }
unfolding flat_map
records_then w [] rest f = refl
records_then w (p ∷ ps) rest f =
    ap (records_of w) (append_assoc (record_bytes w p) (flat_map (record_bytes w) ps) rest)
    ∙ record_then w p (flat_map (record_bytes w) ps ++ rest) f.0
    ∙ ap (chain p) (records_then w ps rest f.1)

-- the heads that are written are taken, and their length fields can state what a payload within the limit is
pub head_taken : (most : ℕ) → Known (head_for most)
unfolding head_with
head_taken most = by_cond Known (ltb short_payload most) _ _ (λ t. refl) (λ t. refl)

-- in a file of any head that the reader takes
pub written_read : (h : TrainHead) (ps : List Numbered) → Known h → AllFit h.width ps → train_in (train_of h ps) ≡ given (record { items = ps; stop = ended })
unfolding head_of stream_from
written_read h ps known f =
    let w = h.width in
    ap (train_by (flat_map (record_bytes w) ps)) known
    ∙ ap given
    (ap (records_of w) (sym (append-nil (flat_map (record_bytes w) ps)))
    ∙ records_then w ps [] f
    ∙ ap (λ (qs : List Numbered). record { items = qs; stop = ended }) (append-nil ps))
