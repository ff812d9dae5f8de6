-- A run of the steps writes and says what `unpack` is to write and to say (G5 to G7, G15, G16). Assumes nothing.
use mathlib.Core.Path.{◌≡◌, refl, sym, ap, ◌∙◌}
use Prim.Native.Nat.{ℕ, zero, suc, ◌+◌, ◌≤◌, ◌<◌}
use native.Mathlib.Omega.{arith}
use mathlib.Core.List.{List, [], ◌∷◌, append-nil}
use lib.ListN.{length, take, drop, length-take, length-drop}
use lib.Dec.{ltb}
use lib.Seq.{take-take, length-take-le}
use borrow.Author.Tests.{lt-ltb, ltb-true, ltb-false}
use Rattle.base.specs.Answers.{Answer, given, refused}
use Rattle.base.proofs.Lists.{short_front}
use Rattle.base.proofs.Tests.{by_cond, split_on}
use Rattle.train.specs.Train.{counted_width, Numbered, Fields, over, before, bad, fields_of, records_of, head_of, train_by, standing}
use Rattle.train.specs.declared.TrainHead.{TrainHead}
use Rattle.train.specs.declared.RecordFields.{RecordFields}
use Rattle.train.proofs.Reading.{fields_state, head_width_lem}
use Rattle.train.proofs.Stepping.{records_over, records_bad, records_cut, records_next}
use Rattle.receiver.specs.Joining.{Held, fresh}
use Rattle.receiver.proofs.Laws.{holding_fresh}
use Rattle.turns.specs.Text.{line_text}
use Rattle.turns.specs.Orders.{Told, asks}
use Rattle.turns.specs.Loop.{Output, also, loop}
use Rattle.unpacking.specs.Unpack.{payload_bytes, output_bytes, fragment_store, unpacked_from, unpack_of, no_losses, with_open, losses_from, said_from, said_by, unpack_says, step_of}
use Rattle.unpacking.specs.Steps.{starts_with, fields_width, version_told, away_told, fields_told}
use Rattle.unpacking.specs.Run.{Stores, run_of}
use Rattle.unpacking.specs.declared.losses.Losses.{Losses}
use Rattle.unpacking.specs.declared.Place.{Place}
use Rattle.unpacking.proofs.Packets as packets
use Rattle.unpacking.proofs.Packets.{run, run_losses, only, run_stops, output_for, Ready, packet_out}

-- where length fields of this width are read
module _ (width : ℕ) (counted : counted_width width ≡ width) where
  -- ---- one record

  module _ (k : ℕ) (h : Held) (c : Losses) (s : Stores) (r : Ready h s) (l : List ℕ) where
    abbrev Expected : Output
    Expected = output_for k h c (records_of width l)

    abbrev behind : List ℕ
    behind = drop (fields_width width) l

    module _ (n : ℕ) (f : RecordFields) (e : fields_of width (take (fields_width width) l) ≡ before f) (a : length behind + 5 ≤ n) (again : packets.Again width counted n (drop f.length behind)) where
      abbrev packet : Numbered
      packet = record { number = f.number; payload = take f.length behind }

      cut : length behind < f.length → packets.stopped width counted k h c ≡ Expected
      unfolding unpacked_from said_from losses_from
      cut short = sym (ap (output_for k h c) (records_cut width l f e short))

      payload_run : (m : ℕ) → n ≡ suc m → f.length ≤ payload_bytes → run n (asks (packets.at_payload width counted k h c f) [] f.length) s behind ≡ Expected
      unfolding loop step_of
      payload_run m z small = rw z (split_on (ltb (length behind) f.length)
          (λ t.
          rw (short_front f.length behind ∙ t)
          (run_stops m (omega arith) (packets.at_payload width counted k h c f) _ _ _ _ ∙ cut (ltb-true (length behind) f.length t)))
          (λ t.
          let there : f.length ≤ length behind = ltb-false (length behind) f.length t in
          rw (short_front f.length behind ∙ t, take-take f.length f.length behind (omega arith))
          (packets.packet_run width counted k h c s r m f packet (omega (arith, length-take-le f.length behind there)) (drop f.length behind)
          (again m (omega arith) (omega (arith, length-drop f.length behind)))
          ∙ sym (ap (output_for k h c) (records_next width l f e there)))))

      away_run : payload_bytes < f.length → run n (away_told (packets.at_fields width counted k h c) f.length) s behind ≡ Expected
      away_run large = split_on (ltb (length behind) f.length)
          (λ t.
          let short : length behind < f.length = ltb-true (length behind) f.length t in
          packets.away_cut width counted k h c s r f.length f.length n (omega arith) behind short (omega arith) ∙ cut short)
          (λ t.
          let there : f.length ≤ length behind = ltb-false (length behind) f.length t in
          let size : length (take f.length behind) ≡ f.length = length-take-le f.length behind there in
          packets.away_whole width counted k h c s r f.length f.length n (omega arith) (omega arith) behind there (omega arith) again
          ∙ packet_out k h c packet (records_of width (drop f.length behind)) (refused 13 0) (rw (lt-ltb payload_bytes (length (take f.length behind)) (omega arith)))
          ∙ sym (ap (output_for k h c) (records_next width l f e there)))

    by_fields : (n : ℕ) → length l + 3 ≤ n → ((f : RecordFields) → fields_of width (take (fields_width width) l) ≡ before f → packets.Again width counted n (drop f.length behind))
        → (x : Fields) → fields_of width (take (fields_width width) l) ≡ x → run n (fields_told (packets.at_fields width counted k h c) x) s behind ≡ Expected
    unfolding unpacked_from said_from losses_from
    by_fields n a again over e =
        run_losses n (omega arith) (packets.at_fields width counted k h c) (with_open c (length h.fragment)) _ _
        ∙ sym (ap (output_for k h c) (records_over width l e))
    by_fields n a again (bad j) e =
        run_stops n (omega arith) (packets.at_fields width counted k h c) _ _ _ _
        ∙ sym (ap (output_for k h c) (records_bad width l j e))
    by_fields zero a again (before f) e = absurd (omega arith)
    by_fields (suc n) a again (before f) e =
        let turns : length behind + 5 ≤ suc n = omega (arith, (fields_state (sym e)).there, length-take (fields_width width) l, length-drop (fields_width width) l) in
        by_cond (λ (x : Told Place). run (suc n) x s behind ≡ Expected) (ltb payload_bytes f.length) _ _
        (λ t. away_run (suc n) f e turns (again f e) (ltb-true payload_bytes f.length t))
        (λ t. payload_run (suc n) f e turns (again f e) n refl (ltb-false payload_bytes f.length t))

  -- ---- all records

  run_records : (most n : ℕ) → n ≤ most → (l : List ℕ) → length l + 4 ≤ n → packets.Comes width counted n l
  unfolding loop
  run_records zero n b l a k h c s r w y = absurd (omega arith)
  run_records (suc most) zero b l a k h c s r w y = absurd (omega arith)
  run_records (suc most) (suc n) b l a k h c s r w y =
      let x = drop (fields_width width) l in
      ap (also w y)
      (ap (λ (i : ℕ). run n (fields_told (packets.at_fields width counted k h c) (fields_of i (take (fields_width width) l))) s x) counted
      ∙ by_fields k h c s r l n (omega arith)
      (λ f e m p q. run_records most m (omega arith) (drop f.length x) q)
      (fields_of width (take (fields_width width) l)) refl)

-- ---- the file

head_first : (file : List ℕ) → head_of (take 1 file) ≡ head_of file
unfolding head_of
head_first [] = refl
head_first (b ∷ l) = refl

-- with the stores of the rules, whatever they hold, and turns for each byte and five more
pub run_unpacks : (turns : ℕ) (s : Stores) (file : List ℕ) → length s.store ≡ fragment_store → length s.out ≡ output_bytes → length file + 5 ≤ turns
    → run_of turns s file ≡ record { written = unpack_of file; said = unpack_says file }
unfolding loop unpacked_from
run_unpacks zero s file p q h = absurd (omega arith)
run_unpacks (suc n) s file p q h =
    ap By (head_first file) ∙ go (head_of file) refl
  where
    start : Place
    start = starts_with.place

    By : Answer TrainHead → Output
    By a = also [] [] (run n (version_told start a) s (drop 1 file))

    go : (a : Answer TrainHead) → a ≡ head_of file
        → By a ≡ record { written = unpacked_from fresh (standing (train_by (drop 1 file) a)); said = said_by (train_by (drop 1 file) a) }
    go (given x) e =
        run_records x.width (head_width_lem file e) n n (omega arith) (drop 1 file) (omega (arith, length-drop 1 file)) 0 fresh no_losses s (record { holding = holding_fresh s.store; store_is = p; out_is = q }) [] []
    go (refused m at) e = run_stops n (omega arith) start _ _ _ (drop 1 file) ∙ ap only (append-nil (line_text _ _))
