-- Cut anywhere, a train gives a prefix of its packets: what stands before a bad record stands (T3). Over the width of the length field. Assumes nothing.
use mathlib.Core.Path.{◌≡◌, refl, sym, ap, ◌∙◌}
use Prim.Native.Nat.{ℕ, zero, suc, ◌+◌}
use native.Mathlib.Omega.{arith}
use mathlib.Core.List.{List, [], ◌∷◌, ◌++◌}
use lib.ListN.{take, drop, length-append, length-drop}
use lib.Seq.{take-append-le, drop-append-le}
use Rattle.base.specs.Answers.{Answer, given, refused}
use Rattle.base.specs.Lists.{Prefix}
use Rattle.base.specs.Streams.{item}
use Rattle.base.proofs.Lists.{prefix_none}
use Rattle.base.proofs.Streams.{Same, stream_cut}
use Rattle.train.specs.Train.{Numbered, number_width, before, fields_of, Front, ends, holds, stops, front_by, front_of, packet_in, ended, record_by, record_next, head_with, head_of, train_by, train_in, standing}
use Rattle.train.specs.declared.TrainHead.{TrainHead}
use Rattle.train.specs.declared.RecordFields.{RecordFields}
use Rattle.train.specs.declared.RecordHead.{RecordHead}
use Rattle.train.proofs.Reading.{fields_state, held_whole}
use Rattle.train.proofs.Stepping.{fields_first, front_by_lem, front_spans}

-- ---- more bytes change nothing at the front, where a packet is held

fields_more : (w : ℕ) (l m : List ℕ) {f : RecordFields} → before f ≡ fields_of w l → before f ≡ fields_of w (l ++ m)
fields_more w l m e =
    e
    ∙ sym (fields_first w l)
    ∙ ap (fields_of w) (sym (take-append-le (w + number_width) l m (fields_state e).there))
    ∙ fields_first w (l ++ m)

front_more : (w at : ℕ) (l m : List ℕ) (h : RecordHead) → front_of w at l ≡ holds h → front_of w at (l ++ m) ≡ holds h
front_more w at l m h e =
    front_by_lem w at l h e (front_of w at (l ++ m) ≡ holds h)
    (λ f q k.
    ap (front_by w at (l ++ m)) (sym (fields_more w l m q))
    ∙ sym (held_whole w at (l ++ m) f (omega (arith, k.0, length-append l m)))
    ∙ ap holds (sym k.1))

packet_more : (w : ℕ) (l m : List ℕ) (h : RecordHead) → front_of w 0 l ≡ holds h → packet_in (l ++ m) h ≡ packet_in l h
packet_more w l m h e =
    let s = front_spans w 0 l h e in
    ap (λ (x : List ℕ). record { number = h.number; payload = x })
    (ap (take h.length) (drop-append-le h.start l m (omega arith))
    ∙ take-append-le h.length (drop h.start l) m (omega (arith, length-drop h.start l)))

-- so more bytes change no item
record_same : (w : ℕ) (t : Unit {0}) (l m : List ℕ) → Same (record_next w t l) (record_next w t (l ++ m))
record_same w t l m = go (front_of w 0 l) refl
  where
    go : (x : Front) → front_of w 0 l ≡ x → Same (record_by l x) (record_next w t (l ++ m))
    go ends e = tt
    go (stops k) e = tt
    go (holds h) e =
        ap (record_by (l ++ m)) (front_more w 0 l m h e)
        ∙ ap (λ (p : Numbered). item p (h.start + h.length) tt) (packet_more w l m h e)

pub cut_prefix : (file : List ℕ) (n : ℕ) → Prefix (standing (train_in (take n file))) (standing (train_in file))
unfolding head_of
cut_prefix file zero = prefix_none (standing (train_in file))
cut_prefix [] (suc n) = prefix_none []
cut_prefix (v ∷ l) (suc n) = go (head_with v)
  where
    go : (a : Answer TrainHead) → Prefix (standing (train_by (take n l) a)) (standing (train_by l a))
    go (given h) = stream_cut (record_next h.width) ended (record_same h.width) n l tt
    go (refused k at) = prefix_none []
