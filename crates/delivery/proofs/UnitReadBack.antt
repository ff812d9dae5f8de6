-- What the writing calls write, read by the definition of elements, gives back the plan's Z, Y and elements. Assumes nothing.
use mathlib.Core.Path.{ap, subst, ◌∙◌}
use Prim.Native.Nat.{ℕ}
use mathlib.Core.List.{List, [], ◌∷◌, map}
use mathlib.Core.Bool.{Bool, cond}
use lib.ListN.{length}
use borrow.Author.Tests.{le-ltb}
use Rattle.base.specs.Answers.{refused}
use Rattle.base.specs.Lists.{All}
use Rattle.packetizer.specs.Call.{sizes_of, unit_plan}
use Rattle.packetizer.specs.Laws.{position}
use Rattle.packetizer.specs.declared.PacketMetadata.{PacketMetadata}
use Rattle.packetizer.proofs.UnitLaws.{unit_positive}
use Rattle.payloader.specs.Payload.{payloads_of}
use Rattle.element.specs.Elements as element
use Rattle.element.specs.Elements.{payload_limit, payload_elements}
use Rattle.element.specs.Laws.{ReadsAs}
use Rattle.lawful.specs.Train.{NonEmpty, Packet}
use Rattle.lawful.specs.Payload.{Carry, CarryAll}
use Rattle.lawful.proofs.Reading.{carried_read}
use Rattle.delivery.specs.ReadBack.{ReadBack, AllReadBack, UnitReadBack}
use Rattle.delivery.proofs.UnitPackets.{elements_at, packet_for, unit_full}
use Rattle.delivery.proofs.OneUnit.{train_run, train_carried, runs}

module _ (unit : List ℕ) where
  one_back : (payload : List ℕ) (p : PacketMetadata) → Carry payload (packet_for unit p) → All NonEmpty (elements_at unit p) → ReadBack unit p payload
  unfolding payload_elements
  one_back [] p c f = absurd c
  one_back (h ∷ bytes) p c f =
      let r : ReadsAs (h ∷ bytes) (elements_at unit p) = carried_read (h ∷ bytes) (packet_for unit p) c f in
      record {
        parts = r.parts;
        read = ap (λ (t : Bool). cond t (refused 13 0) (element.elements_of (h ∷ bytes))) (le-ltb payload_limit (length (h ∷ bytes)) c.short) ∙ r.read;
        elements = r.holds;
        z = c.z_is;
        y = c.y_is;
        n = c.n_clear;
      }

  all_back : (ps : List PacketMetadata) (bs : List (List ℕ)) → CarryAll bs (map (packet_for unit) ps) → All (λ (q : Packet). All NonEmpty q.elements) (map (packet_for unit) ps) → AllReadBack unit ps bs
  all_back [] [] c f = tt
  all_back [] (b ∷ bs) c f = absurd c
  all_back (p ∷ ps) [] c f = absurd c
  all_back (p ∷ ps) (b ∷ bs) c f = (one_back b p c.0 f.0, all_back ps bs c.1 f.1)

pub unit_read_back : UnitReadBack
unit_read_back s h =
    all_back s.unit (unit_plan s.mtu s.unit) (payloads_of s.mtu s.unit)
    (subst (CarryAll (payloads_of s.mtu s.unit)) (train_run s h) (train_carried s h))
    (unit_full s.unit (unit_positive s.unit) s.mtu (position 0 0) (position (length (sizes_of s.unit)) 0) (unit_plan s.mtu s.unit) (runs s h))
