-- One receive call on a payload that carries a packet: taken or R14. Assumes nothing.
use mathlib.Core.Path.{◌≡◌, refl, ap, ◌∙◌}
use Prim.Native.Nat.{ℕ, ◌≤◌}
use mathlib.Core.List.{List, [], ◌∷◌, flat_map}
use mathlib.Core.Bool.{true, false}
use lib.ListN.{length}
use Rattle.base.specs.Answers.{Answer, given, refused, Given}
use Rattle.base.specs.Lists.{All}
use Rattle.base.proofs.Lists.{all_map}
use Rattle.obu.specs.Front.{Front}
use Rattle.obu.specs.Wire.{whole_of, handed_out, wire}
use Rattle.element.proofs.Laws.{payload_fits}
use Rattle.handing.specs.Handing.{fragment_limit, wires}
use Rattle.handing.proofs.Wires.{wires_each}
use Rattle.receiver.specs.Packet.{Packet, packet_by, packet_of}
use Rattle.receiver.specs.Joining.{Held, ahead, joinable, handed, kept_open, holding, next, out}
use Rattle.receiver.specs.Call.{Incoming, Taken, leads_to, outcome}
use Rattle.receiver.proofs.Laws.{taken_all, taken_behind, Holding, inputs_by, outcome_holding}
use Rattle.lawful.specs.Train.{NonEmpty}
use Rattle.lawful.specs.Payload.{Carry}
use Rattle.lawful.specs.Lawful.{WellFormed}
use Rattle.lawful.proofs.Reading.{carried_read}

-- ---- the payload is taken apart as its packet

pub carried_packet : (payload : List ℕ) (p : Packet) → Carry payload p → All NonEmpty p.elements → packet_of payload ≡ given p
carried_packet [] p c f = absurd c
carried_packet (h ∷ bytes) p c f =
    let r = carried_read (h ∷ bytes) p c f in
    ap (packet_by (h ∷ bytes)) (payload_fits (h ∷ bytes) c.short ∙ r.read) ∙ rw (r.holds, c.z_is, c.y_is)

-- ---- what goes out for OBUs that R18 does not refuse

abbrev bytes_or : Answer (List ℕ) → List ℕ
bytes_or (given b) = b
bytes_or (refused n at) = []

pub wire_bytes : List ℕ → List ℕ
wire_bytes o = bytes_or (wire o)

wire_given : (o : List ℕ) → WellFormed o → wire o ≡ given (wire_bytes o)
unfolding wire wire_bytes
wire_given o h = go (whole_of o) h
  where
    go : (a : Answer Front) → Given a → handed_out o a ≡ given (bytes_or (handed_out o a))
    go (given f) g = refl
    go (refused n at) g = absurd g

pub wires_given : (os : List (List ℕ)) → All WellFormed os → wires os ≡ given (flat_map wire_bytes os)
wires_given os h = wires_each wire_bytes os (all_map wire_given os h)

-- ---- the call

-- what a packet leads to, where this is held then
abbrev pub leading : Held → Incoming → Packet → Held → List ℕ → Taken
leading h p q held bytes = let t = leads_to h p q bytes in record { held = held; bytes = bytes; padded = t.padded; lost = t.lost }

module _ (h : Held) (p : Incoming) (store output : List ℕ) (s : Holding h store) (q : Packet) (read : packet_of p.payload ≡ given q) where
  pub call_late : ahead h p.label ≡ false → outcome (inputs_by h p store output) ≡ refused 14 0
  call_late e = outcome_holding h p store output s ∙ taken_behind (length store) (length output) h p q read e

  -- the first element may join o
  pub call_taken : (o bytes : List ℕ) → ahead h p.label ≡ true → joinable h p.label ≡ o → wires (handed o q) ≡ given bytes
      → length (kept_open o q) ≤ length store → length (kept_open o q) ≤ fragment_limit → length bytes ≤ length output
      → outcome (inputs_by h p store output) ≡ given (leading h p q (holding p.label (kept_open o q)) bytes)
  unfolding next out
  call_taken o bytes a j w k l m =
      let n : next h p.label q ≡ holding p.label (kept_open o q) = rw (a, j) in
      let f : (next h p.label q).fragment ≡ kept_open o q = ap (λ (x : Held). x.fragment) n in
      outcome_holding h p store output s
      ∙ taken_all (length store) (length output) h p q read a bytes (rw (a, j) w) (rw f k) (rw f l) m
      ∙ ap (λ (x : Held). given (leading h p q x bytes)) n
