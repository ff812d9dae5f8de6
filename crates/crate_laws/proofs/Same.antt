-- Crate and port agree on every allowed unit (D2). Assumes nothing.
--     same_units                list, plan, headers but for N, payloads but for N and how a length is written
--     sent-allowed              a unit of which a packet is written is allowed
--     listed_same               the list, where the list call answers with a count
--     planned-same, sent-same   as same_units, where the plan call or a writing call answers with numbers
use mathlib.Core.Path.{◌≡◌, refl, sym, ap, ◌∙◌}
use Prim.Native.Nat.{ℕ, zero, suc, ◌+◌, ◌-◌, ◌/◌, ◌≤◌, ◌<◌}
use native.Mathlib.Numerals.{add-one}
use native.Mathlib.Omega.{arith}
use mathlib.Core.List.{List, [], ◌∷◌, map}
use mathlib.Core.Bool.{Bool, true, false, cond}
use lib.ListN.{length, get_or, drop, length-map, drop_of_length-le}
use lib.Seq.{drop-cons}
use lib.Dec.{ltb}
use borrow.Author.Tests.{ltb-false}
use Rattle.base.specs.Answers.{Answer, given, refused}
use Rattle.base.proofs.Tests.{split_on}
use Rattle.obu.specs.Laws.{Bytes}
use Rattle.obu.specs.Unit.{unit_limit, Placed, ScanEnd, ended, refused_by, scan_of, kept_of, obus_of, listed_of, at_stop, listed, list_answer, same_list}
use Rattle.obu.specs.Records.{obu_numbers}
use Rattle.obu.specs.declared.Obu.{Obu}
use Rattle.obu.specs.declared.Listed.{Listed}
use Rattle.obu.specs.declared.compare.Kept.{Kept}
use Rattle.obu.proofs.Records.{obu_lies}
use Rattle.obu.proofs.Compares.{same_says}
use Rattle.packetizer.specs.Plan.{plan_of}
use Rattle.packetizer.specs.Call.{mtu_limit, sizes_of, unit_plan, to_plan, planned, plan_answer, compared, same_plan, sizes}
use Rattle.packetizer.specs.declared.PacketMetadata.{PacketMetadata}
use Rattle.packetizer.specs.declared.Planned.{Planned}
use Rattle.packetizer.specs.Laws.{Sound}
use Rattle.packetizer.specs.Records.{plan_numbers, no_packet}
use Rattle.packetizer.proofs.Calls.{unit_small, given_kept}
use Rattle.aggregation.specs.New.{n_of}
use Rattle.aggregation.specs.Header.{byte_of, header_of}
use Rattle.aggregation.proofs.Headers.{alike}
use Rattle.payloader.specs.Payload.{payload_at}
use Rattle.payloader.specs.Call as call
use Rattle.payloader.specs.declared.Written.{Written}
use Rattle.payloader.proofs.Packets.{packet_sound, packet_header}
use Rattle.crate_laws.specs.Rust.{Outcome, ok}
use Rattle.crate_laws.specs.Packetizer.{CratePacket, «packetize»}
use Rattle.crate_laws.specs.Payload.{packet_bytes, packets_from, payload}
use Rattle.crate_laws.specs.Pieces.{written_by, crate_writer, zyw_of, packet_pieces, pieces_from, pieces_of}
use Rattle.crate_laws.specs.Same.{Allowed, as_crate, crate_obus, as_crate_packet, crate_packets, crate_sizes, In32Bits, SameHeader, SameUnits, SentAllowed, ListedSame, PlannedSame, SentSame}
use Rattle.crate_laws.proofs.Lists.{parse_same}
use Rattle.crate_laws.proofs.Plans.{same_plans}
use Rattle.crate_laws.proofs.Headers.{header_same}
use Rattle.crate_laws.proofs.Packets.{packet_is}
use Rattle.crate_laws.proofs.Pieces.{payloads_written}

sizes_same : (unit : List ℕ) (obus : List Obu) → crate_sizes (map (as_crate unit) obus) ≡ sizes obus
sizes_same unit [] = refl
sizes_same unit (o ∷ obus) = ap {B = List ℕ} (λ l. o.size ∷ l) (sizes_same unit obus)

-- ---- all packets

module _ (unit : List ℕ) (obus : List Obu) (packets : List PacketMetadata)
    (each :
    (k : ℕ) → k < length packets
    → packet_bytes (map (as_crate unit) obus) (crate_packets packets) k
    ≡ ok (written_by (crate_writer (map (as_crate unit) obus)) (packet_pieces unit obus k (get_or packets k no_packet))))
  where
    packets_from_lem : (left k : ℕ) → left + k ≡ length packets
        → packets_from left (map (as_crate unit) obus) (crate_packets packets) k
        ≡ ok (map (written_by (crate_writer (map (as_crate unit) obus))) (pieces_from unit obus k (drop k packets)))
    unfolding packets_from pieces_from
    packets_from_lem zero k e = let h : length packets ≤ k = omega arith in rw (drop_of_length-le packets h)
    packets_from_lem (suc left) k e =
        rw (each k (omega arith), packets_from_lem left (k + 1) (omega arith), drop-cons packets k no_packet (omega arith), add-one k)

module _ (mtu : ℕ) (unit : List ℕ) (bytes : Bytes unit) (a : Allowed mtu unit) where
  abbrev os : List Obu
  os = obus_of unit

  abbrev plan : List PacketMetadata
  plan = unit_plan mtu unit

  in_32_bits : In32Bits (crate_sizes (crate_obus unit))
  in_32_bits = rw (sizes_same unit os) (λ j l. let s = unit_small unit a.short j l in omega arith)

  plan_same : «packetize» (crate_obus unit) mtu ≡ ok (crate_packets plan)
  plan_same =
      same_plans (crate_obus unit) mtu (omega (arith, a.low)) in_32_bits
      ∙ ap {B = Outcome (List CratePacket)} (λ (l : List ℕ). ok (crate_packets (plan_of mtu l))) (sizes_same unit os)

  sound : (k : ℕ) → k < length plan → Sound (mtu - 1) (sizes_of unit) (get_or plan k no_packet)
  sound k h = packet_sound mtu unit k a.short h

  payload_is : payload mtu unit ≡ ok (map (written_by (crate_writer (crate_obus unit))) (pieces_of mtu unit))
  unfolding payload
  payload_is =
      rw (parse_same unit bytes a.whole, plan_same, length-map plan as_crate_packet)
      (packets_from_lem unit os plan (λ k h. packet_is unit os (λ i l. obu_lies unit i bytes l) (mtu - 1) plan k h (sound k h)) (length plan) 0 (omega arith))

  our_header : (k : ℕ) → header_of unit os plan k ≡ given (byte_of unit os (get_or plan k no_packet) k)
      → header_of unit os plan k ≡ given (zyw_of os (get_or plan k no_packet) + n_of unit os k)
  unfolding byte_of zyw_of
  our_header k e = e

  header_both : (k : ℕ) → k < length plan → SameHeader mtu unit k
  header_both k h =
      let s = sound k h in
      let inside : (get_or plan k no_packet).first_obu_index + (get_or plan k no_packet).num_obu_elements ≤ length os =
      omega (arith, s.inside, length-map os (λ (o : Obu). o.size)) in
      record { theirs = header_same unit os plan k h s.some inside; ours = our_header k (sym (alike unit os plan k) ∙ packet_header mtu unit k a.short h) }

pub same_units : SameUnits
same_units mtu unit bytes a =
    record {
      list = parse_same unit bytes a.whole;
      plan = plan_same mtu unit bytes a;
      headers = header_both mtu unit bytes a;
      payloads = payload_is mtu unit bytes a;
      ours = payloads_written unit (obus_of unit) 0 (unit_plan mtu unit);
    }

-- ---- the calls: what they answer with numbers is accepted

-- the list call, with space for so many records
listed_ended : (unit : List ℕ) (space : ℕ) (l : Listed) → given l ≡ listed space unit → (scan_of unit).stop ≡ ended
unfolding listed
listed_ended unit space l e = by_stop (ltb unit_limit (length unit)) (ltb space (length (kept_of unit))) (scan_of unit).stop e
  where
    by_stop : (t u : Bool) (s : ScanEnd)
        → given l ≡ cond t (refused 2 0) (cond u (refused 8 (get_or (map (λ (p : Placed). p.at) (kept_of unit)) space 0)) (at_stop s (listed_of unit)))
        → s ≡ ended
    by_stop true u s e = let z : ◌≡◌ {A = ℕ} 0 1 = cc in absurd (omega arith)
    by_stop false true s e = let z : ◌≡◌ {A = ℕ} 0 1 = cc in absurd (omega arith)
    by_stop false false (refused_by k at) e = let z : ◌≡◌ {A = ℕ} 0 1 = cc in absurd (omega arith)
    by_stop false false ended e = refl

pub listed_same : ListedSame
listed_same unit obus l bytes e = parse_same unit bytes (listed_ended unit (length obus / obu_numbers) l (sym e))

module _ (mtu : ℕ) (unit obus plan : List ℕ) where
  -- what is listed in any space, with an mtu within its limit
  listed_allowed : (space : ℕ) (l : Listed) → ltb mtu_limit mtu ≡ false → listed space unit ≡ given l → Allowed mtu unit
  listed_allowed space l t e =
      let k = given_kept unit space l (sym e) in
      record { low = ltb-false mtu_limit mtu t; short = k.0; whole = listed_ended unit space l (sym e) }

  planned_list : (p : Planned) (ps : List PacketMetadata) (space : ℕ) (a : Answer Listed) → planned ps space a ≡ given p → (l : Listed) × (a ≡ given l)
  planned_list p ps space (given l) e = (l, refl)
  planned_list p ps space (refused n at) e = let z : ◌≡◌ {A = ℕ} 0 1 = cc in absurd (omega arith)

  planned_allowed : (p : Planned) → plan_answer (to_plan mtu unit obus plan) ≡ given p → Allowed mtu unit
  unfolding plan_answer
  planned_allowed p e = split_on (ltb mtu_limit mtu)
      (λ t.
      let f : refused 1 0 ≡ given p = rw t at e in
      let z : ◌≡◌ {A = ℕ} 0 1 = cc in
      absurd (omega arith))
      (λ t.
      let (l, q) = planned_list p (unit_plan mtu unit) (length plan / plan_numbers) (list_answer unit obus) (rw t at e) in
      listed_allowed (length obus / obu_numbers) l t q)

  -- comparing the lists, and writing by what it answers
  compared_list : (p : Planned) (ps : List PacketMetadata) (a : Answer Kept) → compared ps plan a ≡ given p → (k : Kept) × (a ≡ given k)
  compared_list p ps (given k) e = (k, refl)
  compared_list p ps (refused n at) e = let z : ◌≡◌ {A = ℕ} 0 1 = cc in absurd (omega arith)

  compared_allowed : (p : Planned) → same_plan mtu unit obus plan ≡ given p → Allowed mtu unit
  unfolding same_plan
  compared_allowed p e = split_on (ltb mtu_limit mtu)
      (λ t.
      let f : refused 1 0 ≡ given p = rw t at e in
      let z : ◌≡◌ {A = ℕ} 0 1 = cc in
      absurd (omega arith))
      (λ t.
      let (k, q) = compared_list p (unit_plan mtu unit) (same_list unit obus) (rw t at e) in
      let (l, listing, o, same) = same_says unit obus (sym q) in
      listed_allowed (length unit) l t (sym listing))

  written_plan : (w : Written) (there : ℕ → Bool) (bytes : List ℕ) (space : ℕ) (a : Answer Planned) → call.written there bytes space a ≡ given w
      → (p : Planned) × (a ≡ given p)
  written_plan w there bytes space (given p) e = (p, refl)
  written_plan w there bytes space (refused n at) e = let z : ◌≡◌ {A = ℕ} 0 1 = cc in absurd (omega arith)

  written_allowed : (there : ℕ → Bool) (bytes out : List ℕ) (w : Written) → call.answer_for there bytes (call.to_write mtu unit obus plan out) ≡ given w → Allowed mtu unit
  unfolding call.answer_for
  written_allowed there bytes out w e =
      let (p, q) = written_plan w there bytes (length out) (same_plan mtu unit obus plan) e in
      compared_allowed p q

pub planned_same : PlannedSame
planned_same mtu unit obus plan p bytes e = same_units mtu unit bytes (planned_allowed mtu unit obus plan p e)

pub sent_allowed : SentAllowed
sent_allowed mtu k unit obus plan out w e = written_allowed mtu unit obus plan (ltb k) (payload_at mtu unit k) out w e

pub sent_same : SentSame
sent_same mtu k unit obus plan out w bytes e = same_units mtu unit bytes (sent_allowed mtu k unit obus plan out w e)
