-- `unpack` after `pack` gives all kept OBUs back (G2 to G5). Assumes nothing.
--     all_go        what one packet finishes has room in `unpack`'s output
--     round_trip    the theorem
use mathlib.Core.Path.{◌≡◌, refl, sym, ap, ap₂, subst, ◌∙◌}
use Prim.Native.Nat.{ℕ, ◌+◌, ◌*◌, ◌/◌, ◌≤◌, ◌<◌}
use native.Mathlib.Omega.{arith}
use mathlib.Core.List.{List, [], ◌∷◌, ◌++◌, append_assoc, append-nil, map, flat_map}
use lib.ListN.{length, length-append, length-map, replicate, length-replicate}
use lib.Dec.{ltb}
use Rattle.base.specs.Numbers.{packet_numbers}
use Rattle.base.specs.Answers.{Answer, given, Given}
use Rattle.base.specs.BigEndian.{value_at}
use Rattle.base.specs.Lists.{All}
use Rattle.base.proofs.BigEndian.{value_below}
use Rattle.base.proofs.Lists.{all_map, flat_map_append, flat_map_one, all_append, all_left, all_right, all_both, all_of_map}
use Rattle.base.proofs.Tests.{by_cond}
use Rattle.obu.specs.Unit.{Placed, kept_of, obus_of}
use Rattle.obu.specs.Wire.{wire_of}
use Rattle.obu.specs.Laws.{Inside}
use Rattle.obu.specs.Records.{obu_numbers}
use Rattle.obu.specs.declared.Obu.{Obu}
use Rattle.obu.proofs.Theorems.{kept_inside, wire_small}
use Rattle.packetizer.specs.Plan.{least_mtu}
use Rattle.packetizer.specs.Call.{mtu_limit}
use Rattle.packetizer.specs.Records.{plan_numbers}
use Rattle.packetizer.proofs.Calls.{unit_total}
use Rattle.payloader.specs.Payload.{payloads_of}
use Rattle.packing.specs.Pack.{Version, known, other, version_with, version_in, mtu_width, rest_width, Head, found, head_after, head_by, head_in, behind_head, unit_store, list_records, next_number, numbered, number_after, answer_in, units_from, units_by, packets_of, train_by}
use Rattle.packing.specs.declared.input.InputVersion.{InputVersion}
use Rattle.packing.specs.declared.input.PackHead.{PackHead}
use Rattle.packing.proofs.Recording.{head_states}
use Rattle.packing.proofs.Units.{answer_is, packed_few}
use Rattle.packing.proofs.Runs.{numbered_append}
use Rattle.train.specs.Train.{head_for, number_width, Numbered, Records, ended, train_of as trainFile, train_in, standing}
use Rattle.train.specs.Laws.{AllFit}
use Rattle.train.proofs.Written.{head_taken, written_read}
use Rattle.receiver.specs.Joining.{fresh}
use Rattle.receiver.specs.Call.{Taken}
use Rattle.receiver.proofs.Laws.{holding_fresh}
use Rattle.unpacking.specs.Unpack.{payload_bytes, fragment_store, output_bytes, written_for, unpacked_from, unpack_of}
use Rattle.lawful.specs.Train as lawful
use Rattle.lawful.specs.Train.{packets_of_pieces}
use Rattle.lawful.specs.Payload.{CarryAll}
use Rattle.delivery.specs.Arrivals.{number}
use Rattle.delivery.specs.Calls.{takes, fresh_calls, handed_out, verdicts}
use Rattle.delivery.specs.Units.{Sending, Accepted, payloads_sent, sent_from}
use Rattle.delivery.specs.RoundTrip.{wire_bytes_of, RoundTrip}
use Rattle.delivery.proofs.Turns.{turns, held_then, turns_append, unpacked_turns, Goes, turns_room, arriving, arriving_packets, arriving_outputs, turn_call, calls_turns, turns_out, turns_go}
use Rattle.delivery.proofs.OneUnit.{planned_given, within_limits, train_of, train_carried, train_short, train_within}
use Rattle.delivery.proofs.UnitsTheorem.{units_no_loss}
use Rattle.delivery.proofs.Packed.{Good, units_good}

-- ---- lists

verdicts_right : (l m : List (Answer Taken)) → All (λ v. v ≡ takes) (verdicts (map turn_call (l ++ m))) → All (λ v. v ≡ takes) (verdicts (map turn_call m))
verdicts_right [] m a = a
verdicts_right (x ∷ l) m a = verdicts_right l m a.1

-- ---- as planned units

-- a slice of so many numbers; what they are does not matter
zeros : ℕ → List ℕ
zeros n = replicate n 0

zeros_length : (n : ℕ) → length (zeros n) ≡ n
unfolding zeros
zeros_length n = length-replicate n 0

module _ (mtu : ℕ) (least : least_mtu ≤ mtu) where
  sending : List ℕ → Sending
  sending u = record { mtu = mtu; unit = u; obus = zeros (list_records * obu_numbers); plan = zeros (list_records * plan_numbers) }

  sendings : List (List ℕ) → List Sending
  sendings us = map sending us

  accepted : (us : List (List ℕ)) → All (Good mtu) us → All Accepted (sendings us)
  unfolding sendings sending
  accepted [] g = tt
  accepted (u ∷ us) g = ((least, subst Given (sym (answer_is mtu u o p ∙ spaced)) g.0.0), accepted us g.1)
    where
      o : List ℕ
      o = zeros (list_records * obu_numbers)

      p : List ℕ
      p = zeros (list_records * plan_numbers)

      spaced : answer_in (length o / obu_numbers) (length p / plan_numbers) mtu u ≡ answer_in list_records list_records mtu u
      spaced =
          ap (λ (n : ℕ). answer_in (n / obu_numbers) (length p / plan_numbers) mtu u) (zeros_length (list_records * obu_numbers))
          ∙ ap (λ (n : ℕ). answer_in list_records (n / plan_numbers) mtu u) (zeros_length (list_records * plan_numbers))

  sent_payloads : (us : List (List ℕ)) → payloads_sent (sendings us) ≡ flat_map (payloads_of mtu) us
  unfolding sendings sending flat_map
  sent_payloads [] = refl
  sent_payloads (u ∷ us) = ap (λ (l : List (List ℕ)). payloads_of mtu u ++ l) (sent_payloads us)

  sent_wires : (us : List (List ℕ)) → flat_map (λ (s : Sending). flat_map (wire_of s.unit) (obus_of s.unit)) (sendings us) ≡ wire_bytes_of us
  unfolding sendings sending flat_map
  sent_wires [] = refl
  sent_wires (u ∷ us) = ap (λ (l : List ℕ). flat_map (wire_of u) (obus_of u) ++ l) (sent_wires us)

  sent_obus : (us : List (List ℕ)) → All (Good mtu) us → All (λ s. All (λ (o : Obu). o.size ≤ unit_store) (obus_of s.unit)) (sendings us)
  unfolding sendings sending
  sent_obus [] g = tt
  sent_obus (u ∷ us) g = (
    all_of_map (λ (p : Placed). p.obu) (λ (o : Obu). o.size ≤ unit_store) (kept_of u)
        (all_map (λ (p : Placed) (i : Inside (length u) p). omega (arith, i.start, i.within, i.size, g.0.1)) (kept_of u) (kept_inside u)),
    sent_obus us g.1,
  )

  sent_mtus : (us : List (List ℕ)) → All (λ s. s.mtu ≤ mtu) (sendings us)
  unfolding sendings sending
  sent_mtus [] = tt
  sent_mtus (u ∷ us) = (omega arith, sent_mtus us)

  -- ---- with no loss, and an output as long as demand 3 asks for

  module _ (first : ℕ) where
    abbrev room : ℕ
    room = unit_store + 4 * mtu

    packets : List (List ℕ) → List Numbered
    packets us = numbered (number first 0) (payloads_sent (sendings us))

    made : List (List ℕ) → List (Answer Taken)
    made us = turns fragment_store room fresh (packets us)

    -- the calls of the theorem with no loss
    calls_made : (us : List (List ℕ)) → fresh_calls (sent_from first (sendings us)) (zeros fragment_store) (arriving (zeros room) 0 (length (payloads_sent (sendings us)))) ≡ map turn_call (made us)
    unfolding made packets
    calls_made us =
        calls_turns (sent_from first (sendings us)) (zeros room) (payloads_sent (sendings us)) 0 fresh (zeros fragment_store) refl (holding_fresh (zeros fragment_store))
        ∙ ap₂ (λ (a b : ℕ). map turn_call (turns a b fresh (numbered (number first 0) (payloads_sent (sendings us))))) (zeros_length fragment_store) (zeros_length room)

    made_of : (us : List (List ℕ)) → All (Good mtu) us → (flat_map written_for (made us) ≡ wire_bytes_of us) × All (λ v. v ≡ takes) (verdicts (map turn_call (made us)))
    made_of us g =
        let n : ℕ = length (payloads_sent (sendings us)) in
        let d =
        units_no_loss (sendings us) first unit_store mtu (zeros fragment_store) (arriving (zeros room) 0 n) (accepted us g) (arriving_packets (zeros room) 0 n)
        (record {
          obus_fit = sent_obus us g;
          mtus_fit = sent_mtus us;
          store_has = omega (arith, zeros_length fragment_store);
          outputs_have = arriving_outputs (λ (l : List ℕ). room ≤ length l) (zeros room) 0 n (omega (arith, zeros_length room));
        }) in (
          sym (turns_out (made us)) ∙ sym (ap handed_out (calls_made us)) ∙ d.0 ∙ sent_wires us,
          subst (λ cs. All (λ v. v ≡ takes) (verdicts cs)) (calls_made us) d.1,
        )

    -- ---- what one packet finishes is of one unit, and so has room

    payloads_append : (us vs : List (List ℕ)) → payloads_sent (sendings (us ++ vs)) ≡ payloads_sent (sendings us) ++ payloads_sent (sendings vs)
    payloads_append us vs =
        sent_payloads (us ++ vs) ∙ flat_map_append (payloads_of mtu) us vs ∙ sym (ap₂ ◌++◌ (sent_payloads us) (sent_payloads vs))

    made_append : (us vs : List (List ℕ)) → (l : List (Answer Taken)) × (made (us ++ vs) ≡ made us ++ l)
    unfolding made packets
    made_append us vs = (
      turns fragment_store room (held_then fragment_store room fresh (packets us)) (numbered (number_after (number first 0) (payloads_sent (sendings us))) (payloads_sent (sendings vs))),
      ap (λ (l : List (List ℕ)). turns fragment_store room fresh (numbered (number first 0) l)) (payloads_append us vs)
          ∙ ap (turns fragment_store room fresh) (numbered_append (number first 0) (payloads_sent (sendings us)) (payloads_sent (sendings vs)))
          ∙ turns_append fragment_store room fresh (packets us) (numbered (number_after (number first 0) (payloads_sent (sendings us))) (payloads_sent (sendings vs))),
    )

    one_more : (us : List (List ℕ)) (u : List ℕ) → All (Good mtu) (us ++ (u ∷ [])) → All (Goes output_bytes) (made us) → All (Goes output_bytes) (made (us ++ (u ∷ [])))
    one_more us u g a =
        let m = made_append us (u ∷ []) in
        let before = made_of us (all_left (Good mtu) us (u ∷ []) g) in
        let now = made_of (us ++ (u ∷ [])) g in
        let good : Good mtu u = (all_right (Good mtu) us (u ∷ []) g).0 in
        let small = wire_small u (omega (arith, good.1)) in
        let w : flat_map written_for (made us) ++ flat_map written_for m.0 ≡ wire_bytes_of us ++ wire_bytes_of (u ∷ []) =
        sym (flat_map_append written_for (made us) m.0) ∙ sym (ap (flat_map written_for) m.1) ∙ now.0 ∙ flat_map_append _ us (u ∷ []) in
        let n : length (flat_map written_for m.0) ≡ length (wire_bytes_of (u ∷ [])) =
        omega (arith, ap length w, length-append (flat_map written_for (made us)) (flat_map written_for m.0), length-append (wire_bytes_of us) (wire_bytes_of (u ∷ [])), ap length before.0) in
        let k : length (wire_bytes_of (u ∷ [])) ≡ length (flat_map (wire_of u) (obus_of u)) = ap length (flat_map_one _ u) in
        let v = subst (λ (l : List (Answer Taken)). All (λ x. x ≡ takes) (verdicts (map turn_call l))) m.1 now.1 in
        rw m.1
        (all_append (Goes output_bytes) (made us) m.0 a
        (turns_go output_bytes m.0 (verdicts_right (made us) m.0 v) (omega (arith, n, k, small, good.1))))

    all_go : (rest us : List (List ℕ)) → All (Good mtu) (us ++ rest) → All (Goes output_bytes) (made us) → All (Goes output_bytes) (made (us ++ rest))
    all_go [] us g a = rw (append-nil us) a
    all_go (u ∷ rest) us g a =
        let e : (us ++ (u ∷ [])) ++ rest ≡ us ++ (u ∷ rest) = append_assoc us (u ∷ []) rest in
        let h : All (Good mtu) ((us ++ (u ∷ [])) ++ rest) = subst (All (Good mtu)) (sym e) g in
        subst (λ (l : List (List ℕ)). All (Goes output_bytes) (made l)) e
        (all_go rest (us ++ (u ∷ [])) h (one_more us u (all_left (Good mtu) (us ++ (u ∷ [])) rest h) a))

-- ---- the train holds these packets

carried_some : (bs : List (List ℕ)) (ps : List lawful.Packet) → CarryAll bs ps → All (λ (b : List ℕ). 1 ≤ length b) bs
carried_some [] ps c = tt
carried_some (b ∷ bs) [] c = absurd c
carried_some ([] ∷ bs) (p ∷ ps) c = absurd c.0
carried_some ((h ∷ b) ∷ bs) (p ∷ ps) c = (omega arith, carried_some bs ps c.1)

-- a payload of a unit that is packed: not empty, within mtu and limit, and within the store of `unpack`
record Sized (mtu : ℕ) (b : List ℕ) : Type 0 where
  pub some : 1 ≤ length b
  pub most : length b ≤ mtu
  pub limit : mtu ≤ mtu_limit
  pub stored : length b ≤ payload_bytes

module _ (mtu : ℕ) (least : least_mtu ≤ mtu) where
  unit_sized : (u : List ℕ) → Good mtu u → All (Sized mtu) (payloads_of mtu u)
  unfolding sendings sending
  unit_sized u g =
      let s : Sending = sending mtu least u in
      let h : Accepted s = (accepted mtu least (u ∷ []) (g, tt)).0 in
      let q = planned_given (answer_in list_records list_records mtu u) g.0 in
      let few = packed_few mtu u q.0 q.1 in
      all_map (λ (b : List ℕ) x. record { some = x.0; most = x.1.0; limit = (within_limits s h).1; stored = omega (arith, x.1.1, unit_total u, few.0, length-map (obus_of u) (λ (o : Obu). o.size), g.1) }) (payloads_of mtu u)
      (all_both _ _ (payloads_of mtu u) (carried_some (payloads_of mtu u) (packets_of_pieces (train_of s)) (train_carried s h))
      (all_both _ _ (payloads_of mtu u) (train_short s h) (train_within s h)))

  sized : (us : List (List ℕ)) → All (Good mtu) us → All (Sized mtu) (flat_map (payloads_of mtu) us)
  unfolding flat_map
  sized [] g = tt
  sized (u ∷ us) g = all_append (Sized mtu) (payloads_of mtu u) (flat_map (payloads_of mtu) us) (unit_sized u g.0) (sized us g.1)

-- their records can state them, and `unpack` has room for them
all_fit : (mtu n : ℕ) (ps : List (List ℕ)) → n < packet_numbers → All (Sized mtu) ps → AllFit (head_for mtu).width (numbered n ps)
unfolding numbered
all_fit mtu n [] l h = tt
all_fit mtu n (p ∷ ps) l h = (
  record { numbered = l; some = h.0.some; short = head_states mtu (length p) h.0.limit h.0.most },
  all_fit mtu (next_number n) ps (omega arith) h.1,
)

all_stored : (mtu n : ℕ) (ps : List (List ℕ)) → All (Sized mtu) ps → All (λ (p : Numbered). length p.payload ≤ payload_bytes) (numbered n ps)
unfolding numbered
all_stored mtu n [] h = tt
all_stored mtu n (p ∷ ps) h = (h.0.stored, all_stored mtu (next_number n) ps h.1)

-- ---- the theorem

first_after : (v : InputVersion) (l : List ℕ) → All (λ b. b < 256) l → (h : PackHead) → head_after v l ≡ found h → h.first < packet_numbers
unfolding head_after
first_after v l b h e =
    by_cond (λ (x : Head). x ≡ found h → h.first < packet_numbers) (ltb (length l) (rest_width v)) _ _
    (λ t q. let z : ◌≡◌ {A = ℕ} 0 1 = cc in absurd (omega arith))
    (λ t q.
    let f : record { mtu = value_at l 0 (mtu_width v); first = value_at l (mtu_width v) number_width } ≡ h = cc in
    subst (λ (n : ℕ). n < packet_numbers) (ap (λ (x : PackHead). x.first) f) (value_below l (mtu_width v) number_width b))
    e

first_small : (l : List ℕ) → All (λ b. b < 256) l → (h : PackHead) → head_in l ≡ found h → h.first < packet_numbers
unfolding version_in
first_small [] b h e = let z : ◌≡◌ {A = ℕ} 0 1 = cc in absurd (omega arith)
first_small (x ∷ l) b h e = go (version_with x) e
  where
    go : (v : Version) → head_by l v ≡ found h → h.first < packet_numbers
    go (known v) q = first_after v l b.1 h q
    go other q = let z : ◌≡◌ {A = ℕ} 0 1 = cc in absurd (omega arith)

unpacked : (file : List ℕ) (ps : List Numbered) → train_in file ≡ given (record { items = ps; stop = ended }) → unpack_of file ≡ unpacked_from fresh ps
unpacked file ps e = ap (λ (t : Answer Records). unpacked_from fresh (standing t)) e

module _ (h : PackHead) (least : least_mtu ≤ h.mtu) (small : h.first < packet_numbers) (us : List (List ℕ)) (good : All (Good h.mtu) us) where
  numbers : number h.first 0 ≡ h.first
  numbers = omega arith

  the_packets : packets h.mtu least h.first us ≡ packets_of h us
  unfolding packets
  the_packets = ap₂ numbered numbers (sent_payloads h.mtu least us)

  none : All (Goes output_bytes) (made h.mtu least h.first [])
  unfolding made packets sendings numbered turns flat_map
  none = tt

  packed_unpacked : unpack_of (trainFile (head_for h.mtu) (packets_of h us)) ≡ wire_bytes_of us
  unfolding made
  packed_unpacked =
      let s = sized h.mtu least us good in
      unpacked (trainFile (head_for h.mtu) (packets_of h us)) (packets_of h us)
      (written_read (head_for h.mtu) (packets_of h us) (head_taken h.mtu) (all_fit h.mtu h.first (flat_map (payloads_of h.mtu) us) small s))
      ∙ unpacked_turns fresh (packets_of h us) (all_stored h.mtu h.first (flat_map (payloads_of h.mtu) us) s)
      ∙ sym (ap (λ (ps : List Numbered). flat_map written_for (turns fragment_store output_bytes fresh ps)) the_packets)
      ∙ ap (flat_map written_for) (turns_room fragment_store (room h.mtu least h.first) output_bytes fresh (packets h.mtu least h.first us) (all_go h.mtu least h.first us [] good none))
      ∙ (made_of h.mtu least h.first us good).0

pub round_trip : RoundTrip
round_trip input h bytes e least =
    let l : List ℕ = behind_head input in
    let us : List (List ℕ) = (units_from h.mtu 0 l).items in
    ap (λ (x : Head). unpack_of (train_by (units_by l x).items x)) e
    ∙ packed_unpacked h least (first_small input bytes h e) us (units_good h.mtu 0 l)
    ∙ sym (ap (λ (x : Head). wire_bytes_of (units_by l x).items) e)
