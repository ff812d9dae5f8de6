-- An accepted unit's payloads carry a lawful train (design of D3: ours is a case). Assumes nothing.
use mathlib.Core.Path.{◌≡◌, refl, sym, ap, subst, ◌∙◌}
use Prim.Native.Nat.{ℕ, zero, suc, ◌+◌, ◌-◌, ◌*◌, ◌≤◌, ◌<◌}
use native.Mathlib.Omega.{arith}
use mathlib.Core.List.{List, [], ◌∷◌, map, flat_map}
use mathlib.Core.Bool.{Bool, true, false, not}
use lib.ListN.{length, get_or, length-map}
use borrow.Author.Tests.{not-true}
use Rattle.base.specs.Answers.{Answer, given, refused, Given}
use Rattle.base.specs.Lists.{keep, All}
use Rattle.base.proofs.Tests.{by_cond}
use Rattle.base.proofs.Lists.{all_map, all_keep, all_of_map, map_all}
use Rattle.obu.specs.Header.{type_of, drops}
use Rattle.obu.specs.Unit.{unit_limit, Placed, scan_of, is_kept, kept_of, obus_of}
use Rattle.obu.specs.Front.{Front}
use Rattle.obu.specs.Wire.{whole_of, handed_out, wire, wire_of}
use Rattle.obu.specs.Records.{no_obu}
use Rattle.obu.specs.declared.Obu.{Obu}
use Rattle.obu.proofs.Theorems.{wire_sent}
use Rattle.packetizer.specs.Elements.{total_size}
use Rattle.packetizer.specs.Call.{mtu_limit, sizes_of, unit_plan, to_plan, plan_answer}
use Rattle.packetizer.specs.Laws.{position, Runs}
use Rattle.packetizer.specs.declared.Planned.{Planned}
use Rattle.packetizer.proofs.Accepted as planned
use Rattle.packetizer.proofs.Laws.{plan_runs}
use Rattle.packetizer.proofs.Totals.{packet_most}
use Rattle.packetizer.proofs.UnitLaws.{unit_positive}
use Rattle.payloader.specs.Payload.{payloads_of}
use Rattle.handing.specs.Handing.{wires}
use Rattle.lawful.specs.Train.{Piece, Full, closed, packets_of_pieces, Portion, obus, join, whole}
use Rattle.lawful.specs.Payload.{CarryAll}
use Rattle.lawful.specs.Lawful.{WellFormed}
use Rattle.lawful.proofs.Trains.{Chained, cutting, run_cutting, cutting_full, cutting_closed}
use Rattle.delivery.specs.Arrivals.{in_order}
use Rattle.delivery.specs.Units.{Sending, Accepted, every, packets_of, whole_obus}
use Rattle.delivery.proofs.UnitParts.{sent_at}
use Rattle.delivery.proofs.UnitPackets.{packet_for, unit_carries, unit_short, unit_full, unit_chained, unit_last}
use Rattle.delivery.proofs.UnitObus.{unit_through}

-- ---- an accepted unit and its mtu are within their limits

pub planned_given : (a : Answer Planned) → Given a → (p : Planned) × (given p ≡ a)
planned_given (given p) g = (p, refl)
planned_given (refused n at) g = absurd g

pub within_limits : (s : Sending) → Accepted s → (length s.unit ≤ unit_limit) × (s.mtu ≤ mtu_limit)
within_limits s h =
    let (p, e) = planned_given (plan_answer (to_plan s.mtu s.unit s.obus s.plan)) h.1 in
    let a = planned.accepted s.mtu s.unit s.obus s.plan p e in
    (a.small, a.most)

-- ---- a kept OBU, sent, comes out as its `wire` bytes

kept_pass : {A : Type 0} (test : A → Bool) (l : List A) → All (λ a. test a ≡ true) (keep test l)
unfolding keep
kept_pass test [] = tt
kept_pass test (a ∷ l) = by_cond (All (λ x. test x ≡ true)) (test a) (a ∷ keep test l) (keep test l) (λ t. (t, kept_pass test l)) (λ t. kept_pass test l)

not_dropped : (ps : List Placed) (i : ℕ) → All (λ p. is_kept p ≡ true) ps → i < length ps
    → drops (type_of (get_or (map (λ (p : Placed). p.obu) ps) i no_obu).header) ≡ false
not_dropped [] i h l = absurd (omega arith)
not_dropped (p ∷ ps) zero h l = not-true (drops (type_of p.obu.header)) h.0
not_dropped (p ∷ ps) (suc i) h l = not_dropped ps i h.1 (omega arith)

pub wire_at : (unit : List ℕ) (i : ℕ) → i < length (obus_of unit) → wire (sent_at unit i) ≡ given (wire_of unit (get_or (obus_of unit) i no_obu))
wire_at unit i l =
    wire_sent unit (get_or (obus_of unit) i no_obu)
    (not_dropped (kept_of unit) i (kept_pass is_kept (scan_of unit).items) (omega (arith, length-map (kept_of unit) (λ (p : Placed). p.obu))))

wire_formed : (o b : List ℕ) → wire o ≡ given b → WellFormed o
unfolding wire
wire_formed o b e = go (whole_of o) e
  where
    go : (a : Answer Front) → handed_out o a ≡ given b → Given a
    go (given f) e = tt
    go (refused n at) e = let z : ◌≡◌ {A = ℕ} 0 1 = cc in absurd (omega arith)

-- ---- the unit's train

abbrev pub train_of : Sending → List Piece
train_of s = cutting (map (packet_for s.unit) (unit_plan s.mtu s.unit))

in_order_lem : (k n m : ℕ) → k + n ≤ m → All (λ i. i < m) (in_order k n)
unfolding in_order
in_order_lem k zero m h = tt
in_order_lem k (suc n) m h = (omega arith, in_order_lem (suc k) n m (omega arith))

pub all_pass : (l : List (List Portion)) → keep (whole (λ k. true)) l ≡ l
unfolding keep whole
all_pass [] = refl
all_pass (o ∷ l) = rw (pass o, all_pass l)
  where
    pass : (q : List Portion) → whole (λ k. true) q ≡ true
    pass [] = refl
    pass (p ∷ q) = pass q

module _ (s : Sending) (h : Accepted s) where
  abbrev unit : List ℕ
  unit = s.unit

  pub runs : Runs (s.mtu - 1) (sizes_of unit) (position 0 0) (unit_plan s.mtu unit) (position (length (sizes_of unit)) 0)
  runs = plan_runs s.mtu (sizes_of unit) h.0 (unit_positive unit)

  chained : Chained false (map (packet_for unit) (unit_plan s.mtu unit))
  chained = unit_chained unit (unit_positive unit) s.mtu (position 0 0) (position (length (sizes_of unit)) 0) (unit_plan s.mtu unit) runs

  pub train_run : packets_of_pieces (train_of s) ≡ map (packet_for unit) (unit_plan s.mtu unit)
  train_run = run_cutting false (map (packet_for unit) (unit_plan s.mtu unit)) chained

  pub train_length : length (packets_of_pieces (train_of s)) ≡ length (unit_plan s.mtu unit)
  train_length = ap length train_run ∙ length-map (unit_plan s.mtu unit) (packet_for unit)

  pub train_full : Full (train_of s)
  train_full = cutting_full (map (packet_for unit) (unit_plan s.mtu unit)) (unit_full unit (unit_positive unit) s.mtu (position 0 0) (position (length (sizes_of unit)) 0) (unit_plan s.mtu unit) runs)

  pub train_closed : closed true (train_of s) ≡ true
  train_closed = cutting_closed false (map (packet_for unit) (unit_plan s.mtu unit)) chained ∙ ap not (unit_last unit (unit_positive unit) s.mtu (position 0 0) (position (length (sizes_of unit)) 0) (unit_plan s.mtu unit) runs)

  pub train_carried : CarryAll (payloads_of s.mtu unit) (packets_of_pieces (train_of s))
  train_carried = rw train_run (unit_carries unit (unit_positive unit) s.mtu 0 (position 0 0) (position (length (sizes_of unit)) 0) (unit_plan s.mtu unit) (within_limits s h).1 h.0 (λ z. refl) runs)

  pub train_short : All (λ (x : List ℕ). length x ≤ s.mtu) (payloads_of s.mtu unit)
  train_short =
      unit_short unit (unit_positive unit) s.mtu s.mtu (λ p r. omega (arith, r.most, h.0)) 0 (position 0 0) (position (length (sizes_of unit)) 0) (unit_plan s.mtu unit) runs

  -- whatever the mtu
  pub train_within : All (λ (x : List ℕ). length x ≤ total_size (sizes_of unit) + 5 * length (sizes_of unit) + 1) (payloads_of s.mtu unit)
  train_within =
      unit_short unit (unit_positive unit) s.mtu _ (λ p r. omega (arith, packet_most (s.mtu - 1) (sizes_of unit) (unit_positive unit) p r)) 0 (position 0 0) (position (length (sizes_of unit)) 0) (unit_plan s.mtu unit) runs

  -- the OBUs all of whose packets pass a test, where the train's first packet is packet k of the run
  pub train_through : (test : ℕ → Bool) (k : ℕ) → map join (keep (whole test) (obus k [] (train_of s))) ≡ map (sent_at unit) (whole_obus test k s)
  train_through test k =
      unit_through unit (unit_positive unit) (s.mtu - 1) test (unit_plan s.mtu unit) k runs
      ∙ ap (λ (n : ℕ). map (sent_at unit) (keep (λ i. every test (packets_of k (unit_plan s.mtu unit) i)) (in_order 0 n))) (length-map (obus_of unit) (λ (o : Obu). o.size))

  -- they are kept OBUs
  pub whole_in : (test : ℕ → Bool) (k : ℕ) → All (λ i. i < length (obus_of unit)) (whole_obus test k s)
  whole_in test k =
      all_keep (λ i. i < length (obus_of unit)) (λ i. every test (packets_of k (unit_plan s.mtu unit) i)) (in_order 0 (length (obus_of unit)))
      (in_order_lem 0 (length (obus_of unit)) (length (obus_of unit)) (omega arith))

  -- what is true of each kept OBU, sent, is true of each OBU of the train
  pub train_all : (P : List ℕ → Type 0) (k : ℕ) → ((i : ℕ) → i < length (obus_of unit) → P (sent_at unit i)) → All (λ o. P (join o)) (obus k [] (train_of s))
  train_all P k f =
      map_all join P (obus k [] (train_of s))
      (subst (All P) (sym (train_through (λ n. true) k) ∙ ap (map join) (all_pass (obus k [] (train_of s))))
      (all_of_map (sent_at unit) P (whole_obus (λ n. true) k s) (all_map f (whole_obus (λ n. true) k s) (whole_in (λ n. true) k))))

  pub train_formed : (k : ℕ) → All (λ o. WellFormed (join o)) (obus k [] (train_of s))
  train_formed k = train_all WellFormed k (λ i l. wire_formed (sent_at unit i) (wire_of unit (get_or (obus_of unit) i no_obu)) (wire_at unit i l))

  -- and what goes out for them
  pub wires_whole : (test : ℕ → Bool) (k : ℕ) → wires (map (sent_at unit) (whole_obus test k s)) ≡ given (flat_map (λ (i : ℕ). wire_of unit (get_or (obus_of unit) i no_obu)) (whole_obus test k s))
  unfolding wires flat_map
  wires_whole test k = go (whole_obus test k s) (whole_in test k)
    where
      go : (l : List ℕ) → All (λ i. i < length (obus_of unit)) l → wires (map (sent_at unit) l) ≡ given (flat_map (λ (i : ℕ). wire_of unit (get_or (obus_of unit) i no_obu)) l)
      go [] f = refl
      go (i ∷ l) f = rw (wire_at unit i f.0, go l f.1)
