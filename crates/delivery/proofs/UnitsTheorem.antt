-- Demand 3 for units that the plan call planned and whose packets the writing calls wrote (D3): a case of the theorem for lawful trains. Assumes nothing.
use mathlib.Core.Path.{◌≡◌, refl, sym, ap, ap₂, subst, ◌∙◌}
use Prim.Native.Nat.{ℕ, zero, suc, ◌+◌, ◌≤◌, ◌<◌, min}
use native.Mathlib.Omega.{arith}
use mathlib.Core.List.{List, [], ◌∷◌, ◌++◌, map, flat_map}
use mathlib.Core.Logic.{◌⊎◌, inl, inr}
use mathlib.Core.Bool.{Bool, true, false}
use lib.ListN.{length, get_or, length-map}
use Rattle.base.specs.Answers.{given}
use Rattle.base.specs.Lists.{keep, All}
use Rattle.base.proofs.Lists.{all_map, keep_append, all_append, map_append}
use Rattle.obu.specs.Unit.{obus_of}
use Rattle.obu.specs.Wire.{wire_of}
use Rattle.obu.specs.Records.{no_obu}
use Rattle.obu.specs.declared.Obu.{Obu}
use Rattle.packetizer.specs.Call.{sizes_of, unit_plan}
use Rattle.packetizer.proofs.Calls.{unit_small}
use Rattle.payloader.specs.Payload.{payloads_of}
use Rattle.handing.specs.Handing.{fragment_limit, before, wires}
use Rattle.handing.proofs.Wires.{wires_append}
use Rattle.lawful.specs.Train.{Piece, NonEmpty, bytes_in, Full, closed, packets, packets_of_pieces, obus, join, whole}
use Rattle.lawful.specs.Payload.{CarryAll}
use Rattle.lawful.specs.Lawful.{Lawful, WellFormed}
use Rattle.lawful.proofs.Reading.{carry_append}
use Rattle.lawful.proofs.Trains.{closed_append, run_append, obus_append}
use Rattle.delivery.specs.Arrivals.{timely, first_timely, in_order}
use Rattle.delivery.specs.Calls.{Arrival, arrived_packets, takes, refuses, taken_or_14}
use Rattle.delivery.specs.Delivery.{Space, Delivered}
use Rattle.delivery.specs.Units.{Sending, Accepted, payloads_sent, sent_from, packets_of, every, expected, UnitSpace, UnitsDelivery, UnitsOnly14, UnitsNoLoss}
use Rattle.delivery.proofs.Places.{in_order_all}
use Rattle.delivery.proofs.Theorem.{delivery}
use Rattle.delivery.proofs.NoLoss.{no_loss}
use Rattle.delivery.proofs.UnitParts.{sent_size}
use Rattle.delivery.proofs.OneUnit.{within_limits, train_of, train_length, train_full, train_closed, train_carried, train_short, train_through, train_all, train_formed, wires_whole, all_pass}

abbrev pub trains : List Sending → List Piece
trains ss = flat_map train_of ss

trains_full : (ss : List Sending) → All Accepted ss → Full (trains ss)
unfolding flat_map
trains_full [] h = tt
trains_full (s ∷ ss) h = all_append (λ p. NonEmpty (bytes_in p)) (train_of s) (trains ss) (train_full s h.0) (trains_full ss h.1)

trains_closed : (ss : List Sending) → All Accepted ss → closed true (trains ss) ≡ true
unfolding flat_map closed
trains_closed [] h = refl
trains_closed (s ∷ ss) h = closed_append (train_of s) (trains ss) true (train_closed s h.0) ∙ trains_closed ss h.1

trains_carried : (ss : List Sending) → All Accepted ss → CarryAll (payloads_sent ss) (packets_of_pieces (trains ss))
unfolding flat_map packets
trains_carried [] h = tt
trains_carried (s ∷ ss) h =
    rw (run_append (train_of s) (trains ss) (train_closed s h.0))
    (carry_append (payloads_of s.mtu s.unit) (payloads_sent ss) (packets_of_pieces (train_of s)) (packets_of_pieces (trains ss)) (train_carried s h.0) (trains_carried ss h.1))

trains_short : (mtu : ℕ) (ss : List Sending) → All Accepted ss → All (λ s. s.mtu ≤ mtu) ss → All (λ (b : List ℕ). length b ≤ mtu) (payloads_sent ss)
unfolding flat_map
trains_short mtu [] h m = tt
trains_short mtu (s ∷ ss) h m =
    all_append (λ b. length b ≤ mtu) (payloads_of s.mtu s.unit) (payloads_sent ss)
    (all_map (λ b l. let k : s.mtu ≤ mtu = m.0 in omega arith) (payloads_of s.mtu s.unit) (train_short s h.0))
    (trains_short mtu ss h.1 m.1)

-- what is true of each train's OBUs is true of all of them
trains_all : (P : List ℕ → Type 0) (k : ℕ) (ss : List Sending) → All Accepted ss → All (λ s. (n : ℕ) → All (λ o. P (join o)) (obus n [] (train_of s))) ss → All (λ o. P (join o)) (obus k [] (trains ss))
unfolding flat_map obus
trains_all P k [] h f = tt
trains_all P k (s ∷ ss) h f =
    rw (obus_append k (train_of s) (trains ss) (train_closed s h.0))
    (all_append (λ o. P (join o)) (obus k [] (train_of s)) (obus (k + length (packets_of_pieces (train_of s))) [] (trains ss)) (f.0 k) (trains_all P (k + length (packets_of_pieces (train_of s))) ss h.1 f.1))

trains_through : (test : ℕ → Bool) (k : ℕ) (ss : List Sending) → All Accepted ss → wires (map join (keep (whole test) (obus k [] (trains ss)))) ≡ given (expected test k ss)
unfolding flat_map obus expected keep wires
trains_through test k [] h = refl
trains_through test k (s ∷ ss) h =
    let t : List Piece = train_of s in
    let n : k + length (packets_of_pieces t) ≡ k + length (unit_plan s.mtu s.unit) = ap (λ (x : ℕ). k + x) (train_length s h.0) in
    ap wires
    (ap (λ l. map join (keep (whole test) l)) (obus_append k t (trains ss) (train_closed s h.0))
    ∙ ap (map join) (keep_append (whole test) (obus k [] t) (obus (k + length (packets_of_pieces t)) [] (trains ss)))
    ∙ map_append join (keep (whole test) (obus k [] t)) (keep (whole test) (obus (k + length (packets_of_pieces t)) [] (trains ss))))
    ∙ wires_append (map join (keep (whole test) (obus k [] t))) (map join (keep (whole test) (obus (k + length (packets_of_pieces t)) [] (trains ss))))
    ∙ ap₂ before (ap wires (train_through s h.0 test k) ∙ wires_whole s h.0 test k)
    (trains_through test (k + length (packets_of_pieces t)) ss h.1 ∙ ap (λ (x : ℕ). given (expected test x ss)) n)

-- ---- the payloads of accepted units are a lawful train (theorem 5)

pub units_lawful : (ss : List Sending) → All Accepted ss → Lawful (trains ss) (payloads_sent ss)
units_lawful ss h =
    record {
      full = trains_full ss h;
      ends = trains_closed ss h;
      well_formed = trains_all WellFormed 0 ss h (each ss h);
      carried = trains_carried ss h;
    }
  where
    each : (l : List Sending) → All Accepted l → All (λ s. (n : ℕ) → All (λ o. WellFormed (join o)) (obus n [] (train_of s))) l
    each [] a = tt
    each (s ∷ l) a = (train_formed s a.0, each l a.1)

-- ---- the space

sized_at : (size : ℕ) (os : List Obu) (i : ℕ) → All (λ (o : Obu). o.size ≤ size) os → i < length os → get_or (map (λ (o : Obu). o.size) os) i 0 ≤ size
sized_at size [] i h l = absurd (omega arith)
sized_at size (o ∷ os) zero h l = h.0
sized_at size (o ∷ os) (suc i) h l = sized_at size os i h.1 (omega arith)

units_fit : (size n : ℕ) (ss : List Sending) → All Accepted ss → All (λ s. All (λ (o : Obu). o.size ≤ size) (obus_of s.unit)) ss → min size fragment_limit ≡ n
    → All (λ s. (k : ℕ) → All (λ o. length (join o) ≤ n) (obus k [] (train_of s))) ss
units_fit size n [] h f e = tt
units_fit size n (s ∷ ss) h f e = (
  (λ k. train_all s h.0 (λ b. length b ≤ n) k
      (λ i l.
      let c : i < length (sizes_of s.unit) = omega (arith, length-map (obus_of s.unit) (λ (o : Obu). o.size)) in
      omega (arith, sent_size s.unit i c, sized_at size (obus_of s.unit) i f.0 l, unit_small s.unit (within_limits s h.0).0 i c))),
  units_fit size n ss h.1 f.1 e,
)

module _ (ss : List Sending) (size mtu : ℕ) (store : List ℕ) (arrivals : List Arrival) (h : All Accepted ss) (sp : UnitSpace ss size mtu store arrivals) where
  pub units_space : Space (trains ss) (payloads_sent ss) (min size fragment_limit) mtu store arrivals
  units_space =
      record {
        obus_fit = trains_all (λ b. length b ≤ min size fragment_limit) 0 ss h (units_fit size (min size fragment_limit) ss h sp.obus_fit refl);
        size_fits = omega arith;
        payloads_fit = trains_short mtu ss h sp.mtus_fit;
        store_has = omega (arith, sp.store_has);
        outputs_have = all_map (λ a l. omega arith) arrivals sp.outputs_have;
      }

pub given_same : {x y : List ℕ} → given x ≡ given y → x ≡ y
given_same e = cc

pub units_delivery : UnitsDelivery
units_delivery ss first size mtu store arrivals h near sp =
    let d : Delivered (trains ss) (sent_from first ss) store arrivals =
    delivery (trains ss) (sent_from first ss) (min size fragment_limit) mtu store arrivals (units_lawful ss h) near (units_space ss size mtu store arrivals h sp) in
    record { out = given_same (d.out ∙ trains_through (timely (arrived_packets arrivals)) 0 ss h); refusals = d.refusals }

-- ---- no refusal but R14

taken_or_14_lem : (bs : List Bool) → All (λ v. (v ≡ takes) ⊎ (v ≡ refuses 14)) (map taken_or_14 bs)
taken_or_14_lem [] = tt
taken_or_14_lem (true ∷ bs) = (inl refl, taken_or_14_lem bs)
taken_or_14_lem (false ∷ bs) = (inr refl, taken_or_14_lem bs)

pub units_only_14 : UnitsOnly14
units_only_14 ss first size mtu store arrivals h near sp =
    subst (All (λ v. (v ≡ takes) ⊎ (v ≡ refuses 14))) (sym (units_delivery ss first size mtu store arrivals h near sp).refusals) (taken_or_14_lem (first_timely [] (arrived_packets arrivals)))

-- ---- no loss

every_true : (ks : List ℕ) → every (λ k. true) ks ≡ true
unfolding every
every_true [] = refl
every_true (k ∷ ks) = every_true ks

keep_true : (f : ℕ → Bool) → ((i : ℕ) → f i ≡ true) → (l : List ℕ) → keep f l ≡ l
unfolding keep
keep_true f h [] = refl
keep_true f h (i ∷ l) = rw (h i, keep_true f h l)

expected_all : (k : ℕ) (ss : List Sending) → expected (λ n. true) k ss ≡ flat_map (λ (s : Sending). flat_map (wire_of s.unit) (obus_of s.unit)) ss
unfolding expected flat_map
expected_all k [] = refl
expected_all k (s ∷ ss) =
    ap₂ ◌++◌
    (ap (flat_map (λ (i : ℕ). wire_of s.unit (get_or (obus_of s.unit) i no_obu))) (keep_true _ (λ i. every_true (packets_of k (unit_plan s.mtu s.unit) i)) (in_order 0 (length (obus_of s.unit)))) ∙ in_order_all (wire_of s.unit) (obus_of s.unit))
    (expected_all (k + length (unit_plan s.mtu s.unit)) ss)

pub units_no_loss : UnitsNoLoss
units_no_loss ss first size mtu store arrivals h e sp =
    let d = no_loss (trains ss) (sent_from first ss) (min size fragment_limit) mtu store arrivals (units_lawful ss h) e (units_space ss size mtu store arrivals h sp) in (
      given_same
          (d.0 ∙ ap (λ l. wires (map join l)) (sym (all_pass (obus 0 [] (trains ss)))) ∙ trains_through (λ n. true) 0 ss h ∙ ap given (expected_all 0 ss)),
      d.1,
    )
