-- The loop over the OBUs: what it keeps, and what its turns ask. Assumes nothing.
use mathlib.Core.Path.{◌≡◌, refl, sym, ap, ap₂, subst, ◌∙◌}
use Prim.Native.Nat.{ℕ, ◌+◌, ◌*◌, ◌/◌, ◌≤◌, ◌<◌}
use native.Mathlib.Omega.{arith}
use mathlib.Core.Bool.{Bool, true}
use mathlib.Core.Logic.{◌⊎◌, inl, inr, ⊎_elim}
use mathlib.Core.List.{List, [], ◌∷◌, ◌++◌, append_assoc}
use lib.ListN.{length, get_or, drop, length-append, length-map, get_or-map}
use Rattle.obu.specs.Unit.{unit_limit}
use Rattle.obu.specs.Records.{obu_numbers, obus_in, no_obu}
use Rattle.obu.specs.declared.Obu.{Obu}
use Rattle.obu.proofs.Records.{obus_count}
use Rattle.packetizer.specs.Plan.{new_packet, start_limit, place, plan_from}
use Rattle.packetizer.specs.Call.{sizes}
use Rattle.packetizer.specs.Paper.{recorded}
use Rattle.packetizer.specs.Records.{plan_numbers}
use Rattle.packetizer.specs.Inside.{Closable, Closed}
use Rattle.packetizer.specs.Laws.{Positive, planned_bytes}
use Rattle.packetizer.specs.declared.PacketMetadata.{PacketMetadata}
use Rattle.packetizer.proofs.Stores.{recorded_none, recorded_append}
use Rattle.packetizer.proofs.Runs.{Ends}
use Rattle.packetizer.proofs.Leading.{place_first, place_leads}
use Rattle.packetizer.proofs.Planning.{plan_step, plan_end}
use Rattle.packetizer.proofs.Starts.{planned_append, lined_sum, place_lined}

-- ---- the sizes in a flat list

pub sizes_count : (l : List ℕ) → length (sizes (obus_in l)) ≡ length l / obu_numbers
sizes_count l = length-map (obus_in l) (λ (o : Obu). o.size) ∙ obus_count l

pub size_at : (os : List Obu) (i : ℕ) → get_or (sizes os) i 0 ≡ (get_or os i no_obu).size
size_at os i = get_or-map (λ (o : Obu). o.size) os i no_obu

-- ---- the plan has a record

plan_pos : (room i : ℕ) (sizes : List ℕ) (p : PacketMetadata) → 1 ≤ length (plan_from room i sizes p)
unfolding plan_from
plan_pos room i [] p = omega arith
plan_pos room i (s ∷ ss) p =
    let x = place room i s p in
    omega (arith, length-append x.closed (plan_from room (i + 1) ss x.current), plan_pos room (i + 1) ss x.current)

-- ---- the current packet before OBU i

abbrev pub Current : ℕ → List ℕ → ℕ → PacketMetadata → Type 0
Current room sizes i p = (p ≡ new_packet i 0) ⊎ Ends room sizes i p

pub current_held : (room : ℕ) (sizes : List ℕ) (i : ℕ) (p : PacketMetadata) → Current room sizes i p
    → (p.num_obu_elements ≤ p.packet_size) × (p.packet_size ≤ room)
current_held room sizes i p h = ⊎_elim (λ e. rw e (omega arith)) (λ d. (d.few, d.fits)) h

current_next : (room : ℕ) (sizes : List ℕ) (i : ℕ) (p : PacketMetadata) → 2 ≤ room → Positive sizes → i < length sizes → Current room sizes i p
    → Ends room sizes (i + 1) (place room i (get_or sizes i 0) p).current
current_next room sizes i p g s l h =
    ⊎_elim (λ e. rw e (place_first room sizes g i 0 l (s i l)).1) (λ d. (place_leads room sizes g i p d l (s i l)).1) h

-- ---- the loop: the first i OBUs are placed, n packets are closed

pub record Placing (store : Bool) (room : ℕ) (sizes l₀ l : List ℕ) (p : PacketMetadata) (n i : ℕ) : Type 0 where
  pub done : List PacketMetadata
  pub inside : i ≤ length sizes
  pub current : Current room sizes i p
  pub counted : n ≡ length done
  pub starts : p.payload_start ≡ planned_bytes done
  pub kept : length l ≡ length l₀
  pub whole : plan_from room 0 sizes (new_packet 0 0) ≡ done ++ plan_from room i (drop i sizes) p
  pub wrote : l ≡ recorded store l₀ 0 done

pub placing_first : {store : Bool} {room : ℕ} {sizes l : List ℕ} {p : PacketMetadata} → p ≡ new_packet 0 0 → Placing store room sizes l l p 0 0
unfolding planned_bytes
placing_first {store} {room} {sizes} {l} {p} e =
    record {
      done = [];
      inside = omega arith;
      current = inl e;
      counted = refl;
      starts = ap (λ (q : PacketMetadata). q.payload_start) e;
      kept = refl;
      whole = rw e;
      wrote = recorded_none store l 0;
    }

-- the whole plan
abbrev pub whole_plan : ℕ → List ℕ → List PacketMetadata
whole_plan room sizes = plan_from room 0 sizes (new_packet 0 0)

module _ {store : Bool} {room : ℕ} {sizes l₀ l : List ℕ} {p : PacketMetadata} {n i : ℕ} (w : Placing store room sizes l₀ l p n i) where
  next_whole : i < length sizes
      → whole_plan room sizes
      ≡ w.done ++ ((place room i (get_or sizes i 0) p).closed ++ plan_from room (i + 1) (drop (i + 1) sizes) (place room i (get_or sizes i 0) p).current)
  next_whole h = w.whole ∙ ap (λ (x : List PacketMetadata). w.done ++ x) (plan_step room sizes i p h)

  -- where the current packet starts after this OBU
  next_starts : (place room i (get_or sizes i 0) p).current.payload_start ≡ planned_bytes (w.done ++ (place room i (get_or sizes i 0) p).closed)
  next_starts =
      let x = place room i (get_or sizes i 0) p in
      omega (arith, w.starts, lined_sum p.payload_start x (place_lined room i (get_or sizes i 0) p), planned_append w.done x.closed)

  -- the records that this OBU closes are among the plan's, and one comes after them
  pub placing_asks : i < length sizes → length (whole_plan room sizes) ≤ unit_limit → planned_bytes (whole_plan room sizes) ≤ start_limit
      → (store ≡ true → length (whole_plan room sizes) * plan_numbers ≤ length l₀) → Closable store l n (place room i (get_or sizes i 0) p)
  placing_asks h few near room' =
      let x = place room i (get_or sizes i 0) p in
      let y = plan_from room (i + 1) (drop (i + 1) sizes) x.current in
      let count : n + length x.closed + 1 ≤ length (whole_plan room sizes) =
      omega (arith, ap length (next_whole h), length-append w.done (x.closed ++ y), length-append x.closed y, plan_pos room (i + 1) (drop (i + 1) sizes) x.current, w.counted) in
      record {
        few = omega arith;
        near = omega (arith, next_starts, ap planned_bytes (next_whole h), planned_append w.done (x.closed ++ y), planned_append x.closed y, planned_append w.done x.closed);
        room = λ t. omega (arith, room' t, w.kept);
      }

  pub placing_next : {l' : List ℕ} {q : PacketMetadata} {m z : ℕ} → z ≡ get_or sizes i 0 → 2 ≤ room → Positive sizes → i < length sizes → length l' ≡ length l
      → Closed store l n (place room i z p) q m l' → Placing store room sizes l₀ l' q m (i + 1)
  placing_next {q = q} is g s h k t =
      let x = place room i (get_or sizes i 0) p in
      let e = rw is at t in
      record {
        done = w.done ++ x.closed;
        inside = omega arith;
        current = inr (subst (Ends room sizes (i + 1)) (sym e.current) (current_next room sizes i p g s h w.current));
        counted = e.counted ∙ omega (arith, length-append w.done x.closed, w.counted);
        starts = ap (λ (y : PacketMetadata). y.payload_start) e.current ∙ next_starts;
        kept = k ∙ w.kept;
        whole =
            next_whole h
            ∙ sym (append_assoc w.done x.closed (plan_from room (i + 1) (drop (i + 1) sizes) x.current))
            ∙ ap (λ (y : PacketMetadata). w.done ++ x.closed ++ plan_from room (i + 1) (drop (i + 1) sizes) y) (sym e.current);
        wrote =
            e.wrote
            ∙ ap₂ (λ (y : List ℕ) (j : ℕ). recorded store y j x.closed) w.wrote (w.counted ∙ omega arith)
            ∙ recorded_append store l₀ 0 w.done x.closed;
      }

  end_whole : length sizes ≤ i → whole_plan room sizes ≡ w.done ++ (p ∷ [])
  end_whole h = w.whole ∙ ap (λ (x : List PacketMetadata). w.done ++ x) (plan_end room sizes i p h)

  pub placing_count : length sizes ≤ i → n + 1 ≡ length (whole_plan room sizes)
  placing_count h = omega (arith, ap length (end_whole h), length-append w.done (p ∷ []), w.counted)

  pub placing_end : {l' : List ℕ} → length sizes ≤ i → l' ≡ recorded store l n (p ∷ []) → l' ≡ recorded store l₀ 0 (whole_plan room sizes)
  placing_end h e =
      e
      ∙ ap₂ (λ (y : List ℕ) (j : ℕ). recorded store y j (p ∷ [])) w.wrote (w.counted ∙ omega arith)
      ∙ recorded_append store l₀ 0 w.done (p ∷ [])
      ∙ ap (recorded store l₀ 0) (sym (end_whole h))
