-- So many packets from one on: their payloads one after the other, and how many bytes they take. Assumes nothing.
--     run_step     the first of them, and then the others
--     run_length   they take what their records say
use mathlib.Core.Path.{◌≡◌, refl, sym, ap, ap₂, subst, ◌∙◌}
use Prim.Native.Nat.{ℕ, zero, suc, ◌+◌, ◌-◌, ◌≤◌, ◌<◌}
use native.Mathlib.Numerals.{add-one}
use native.Mathlib.Omega.{arith}
use mathlib.Core.List.{List, [], ◌++◌, append-nil, flat_map}
use lib.ListN.{length, get_or, take, drop, length-append}
use lib.Seq.{drop-cons, take-add, sets}
use Rattle.base.specs.Lists.{joined}
use Rattle.base.proofs.Storing.{Storing, storing_first, storing_next, storing_done}
use Rattle.obu.specs.Unit.{unit_limit}
use Rattle.obu.specs.Laws.{Bytes}
use Rattle.packetizer.specs.Plan.{start_after}
use Rattle.packetizer.specs.Call.{unit_plan}
use Rattle.packetizer.specs.Laws.{Abut, planned_bytes}
use Rattle.packetizer.specs.Records.{no_packet}
use Rattle.packetizer.specs.declared.PacketMetadata.{PacketMetadata}
use Rattle.packetizer.proofs.Starts.{planned_append, abut_start}
use Rattle.payloader.specs.Payload.{payload_at, payloads_of}
use Rattle.payloader.proofs.Totals.{bytes_before, payload_length}
use Rattle.payloader.proofs.Starts.{left_some}

-- ---- by the records: from where the first starts to where the last ends

pub run_ends : (ps : List PacketMetadata) → Abut 0 ps (planned_bytes ps) → (first n : ℕ) → first + n < length ps
    → start_after (get_or ps (first + n) no_packet) ≡ (get_or ps first no_packet).payload_start + planned_bytes (take (n + 1) (drop first ps))
run_ends ps a first n h =
    let e : first + n + 1 ≡ first + (n + 1) = omega arith in
    let t : planned_bytes (take (first + n + 1) ps) ≡ planned_bytes (take first ps) + planned_bytes (take (n + 1) (drop first ps)) =
    ap (λ (k : ℕ). planned_bytes (take k ps)) e ∙ ap planned_bytes (take-add first (n + 1) ps) ∙ planned_append (take first ps) (take (n + 1) (drop first ps)) in
    omega (arith, abut_start 0 _ ps a first (omega arith), abut_start 0 _ ps a (first + n) h, bytes_before ps (first + n) h, t)

pub no_bytes : (ps : List PacketMetadata) (count : ℕ) → count ≡ 0 → planned_bytes (take count ps) ≡ 0
unfolding planned_bytes
no_bytes ps count e = rw e

-- ---- the payloads

module _ (mtu : ℕ) (unit : List ℕ) where
  abbrev pub run : ℕ → ℕ → List ℕ
  run first count = joined (take count (drop first (payloads_of mtu unit)))

  pub run_none : (first count : ℕ) → count ≡ 0 → run first count ≡ []
  unfolding flat_map
  run_none first count e = rw e

  pub run_step : (first count : ℕ) → first < length (unit_plan mtu unit) → 1 ≤ count → run first count ≡ payload_at mtu unit first ++ run (first + 1) (count - 1)
  unfolding flat_map
  run_step first zero h c = absurd (omega arith)
  run_step first (suc count) h c = let d : suc count - 1 ≡ count = omega arith in rw (left_some mtu unit first h, d)

  pub run_one : (k : ℕ) → k < length (unit_plan mtu unit) → run k 1 ≡ payload_at mtu unit k
  run_one k h = run_step k 1 h (omega arith) ∙ ap (λ (l : List ℕ). payload_at mtu unit k ++ l) (run_none (k + 1) 0 refl) ∙ append-nil (payload_at mtu unit k)

module _ (mtu : ℕ) (unit : List ℕ) (small : length unit ≤ unit_limit) (bytes : Bytes unit) where
  pub run_length : (count first : ℕ) → count ≤ length (unit_plan mtu unit) - first
      → length (run mtu unit first count) ≡ planned_bytes (take count (drop first (unit_plan mtu unit)))
  unfolding planned_bytes flat_map
  run_length zero first h = refl
  run_length (suc count) first h =
      let l : first < length (unit_plan mtu unit) = omega arith in
      let d : suc count - 1 ≡ count = omega arith in
      ap length (rw d at (run_step mtu unit first (suc count) l (omega arith)))
      ∙ length-append (payload_at mtu unit first) (run mtu unit (first + 1) count)
      ∙ ap₂ ◌+◌ (payload_length mtu unit small bytes first l) (run_length count (first + 1) (omega arith))
      ∙ sym (rw (drop-cons (unit_plan mtu unit) first no_packet l, add-one first))

-- ---- what the loop over them keeps: n are written, and the cursor is at `at`

pub record Sending (mtu : ℕ) (unit : List ℕ) (first count : ℕ) (out₀ out : List ℕ) (n at : ℕ) : Type 0 where
  pub inside : n ≤ count
  pub storing : Storing out₀ 0 (run mtu unit first count) out at (run mtu unit (first + n) (count - n))

pub sending_first : {mtu : ℕ} {unit : List ℕ} {first count : ℕ} {out : List ℕ} → Sending mtu unit first count out out 0 0
sending_first {mtu} {unit} {first} {count} {out} =
    let e : first + 0 ≡ first = omega arith in
    let d : count - 0 ≡ count = omega arith in
    record { inside = omega arith; storing = rw (e, d) (storing_first out 0 (run mtu unit first count)) }

module _ {mtu : ℕ} {unit : List ℕ} {first count : ℕ} {out₀ out : List ℕ} {n at : ℕ} (w : Sending mtu unit first count out₀ out n at) where
  pub sending_last : count ≤ n → out ≡ sets out₀ 0 (run mtu unit first count)
  sending_last h =
      (storing_done (subst (Storing out₀ 0 (run mtu unit first count) out at) (run_none mtu unit (first + n) (count - n) (omega arith)) w.storing)).stored

  module _ (there : count ≤ length (unit_plan mtu unit) - first) (h : n < count) where
    left : run mtu unit (first + n) (count - n) ≡ payload_at mtu unit (first + n) ++ run mtu unit (first + (n + 1)) (count - (n + 1))
    left =
        let e : first + n + 1 ≡ first + (n + 1) = omega arith in
        let d : count - n - 1 ≡ count - (n + 1) = omega arith in
        run_step mtu unit (first + n) (count - n) (omega arith) (omega arith) ∙ ap₂ (λ (i m : ℕ). payload_at mtu unit (first + n) ++ run mtu unit i m) e d

    pub sending_room : length (run mtu unit first count) ≤ length out₀ → at + length (payload_at mtu unit (first + n)) ≤ length out
    sending_room r =
        omega (arith, ap length left, length-append (payload_at mtu unit (first + n)) (run mtu unit (first + (n + 1)) (count - (n + 1))), w.storing.ends, w.storing.same)

    pub sending_next : {out' : List ℕ} {at' : ℕ} → (at' ≡ at + length (payload_at mtu unit (first + n))) × (out' ≡ sets out at (payload_at mtu unit (first + n)))
        → Sending mtu unit first count out₀ out' (n + 1) at'
    sending_next r =
        record {
          inside = omega arith;
          storing =
              storing_next (payload_at mtu unit (first + n)) _ (subst (Storing out₀ 0 (run mtu unit first count) out at) left w.storing) (record { cursor = r.0; stored = r.1 });
        }
