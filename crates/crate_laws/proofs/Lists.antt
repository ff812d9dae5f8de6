-- The crate's OBU list of an accepted unit is ours (D2, O5 to O9). Assumes nothing.
use mathlib.Core.Path.{◌≡◌, refl, sym, ap, ◌∙◌}
use Prim.Native.Nat.{ℕ, zero, suc, ◌+◌, ◌-◌, ◌≤◌, ◌<◌}
use native.Mathlib.Omega.{arith}
use mathlib.Core.List.{List, [], ◌∷◌, ◌++◌, append-nil, append_assoc, map}
use mathlib.Core.Bool.{Bool, true, false, cond}
use lib.ListN.{length, drop, length-drop, drop_of_length-le}
use lib.Seq.{drop-drop}
use lib.Dec.{ltb}
use borrow.Author.Tests.{ltb-true, ltb-false}
use Rattle.base.specs.Lists.{keep}
use Rattle.base.specs.Streams.{stream_from}
use Rattle.base.proofs.Tests.{split_on}
use Rattle.obu.specs.Laws.{Bytes}
use Rattle.obu.specs.Header.{header_length}
use Rattle.obu.specs.Front.{Front, span_of, Seen, found, stopped, front_of}
use Rattle.obu.specs.Unit.{Placed, placed, ended, refused_by, Scan, scan_from, scan_of, is_kept, obus_of}
use Rattle.obu.proofs.Scans.{records_of, scan_found, scan_stopped}
use Rattle.crate_laws.specs.Rust.{Outcome, ok}
use Rattle.crate_laws.specs.Obu.{CrateObu, pushed, parse_from, parse_obus}
use Rattle.crate_laws.specs.Same.{as_crate}
use Rattle.crate_laws.proofs.Steps.{type_is}
use Rattle.crate_laws.proofs.Fronts.{obu_at_lem, spans}

module _ (unit : List ℕ) where
  -- what the crate has of OBUs that were found: those that are kept
  abbrev kept_as : List Placed → List CrateObu
  kept_as ps = map (as_crate unit) (records_of (keep is_kept ps))

  -- one more is pushed, or ignored
  pushed_is : (obus : List CrateObu) (p : Placed) (ps : List Placed)
      → pushed obus (as_crate unit p.obu) ++ kept_as ps ≡ obus ++ kept_as (p ∷ ps)
  unfolding keep
  pushed_is obus p ps = rw (type_is p.obu.header) (by_kept (is_kept p))
    where
      by_kept : (t : Bool) → cond t (obus ++ (as_crate unit p.obu ∷ [])) obus ++ kept_as ps
          ≡ obus ++ map (as_crate unit) (records_of (cond t (p ∷ keep is_kept ps) (keep is_kept ps)))
      by_kept true = append_assoc obus (as_crate unit p.obu ∷ []) (kept_as ps)
      by_kept false = refl

  abbrev pub scan_at : ℕ → Scan
  scan_at index = scan_from (drop index unit) index

  scan_done : (index : ℕ) (obus : List CrateObu) → length unit ≤ index → ok obus ≡ ok (obus ++ kept_as (scan_at index).items)
  unfolding stream_from keep
  scan_done index obus h = rw (drop_of_length-le unit h, append-nil obus)

  -- where we meet no refusal, an OBU is found, and then the rest
  front_found : (index : ℕ) → index < length unit → (scan_at index).stop ≡ ended → (f : Front) × (found f ≡ front_of (drop index unit))
  front_found index h e = by_front (front_of (drop index unit)) refl
    where
      by_front : (s : Seen) → s ≡ front_of (drop index unit) → (f : Front) × (found f ≡ front_of (drop index unit))
      by_front (found f) q = (f, q)
      by_front (stopped n) q =
          let r : refused_by n index ≡ ended =
          sym (ap (λ (x : Scan). x.stop) (scan_stopped (drop index unit) index n q (omega (arith, length-drop index unit)))) ∙ e in
          let z : ◌≡◌ {A = ℕ} 0 1 = cc in
          absurd (omega arith)

  pub scan_next : (index : ℕ) (f : Front) → index < length unit → found f ≡ front_of (drop index unit)
      → scan_at index ≡ record { items = placed index f ∷ (scan_at (index + span_of f)).items; stop = (scan_at (index + span_of f)).stop }
  scan_next index f h q =
      scan_found (drop index unit) index f q (omega (arith, length-drop index unit)) ∙ rw (drop-drop (span_of f) index unit)

  module _ (bytes : Bytes unit) where
    -- the loop at an index, with turns enough, where we meet no refusal from there on
    parse_from_lem : (turns index : ℕ) (obus : List CrateObu) → index ≤ length unit → length unit ≤ turns + index → (scan_at index).stop ≡ ended
        → parse_from turns unit (length unit - index) index obus ≡ ok (obus ++ kept_as (scan_at index).items)
    unfolding parse_from
    parse_from_lem zero index obus inside enough e = scan_done index obus (omega arith)
    parse_from_lem (suc turns) index obus inside enough e = split_on (ltb 0 (length unit - index))
        (λ t.
        let h : index < length unit = omega (arith, ltb-true 0 (length unit - index) t) in
        let (f, q) = front_found index h e in
        let n = scan_next index f h q in
        let left : length unit - index - f.field - (header_length f.header + f.payload) ≡ length unit - (index + span_of f) = omega arith in
        let next : index + f.field + (header_length f.header + f.payload) ≡ index + span_of f = omega arith in
        rw (t, obu_at_lem unit bytes index f q h, left, next, n)
        (parse_from_lem turns (index + span_of f) (pushed obus (as_crate unit (placed index f).obu)) (spans unit bytes index f q h) (omega arith) (sym (ap (λ (x : Scan). x.stop) n) ∙ e)
        ∙ ap {B = Outcome (List CrateObu)} ok (pushed_is obus (placed index f) (scan_at (index + span_of f)).items)))
        (λ t. rw t (scan_done index obus (omega (arith, ltb-false 0 (length unit - index) t))))

    pub parse_same : (scan_of unit).stop ≡ ended → parse_obus unit ≡ ok (map (as_crate unit) (obus_of unit))
    parse_same e =
        let z : length unit ≡ length unit - 0 = omega arith in
        ap (λ (n : ℕ). parse_from (length unit) unit n 0 []) z ∙ parse_from_lem (length unit) 0 [] (omega arith) (omega arith) e
