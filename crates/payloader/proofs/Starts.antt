-- The payloads from packet k on, and where each starts in the output (P16, Y5). Assumes nothing.
--     start_is         a payload starts after those before it
--     payload-stands   and stands there in the output
use mathlib.Core.Path.{◌≡◌, refl, sym, ap, ◌∙◌}
use Prim.Native.Nat.{ℕ, zero, suc, ◌+◌, ◌≤◌, ◌<◌}
use native.Mathlib.Nat.{add-zero, zero-add}
use native.Mathlib.Numerals.{add-one}
use native.Mathlib.Omega.{arith}
use mathlib.Core.List.{List, [], ◌∷◌, ◌++◌, flat_map}
use lib.ListN.{length, take, drop, length-append, take-append-drop, drop_of_length-le}
use lib.Seq.{drop-cons, take_at, drop_at}
use Rattle.base.specs.Lists.{joined}
use Rattle.base.proofs.Lists.{flat_map_append}
use Rattle.leb128.specs.Field.{encode}
use Rattle.obu.specs.Unit.{unit_limit, obus_of}
use Rattle.obu.specs.Laws.{Bytes}
use Rattle.obu.specs.declared.Obu.{Obu}
use Rattle.packetizer.specs.Call.{sizes_of, unit_plan}
use Rattle.packetizer.specs.Laws.{planned_bytes}
use Rattle.packetizer.specs.Records.{no_packet}
use Rattle.packetizer.specs.declared.PacketMetadata.{PacketMetadata}
use Rattle.packetizer.proofs.Starts.{planned_append, plan_starts}
use Rattle.payloader.specs.Payload.{payload_at, start_at, payloads_from, payloads_of}
use Rattle.payloader.proofs.Totals.{rest_length, joined_length}

-- ---- the payloads from packet k on

pub payloads_count : (unit : List ℕ) (obus : List Obu) (k : ℕ) (ps : List PacketMetadata) → length (payloads_from encode unit obus k ps) ≡ length ps
unfolding payloads_from
payloads_count unit obus k [] = refl
payloads_count unit obus k (p ∷ ps) = ap suc (payloads_count unit obus (k + 1) ps)

payloads_drop : (unit : List ℕ) (obus : List Obu) (i k : ℕ) (ps : List PacketMetadata)
    → drop k (payloads_from encode unit obus i ps) ≡ payloads_from encode unit obus (i + k) (drop k ps)
unfolding payloads_from
payloads_drop unit obus i zero ps = rw (add-zero i)
payloads_drop unit obus i (suc k) [] = refl
payloads_drop unit obus i (suc k) (p ∷ ps) =
    let e : i + 1 + k ≡ i + suc k = omega arith in
    payloads_drop unit obus (i + 1) k ps ∙ ap (λ (j : ℕ). payloads_from encode unit obus j (drop k ps)) e

module _ (mtu : ℕ) (unit : List ℕ) where
  left_is : (k : ℕ) → drop k (payloads_of mtu unit) ≡ payloads_from encode unit (obus_of unit) k (drop k (unit_plan mtu unit))
  left_is k = payloads_drop unit (obus_of unit) 0 k (unit_plan mtu unit) ∙ ap (λ (j : ℕ). payloads_from encode unit (obus_of unit) j (drop k (unit_plan mtu unit))) (zero-add k)

  pub left_some : (k : ℕ) → k < length (unit_plan mtu unit) → drop k (payloads_of mtu unit) ≡ payload_at mtu unit k ∷ drop (k + 1) (payloads_of mtu unit)
  unfolding payloads_from
  left_some k h =
      left_is k
      ∙ ap (payloads_from encode unit (obus_of unit) k) (drop-cons (unit_plan mtu unit) k no_packet h)
      ∙ ap (λ (ps : List PacketMetadata). payload_at mtu unit k ∷ payloads_from encode unit (obus_of unit) (k + 1) ps) (ap (λ (j : ℕ). drop j (unit_plan mtu unit)) (sym (add-one k)))
      ∙ ap (λ (l : List (List ℕ)). payload_at mtu unit k ∷ l) (sym (left_is (k + 1)))

  pub left_none : (k : ℕ) → length (unit_plan mtu unit) ≤ k → drop k (payloads_of mtu unit) ≡ []
  left_none k h =
      let past : length (payloads_of mtu unit) ≤ k = omega (arith, payloads_count unit (obus_of unit) 0 (unit_plan mtu unit)) in
      drop_of_length-le (payloads_of mtu unit) past

-- ---- payload k, with those before it and those after it

module _ (mtu : ℕ) (unit : List ℕ) (small : length unit ≤ unit_limit) (bytes : Bytes unit) (k : ℕ) (there : k < length (unit_plan mtu unit)) where
  abbrev before : List ℕ
  before = joined (take k (payloads_of mtu unit))

  abbrev after : List ℕ
  after = joined (drop (k + 1) (payloads_of mtu unit))

  split : joined (payloads_of mtu unit) ≡ before ++ joined (drop k (payloads_of mtu unit))
  split = sym (ap joined (take-append-drop k (payloads_of mtu unit))) ∙ flat_map_append _ (take k (payloads_of mtu unit)) (drop k (payloads_of mtu unit))

  pub start_is : start_at mtu unit k ≡ length before
  start_is =
      let ps = unit_plan mtu unit in
      let whole : planned_bytes ps ≡ planned_bytes (take k ps) + planned_bytes (drop k ps) =
      ap planned_bytes (sym (take-append-drop k ps)) ∙ planned_append (take k ps) (drop k ps) in
      omega (arith, plan_starts mtu (sizes_of unit) k there, joined_length mtu unit small bytes, ap length split, length-append before (joined (drop k (payloads_of mtu unit))), ap (λ (l : List (List ℕ)). length (joined l)) (left_is mtu unit k), rest_length mtu unit small bytes k (omega arith))

  stands : joined (payloads_of mtu unit) ≡ before ++ (payload_at mtu unit k ++ after)
  unfolding flat_map
  stands = split ∙ ap (λ (l : List (List ℕ)). before ++ joined l) (left_some mtu unit k there)

  pub payload_within : start_at mtu unit k + length (payload_at mtu unit k) ≤ length (joined (payloads_of mtu unit))
  payload_within =
      omega (arith, start_is, ap length stands, length-append before (payload_at mtu unit k ++ after), length-append (payload_at mtu unit k) after)

  pub payload_stands : take (length (payload_at mtu unit k)) (drop (start_at mtu unit k) (joined (payloads_of mtu unit))) ≡ payload_at mtu unit k
  payload_stands =
      ap (λ (l : List ℕ). take (length (payload_at mtu unit k)) (drop (start_at mtu unit k) l)) stands
      ∙ ap (take (length (payload_at mtu unit k))) (drop_at before (payload_at mtu unit k ++ after) (start_at mtu unit k) (sym start_is))
      ∙ take_at (payload_at mtu unit k) after (length (payload_at mtu unit k)) refl
