-- The call that compares lent lists with those of a unit and an mtu (R31). Assumes nothing.
--     same-means     what it says where it gives numbers
--     means-same     and it gives them for lists that begin so
--     same-refused, never-8-or-9   its refusals
use mathlib.Core.Path.{◌≡◌, refl, sym, ap, ap₂, subst, ◌∙◌}
use Prim.Native.Nat.{ℕ, ◌*◌, ◌≤◌, ◌<◌}
use native.Mathlib.Omega.{arith}
use mathlib.Core.Bool.{Bool, true, false, cond}
use mathlib.Core.Logic.{◌⊎◌, inl, inr, ⊎_elim}
use mathlib.Core.List.{List}
use lib.ListN.{length, take, length-map, length-take}
use lib.Dec.{ltb}
use borrow.Author.Tests.{ltb-true, ltb-false, lt-ltb, le-ltb}
use Rattle.base.specs.Answers.{Answer, given, refused, if_same}
use Rattle.base.specs.Lists.{is_front}
use Rattle.base.proofs.Tests.{by_cond}
use Rattle.base.proofs.Fronts.{is_front_take, take_is_front, given_same}
use Rattle.obu.specs.Unit.{unit_limit, Placed, ScanEnd, ended, refused_by, scan_of, kept_of, obus_of, listed_of, at_stop, listed, kept_only, same_list}
use Rattle.obu.specs.Records.{obu_numbers, flat, obus_in}
use Rattle.obu.specs.declared.Obu.{Obu}
use Rattle.obu.specs.declared.Listed.{Listed}
use Rattle.obu.specs.declared.compare.Kept.{Kept}
use Rattle.obu.proofs.Records.{flat_length, obus_count}
use Rattle.obu.proofs.Scans.{listed_enough}
use Rattle.obu.proofs.Compares.{same_says, says_same}
use Rattle.packetizer.specs.Call.{mtu_limit, sizes, sizes_of, unit_plan, compared, same_plan}
use Rattle.packetizer.specs.Records.{plan_numbers, flat_plan}
use Rattle.packetizer.specs.Cursor.{Comparable}
use Rattle.packetizer.specs.declared.PacketMetadata.{PacketMetadata}
use Rattle.packetizer.specs.declared.Planned.{Planned}
use Rattle.packetizer.proofs.Records.{plan_length}
use Rattle.packetizer.proofs.Totals.{total_count}
use Rattle.packetizer.proofs.UnitLaws.{unit_positive}
use Rattle.packetizer.proofs.Calls.{unit_total, given_kept, flat_sizes}
use Rattle.packetizer.proofs.Stops.{LowEnd, scan_low}

-- as many numbers as another list has
part_is : (a l : List ℕ) {n : ℕ} → n ≡ length a → take (length a) l ≡ a → (n ≤ length l) × (take n l ≡ a)
part_is a l {n} e h =
    let t : take n l ≡ a = ap (λ (m : ℕ). take m l) e ∙ h in
    (omega (arith, ap length t, length-take n l), t)

-- ---- the OBU list

-- a lent list begins with the records of a unit
pub record SameObus (unit obus : List ℕ) (k : Kept) : Type 0 where
  pub small : length unit ≤ unit_limit
  pub counted : k.obus ≡ length (obus_of unit)
  pub long : k.obus * obu_numbers ≤ length obus
  pub same : take (k.obus * obu_numbers) obus ≡ flat (obus_of unit)

pub same_obus : {unit obus : List ℕ} {k : Kept} → given k ≡ same_list unit obus → SameObus unit obus k
same_obus {unit} {obus} {k} e =
    let (l, listing, o, same) = same_says unit obus e in
    let g = given_kept unit (length unit) l listing in
    let c : k.obus ≡ length (obus_of unit) = o ∙ ap (λ (x : Listed). x.obus) g.1 ∙ sym (length-map (kept_of unit) (λ (p : Placed). p.obu)) in
    let p = part_is (flat (obus_of unit)) obus (ap (λ (n : ℕ). n * obu_numbers) c ∙ sym (flat_length (obus_of unit))) same in
    record { small = g.0; counted = c; long = p.0; same = p.1 }

-- the part of the list that holds the records
module _ {unit obus : List ℕ} {k : Kept} (s : SameObus unit obus k) where
  abbrev part : List ℕ
  part = take (k.obus * obu_numbers) obus

  pub same_sizes : sizes (obus_in part) ≡ sizes_of unit
  same_sizes = ap (λ (x : List ℕ). sizes (obus_in x)) s.same ∙ flat_sizes unit

  pub same_count : length (obus_in part) ≡ k.obus
  same_count =
      obus_count part ∙ omega (arith, ap length s.same, flat_length (obus_of unit), s.counted)

  pub same_comparable : {mtu : ℕ} → mtu ≤ mtu_limit → Comparable mtu (sizes (obus_in part))
  same_comparable m = rw same_sizes (record { most = m; some = unit_positive unit; total = omega (arith, unit_total unit, s.small) })

-- ---- both lists

-- lent lists begin with the records of a unit and of its plan: so many of each
pub record Same (mtu : ℕ) (unit obus plan : List ℕ) (q : Planned) : Type 0 where
  pub mtu_within : mtu ≤ mtu_limit
  pub unit_within : length unit ≤ unit_limit
  pub obus_count : q.obus ≡ length (obus_of unit)
  pub obus_long : q.obus * obu_numbers ≤ length obus
  pub obus_same : take (q.obus * obu_numbers) obus ≡ flat (obus_of unit)
  pub plan_count : q.packets ≡ length (unit_plan mtu unit)
  pub plan_long : q.packets * plan_numbers ≤ length plan
  pub plan_same : take (q.packets * plan_numbers) plan ≡ flat_plan (unit_plan mtu unit)

module _ (mtu : ℕ) (unit obus plan : List ℕ) where
  pub same_1 : mtu_limit < mtu → refused 1 0 ≡ same_plan mtu unit obus plan
  unfolding same_plan
  same_1 h = rw (lt-ltb mtu_limit mtu h)

  pub same_answered : mtu ≤ mtu_limit → (a : Answer Kept) → a ≡ same_list unit obus → compared (unit_plan mtu unit) plan a ≡ same_plan mtu unit obus plan
  unfolding same_plan
  same_answered m a e = rw (le-ltb mtu_limit mtu m, e)

pub same_means : {mtu : ℕ} {unit obus plan : List ℕ} {q : Planned} → given q ≡ same_plan mtu unit obus plan → Same mtu unit obus plan q
unfolding same_plan
same_means {mtu} {unit} {obus} {plan} {q} e = go (ltb mtu_limit mtu) refl (same_list unit obus) refl e
  where
    go : (t : Bool) → ltb mtu_limit mtu ≡ t → (a : Answer Kept) → a ≡ same_list unit obus → given q ≡ cond t (refused 1 0) (compared (unit_plan mtu unit) plan a)
        → Same mtu unit obus plan q
    go true t a f e = let z : ◌≡◌ {A = ℕ} 0 1 = cc in absurd (omega arith)
    go false t (refused n at) f e = let z : ◌≡◌ {A = ℕ} 0 1 = cc in absurd (omega arith)
    go false t (given k) f e =
        let ps = unit_plan mtu unit in
        let h : (given q ≡ given (record { obus = k.obus; packets = length ps })) × (is_front (flat_plan ps) plan ≡ true) = given_same e in
        let g : given q ≡ given (record { obus = k.obus; packets = length ps }) = h.0 in
        let o : q.obus ≡ k.obus = cc in
        let p : q.packets ≡ length ps = cc in
        let s = same_obus f in
        let r = part_is (flat_plan ps) plan (ap (λ (n : ℕ). n * plan_numbers) p ∙ sym (plan_length ps)) (is_front_take (flat_plan ps) plan h.1) in
        record {
          mtu_within = ltb-false mtu_limit mtu t;
          unit_within = s.small;
          obus_count = o ∙ s.counted;
          obus_long = rw o s.long;
          obus_same = rw o s.same;
          plan_count = p;
          plan_long = r.0;
          plan_same = r.1;
        }

-- ---- lists that begin so are not refused, of a unit that the list call takes

-- a unit has no more kept OBUs than bytes: so its list needs no more space
kept_count : (unit : List ℕ) → length (kept_of unit) ≤ length unit
kept_count unit =
    let e : length (sizes_of unit) ≡ length (kept_of unit) = length-map (obus_of unit) (λ (o : Obu). o.size) ∙ length-map (kept_of unit) (λ (p : Placed). p.obu) in
    omega (arith, total_count (sizes_of unit) (unit_positive unit), unit_total unit)

pub given_enough : (unit : List ℕ) (space : ℕ) {l : Listed} → given l ≡ listed space unit → given l ≡ listed (length unit) unit
given_enough unit space {l} e =
    let k = given_kept unit space l e in
    e ∙ listed_enough unit space k.0 k.2 ∙ sym (listed_enough unit (length unit) k.0 (kept_count unit))

pub means_same : {mtu : ℕ} {unit obus plan : List ℕ} {q : Planned} {l : Listed} (space : ℕ) → given l ≡ listed space unit → Same mtu unit obus plan q
    → given q ≡ same_plan mtu unit obus plan
means_same {mtu} {unit} {obus} {plan} {q} {l} space e s =
    let ps = unit_plan mtu unit in
    let k = given_kept unit space l e in
    let c : l.obus ≡ length (obus_of unit) = ap (λ (x : Listed). x.obus) k.1 ∙ sym (length-map (kept_of unit) (λ (p : Placed). p.obu)) in
    let n : length (flat (obus_of unit)) ≡ q.obus * obu_numbers = flat_length (obus_of unit) ∙ ap (λ (m : ℕ). m * obu_numbers) (sym s.obus_count) in
    let m : length (flat_plan ps) ≡ q.packets * plan_numbers = plan_length ps ∙ ap (λ (m : ℕ). m * plan_numbers) (sym s.plan_count) in
    let b : is_front (flat_plan ps) plan ≡ true = take_is_front (flat_plan ps) plan (rw m s.plan_same) in
    let f : given (record { obus = l.obus }) ≡ same_list unit obus = says_same unit obus (given_enough unit space e) (rw n s.obus_same) in
    let g : ℕ → ℕ → Answer Planned = λ x y. given (record { obus = x; packets = y }) in
    ap₂ g (s.obus_count ∙ sym c) s.plan_count
    ∙ sym (ap (λ (t : Bool). if_same t (g l.obus (length ps))) b)
    ∙ same_answered mtu unit obus plan s.mtu_within (given (record { obus = l.obus })) f

-- ---- its refusals: those of the plan call but 8 and 9, and 31

abbrev Few : {A : Type 0} → Answer A → Type 0
Few (given a) = Unit {0}
Few (refused k at) = (k ≤ 7) ⊎ (k ≡ 31)

few_same : {A : Type 0} (same : Bool) (a : Answer A) → Few a → Few (if_same same a)
few_same same (given a) h = by_cond Few same (given a) (refused 31 0) (λ t. tt) (λ t. inr refl)
few_same same (refused k at) h = h

few_stop : (unit : List ℕ) (s : ScanEnd) → LowEnd s → Few (at_stop s (listed_of unit))
few_stop unit ended h = tt
few_stop unit (refused_by k at) h = inl h

few_listed : (unit : List ℕ) → Few (listed (length unit) unit)
unfolding listed
few_listed unit =
    by_cond Few (ltb unit_limit (length unit)) _ _
    (λ t. inl (omega arith))
    (λ t.
    by_cond Few (ltb (length unit) (length (kept_of unit))) _ _
    (λ u. absurd (omega (arith, ltb-true (length unit) (length (kept_of unit)) u, kept_count unit)))
    (λ u. few_stop unit (scan_of unit).stop (scan_low unit)))

few_only : (a : Answer Listed) → Few a → Few (kept_only a)
few_only (given l) h = tt
few_only (refused k at) h = h

few_list : (unit obus : List ℕ) → Few (same_list unit obus)
unfolding same_list
few_list unit obus = few_same (is_front (flat (obus_of unit)) obus) (kept_only (listed (length unit) unit)) (few_only (listed (length unit) unit) (few_listed unit))

few_compared : (ps : List PacketMetadata) (plan : List ℕ) (a : Answer Kept) → Few a → Few (compared ps plan a)
few_compared ps plan (given k) h = few_same (is_front (flat_plan ps) plan) (given (record { obus = k.obus; packets = length ps })) tt
few_compared ps plan (refused n at) h = h

module _ (mtu : ℕ) (unit obus plan : List ℕ) {k at : ℕ} where
  pub same_refused : refused k at ≡ same_plan mtu unit obus plan → (k ≤ 7) ⊎ (k ≡ 31)
  unfolding same_plan
  same_refused e =
      subst Few (sym e)
      (by_cond Few (ltb mtu_limit mtu) _ _
      (λ t. inl (omega arith))
      (λ t. few_compared (unit_plan mtu unit) plan (same_list unit obus) (few_list unit obus)))

  pub never_8_or_9 : refused k at ≡ same_plan mtu unit obus plan → (k ≡ 8 → ⊥) × (k ≡ 9 → ⊥)
  never_8_or_9 e = ⊎_elim (λ h. (λ z. omega arith, λ z. omega arith)) (λ h. (λ z. omega arith, λ z. omega arith)) (same_refused e)
