-- A run of the steps writes and says what `pack` is to write and to say (G2 to G4, G6, G7). Assumes nothing.
use Rattle.std.proofs.Common.{◌≡◌, ℕ, zero, suc, ◌+◌, ◌-◌, ◌*◌, ◌<◌, ◌≤◌, Bool, true, false, cond, ltb, List, [], ◌∷◌, ◌++◌, length, take, drop, sym, refl, ap, ◌∙◌, append_assoc, append-nil, arith, length-drop, length-take-le, take-take, drop-drop, take_at, ltb-false}
use mathlib.Core.List.{flat_map}
use Rattle.base.specs.Answers.{Answer, given, refused}
use Rattle.base.specs.Lists.{front}
use Rattle.base.specs.Streams.{Next, halt, chained}
use Rattle.base.proofs.Lists.{short_front, flat_map_append}
use Rattle.base.proofs.Tests.{by_cond, split_on}
use Rattle.base.proofs.Streams.{Some, stream_next}
use Rattle.obu.specs.Unit.{obus_of}
use Rattle.packetizer.specs.Call.{unit_plan}
use Rattle.packetizer.specs.declared.Planned.{Planned}
use Rattle.payloader.specs.Payload.{payloads_of}
use Rattle.train.specs.Train.{head_for, Numbered, record_bytes}
use Rattle.turns.specs.Text.{line_text}
use Rattle.turns.specs.Orders as orders
use Rattle.turns.specs.Orders.{next_count, Told, asks, says}
use Rattle.turns.specs.Loop.{Output, nothing, also, loop}
use Rattle.turns.specs.declared.Subject.{Subject}
use Rattle.turns.specs.declared.Word.{Word}
use Rattle.packing.specs.Pack.{list_records, version_width, unit_width, Version, known, other, version_in, Head, found, none, rest_width, head_after, head_by, behind_by, Length, over, stated, cut, length_in, next_number, numbered, number_after, written_records, answer_in, cut_short, packed_by, unit_in, Units, PackEnd, ended, cut_at, unit_by, unit_after, unit_next, units_from, units_by, pack_of, train_by, said_at, said_by, pack_says}
use Rattle.packing.specs.Steps.{awaits, starts_with, version_told, head_told, length_told, unit_told, begins, after}
use Rattle.packing.specs.Run.{pack, run_of}
use Rattle.packing.specs.declared.input.InputVersion.{InputVersion}
use Rattle.packing.specs.declared.unit.Progress.{Progress}
use Rattle.packing.specs.declared.Wait.TheVariants as wait
use Rattle.packing.specs.declared.Place.{Place}
use Rattle.payloader.proofs.Starts.{payloads_count}
use Rattle.packing.proofs.Reading.{version_none, version_front, head_front}
use Rattle.packing.proofs.Units.{packed_few}

abbrev run : ℕ → Told Place → List ℕ → List ℕ → Output
run = loop pack

-- what is to come of an input with this head, behind which this stands
abbrev output_by : List ℕ → Head → Output
output_by l x = record { written = train_by (units_by l x).items x; said = said_by (units_by l x).stop x }

-- ---- what came decides as the whole does

pub length_front : (l : List ℕ) → length_in (take unit_width l) ≡ length_in l
unfolding length_in
length_front [] = refl
length_front (b ∷ l) = rw (short_front unit_width (b ∷ l), take-take 3 3 l (omega arith))

-- a length that is stated is there whole
pub stated_there : (l : List ℕ) (s : ℕ) → length_in l ≡ stated s → unit_width ≤ length l
unfolding length_in
stated_there [] s e = let z : ◌≡◌ {A = ℕ} 0 1 = cc in absurd (omega arith)
stated_there (b ∷ l) s e = split_on (ltb (length (b ∷ l)) unit_width)
    (λ t.
    let f : cut ≡ stated s = rw t at e in
    let z : ◌≡◌ {A = ℕ} 0 1 = cc in
    absurd (omega arith))
    (λ t. ltb-false (length (b ∷ l)) unit_width t)

-- ---- the units, and their records

pub numbered_append : (n : ℕ) (ps qs : List (List ℕ)) → numbered n (ps ++ qs) ≡ numbered n ps ++ numbered (number_after n ps) qs
unfolding numbered number_after
numbered_append n [] qs = refl
numbered_append n (p ∷ ps) qs = ap (λ (l : List Numbered). record { number = n; payload = p } ∷ l) (numbered_append (next_number n) ps qs)

-- an item of a stream of units has a byte
some_answered : (i s : ℕ) (u : List ℕ) (a : Answer Planned) → Some (unit_by i (unit_width + s) u a)
some_answered i s u (given p) = omega arith
some_answered i s u (refused k at) = tt

some_after : (mtu i : ℕ) (l : List ℕ) (x : Length) → Some (unit_after mtu i l x)
some_after mtu i l over = tt
some_after mtu i l cut = tt
some_after mtu i l (stated s) =
    let u : List ℕ = take s (drop unit_width l) in
    by_cond Some (ltb (length (drop unit_width l)) s) _ _ (λ t. tt) (λ t. some_answered i s u (answer_in list_records list_records mtu u))

pub unit_some : (mtu i : ℕ) (l : List ℕ) → Some (unit_next mtu i l)
unit_some mtu i l = some_after mtu i l (length_in l)

-- ---- the units of some bytes, by the length that was read

module _ (mtu i : ℕ) (l : List ℕ) where
  pub units_by_lem : (x : Length) → length_in (take unit_width l) ≡ x → units_from mtu i l ≡ chained (unit_after mtu i l x) (λ m j. units_from mtu j (drop m l))
  unfolding length_in
  units_by_lem x e =
      stream_next (unit_next mtu) ended (unit_some mtu) (λ j. refl) l i
      ∙ ap (λ (y : Length). chained (unit_after mtu i l y) (λ m j. units_from mtu j (drop m l))) (sym (length_front l) ∙ e)

  -- the rest begins after the bytes of the unit
  rest_units : (m : ℕ) (u : List ℕ) (t : Bool) (a : Answer Planned)
      → chained (cond t (halt (cut_at i)) (unit_by i (unit_width + m) u a)) (λ k j. units_from mtu j (drop k l))
      ≡ chained (cond t (halt (cut_at i)) (unit_by i (unit_width + m) u a)) (λ k j. units_from mtu j (drop m (drop unit_width l)))
  rest_units m u true a = refl
  rest_units m u false (refused k at) = refl
  rest_units m u false (given p) = rw (drop-drop m unit_width l)

  pub units_stated : (m : ℕ) → length_in (take unit_width l) ≡ stated m
      → units_from mtu i l ≡ chained (unit_after mtu i l (stated m)) (λ k j. units_from mtu j (drop m (drop unit_width l)))
  units_stated m e =
      let u : List ℕ = take m (drop unit_width l) in
      units_by_lem (stated m) e ∙ rest_units m u (ltb (length (drop unit_width l)) m) (answer_in list_records list_records mtu u)

-- ---- the end of a run

run_ends : (n : ℕ) (p : Place) (s l : List ℕ) → run n (orders.ends p) s l ≡ nothing
unfolding loop
run_ends zero p s l = refl
run_ends (suc n) p s l = refl

-- a line is said, and the run is over
run_says : (n : ℕ) → 1 ≤ n → (p : Place) (x : Subject) (w : Word) (s l : List ℕ) → run n (says (awaits p wait.Nothing) x w 0) s l ≡ record { written = []; said = line_text x w }
unfolding loop
run_says zero h p x w s l = absurd (omega arith)
run_says (suc n) h p x w s l =
    ap (also [] (line_text x w)) (run_ends n (awaits p wait.Nothing) _ l)
    ∙ ap (λ (said : List ℕ). record { written = []; said = said }) (append-nil (line_text x w))

module _ (mtu : ℕ) where
  -- the records of units, the first packet of which has the number n
  abbrev records_of_lem : ℕ → List (List ℕ) → List ℕ
  records_of_lem n units = written_records (head_for mtu).width n (flat_map (payloads_of mtu) units)

  records_more : (n : ℕ) (u : List ℕ) (us : List (List ℕ))
      → records_of_lem n (u ∷ us) ≡ written_records (head_for mtu).width n (payloads_of mtu u) ++ records_of_lem (number_after n (payloads_of mtu u)) us
  unfolding flat_map
  records_more n u us =
      ap (flat_map (record_bytes (head_for mtu).width)) (numbered_append n (payloads_of mtu u) (flat_map (payloads_of mtu) us))
      ∙ flat_map_append (record_bytes (head_for mtu).width) (numbered n (payloads_of mtu u)) (numbered (number_after n (payloads_of mtu u)) (flat_map (payloads_of mtu) us))

  -- what is to come of units, the first packet of which has the number n
  abbrev output_for : ℕ → Units → Output
  output_for n u = record { written = records_of_lem n u.items; said = said_at u.stop }

  -- the units from unit i on
  abbrev units_at : ℕ → List ℕ → Units
  units_at i l = units_from mtu i l

  -- ---- from a unit on

  -- unit i is next, and n the next number; so many bytes of it are read; packets of it are written
  abbrev before : ℕ → ℕ → Place
  before i n = record { wait = wait.Length; count = i; mtu = mtu; number = n }

  abbrev within : ℕ → ℕ → ℕ → Place
  within i n s = awaits (before i n) (wait.Unit s)

  abbrev amid : ℕ → ℕ → Progress → Place
  amid i n g = awaits (before i n) (wait.Packets g)

  -- a run of so many turns does it, whatever the store holds
  abbrev Comes : ℕ → ℕ → List ℕ → Type 0
  Comes turns i l = (n : ℕ) (s w : List ℕ) → run turns (asks (before i n) w unit_width) s l ≡ also w [] (output_for n (units_at i l))

  -- so does one of fewer turns than `most`, if they are enough
  abbrev Enough : ℕ → ℕ → ℕ → List ℕ → Type 0
  Enough most need i l = (turns : ℕ) → turns < most → need ≤ turns → Comes turns i l

  -- ---- the packets of a unit

  module _ (i most need : ℕ) (u s l : List ℕ) (again : Enough most need (next_count i) l) where
    abbrev packets_then : ℕ → List (List ℕ) → Output
    packets_then n ps =
        record {
          written = written_records (head_for mtu).width n ps ++ records_of_lem (number_after n ps) (units_at (next_count i) l).items;
          said = said_at (units_at (next_count i) l).stop;
        }

    run_packets : (ps : List (List ℕ)) (turns : ℕ) (n : ℕ) (g : Progress) (w : List ℕ) → take g.unit s ≡ u → drop g.packet (payloads_of mtu u) ≡ ps
        → turns ≤ most → length ps + 1 + need ≤ turns → run turns (asks (amid i n g) w 0) s l ≡ also w [] (packets_then n ps)
    unfolding loop numbered number_after flat_map
    run_packets ps zero n g w e f h k = absurd (omega arith)
    run_packets [] (suc turns) n g w e f h k =
        ap (also w [])
        (rw (e, f) (again turns (omega arith) (omega arith) n s []))
    run_packets (x ∷ ps) (suc turns) n g w e f h k =
        let rest : drop (g.packet + 1) (payloads_of mtu u) ≡ ps = sym (drop-drop 1 g.packet (payloads_of mtu u)) ∙ ap (drop 1) f in
        ap (also w [])
        (rw (e, f) (run_packets ps turns (next_number n) (after g) (record_bytes (head_for mtu).width (record { number = n; payload = x })) e rest (omega arith) (omega arith)
        ∙ ap (λ (a : List ℕ). record { written = a; said = said_at (units_at (next_count i) l).stop })
        (sym (append_assoc (record_bytes (head_for mtu).width (record { number = n; payload = x })) (written_records (head_for mtu).width (next_number n) ps) (records_of_lem (number_after (next_number n) ps) (units_at (next_count i) l).items)))))

  -- ---- one unit, of s bytes, of which those of u were read

  module _ (i most need : ℕ) (l : List ℕ) (again : Enough most need (next_count i) l) (turns n s : ℕ) (enough : turns ≤ most) (some : list_records + 2 + need ≤ turns) where
    -- what comes of a unit, and then the units of what follows it
    abbrev onward : Next (List ℕ) PackEnd ℕ → Units
    onward x = chained x (λ m j. units_at j l)

    by_answer_lem : (u store : List ℕ) → take s store ≡ u → (a : Answer Planned) → a ≡ answer_in list_records list_records mtu u
        → run turns (unit_told (within i n s) s (packed_by a)) store l ≡ output_for n (onward (unit_by i (unit_width + s) u a))
    unfolding flat_map numbered
    by_answer_lem u store e (refused k at) f = run_says turns (omega arith) (within i n s) _ _ store l
    by_answer_lem u store e (given p) f =
        run_packets i most need u store l again (payloads_of mtu u) turns n (begins s p) [] e refl enough (omega (arith, (packed_few mtu u p f).1, payloads_count u (obus_of u) 0 (unit_plan mtu u)))
        ∙ ap (λ (a : List ℕ). record { written = a; said = said_at (units_at (next_count i) l).stop }) (sym (records_more n u (units_at (next_count i) l).items))

    by_unit : (u store : List ℕ) (t : Bool) → (t ≡ false → take s store ≡ u)
        → run turns (unit_told (within i n s) s (cond t cut_short (packed_by (answer_in list_records list_records mtu u)))) store l
        ≡ output_for n (onward (cond t (halt (cut_at i)) (unit_by i (unit_width + s) u (answer_in list_records list_records mtu u))))
    unfolding flat_map numbered
    by_unit u store true e = run_says turns (omega arith) (within i n s) _ _ store l
    by_unit u store false e = by_answer_lem u store (e refl) (answer_in list_records list_records mtu u) refl

  -- ---- by the length that was read

  module _ (i n : ℕ) (s l : List ℕ) (turns need : ℕ) (some : 2 ≤ turns)
      (again : (m : ℕ) → length_in (take unit_width l) ≡ stated m → (list_records + 3 + need ≤ turns) × Enough turns need (next_count i) (drop m (drop unit_width l))) where
    by_length : (k : ℕ) → k ≡ turns → (x : Length) → length_in (take unit_width l) ≡ x → run k (length_told (before i n) x) s (drop unit_width l) ≡ output_for n (units_at i l)
    unfolding loop unit_in flat_map numbered
    by_length k q over e = run_ends k (awaits (before i n) wait.Nothing) _ _ ∙ sym (ap (output_for n) (units_by_lem mtu i l over e))
    by_length k q cut e = run_says k (omega arith) (before i n) _ _ s _ ∙ sym (ap (output_for n) (units_by_lem mtu i l cut e))
    by_length zero q (stated m) e = absurd (omega arith)
    by_length (suc k) q (stated m) e =
        let r = drop unit_width l in
        let a = again m e in
        ap (also [] [])
        (rw (take-take m m r (omega arith), short_front m r)
        (by_unit i turns need (drop m r) a.1 k n m (omega arith) (omega (arith, a.0)) (take m r) (front (take m r) s) (ltb (length r) m)
        (λ t. take_at (take m r) (drop (length (take m r)) s) m (length-take-le m r (ltb-false (length r) m t)))))
        ∙ sym (ap (output_for n) (units_stated mtu i l m e))

  -- ---- all units

  -- turns for each byte, as many as a unit's packets, and a few more
  abbrev turns_for : List ℕ → ℕ
  turns_for l = 600 * length l + 4

  run_units : (most turns : ℕ) → turns ≤ most → (i : ℕ) (l : List ℕ) → turns_for l ≤ turns → Comes turns i l
  unfolding loop
  run_units zero turns b i l a n s w = absurd (omega arith)
  run_units (suc most) zero b i l a n s w = absurd (omega arith)
  run_units (suc most) (suc turns) b i l a n s w =
      ap (also w [])
      (by_length i n (front (take unit_width l) s) l turns (600 * (length l - 1)) (omega arith)
      (λ m e.
      let there = stated_there l m (sym (length_front l) ∙ e) in
      let less : turns_for (drop m (drop unit_width l)) ≤ 600 * (length l - 1) = omega (arith, length-drop unit_width l, length-drop m (drop unit_width l)) in
      (omega arith, λ j p q. run_units most j (omega arith) (next_count i) (drop m (drop unit_width l)) (omega arith)))
      turns refl (length_in (take unit_width l)) refl)

-- ---- the input

-- what stands behind the version byte
run_head : (turns : ℕ) (v : InputVersion) (s l : List ℕ) → 600 * length l + 5 ≤ turns
    → run turns (asks (awaits starts_with.place (wait.Head v)) [] (rest_width v)) s l ≡ output_by (drop (rest_width v) l) (head_after v l)
unfolding loop
run_head zero v s l h = absurd (omega arith)
run_head (suc n) v s l h = ap By (head_front v l) ∙ go (head_after v l)
  where
    By : Head → Output
    By x = also [] [] (run n (head_told (awaits starts_with.place (wait.Head v)) x) (front (take (rest_width v) l) s) (drop (rest_width v) l))

    go : (x : Head) → By x ≡ output_by (drop (rest_width v) l) x
    go none = ap (also [] []) (run_says n (omega arith) (awaits starts_with.place (wait.Head v)) _ _ _ _)
    go (found x) =
        ap (also [] [])
        (run_units x.mtu n n (omega arith) 0 (drop (rest_width v) l) (omega (arith, length-drop (rest_width v) l))
        x.first (front (take (rest_width v) l) s) ((head_for x.mtu).version ∷ []))

-- whatever the store holds, and with enough turns
pub run_packs : (turns : ℕ) (s input : List ℕ) → 600 * length input + 5 ≤ turns → run_of turns s input ≡ record { written = pack_of input; said = pack_says input }
unfolding loop
run_packs zero s input h = absurd (omega arith)
run_packs (suc n) s input h = ap By (version_front input) ∙ go (version_in input) refl
  where
    rest : List ℕ
    rest = drop version_width input

    By : Version → Output
    By x = also [] [] (run n (version_told starts_with.place x) (front (take version_width input) s) rest)

    go : (x : Version) → x ≡ version_in input → By x ≡ output_by (behind_by rest x) (head_by rest x)
    go other e = ap (also [] []) (run_says n (omega arith) starts_with.place _ _ _ _)
    go (known v) e =
        let some : length input ≡ 0 → ⊥ = λ z. let q : known v ≡ other = e ∙ sym (version_none input z) in let z : ◌≡◌ {A = ℕ} 0 1 = cc in omega arith in
        ap (also [] []) (run_head n v (front (take version_width input) s) rest (omega (arith, some, length-drop version_width input)))
