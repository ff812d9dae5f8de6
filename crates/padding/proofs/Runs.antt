-- A run of the steps writes a line for each unit that `pack` packs, and says what `pack` says (G17). Assumes nothing.
use mathlib.Core.Path.{◌≡◌, refl, sym, ap, ◌∙◌}
use Prim.Native.Nat.{ℕ, zero, suc, ◌+◌, ◌≤◌}
use native.Mathlib.Omega.{arith}
use mathlib.Core.List.{List, [], append-nil}
use mathlib.Core.Bool.{Bool, true, false, cond}
use lib.ListN.{length, take, drop, length-drop}
use lib.Seq.{take-take, take_at, length-take-le}
use lib.Dec.{ltb}
use borrow.Author.Tests.{ltb-false}
use Rattle.base.specs.Answers.{Answer, given, refused}
use Rattle.base.specs.Lists.{front}
use Rattle.base.specs.Streams.{Next, halt, chained}
use Rattle.base.proofs.Lists.{short_front}
use Rattle.packetizer.specs.declared.Planned.{Planned}
use Rattle.payloader.proofs.Starts.{left_none}
use Rattle.turns.specs.Text.{line_text}
use Rattle.turns.specs.Orders as orders
use Rattle.turns.specs.Orders.{next_count, Told, asks, says}
use Rattle.turns.specs.Loop.{Output, nothing, also, loop}
use Rattle.turns.specs.declared.Subject.{Subject}
use Rattle.turns.specs.declared.Word.{Word}
use Rattle.packing.specs.Pack.{list_records, version_width, unit_width, Version, known, other, version_in, Head, found, none, rest_width, head_after, head_by, behind_by, Length, over, stated, cut, length_in, answer_in, cut_short, packed_by, unit_in, Units, PackEnd, cut_at, unit_by, units_from, units_by, said_at, said_by, pack_says}
use Rattle.packing.specs.Steps.{awaits, starts_with, version_told, head_told, length_told, unit_told}
use Rattle.packing.specs.declared.input.InputVersion.{InputVersion}
use Rattle.packing.specs.declared.Wait.TheVariants as wait
use Rattle.packing.specs.declared.Place.{Place}
use Rattle.packing.proofs.Reading.{version_front, head_front}
use Rattle.packing.proofs.Units.{packed_few}
use Rattle.packing.proofs.Runs.{stated_there, length_front, units_by_lem, units_stated}
use Rattle.padding.specs.Padded.{padded_in, line_of, lines_from, padded_of}
use Rattle.padding.specs.Steps.{told_for}
use Rattle.padding.specs.Run.{padded, run_of}

abbrev run : ℕ → Told Place → List ℕ → List ℕ → Output
run = loop padded

-- what is to come of units, the first of which is unit i; and of an input with this head, behind which this stands
abbrev output_for : ℕ → Units → Output
output_for i u = record { written = lines_from i u.items; said = said_at u.stop }

abbrev output_by : List ℕ → Head → Output
output_by l x = record { written = lines_from 0 (units_by l x).items; said = said_by (units_by l x).stop x }

-- ---- the end of a run

run_ends : (n : ℕ) (p : Place) (s l : List ℕ) → run n (orders.ends p) s l ≡ nothing
unfolding loop
run_ends zero p s l = refl
run_ends (suc n) p s l = refl

-- a line is said, and the run is over
run_says : (n : ℕ) → 1 ≤ n → (p : Place) (x : Subject) (w : Word) (s l : List ℕ) → run n (says (awaits p wait.Nothing) x w 0) s l ≡ record { written = []; said = line_text x w }
unfolding loop
run_says zero h p x w s l = absurd (omega arith)
run_says (suc n) h p x w s l =
    ap (also [] (line_text x w)) (run_ends n (awaits p wait.Nothing) s l)
    ∙ ap (λ (said : List ℕ). record { written = []; said = said }) (append-nil (line_text x w))

-- ---- from a unit on; the next number stays as it is

module _ (mtu n : ℕ) where
  -- unit i is next; so many bytes of it are read
  abbrev before : ℕ → Place
  before i = record { wait = wait.Length; count = i; mtu = mtu; number = n }

  abbrev within : ℕ → ℕ → Place
  within i m = awaits (before i) (wait.Unit m)

  -- a run of so many turns does it, whatever the store holds
  abbrev Comes : ℕ → ℕ → List ℕ → Type 0
  Comes turns i l = (s w : List ℕ) → run turns (asks (before i) w unit_width) s l ≡ also w [] (output_for i (units_from mtu i l))

  -- ---- one unit, of m bytes, behind which this stands

  module _ (i m k : ℕ) (l : List ℕ) (again : Comes k (next_count i) l) where
    abbrev onward : Next (List ℕ) PackEnd ℕ → Units
    onward x = chained x (λ e j. units_from mtu j l)

    by_answer_lem : (u store : List ℕ) → take m store ≡ u → (a : Answer Planned) → a ≡ answer_in list_records list_records mtu u
        → run (suc k) (told_for (unit_told (within i m) m (packed_by a)) store) store l ≡ output_for i (onward (unit_by i (unit_width + m) u a))
    unfolding loop lines_from
    by_answer_lem u store e (refused j at) f = run_says (suc k) (omega arith) (within i m) _ _ store l
    by_answer_lem u store e (given p) f =
        rw (e, left_none mtu u p.packets (omega (arith, (packed_few mtu u p f).2)))
        (ap (also (line_of i (padded_in u)) []) (again store []))

    by_unit : (u store : List ℕ) (t : Bool) → (t ≡ false → take m store ≡ u)
        → run (suc k) (told_for (unit_told (within i m) m (cond t cut_short (packed_by (answer_in list_records list_records mtu u)))) store) store l
        ≡ output_for i (onward (cond t (halt (cut_at i)) (unit_by i (unit_width + m) u (answer_in list_records list_records mtu u))))
    unfolding lines_from
    by_unit u store true e = run_says (suc k) (omega arith) (within i m) _ _ store l
    by_unit u store false e = by_answer_lem u store (e refl) (answer_in list_records list_records mtu u) refl

  -- ---- by the length that was read

  by_length : (i k : ℕ) (s l : List ℕ) → ((m : ℕ) → length_in (take unit_width l) ≡ stated m → Comes k (next_count i) (drop m (drop unit_width l)))
      → (x : Length) → length_in (take unit_width l) ≡ x → run (suc (suc k)) (told_for (length_told (before i) x) s) s (drop unit_width l) ≡ output_for i (units_from mtu i l)
  unfolding loop unit_in lines_from
  by_length i k s l again over e = sym (ap (output_for i) (units_by_lem mtu i l over e))
  by_length i k s l again cut e = run_says (suc (suc k)) (omega arith) (before i) _ _ s (drop unit_width l) ∙ sym (ap (output_for i) (units_by_lem mtu i l cut e))
  by_length i k s l again (stated m) e =
      let r = drop unit_width l in
      ap (also [] [])
      (rw (take-take m m r (omega arith), short_front m r)
      (by_unit i m k (drop m r) (again m e) (take m r) (front (take m r) s) (ltb (length r) m)
      (λ t. take_at (take m r) (drop (length (take m r)) s) m (length-take-le m r (ltb-false (length r) m t)))))
      ∙ sym (ap (output_for i) (units_stated mtu i l m e))

  -- ---- all units: three turns for each

  run_units : (turns i : ℕ) (l : List ℕ) → length l + 3 ≤ turns → Comes turns i l
  unfolding loop
  run_units zero i l a s w = absurd (omega arith)
  run_units (suc zero) i l a s w = absurd (omega arith)
  run_units (suc (suc zero)) i l a s w = absurd (omega arith)
  run_units (suc (suc (suc k))) i l a s w =
      ap (also w [])
      (by_length i k (front (take unit_width l) s) l
      (λ m e.
      let there = stated_there l m (sym (length_front l) ∙ e) in
      run_units k (next_count i) (drop m (drop unit_width l)) (omega (arith, there, length-drop unit_width l, length-drop m (drop unit_width l))))
      (length_in (take unit_width l)) refl)

-- ---- the input

-- what stands behind the version byte
run_head : (turns : ℕ) (v : InputVersion) (s l : List ℕ) → length l + 4 ≤ turns
    → run turns (asks (awaits starts_with.place (wait.Head v)) [] (rest_width v)) s l ≡ output_by (drop (rest_width v) l) (head_after v l)
unfolding loop lines_from
run_head zero v s l h = absurd (omega arith)
run_head (suc n) v s l h = ap By (head_front v l) ∙ go (head_after v l)
  where
    store : List ℕ
    store = front (take (rest_width v) l) s

    By : Head → Output
    By x = also [] [] (run n (told_for (head_told (awaits starts_with.place (wait.Head v)) x) store) store (drop (rest_width v) l))

    go : (x : Head) → By x ≡ output_by (drop (rest_width v) l) x
    go none = ap (also [] []) (run_says n (omega arith) (awaits starts_with.place (wait.Head v)) _ _ _ _)
    go (found x) =
        ap (also [] []) (run_units x.mtu x.first n 0 (drop (rest_width v) l) (omega (arith, length-drop (rest_width v) l)) store [])

-- whatever the store holds, and with enough turns
pub run_pads : (turns : ℕ) (s input : List ℕ) → length input + 5 ≤ turns → run_of turns s input ≡ record { written = padded_of input; said = pack_says input }
unfolding loop lines_from
run_pads zero s input h = absurd (omega arith)
run_pads (suc n) s input h = ap By (version_front input) ∙ go (version_in input)
  where
    rest : List ℕ
    rest = drop version_width input

    store : List ℕ
    store = front (take version_width input) s

    By : Version → Output
    By x = also [] [] (run n (told_for (version_told starts_with.place x) store) store rest)

    go : (x : Version) → By x ≡ output_by (behind_by rest x) (head_by rest x)
    go other = ap (also [] []) (run_says n (omega arith) starts_with.place _ _ _ _)
    go (known v) = ap (also [] []) (run_head n v store rest (omega (arith, length-drop version_width input)))
