-- A run of the steps writes what `planlist` is to print, and says nothing (G8 to G11). Assumes nothing.
use mathlib.Core.Path.{◌≡◌, refl, sym, ap, ◌∙◌}
use Prim.Native.Nat.{ℕ, zero, suc, ◌+◌, ◌≤◌, ◌<◌}
use native.Mathlib.Numerals.{add-one}
use native.Mathlib.Omega.{arith}
use mathlib.Core.List.{List, [], ◌∷◌, ◌++◌, append-nil, flat_map}
use mathlib.Core.Bool.{Bool, true, false, cond}
use lib.ListN.{length, take, drop, replicate, length-drop, length-replicate, drop_of_length-le}
use lib.Seq.{take_all, take_at, take-take, length-take-le, drop-cons}
use lib.Dec.{ltb, eqb}
use borrow.Author.Tests.{ltb-true, ltb-false, eq-eqb, ne_eqb}
use Rattle.base.specs.Answers.{Answer, given, refused}
use Rattle.base.specs.Lists.{front}
use Rattle.base.proofs.Lists.{short_front}
use Rattle.base.proofs.Tests.{split_on}
use Rattle.obu.specs.Unit.{obus_of}
use Rattle.packetizer.specs.Call.{unit_plan, to_plan, plan_answer}
use Rattle.packetizer.specs.Records.{no_packet}
use Rattle.packetizer.specs.declared.Planned.{Planned}
use Rattle.packetizer.proofs.Accepted.{accepted}
use Rattle.turns.specs.Orders.{Told, ends, asks}
use Rattle.turns.specs.Loop.{Output, nothing, also, loop}
use Rattle.listing.specs.Input as input
use Rattle.listing.specs.Input.{head_width, list_records, obu_list_numbers, plan_list_numbers, Head, states, head_of, bad_input, good, input_by, input_of}
use Rattle.listing.specs.Row.{row_of, row_text}
use Rattle.listing.specs.Listing.{Listing, bad, rows_from, rows_of, listed_by, unit_listing, listing_by, bad_text, listing_text, planlist_text}
use Rattle.listing.specs.Steps.{awaits, unit_in, prints, head_told, counted, listing_told}
use Rattle.listing.specs.Run.{planlist, run_of}
use Rattle.listing.specs.declared.Wait.TheVariants as wait
use Rattle.listing.specs.declared.Place.{Place}
use Rattle.listing.proofs.Inputs.{head_front}
use Rattle.listing.proofs.Lines.{rows_count}

abbrev run : ℕ → Told Place → List ℕ → List ℕ → Output
run = loop planlist

-- what is listed where these bytes are left over; and of a unit, if these are all its bytes
abbrev left_over : List ℕ → Listing → Listing
left_over [] x = x
left_over (b ∷ l) x = bad

abbrev exactly : Place → List ℕ → Listing
exactly p l = cond (eqb (length l) p.length) (unit_listing p.mtu l) bad

-- these bytes, and no word
abbrev just : List ℕ → Output
just w = record { written = w; said = [] }

-- ---- the end of a run

run_ends : (n : ℕ) (p : Place) (unit l : List ℕ) → run n (ends p) unit l ≡ nothing
unfolding loop
run_ends zero p unit l = refl
run_ends (suc n) p unit l = refl

run_prints : (n : ℕ) → 1 ≤ n → (p : Place) (text unit l : List ℕ) → run n (prints p text) unit l ≡ just text
unfolding loop
run_prints zero h p text unit l = absurd (omega arith)
run_prints (suc n) h p text unit l = ap (also text []) (run_ends n (awaits p wait.Nothing) unit l) ∙ ap just (append-nil text)

-- ---- from line k on

module _ (p : Place) (unit l : List ℕ) (count : p.packets ≡ length (unit_plan p.mtu (unit_in p unit))) where
  abbrev text_from : ℕ → List ℕ
  text_from k = flat_map row_text (rows_from (unit_in p unit) (obus_of (unit_in p unit)) k (drop k (unit_plan p.mtu (unit_in p unit))))

  text_step : (k : ℕ) → k < p.packets → text_from k ≡ row_text (row_of (unit_in p unit) (obus_of (unit_in p unit)) (unit_plan p.mtu (unit_in p unit)) k) ++ text_from (k + 1)
  unfolding rows_from flat_map
  text_step k h = rw (add-one k, drop-cons (unit_plan p.mtu (unit_in p unit)) k no_packet (omega arith), add-one k)

  text_end : (k : ℕ) → p.packets ≤ k → text_from k ≡ []
  unfolding rows_from flat_map
  text_end k h = rw (drop_of_length-le (unit_plan p.mtu (unit_in p unit)) {i = k} (omega arith))

  run_rows : (n k : ℕ) (w : List ℕ) → k ≤ p.packets → p.packets + 1 ≤ n + k → run n (asks (awaits p (wait.Row k)) w 0) unit l ≡ just (w ++ text_from k)
  unfolding loop
  run_rows zero k w h m = absurd (omega arith)
  run_rows (suc n) k w h m =
      ap (also w [])
      (split_on (ltb k p.packets)
      (λ t.
      let less : k < p.packets = ltb-true k p.packets t in
      rw t (run_rows n (k + 1) _ (omega arith) (omega arith) ∙ ap just (sym (text_step k less))))
      (λ t. rw t (run_ends n (awaits p wait.Nothing) unit l ∙ ap just (sym (text_end k (ltb-false k p.packets t))))))

-- ---- by what the plan call answers

module _ (p : Place) (unit l : List ℕ) (n : ℕ) (enough : list_records + 1 ≤ n) where
  run_answer : (a : Answer Planned) → a ≡ plan_answer (to_plan p.mtu (unit_in p unit) (replicate obu_list_numbers 0) (replicate plan_list_numbers 0))
      → run n (listing_told p (listed_by p.mtu (unit_in p unit) a)) unit l ≡ just (listing_text (listed_by p.mtu (unit_in p unit) a))
  run_answer (refused k at) e = run_prints n (omega arith) p _ unit l
  run_answer (given q) e =
      let known = accepted _ _ _ _ q e in
      let count : length (rows_of p.mtu (unit_in p unit)) ≡ length (unit_plan p.mtu (unit_in p unit)) = rows_count _ _ 0 _ in
      run_rows (counted p q.obus (length (rows_of p.mtu (unit_in p unit)))) unit l count n 0 _ (omega arith)
      (omega (arith, known.packets, known.plan_room, length-replicate {A = ℕ} plan_list_numbers 0, count))

  run_listing : run n (listing_told p (unit_listing p.mtu (unit_in p unit))) unit l ≡ just (listing_text (unit_listing p.mtu (unit_in p unit)))
  unfolding unit_listing
  run_listing = run_answer _ refl

-- ---- behind the unit

run_further : (p : Place) (unit l : List ℕ) (n : ℕ) → list_records + 2 ≤ n
    → run n (asks (awaits p wait.Further) [] 1) unit l ≡ just (listing_text (left_over l (unit_listing p.mtu (unit_in p unit))))
unfolding loop
run_further p unit l zero h = absurd (omega arith)
run_further p unit [] (suc n) h = ap (also [] []) (run_listing (awaits p wait.Further) unit [] n (omega arith))
run_further p unit (b ∷ l) (suc n) h = ap (also [] []) (run_prints n (omega arith) p bad_text unit l)

-- ---- the unit, which is to stand in l

module _ (p : Place) (unit l : List ℕ) where
  -- the unit store then
  abbrev store : List ℕ
  store = front (take p.length (take p.length l)) unit

  -- the bytes of a unit that is there stand first in the store
  kept : p.length ≤ length l → unit_in p store ≡ take p.length l
  kept h =
      rw (take-take p.length p.length l (omega arith))
      (take_at (take p.length l) _ p.length (length-take-le p.length l h))

  -- by what is left over
  decided : p.length ≤ length l → (r : List ℕ) → drop p.length l ≡ r
      → left_over r (unit_listing p.mtu (unit_in p store)) ≡ exactly p l
  decided h [] e =
      let all : length l ≤ p.length = omega (arith, ap length e, length-drop p.length l) in
      rw (eq-eqb (length l) p.length (omega arith)) (ap (unit_listing p.mtu) (kept h ∙ take_all p.length l all))
  decided h (b ∷ r) e = rw (ne_eqb (length l) p.length (λ q. omega (arith, ap length e, length-drop p.length l)))

  run_unit : (n : ℕ) → list_records + 3 ≤ n
      → run n (asks (awaits p wait.Unit) [] p.length) unit l ≡ just (listing_text (exactly p l))
  unfolding loop
  run_unit zero h = absurd (omega arith)
  run_unit (suc n) h =
      ap (also [] [])
      (rw (short_front p.length l)
      (split_on (ltb (length l) p.length)
      (λ t.
      let cut : length l < p.length = ltb-true (length l) p.length t in
      rw (t, ne_eqb (length l) p.length (λ q. omega arith)) (run_prints n (omega arith) p bad_text unit _))
      (λ t.
      rw t (run_further p store (drop p.length l) n (omega arith)
      ∙ ap (λ (x : Listing). just (listing_text x)) (decided (ltb-false (length l) p.length t) _ refl)))))

-- ---- the input

-- whatever the unit store holds, with a turn for each line and four more
pub run_lists : (turns : ℕ) (unit file : List ℕ) → list_records + 4 ≤ turns → run_of turns unit file ≡ record { written = planlist_text file; said = [] }
unfolding loop input_of
run_lists zero unit file h = absurd (omega arith)
run_lists (suc n) unit file h = ap By (head_front file) ∙ go (head_of file)
  where
    start : Place
    start = record { wait = wait.Head; mtu = 0; length = 0; obus = 0; packets = 0 }

    By : Head → Output
    By x = also [] [] (run n (head_told start x) unit (drop head_width file))

    go : (x : Head) → By x ≡ just (listing_text (listing_by file (input_by (length (drop head_width file)) x)))
    go input.bad = ap (also [] []) (run_prints n (omega arith) start bad_text unit _)
    go (states s) =
        ap (also [] []) (run_unit (record { wait = wait.Unit; mtu = s.mtu; length = s.length; obus = 0; packets = 0 }) unit (drop head_width file) n (omega arith))
        ∙ ap (λ (x : Listing). just (listing_text x)) (by_length (eqb (length (drop head_width file)) s.length))
      where
        by_length : (t : Bool) → cond t (unit_listing s.mtu (drop head_width file)) bad ≡ listing_by file (cond t (good s.mtu) bad_input)
        by_length true = refl
        by_length false = refl
