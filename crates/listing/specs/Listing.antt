-- What `planlist` prints: the numbers of its lines, and its bytes (G8 to G11).
use Rattle.std.specs.Prelude.{ℕ, ◌+◌, length, drop, replicate}
use mathlib.Core.List.{List, [], ◌∷◌, ◌++◌, flat_map}
use Rattle.base.specs.Answers.{Answer, given, refused}
use Rattle.base.specs.Words.{ascii}
use Rattle.obu.specs.Unit.{obus_of}
use Rattle.obu.specs.declared.Obu.{Obu}
use Rattle.packetizer.specs.Call.{unit_plan, to_plan, plan_answer}
use Rattle.packetizer.specs.declared.PacketMetadata.{PacketMetadata}
use Rattle.packetizer.specs.declared.Planned.{Planned}
use Rattle.turns.specs.Text.{labelled}
use Rattle.listing.specs.Input.{head_width, obu_list_numbers, plan_list_numbers, Input, bad_input, good, input_of}
use Rattle.listing.specs.Row.{row_by, row_text}
use Rattle.listing.specs.declared.Row.{Row}

pub data Listing : Type 0 where
  bad : Listing
  refused_by : ℕ → ℕ → Listing
  lists : ℕ → List Row → Listing

-- the lines of packet k and all after it
unfoldable pub rows_from : List ℕ → List Obu → ℕ → List PacketMetadata → List Row
rows_from unit obus k [] = []
rows_from unit obus k (p ∷ ps) = row_by unit obus p k ∷ rows_from unit obus (k + 1) ps

abbrev pub rows_of : ℕ → List ℕ → List Row
rows_of mtu unit = rows_from unit (obus_of unit) 0 (unit_plan mtu unit)

abbrev pub listed_by : ℕ → List ℕ → Answer Planned → Listing
listed_by mtu unit (given p) = lists p.obus (rows_of mtu unit)
listed_by mtu unit (refused n at) = refused_by n at

-- of a unit, with lists of L13
unfoldable pub unit_listing : ℕ → List ℕ → Listing
unit_listing mtu unit = listed_by mtu unit (plan_answer (to_plan mtu unit (replicate obu_list_numbers 0) (replicate plan_list_numbers 0)))

abbrev pub listing_by : List ℕ → Input → Listing
listing_by l bad_input = bad
listing_by l (good mtu) = unit_listing mtu (drop head_width l)

-- of a whole input
abbrev pub planlist_of : List ℕ → Listing
planlist_of l = listing_by l (input_of l)

-- ---- its bytes

-- two numbers, each behind its words
unfoldable pub two_numbers : List ℕ → ℕ → List ℕ → ℕ → List ℕ
two_numbers a m b n = labelled a m ++ (labelled b n ++ ascii "\n")

abbrev pub bad_text : List ℕ
bad_text = ascii "bad input\n"

-- `refused 7 0`
abbrev pub refused_text : ℕ → ℕ → List ℕ
refused_text n at = two_numbers (ascii "refused ") n (ascii " ") at

-- `obus 2` and, on a line of its own, `packets 2`
abbrev pub counts_text : ℕ → ℕ → List ℕ
counts_text obus packets = two_numbers (ascii "obus ") obus (ascii "\npackets ") packets

abbrev pub listing_text : Listing → List ℕ
listing_text bad = bad_text
listing_text (refused_by n at) = refused_text n at
listing_text (lists n rows) = counts_text n (length rows) ++ flat_map row_text rows

-- all on standard output
abbrev pub planlist_text : List ℕ → List ℕ
planlist_text l = listing_text (planlist_of l)
