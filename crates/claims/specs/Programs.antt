-- The programs: a run of their steps writes and says what the definitions say (G2 to G11, G15, G17).
use Rattle.std.specs.Prelude.{◌≡◌, ℕ, ◌+◌, ◌*◌, ◌≤◌, List, [], length}
use Rattle.packing.specs.Pack.{pack_of, pack_says}
use Rattle.packing.specs.Run as packing
use Rattle.padding.specs.Padded.{padded_of}
use Rattle.padding.specs.Run as padding
use Rattle.unpacking.specs.Unpack.{fragment_store, output_bytes, unpack_of, unpack_says}
use Rattle.unpacking.specs.Run as unpacking
use Rattle.listing.specs.Input.{list_records}
use Rattle.listing.specs.Listing.{planlist_text}
use Rattle.listing.specs.Run as listing

-- `pack`, whatever its store held, with turns enough
abbrev pub RunPacks : Type 0
RunPacks =
    (turns : ℕ) (s input : List ℕ) → 600 * length input + 5 ≤ turns
    → packing.run_of turns s input ≡ record { written = pack_of input; said = pack_says input }

-- `padded`, whatever its store held: a line for each unit that `pack` packs, and what `pack` says
abbrev pub RunPads : Type 0
RunPads =
    (turns : ℕ) (s input : List ℕ) → length input + 5 ≤ turns
    → padding.run_of turns s input ≡ record { written = padded_of input; said = pack_says input }

-- `unpack`, with the stores of L14 and L15, whatever they held
abbrev pub RunUnpacks : Type 0
RunUnpacks =
    (turns : ℕ) (s : unpacking.Stores) (file : List ℕ) → length s.store ≡ fragment_store → length s.out ≡ output_bytes → length file + 5 ≤ turns
    → unpacking.run_of turns s file ≡ record { written = unpack_of file; said = unpack_says file }

-- `planlist`, which says nothing
abbrev pub RunLists : Type 0
RunLists =
    (turns : ℕ) (unit file : List ℕ) → list_records + 4 ≤ turns
    → listing.run_of turns unit file ≡ record { written = planlist_text file; said = [] }
