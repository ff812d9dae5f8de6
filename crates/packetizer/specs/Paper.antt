-- What the stores of the code stand for.
use Rattle.std.specs.Prelude.{ℕ, ◌*◌, List, Bool, cond}
use Rattle.std.proofs.lemmas.List.Edits.{sets}
use Rattle.packetizer.specs.Records.{plan_numbers, flat_plan}
use Rattle.packetizer.specs.declared.PacketMetadata.{PacketMetadata}

-- a lent plan list with these records from record n on, where the code stores them
abbrev pub recorded : Bool → List ℕ → ℕ → List PacketMetadata → List ℕ
recorded store l n ps = cond store (sets l (n * plan_numbers) (flat_plan ps)) l
