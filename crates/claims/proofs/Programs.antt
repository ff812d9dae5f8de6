-- The programs.
use Rattle.packing.proofs.Runs as packing
use Rattle.padding.proofs.Runs as padding
use Rattle.unpacking.proofs.Runs as unpacking
use Rattle.listing.proofs.Runs as listing
use Rattle.claims.specs.Programs.{RunPacks, RunPads, RunUnpacks, RunLists}

pub run_packs : RunPacks
run_packs = packing.run_packs

pub run_pads : RunPads
run_pads = padding.run_pads

pub run_unpacks : RunUnpacks
run_unpacks = unpacking.run_unpacks

pub run_lists : RunLists
run_lists = listing.run_lists
