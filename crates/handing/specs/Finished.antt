-- The OBUs that the code's struct of finished OBUs stands for.
use Rattle.std.specs.Prelude.{ℕ, List}
use Rattle.handing.specs.Inside.{between}
use Rattle.handing.specs.declared.FinishedObus.{FinishedObus}

abbrev pub obus_of : FinishedObus → List (List ℕ)
obus_of f = between f.store.now f.joined f.payload.now f.from f.to
