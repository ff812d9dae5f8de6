-- The loop of every program, over the bytes of an input: what it writes and says, where no read and no write fails.
use Rattle.std.specs.Prelude.{ℕ, zero, suc, cond, List, [], ◌++◌, take, drop}
use Rattle.turns.specs.Orders.{Told, Arrival, bytes}

-- what goes to standard output and to standard error
pub record Output : Type 0 where
  pub written : List ℕ
  pub said : List ℕ

abbrev pub nothing : Output
nothing = record { written = []; said = [] }

-- these bytes and this text, and then the rest
abbrev pub also : List ℕ → List ℕ → Output → Output
also w s rest = record { written = w ++ rest.written; said = s ++ rest.said }

-- a program: what it is told next, and what its stores then hold, by where it stands and what arrives
pub record Program (Place Stores : Type 0) : Type 0 where
  pub step : Place → Arrival → Stores → Told Place
  pub after : Place → Arrival → Stores → Stores

-- as long as there is more to do, and for so many turns at most: bytes written, a text said, as many bytes read as are asked for and are
-- there, and the next step
unfoldable pub loop : {Place Stores : Type 0} → Program Place Stores → ℕ → Told Place → Stores → List ℕ → Output
loop p zero t s l = nothing
loop p (suc turns) t s l =
    let came = bytes (take t.read l) in
    cond t.more (also t.written t.said (loop p turns (p.step t.place came s) (p.after t.place came s) (drop t.read l))) nothing
