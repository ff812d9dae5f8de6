-- What the code's values stand for.
use Rattle.std.specs.Prelude.{ℕ, List, ◌++◌}
use Rattle.handing.specs.declared.obu_bytes.Across.{Across}

-- the bytes of an OBU across store and payload
abbrev pub all_of : Across → List ℕ
all_of o = o.stored.now ++ o.element.now
