use mathlib.Core.Path.{sym, ap}
use borrow.Author.Rules.{rules}
use mathlib.Core.Path.{◌≡◌}
use Rattle.base.specs.Answers.{refused}
use Rattle.element.specs.Elements.{payload_elements}
use Rattle.element.specs.Paper.{walked}
use Rattle.element.proofs.Laws.{payload_empty, payload_long}
use Rattle.element.proofs.walk_elements.Goals.{then-is_empty-via-then-is_empty, then-is_empty-via-else-is_empty+then-payload-gt-PAYLOAD_LIMIT}
use Rattle.element.proofs.walk_elements.Goals as goal

pub returns-then-is_empty : goal.returns-then-is_empty
returns-then-is_empty c = let a = c.args in
    let h : refused 13 0 ≡ walked a.k (payload_elements a.payload.now) = elim c.then-is_empty.branch [
      | then-is_empty-via-then-is_empty w ↦ sym (ap (walked a.k) (payload_empty a.payload.now (search rules)))
      | then-is_empty-via-else-is_empty+then-payload-gt-PAYLOAD_LIMIT w ↦ sym (ap (walked a.k) (payload_long a.payload.now w.if-payload-gt-PAYLOAD_LIMIT.true))
    ] in search rules
