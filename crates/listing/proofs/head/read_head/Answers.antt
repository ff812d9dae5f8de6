use Rattle.std.proofs.Common.{ℕ, ap₂, ◌∙◌, arith}
use Rattle.listing.specs.Input.{states}
use Rattle.listing.proofs.Inputs.{head_cut, head_other, head_long, head_good}
use Rattle.listing.proofs.head.read_head.Goals as goal
use Rattle.listing.proofs.head.read_head.Goals.{then-head-lt-HEAD_BYTES-via-then-head-lt-HEAD_BYTES, then-head-lt-HEAD_BYTES-via-else-head-lt-HEAD_BYTES+then-head-ne-VERSION}

pub returns-then-head-lt-HEAD_BYTES : goal.returns-then-head-lt-HEAD_BYTES
returns-then-head-lt-HEAD_BYTES c =
    elim c.then-head-lt-HEAD_BYTES.branch [
      | then-head-lt-HEAD_BYTES-via-then-head-lt-HEAD_BYTES w ↦ head_cut c.args.head.now w.if-head-lt-HEAD_BYTES.true
      | then-head-lt-HEAD_BYTES-via-else-head-lt-HEAD_BYTES+then-head-ne-VERSION w ↦ head_other c.args.head.now w.if-head-lt-HEAD_BYTES.false w.if-head-ne-VERSION.true
    ]

pub returns-then-length-gt-UNIT_STORE : goal.returns-then-length-gt-UNIT_STORE
returns-then-length-gt-UNIT_STORE c = head_long c.args.head.now c.if-head-lt-HEAD_BYTES.false c.if-head-ne-VERSION.false (omega (arith, c.number_at-length.ensures.is, c.if-length-gt-UNIT_STORE.true))

pub returns : goal.returns
returns c = ap₂ (λ (m n : ℕ). states (record { mtu = m; length = n })) c.number_at-mtu.ensures.is c.number_at-length.ensures.is
    ∙ head_good c.args.head.now c.if-head-lt-HEAD_BYTES.false c.if-head-ne-VERSION.false (omega (arith, c.number_at-length.ensures.is, c.if-length-gt-UNIT_STORE.false))
