use Prim.Native.Nat.{ℕ}
use native.Mathlib.Omega.{arith}
use lib.ListN.{length}
use Rattle.unpacking.proofs.Turning.{gives_as, at_once_over, at_once_all, left_cut, left_more, left_done}
use Rattle.unpacking.proofs.passing.away_step.Goals as goal

pub returns-then-got-at_once : goal.returns-then-got-at_once
returns-then-got-at_once c =
    let left_at : ℕ = c.args.left in
    let gotAt : ℕ = length c.args.got.now in
    gives_as (left_cut c.args.place (left_at) (gotAt) (omega (arith, c.if-got-at_once.true, c.at_once.ensures))) c.stop_at.ensures

pub returns-then-left-gt-PAYLOAD_BYTES : goal.returns-then-left-gt-PAYLOAD_BYTES
returns-then-left-gt-PAYLOAD_BYTES c =
    let left_at : ℕ = c.args.left in
    let gotAt : ℕ = length c.args.got.now in
    let more = c.if-left-gt-PAYLOAD_BYTES.true in
    gives_as (left_more c.args.place (left_at) (gotAt) more (omega (arith, c.if-got-at_once.false, c.at_once.ensures, at_once_over (left_at) more))) (c.read_away.ensures _)

pub returns : goal.returns
returns c =
    let left_at : ℕ = c.args.left in
    let gotAt : ℕ = length c.args.got.now in
    let all = c.if-left-gt-PAYLOAD_BYTES.false in
    gives_as (left_done c.args.place (left_at) (gotAt) all (omega (arith, c.if-got-at_once.false, c.at_once.ensures, at_once_all (left_at) all))) c.pass_over.ensures
