use Rattle.std.proofs.Common.{rules, arith}
use Rattle.packing.proofs.Reading.{length_none, length_cut, length_over, length_stated}
use Rattle.packing.proofs.input.read_unit_length.Goals as goal

pub returns-then-is_empty : goal.returns-then-is_empty
returns-then-is_empty c = length_none c.args.bytes.now (search rules)

pub returns-then-bytes-lt-UNIT_WIDTH : goal.returns-then-bytes-lt-UNIT_WIDTH
returns-then-bytes-lt-UNIT_WIDTH c = length_cut c.args.bytes.now (search rules) c.if-bytes-lt-UNIT_WIDTH.true

pub returns-then-stated-gt-UNIT_STORE : goal.returns-then-stated-gt-UNIT_STORE
returns-then-stated-gt-UNIT_STORE c = length_over c.args.bytes.now c.number_at-stated.result (omega arith) c.if-bytes-lt-UNIT_WIDTH.false c.number_at-stated.ensures.is c.if-stated-gt-UNIT_STORE.true

pub returns : goal.returns
returns c = length_stated c.args.bytes.now c.number_at-stated.result (omega arith) c.if-bytes-lt-UNIT_WIDTH.false c.number_at-stated.ensures.is c.if-stated-gt-UNIT_STORE.false
