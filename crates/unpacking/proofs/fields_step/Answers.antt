use Rattle.std.proofs.Common.{◌≡◌, ◌<◌, sym, ap, ◌∙◌, lt-ltb, Ok}
use Rattle.train.specs.Train.{counted_width, fields_of}
use Rattle.train.specs.Paper.{paper_fields}
use Rattle.unpacking.specs.Unpack.{payload_bytes}
use Rattle.unpacking.specs.Steps.{away_told, fields_told}
use Rattle.unpacking.proofs.Turning.{gives_as}
use Rattle.unpacking.proofs.fields_step.Goals as goal

pub returns-in-Ok-Some : goal.returns-in-Ok-Some
returns-in-Ok-Some c = let p = c.args.place in
    let large : 65536 < c.in-Ok-Some.fields.length = c.if-fields-gt-PAYLOAD_BYTES.true in
    let read : fields_told p (fields_of (counted_width p.width) c.args.got.now) ≡ away_told p c.in-Ok-Some.fields.length =
    ap (fields_told p) (sym c.read_fields.ensures ∙ ap paper_fields (c.in-Ok-Some.is ∙ ap Ok c.in-Ok-Some.field-0-is))
    ∙ rw (lt-ltb payload_bytes c.in-Ok-Some.fields.length large) in
    gives_as read (c.read_away.ensures _)
