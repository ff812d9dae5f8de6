-- Payloads.
use mathlib.Core.Path.{◌≡◌}
use mathlib.Core.List.{map}
use Rattle.payloader.proofs.Totals as totals
use Rattle.payloader.proofs.Starts as starts
use Rattle.payload_laws.proofs.Lengths as lengths
use Rattle.payload_laws.proofs.Rows as rows
use Rattle.claims.specs.Payloads.{PayloadAt, PayloadSize, PayloadFits, JoinedLength, StartIs, PayloadStands}

pub payload_at_lem : PayloadAt
payload_at_lem = lengths.payload_at_lem

pub payload_size : PayloadSize
payload_size = lengths.payload_size

pub payload_fits : PayloadFits
payload_fits = lengths.payload_fits

pub joined_length : JoinedLength
joined_length = totals.joined_length

pub start_is : StartIs
start_is = starts.start_is

pub payload_stands : PayloadStands
payload_stands = starts.payload_stands

-- the rows of U marked P, computed

pub table : map rows.answered rows.rows ≡ map (λ (r : rows.Row). r.result) rows.rows
table = rows.table

-- and by a call for each packet
pub table_singly : map rows.answered_singly rows.rows ≡ map (λ (r : rows.Row). r.result) rows.rows
table_singly = rows.singly
