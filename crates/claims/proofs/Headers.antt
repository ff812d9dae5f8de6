-- The aggregation header.
use mathlib.Core.Path.{◌≡◌}
use mathlib.Core.List.{map}
use Rattle.aggregation.proofs.Laws as laws
use Rattle.aggregation.proofs.Headers as headers
use Rattle.payload_laws.proofs.New as new
use Rattle.settled.proofs.Calls as calls
use Rattle.claims.specs.Headers.{ByteZ, ByteY, ByteW, ByteN, ByteLow, Alike, SameHeader}

pub byte_z : ByteZ
byte_z = laws.byte_z

pub byte_y : ByteY
byte_y = laws.byte_y

pub byte_w : ByteW
byte_w = laws.byte_w

pub byte_n : ByteN
byte_n = laws.byte_n

-- the rows of H10, computed

pub new_table : map new.new_of new.rows ≡ map (λ (r : new.Row). r.new) new.rows
new_table = new.table

pub byte_low : ByteLow
byte_low = laws.byte_low

pub alike : Alike
alike = headers.alike

pub same_header : SameHeader
same_header = calls.same_header
