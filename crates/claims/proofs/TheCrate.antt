-- The crate, transcribed, and that the port does the same but for N and size fields (D2).
use mathlib.Core.Path.{◌≡◌}
use mathlib.Core.List.{map}
use Rattle.crate_laws.specs.Same.{SameUnits, SentAllowed, ListedSame, PlannedSame, SentSame, FieldsSame, SamePlans, NeverSplits, SameLater, EqualPayloads}
use Rattle.crate_laws.specs.Pieces.{EqualPieces}
use Rattle.crate_laws.specs.Parted.{NewDiffers}
use Rattle.crate_laws.specs.Turns.{EnoughTurns}
use Rattle.crate_laws.proofs.Same as same
use Rattle.crate_laws.proofs.Fields as fields
use Rattle.crate_laws.proofs.Plans as plans
use Rattle.crate_laws.proofs.WholeSteps as steps
use Rattle.crate_laws.proofs.Pieces as pieces
use Rattle.crate_laws.proofs.New as new
use Rattle.crate_laws.proofs.Turns as turns
use Rattle.crate_laws.proofs.Rows as rows

-- on every accepted unit: the same list, plan, Z, Y and W, and payloads of the same pieces

pub same_units : SameUnits
same_units = same.same_units

pub sent_allowed : SentAllowed
sent_allowed = same.sent_allowed

pub listed_same : ListedSame
listed_same = same.listed_same

pub planned_same : PlannedSame
planned_same = same.planned_same

pub sent_same : SentSame
sent_same = same.sent_same

pub fields_same : FieldsSame
fields_same = fields.fields_same

pub same_plans : SamePlans
same_plans = plans.same_plans

pub never_splits : NeverSplits
never_splits = steps.never_splits

-- N: after packet 0 header bytes are the same; on packet 0 the crate or we may set it alone

pub same_later : SameLater
same_later = new.same_later

pub new_differs : NewDiffers
new_differs = rows.new_differs

-- the payloads byte for byte, where no length is of 128 or more and N of packet 0 is the same

pub equal_pieces : EqualPieces
equal_pieces = pieces.equal_pieces

pub equal_payloads : EqualPayloads
equal_payloads = new.equal_payloads

-- the transcription: its loops end within their turns, and it computes to what the crate was seen to do

pub enough_turns : EnoughTurns
enough_turns = turns.enough_turns

pub seen : map (λ (r : rows.Row). rows.seen_of r.mtu r.unit) rows.rows ≡ map (λ (r : rows.Row). r.outcome) rows.rows
seen = rows.table
