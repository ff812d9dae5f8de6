-- OBUs.
use Rattle.obu.proofs.Fronts as fronts
use Rattle.obu.proofs.Scans as scans
use Rattle.obu.proofs.Theorems as theorems
use Rattle.claims.specs.Obus.{FrontSpans, ScanFound, KeptInside, InsideSize, SentLength, WireSent, WireSmall}

pub front_spans : FrontSpans
front_spans = fronts.front_spans

pub scan_found : ScanFound
scan_found = scans.scan_found

pub kept_inside : KeptInside
kept_inside = theorems.kept_inside

pub inside_size : InsideSize
inside_size = theorems.inside_size

pub sent_length : SentLength
sent_length = theorems.sent_length

pub wire_sent : WireSent
wire_sent = theorems.wire_sent

pub wire_small : WireSmall
wire_small = theorems.wire_small
