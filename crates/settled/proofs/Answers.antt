-- For every answer of a call: the number and values that the rules have for it tell its cases apart (K3). Each definition is undone case by
-- case, and one law, `tells_apart`, does the rest. Assumes nothing.
use mathlib.Core.Path.{◌≡◌, refl, ap}
use Prim.Native.Nat.{ℕ}
use Rattle.std.specs.Prelude.{Option, Some, None, Result, Ok, Err}
use Rattle.base.specs.Answers.{Answer, given, refused, paper, paper_at}
use Rattle.base.specs.declared.Refusal.{Refusal}
use Rattle.base.specs.declared.RefusedAt.{RefusedAt}
use Rattle.base.proofs.Refusals.{named, number_names, tells_apart}
use Rattle.obu.specs.Front as front
use Rattle.obu.specs.Paper as obu
use Rattle.obu.specs.declared.Head.{Head}
use Rattle.train.specs.Train as train
use Rattle.train.specs.Paper as trains
use Rattle.train.specs.declared.RecordFields.{RecordFields}
use Rattle.train.specs.declared.RecordHead.{RecordHead}

-- an answer of two cases, back from what was asked for or from the refusal
back : {A : Type 0} → Answer A → Result A Refusal
back (given a) = Ok a
back (refused n at) = Err (named n)

pub answer_one : {A : Type 0} (a b : Result A Refusal) → paper a ≡ paper b → a ≡ b
unfolding back
answer_one {A} = tells_apart paper back undone
  where
    undone : (r : Result A Refusal) → back (paper r) ≡ r
    undone (Ok a) = refl
    undone (Err r) = ap (λ (q : Refusal). Err q) (number_names r)

-- the same with the refusal's place
back_at : {A : Type 0} → Answer A → Result A RefusedAt
back_at (given a) = Ok a
back_at (refused n at) = Err (record { refusal = named n; at = at })

pub placed_one : {A : Type 0} (a b : Result A RefusedAt) → paper_at a ≡ paper_at b → a ≡ b
unfolding back_at
placed_one {A} = tells_apart paper_at back_at undone
  where
    undone : (r : Result A RefusedAt) → back_at (paper_at r) ≡ r
    undone (Ok a) = refl
    undone (Err e) = ap (λ (q : Refusal). Err (record { refusal = q; at = e.at })) (number_names e.refusal)

-- ---- OBUs

read_back : front.Seen → Result Head Refusal
read_back (front.found f) = Ok (record { header = f.header; extension = f.extension; field = f.field; payload = f.payload })
read_back (front.stopped n) = Err (named n)

pub read_one : (a b : Result Head Refusal) → obu.paper_read a ≡ obu.paper_read b → a ≡ b
unfolding read_back
read_one = tells_apart obu.paper_read read_back undone
  where
    undone : (r : Result Head Refusal) → read_back (obu.paper_read r) ≡ r
    undone (Ok f) = refl
    undone (Err r) = ap (λ (q : Refusal). Err q) (number_names r)

whole_back : Answer front.Front → Result Head Refusal
whole_back (given f) = Ok (record { header = f.header; extension = f.extension; field = f.field; payload = f.payload })
whole_back (refused n at) = Err (named n)

pub whole_one : (a b : Result Head Refusal) → obu.paper_whole a ≡ obu.paper_whole b → a ≡ b
unfolding whole_back
whole_one = tells_apart obu.paper_whole whole_back undone
  where
    undone : (r : Result Head Refusal) → whole_back (obu.paper_whole r) ≡ r
    undone (Ok f) = refl
    undone (Err r) = ap (λ (q : Refusal). Err q) (number_names r)

-- ---- trains

fields_back : train.Fields → Result (Option RecordFields) Refusal
fields_back train.over = Ok None
fields_back (train.before f) = Ok (Some f)
fields_back (train.bad n) = Err (named n)

pub fields_one : (a b : Result (Option RecordFields) Refusal) → trains.paper_fields a ≡ trains.paper_fields b → a ≡ b
unfolding fields_back
fields_one = tells_apart trains.paper_fields fields_back undone
  where
    undone : (r : Result (Option RecordFields) Refusal) → fields_back (trains.paper_fields r) ≡ r
    undone (Ok None) = refl
    undone (Ok (Some f)) = refl
    undone (Err r) = ap (λ (q : Refusal). Err q) (number_names r)

found_back : train.Front → Result (Option RecordHead) Refusal
found_back train.ends = Ok None
found_back (train.holds h) = Ok (Some h)
found_back (train.stops n) = Err (named n)

pub found_one : (a b : Result (Option RecordHead) Refusal) → trains.paper_record a ≡ trains.paper_record b → a ≡ b
unfolding found_back
found_one = tells_apart trains.paper_record found_back undone
  where
    undone : (r : Result (Option RecordHead) Refusal) → found_back (trains.paper_record r) ≡ r
    undone (Ok None) = refl
    undone (Ok (Some h)) = refl
    undone (Err r) = ap (λ (q : Refusal). Err q) (number_names r)
