-- The numbers tell the refusals apart and are never 0, and the law by which every answer's cases are told apart. Assumes nothing.
use mathlib.Core.Path.{◌≡◌, refl, sym, ap, ◌∙◌}
use Prim.Native.Nat.{ℕ, zero, suc, ◌-◌, ◌≤◌}
use native.Mathlib.Omega.{arith}
use mathlib.Core.List.{List, [], ◌∷◌}
use lib.ListN.{get_or}
use Rattle.base.specs.Refusals.{number_of}
use Rattle.base.specs.declared.Refusal.{Refusal}
use Rattle.base.specs.declared.Refusal.TheVariants.{MtuOverLimit, UnitOverLimit, ExtensionMissing, SizeMissing, SizeUnfinished, SizeTooLarge, PayloadPastUnit, ObuListFull, PlanListFull, NoRoomForPayloads, NoUsablePacket, StateImpossible, PayloadLength, NotAhead, NewWithContinuation, ElementLengthBad, ElementBad, ObuBroken, FragmentTooLong, NoRoomForObus, TrainVersion, TrainCut, RecordTooShort, HeaderShort, ExtensionShort, ExtensionElementPastBlock, FieldOutOfRange, HeaderSpaceShort, NestedSizeUnreadable, NestedSizeMisfit, ListsDiffer, SumTooLarge, MtuBelowHeader, TimeOutOfRange, FrameEndsWrong, ContinuesNothing, OpenNotContinued, SizeBitSent, ElementLengthPadded, DroppedTypeSent}

-- all of them, in the order of their numbers
all : List Refusal
all = MtuOverLimit ∷ UnitOverLimit ∷ ExtensionMissing ∷ SizeMissing ∷ SizeUnfinished ∷ SizeTooLarge ∷ PayloadPastUnit ∷ ObuListFull ∷ PlanListFull ∷ NoRoomForPayloads ∷ NoUsablePacket ∷ StateImpossible ∷ PayloadLength ∷ NotAhead ∷ NewWithContinuation ∷ ElementLengthBad ∷ ElementBad ∷ ObuBroken ∷ FragmentTooLong ∷ NoRoomForObus ∷ TrainVersion ∷ TrainCut ∷ RecordTooShort ∷ HeaderShort ∷ ExtensionShort ∷ ExtensionElementPastBlock ∷ FieldOutOfRange ∷ HeaderSpaceShort ∷ NestedSizeUnreadable ∷ NestedSizeMisfit ∷ ListsDiffer ∷ SumTooLarge ∷ MtuBelowHeader ∷ TimeOutOfRange ∷ FrameEndsWrong ∷ ContinuesNothing ∷ OpenNotContinued ∷ SizeBitSent ∷ ElementLengthPadded ∷ DroppedTypeSent ∷ []

pub named : ℕ → Refusal
named n = get_or all (n - 1) MtuOverLimit

pub number_names : (r : Refusal) → named (number_of r) ≡ r
unfolding all named
number_names MtuOverLimit = refl
number_names UnitOverLimit = refl
number_names ExtensionMissing = refl
number_names SizeMissing = refl
number_names SizeUnfinished = refl
number_names SizeTooLarge = refl
number_names PayloadPastUnit = refl
number_names ObuListFull = refl
number_names PlanListFull = refl
number_names NoRoomForPayloads = refl
number_names NoUsablePacket = refl
number_names StateImpossible = refl
number_names PayloadLength = refl
number_names NotAhead = refl
number_names NewWithContinuation = refl
number_names ElementLengthBad = refl
number_names ElementBad = refl
number_names ObuBroken = refl
number_names FragmentTooLong = refl
number_names NoRoomForObus = refl
number_names TrainVersion = refl
number_names TrainCut = refl
number_names RecordTooShort = refl
number_names HeaderShort = refl
number_names ExtensionShort = refl
number_names ExtensionElementPastBlock = refl
number_names FieldOutOfRange = refl
number_names HeaderSpaceShort = refl
number_names NestedSizeUnreadable = refl
number_names NestedSizeMisfit = refl
number_names ListsDiffer = refl
number_names SumTooLarge = refl
number_names MtuBelowHeader = refl
number_names TimeOutOfRange = refl
number_names FrameEndsWrong = refl
number_names ContinuesNothing = refl
number_names OpenNotContinued = refl
number_names SizeBitSent = refl
number_names ElementLengthPadded = refl
number_names DroppedTypeSent = refl

-- what can be undone tells apart what it is made from
pub tells_apart : {R P : Type 0} (paper : R → P) (back : P → R) → ((r : R) → back (paper r) ≡ r) → (a b : R) → paper a ≡ paper b → a ≡ b
tells_apart paper back undone a b e = sym (undone a) ∙ ap back e ∙ undone b

pub number_one : (a b : Refusal) → number_of a ≡ number_of b → a ≡ b
number_one = tells_apart number_of named number_names

-- no refusal has the number 0: what 0 names has the number 1
positive : (n : ℕ) → (n ≡ 0 → n ≡ 1) → 1 ≤ n
positive zero e = absurd (omega (arith, e refl))
positive (suc n) e = omega arith

pub never_zero : (r : Refusal) → 1 ≤ number_of r
unfolding all named
never_zero r = positive (number_of r) (λ e. ap number_of (sym (number_names r) ∙ ap named e))
