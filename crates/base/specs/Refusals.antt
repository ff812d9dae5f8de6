-- The number of each refusal: R1 to R23, and those that nothing gives yet.
use Rattle.std.specs.Prelude.{ℕ}
use Rattle.base.specs.declared.Refusal.{Refusal}
use Rattle.base.specs.declared.Refusal.TheVariants.{MtuOverLimit, UnitOverLimit, ExtensionMissing, SizeMissing, SizeUnfinished, SizeTooLarge, PayloadPastUnit, ObuListFull, PlanListFull, NoRoomForPayloads, NoUsablePacket, StateImpossible, PayloadLength, NotAhead, NewWithContinuation, ElementLengthBad, ElementBad, ObuBroken, FragmentTooLong, NoRoomForObus, TrainVersion, TrainCut, RecordTooShort, HeaderShort, ExtensionShort, ExtensionElementPastBlock, FieldOutOfRange, HeaderSpaceShort, NestedSizeUnreadable, NestedSizeMisfit, ListsDiffer, SumTooLarge, MtuBelowHeader, TimeOutOfRange, FrameEndsWrong, ContinuesNothing, OpenNotContinued, SizeBitSent, ElementLengthPadded, DroppedTypeSent}

abbrev pub number_of : Refusal → ℕ
number_of MtuOverLimit = 1
number_of UnitOverLimit = 2
number_of ExtensionMissing = 3
number_of SizeMissing = 4
number_of SizeUnfinished = 5
number_of SizeTooLarge = 6
number_of PayloadPastUnit = 7
number_of ObuListFull = 8
number_of PlanListFull = 9
number_of NoRoomForPayloads = 10
number_of NoUsablePacket = 11
number_of StateImpossible = 12
number_of PayloadLength = 13
number_of NotAhead = 14
number_of NewWithContinuation = 15
number_of ElementLengthBad = 16
number_of ElementBad = 17
number_of ObuBroken = 18
number_of FragmentTooLong = 19
number_of NoRoomForObus = 20
number_of TrainVersion = 21
number_of TrainCut = 22
number_of RecordTooShort = 23
number_of HeaderShort = 24
number_of ExtensionShort = 25
number_of ExtensionElementPastBlock = 26
number_of FieldOutOfRange = 27
number_of HeaderSpaceShort = 28
number_of NestedSizeUnreadable = 29
number_of NestedSizeMisfit = 30
number_of ListsDiffer = 31
number_of SumTooLarge = 32
number_of MtuBelowHeader = 33
number_of TimeOutOfRange = 34
number_of FrameEndsWrong = 35
number_of ContinuesNothing = 36
number_of OpenNotContinued = 37
number_of SizeBitSent = 38
number_of ElementLengthPadded = 39
number_of DroppedTypeSent = 40
