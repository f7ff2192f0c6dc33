-- The published number of each refusal, the place of those that have one, and how both are printed.
use Rattle.std.specs.Prelude.{ℕ, List, ◌++◌, Some, None, Option, codes, decimal}
use Rattle.terms.specs.declared.Failure.{Failure}
use Rattle.terms.specs.declared.Failure.TheVariants.{Refused, NoMemory}
use Rattle.terms.specs.declared.Place.{Place}
use Rattle.terms.specs.declared.Refusal.{Refusal}
use Rattle.terms.specs.declared.Refusal.TheVariants.{TooLong, StrayMore, UnknownKind, WrongTotal, AfterEnd, NoEnd, NoRoom, Closed, WideContent, NotOpen, BadSlots, WidthsDiffer, AtStart, AlreadyOpen, AtEnd, NoWord, WrongLength, Unlawful, NoControl, BadSymbol, NoCell, OutOfLimits, NoSlot, WrongWidth, EmptySlot, UnevenPair, BadPool, TooManySlots}

abbrev pub number : Refusal → ℕ
number TooLong = 11
number (StrayMore at) = 12
number (UnknownKind at) = 13
number (WrongTotal at) = 14
number (AfterEnd at) = 15
number (NoEnd at) = 16
number NoRoom = 17
number Closed = 18
number WideContent = 19
number NotOpen = 20
number BadSlots = 21
number WidthsDiffer = 22
number AtStart = 23
number AlreadyOpen = 24
number AtEnd = 25
number NoWord = 26
number WrongLength = 31
number Unlawful = 32
number NoControl = 33
number BadSymbol = 34
number NoCell = 35
number OutOfLimits = 36
number NoSlot = 41
number WrongWidth = 42
number EmptySlot = 43
number UnevenPair = 44
number BadPool = 45
number TooManySlots = 46

abbrev pub place : Refusal → Option Place
place TooLong = Some (record { 0 = 0 })
place (StrayMore at) = Some at
place (UnknownKind at) = Some at
place (WrongTotal at) = Some at
place (AfterEnd at) = Some at
place (NoEnd at) = Some at
place _ = None

-- a number in decimal digits, and ` at ` with the place where there is one
abbrev pub numbered : ℕ → Option Place → List ℕ
numbered n (Some at) = decimal n ++ codes " at " ++ decimal at.0
numbered n None = decimal n

-- how a refusal is printed: `12 at 1`
abbrev pub refusal_text : Refusal → List ℕ
refusal_text refusal = numbered (number refusal) (place refusal)

-- how a failure is printed: `refused: 12 at 1`
abbrev pub failure_text : Failure → List ℕ
failure_text (Refused refusal) = codes "refused: " ++ refusal_text refusal
failure_text NoMemory = codes "no memory"
