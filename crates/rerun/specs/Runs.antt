-- A run: the state after each scan, the words that tell these states, and the walk from place to place.
use Rattle.std.specs.Prelude.{ℕ, zero, suc, List, [], ◌++◌, length, Some, None, Option, slice_index}
use Rattle.std.specs.Option.{unwrap_or}
use Rattle.terms.specs.declared.Place.{Place}
use Rattle.machine.specs.Machines.{run}
use Rattle.machine.specs.declared.Machine as machine
use Rattle.source.specs.Scans.{Sample, inputs, reading}
use Rattle.source.specs.declared.Source as source

-- x(i), the state after the first i inputs: x(0) is the state before, x(i + 1) is `next` of x(i) and input i
abbrev pub at : (next : List ℕ → ℕ → List ℕ) (x inputs : List ℕ) → ℕ → List ℕ
at next x inputs zero = x
at next x inputs (suc i) = next (at next x inputs i) (slice_index inputs i)

-- the words of x(1), x(2), .. x(n), one state after another
abbrev pub told : (next : List ℕ → ℕ → List ℕ) (x inputs : List ℕ) → ℕ → List ℕ
told next x inputs zero = []
told next x inputs (suc n) = told next x inputs n ++ at next x inputs (suc n)

-- x(total), the state after every scan of a list
abbrev pub end_state : (next : List ℕ → ℕ → List ℕ) (x : List ℕ) → List Sample → List ℕ
end_state next x scans = at next x (inputs scans) (length scans)

-- the words of x(1), x(2), .. x(total)
abbrev pub all_told : (next : List ℕ → ℕ → List ℕ) (x : List ℕ) → List Sample → List ℕ
all_told next x scans = told next x (inputs scans) (length scans)

-- the input at a place, with the next place; nothing where there is no such place
abbrev pub scan_at : List Sample → Option Place → ℕ × Option Place
scan_at scans None = (0, None)
scan_at scans (Some place) = unwrap_or (reading scans place.0) (0, None)

-- a machine before a run through a source, by what both stand for
module _ {M S : Type 0} (m : machine.Ghosts M) (s : source.Ghosts S) (x : M) (y : S) where
  -- its state after one step by the scan at a place
  abbrev pub stepped : Option Place → List ℕ
  stepped place = m.next x (m.state x) (scan_at (s.scans y) place).0

  -- its state after every scan
  abbrev pub end_of : List ℕ
  end_of = end_state (m.next x) (m.state x) (s.scans y)

  -- the same as a run of the inputs
  abbrev pub run_of : List ℕ
  run_of = run (m.next x) (m.state x) (inputs (s.scans y))

  -- the words of its states after each scan
  abbrev pub told_of : List ℕ
  told_of = all_told (m.next x) (m.state x) (s.scans y)
