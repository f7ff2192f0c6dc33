-- The Turing machine of the textbooks on a tape of 128 cells: configurations, tables, one step, and the edges.
use Rattle.std.specs.Prelude.{ℕ, ◌+◌, ◌-◌, ◌*◌, ◌%◌, cond, ◌&&◌, List, Some, None, Option, ◌==◌, nat_le, nat_lt, slice_index, slice_index_or, slice_set}
use Rattle.machine.specs.Machines.{address, value}
use Rattle.tape.specs.declared.entry.Entry.{Entry}
use Rattle.tape.specs.declared.entry.Move.{Move}
use Rattle.tape.specs.declared.entry.Move.TheVariants.{Left, Right, Stay}

-- a configuration: the control state, the number of the cell under the head, and the symbol of each cell
pub record Configuration : Type 0 where
  pub control : ℕ
  pub head : ℕ
  pub cells : List ℕ

-- the control that means rest
abbrev pub rest : ℕ
rest = 255

-- the number of cells
abbrev pub size : ℕ
size = 128

-- the symbol under the head
abbrev pub scanned : Configuration → ℕ
scanned c = slice_index c.cells c.head

-- where a table keeps the entry for a control state and a symbol
abbrev pub place : ℕ → ℕ → ℕ
place control symbol = 4 * control + symbol

-- a table's entry for a control state and a symbol, if it has one
abbrev pub found : List (Option Entry) → ℕ → ℕ → Option Entry
found table control symbol = slice_index_or table (place control symbol) None

-- Where a move leads from a cell, and the control that is taken there: the entry's next control.
-- A move off either end leaves the head and comes to rest.
abbrev pub edge : Move → ℕ → ℕ → ℕ × ℕ
edge Left head next = cond (nat_lt 0 head) (head - 1, next) (head, rest)
edge Right head next = cond (nat_lt (head + 1) size) (head + 1, next) (head, rest)
edge Stay head next = (head, next)

-- the configuration with a symbol in a cell
abbrev pub marked : ℕ → ℕ → Configuration → Configuration
marked cell symbol c = record { control = c.control; head = c.head; cells = slice_set c.cells cell symbol }

-- an entry is carried out: its symbol is written, the head moves, the control changes; a missing entry only comes to rest
abbrev pub acted : Option Entry → Configuration → Configuration
acted None c = record { control = rest; head = c.head; cells = c.cells }
acted (Some e) c = record { control = (edge e.motion c.head e.next).1; head = (edge e.motion c.head e.next).0; cells = slice_set c.cells c.head e.write }

-- one step of the machine: at rest nothing, otherwise the entry for the control and the symbol under the head
abbrev pub turn : List (Option Entry) → Configuration → Configuration
turn table c = cond (c.control == rest) c (acted (found table c.control (scanned c)) c)

-- an input whose address is a cell's number plus one writes its value, modulo 4, into that cell
abbrev pub fed : ℕ → Configuration → Configuration
fed input c = cond (nat_lt 0 (address input) && nat_le (address input) size) (marked (address input - 1) (value input % 4) c) c

-- a scan: the input is written, then the machine makes one step
abbrev pub scan : List (Option Entry) → ℕ → Configuration → Configuration
scan table input c = turn table (fed input c)
