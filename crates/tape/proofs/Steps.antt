-- One scan on words and on configurations, and what it leaves as it was.
use Rattle.std.proofs.Common.{◌≡◌, ℕ, ◌+◌, ◌*◌, ◌/◌, ◌%◌, ◌≤◌, true, List, length, get_or, drop, Some, None, Option, sym, refl, ap, ◌∙◌, subst, arith}
use Rattle.machine.specs.Machines.{address}
use Rattle.std.proofs.lemmas.List.{get_or-set_other, length-drop, get_or-drop}
use Rattle.std.proofs.lemmas.Bool.{lt-ltb}
use Rattle.tape.proofs.Marks.{pairs}
use Rattle.tape.specs.Cells.{cell_at}
use Rattle.tape.specs.Laws.{kept, sound_at, words_fit, words_configuration, goes_by}
use Rattle.tape.specs.declared.tape.Tape.{Tape}
use Rattle.tape.specs.declared.tape.memory.Memory.{Memory}
use Rattle.tape.specs.Layout.{wide, configuration, words, lawful}
use Rattle.tape.specs.Locality.{Local, Near, Located}
use Rattle.tape.specs.Tables.{taken, sound, small}
use Rattle.tape.specs.Turing.{Configuration, edge, acted, fed, scan}
use Rattle.tape.specs.declared.entry.Entry.{Entry}
use Rattle.tape.specs.declared.entry.Move.{Move}
use Rattle.tape.specs.declared.entry.Move.TheVariants.{Left, Right, Stay}

-- what a sound table holds writes symbols
pub small_at : (states : ℕ) (table : List (Option Entry)) (k : ℕ) → sound states table ≡ true → small (get_or table k None) ≡ true
small_at states table k g = by (get_or table k None) (sound_at states table k g)
  where
    by : (o : Option Entry) → taken states o ≡ true → small o ≡ true
    by None t = refl
    by (Some e) t = lt-ltb e.write 4 (kept states e t).write

-- a state that holds a configuration is its words
pub held_words : (m : Memory) (c : Configuration) → configuration m.words ≡ c → m.words ≡ words c
held_words m c e = sym (words_configuration m.words m.long (words_fit m.words m.fits)) ∙ ap words e

-- a state that holds the next configuration is lawful
pub next_lawful : (t : Tape) (i : ℕ) (m : Memory) → configuration m.words ≡ scan t.entries i (configuration t.memory.words) → lawful t.count m.words ≡ true
next_lawful t i m e =
    let P : List ℕ → Type 0 = λ x. lawful t.count x ≡ true in
    subst P (sym (held_words m (scan t.entries i (configuration t.memory.words)) e)) (goes_by t.count t.entries t.few t.good t.memory.words i t.law)

module _ (table : List (Option Entry)) (i : ℕ) where
  fed_local : (c : Configuration) (k : ℕ) → (k + 1 ≡ address i → ⊥) → get_or (fed i c).cells k 0 ≡ get_or c.cells k 0
  fed_local c k n = grind (arith, get_or-set_other)

  fed_still : (c : Configuration) → ((fed i c).control ≡ c.control) × ((fed i c).head ≡ c.head)
  fed_still c = grind arith

  acted_local : (o : Option Entry) (c : Configuration) (k : ℕ) → (k ≡ c.head → ⊥) → get_or (acted o c).cells k 0 ≡ get_or c.cells k 0
  acted_local None c k n = refl
  acted_local (Some e) c k n = get_or-set_other c.cells c.head k e.write 0 n

  edge_near : (m : Move) (head to : ℕ) → ((edge m head to).0 ≤ head + 1) × (head ≤ (edge m head to).0 + 1)
  edge_near Left head to = grind arith
  edge_near Right head to = grind arith
  edge_near Stay head to = grind arith

  acted_near : (o : Option Entry) (c : Configuration) → Near c (acted o c)
  acted_near None c = grind arith
  acted_near (Some e) c = edge_near e.motion c.head e.next

  pub scan_local : (c : Configuration) → Local i c (scan table i c)
  scan_local c k n m = grind (arith, fed_local, fed_still, acted_local)

  pub scan_near : (c : Configuration) → Near c (scan table i c)
  scan_near c = grind (arith, fed_still, acted_near)

-- a cell where the layout has it
pub located : (x : List ℕ) → length x ≡ wide → Located x
located x long k h =
    let l = length-drop 2 x in
    let g = get_or-drop 2 x (k / 16) 0 in
    let a = cell_at (drop 2 x) (k / 16) (k % 16) (omega arith) (omega arith) in
    let p = pairs (k % 16) in
    let d : 16 * (k / 16) + k % 16 ≡ k = omega arith in
    cc
