-- What a machine's kind has to show: lawful states are ten words, the rule keeps to them and reads 28 bits.
use Rattle.std.specs.Prelude.{◌≡◌, ℕ, zero, suc, ◌+◌, ◌-◌, ◌/◌, ◌%◌, ◌^◌, ◌<◌, ◌≤◌, Bool, true, false, cond, ◌&&◌, List, [], ◌∷◌, length, get_or, drop, is_ok, Some, None, Ok, Err, Option, Result, ◌==◌, nat_le, nat_lt, slice_index, slice_index_or, refl}
use Rattle.std.proofs.Common.{⊎_elim, ◌∙◌, ap, arith}
use Rattle.machine.specs.Machines.{Words, read, address, value}
use Rattle.std.specs.List.{AllByRecursion}
use Rattle.std.proofs.Math.Pow.{mod-mod-pow}
use Rattle.std.proofs.Math.Nat.{mod-mod}
use Rattle.std.proofs.lemmas.Nat.{field_of}
use Rattle.std.proofs.ByRecursion.{All-set}
use Rattle.std.proofs.lemmas.Bool.{and_parts, and_from, eqb-true, eq-eqb, ltb-true, lt-ltb, or_right, or_cases, cond_both, false≢true}
use Rattle.tape.specs.Cells.{cells_small, packed_words, packed_cells, length_packed}
use Rattle.tape.specs.Layout.{wide, configuration, words, fit, known, lawful}
use Rattle.tape.specs.Tables.{taken, sound}
use Rattle.tape.specs.Tapes.{next}
use Rattle.tape.specs.Turing.{Configuration, rest, size, scanned, found, place, edge, marked, acted, turn, fed, scan}
use Rattle.tape.specs.declared.entry.Entry.{Entry}
use Rattle.tape.specs.declared.entry.Move.{Move}
use Rattle.terms.specs.declared.Refusal.{Refusal}
use Rattle.terms.specs.declared.Refusal.TheVariants.{NoControl, BadSymbol}
use Rattle.tape.specs.declared.entry.Move.TheVariants.{Left, Right, Stay}

pub broad_by : (1 ≤ wide) × (wide ≤ 32)
broad_by = (omega arith, omega arith)

pub words_fit : (x : List ℕ) → fit x ≡ true → Words x
words_fit [] h = tt
words_fit (w ∷ ws) h = let p = and_parts (nat_lt w (2 ^ 32)) (fit ws) h in (ltb-true w (2 ^ 32) p.0, words_fit ws p.1)

pub fit_words : (x : List ℕ) → Words x → fit x ≡ true
fit_words [] h = refl
fit_words (w ∷ ws) h = and_from (nat_lt w (2 ^ 32)) (fit ws) (lt-ltb w (2 ^ 32) h.0) (fit_words ws h.1)

-- the parts of a lawful state, and lawful by its parts
pub record Lawful (states : ℕ) (x : List ℕ) : Type 0 where
  pub long : length x ≡ wide
  pub words : Words x
  pub control : known states (slice_index x 0) ≡ true
  pub head : get_or x 1 0 < size

pub parts : (states : ℕ) (x : List ℕ) → lawful states x ≡ true → Lawful states x
parts states x h =
    let a = and_parts (length x == wide) (fit x && (known states (slice_index x 0) && nat_lt (slice_index x 1) size)) h in
    let b = and_parts (fit x) (known states (slice_index x 0) && nat_lt (slice_index x 1) size) a.1 in
    let c = and_parts (known states (slice_index x 0)) (nat_lt (slice_index x 1) size) b.1 in
    record { long = eqb-true (length x) wide a.0; words = words_fit x b.0; control = c.0; head = ltb-true (slice_index x 1) size c.1 }

pub whole : (states : ℕ) (x : List ℕ) → Lawful states x → lawful states x ≡ true
whole states x h =
    and_from (length x == wide) (fit x && (known states (slice_index x 0) && nat_lt (slice_index x 1) size)) (eq-eqb (length x) wide h.long)
    (and_from (fit x) (known states (slice_index x 0) && nat_lt (slice_index x 1) size) (fit_words x h.words)
    (and_from (known states (slice_index x 0)) (nat_lt (slice_index x 1) size) h.control (lt-ltb (slice_index x 1) size h.head)))

pub sized_by : (states : ℕ) (x : List ℕ) → lawful states x ≡ true → (length x ≡ wide) × Words x
sized_by states x h = let p = parts states x h in (p.long, p.words)

-- a configuration that a lawful state holds
pub record Good (states : ℕ) (c : Configuration) : Type 0 where
  pub control : known states c.control ≡ true
  pub head : c.head < size
  pub cells : AllByRecursion (λ s. s < 4) c.cells

pub held : (states : ℕ) (x : List ℕ) → Lawful states x → Good states (configuration x)
held states x h = record { control = h.control; head = h.head; cells = cells_small (drop 2 x) }

pub fed_good : (states input : ℕ) (c : Configuration) → Good states c → Good states (fed input c)
fed_good states input c h =
    cond_both (nat_lt 0 (address input) && nat_le (address input) size) (marked (address input - 1) (value input % 4) c) c (Good states)
    (λ _. record { control = h.control; head = h.head; cells = All-set (λ s. s < 4) c.cells (address input - 1) (value input % 4) (omega arith) h.cells })
    (λ _. h)

rests : (states : ℕ) → known states rest ≡ true
rests states = or_right (nat_lt rest states) (rest == rest) refl

edge_good : (states : ℕ) (m : Move) (head to : ℕ) → head < size → known states to ≡ true → ((edge m head to).0 < size) × (known states (edge m head to).1 ≡ true)
edge_good states Left head to h k =
    cond_both {A = ℕ × ℕ} (nat_lt 0 head) (head - 1, to) (head, rest) (λ r. (r.0 < size) × (known states r.1 ≡ true)) (λ _. (omega arith, k)) (λ _. (h, rests states))
edge_good states Right head to h k =
    cond_both {A = ℕ × ℕ} (nat_lt (head + 1) size) (head + 1, to) (head, rest) (λ r. (r.0 < size) × (known states r.1 ≡ true)) (λ e. (ltb-true (head + 1) size e, k)) (λ _. (h, rests states))
edge_good states Stay head to h k = (h, k)

-- what is known of an entry that is taken
both_true : (a b : Bool) → is_ok (cond {A = Result (Unit {0}) Refusal} a (cond b (Ok tt) (Err BadSymbol)) (Err NoControl)) ≡ true → (a ≡ true) × (b ≡ true)
both_true true true h = (refl, refl)
both_true true false h = absurd (false≢true h)
both_true false b h = absurd (false≢true h)

pub record Kept (states : ℕ) (e : Entry) : Type 0 where
  pub control : e.control < states
  pub next : known states e.next ≡ true
  pub read : e.read < 4
  pub write : e.write < 4

pub kept : (states : ℕ) (e : Entry) → taken states (Some e) ≡ true → Kept states e
kept states e h =
    let p = both_true (nat_lt e.control states && known states e.next) (nat_lt e.read 4 && nat_lt e.write 4) h in
    let a = and_parts (nat_lt e.control states) (known states e.next) p.0 in
    let b = and_parts (nat_lt e.read 4) (nat_lt e.write 4) p.1 in
    record { control = ltb-true e.control states a.0; next = a.1; read = ltb-true e.read 4 b.0; write = ltb-true e.write 4 b.1 }

pub sound_at : (states : ℕ) (table : List (Option Entry)) (k : ℕ) → sound states table ≡ true → taken states (slice_index_or table k None) ≡ true
sound_at states [] k h = refl
sound_at states (o ∷ os) zero h = (and_parts (taken states o) (sound states os) h).0
sound_at states (o ∷ os) (suc k) h = sound_at states os k (and_parts (taken states o) (sound states os) h).1

acted_good : (states : ℕ) (o : Option Entry) (c : Configuration) → taken states o ≡ true → Good states c → Good states (acted o c)
acted_good states None c t h = record { control = rests states; head = h.head; cells = h.cells }
acted_good states (Some e) c t h =
    let k = kept states e t in
    let g = edge_good states e.motion c.head e.next h.head k.next in
    record { control = g.1; head = g.0; cells = All-set (λ s. s < 4) c.cells c.head e.write k.write h.cells }

turn_good : (states : ℕ) (table : List (Option Entry)) (c : Configuration) → sound states table ≡ true → Good states c → Good states (turn table c)
turn_good states table c g h =
    cond_both (c.control == rest) c (acted (found table c.control (scanned c)) c) (Good states) (λ _. h)
    (λ _. acted_good states (found table c.control (scanned c)) c (sound_at states table (place c.control (scanned c)) g) h)

-- a known control is a word of 32 bits
known_fits : (states control : ℕ) → states ≤ 16 → known states control ≡ true → control < 2 ^ 32
known_fits states control few k =
    ⊎_elim (λ e. omega (arith, ltb-true control states e)) (λ e. omega (arith, eqb-true control rest e)) (or_cases (nat_lt control states) (control == rest) k)

-- the words of such a configuration are lawful
pub words_lawful : (states : ℕ) (c : Configuration) → states ≤ 16 → Good states c → lawful states (words c) ≡ true
unfolding words
words_lawful states c few h =
    whole states (words c) (record { long = ap (λ n. suc (suc n)) (length_packed 8 c.cells); words = (known_fits states c.control few h.control, (omega (arith, h.head), packed_words 8 c.cells h.cells)); control = h.control; head = h.head })

-- ten words are the words of the configuration that they hold
pub words_configuration : (x : List ℕ) → length x ≡ wide → Words x → words (configuration x) ≡ x
unfolding words
words_configuration [] e h = absurd (omega arith)
words_configuration (a ∷ []) e h = absurd (omega arith)
words_configuration (a ∷ b ∷ ws) e h = ap (λ t. a ∷ b ∷ t) (packed_cells 8 ws (omega arith) h.1.1)

pub goes_by : (states : ℕ) (table : List (Option Entry)) → states ≤ 16 → sound states table ≡ true → (x : List ℕ) (i : ℕ) → lawful states x ≡ true → lawful states (next table x i) ≡ true
goes_by states table few g x i h =
    words_lawful states (scan table i (configuration x)) few
    (turn_good states table (fed i (configuration x)) g (fed_good states i (configuration x) (held states x (parts states x h))))

-- the rule reads the address and the value, which are among the low 28 bits
pub reads_by : (table : List (Option Entry)) (x : List ℕ) (i : ℕ) → next table x (read i) ≡ next table x i
reads_by table x i =
    let f : ℕ → ℕ → List ℕ = λ a v. words (turn table (cond (nat_lt 0 a && nat_le a size) (marked (a - 1) (v % 4) (configuration x)) (configuration x))) in
    let a : address (read i) ≡ address i = mod-mod-pow i 12 16 in
    let v : value (read i) ≡ value i = ap (λ k. k % 2 ^ 12) (field_of i 12 16) ∙ mod-mod (i / 2 ^ 16) (2 ^ 12) in
    ap (λ k. f k (value (read i))) a ∙ ap (λ k. f (address i) k) v
