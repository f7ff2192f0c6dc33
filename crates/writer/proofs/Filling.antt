-- Words that are filled record by record.
use Rattle.std.proofs.Common.{◌≡◌, ℕ, ◌+◌, ◌-◌, ◌^◌, ◌<◌, ◌≤◌, Bool, true, false, cond, ltb, List, [], ◌∷◌, ◌++◌, length, take, drop, Ok, Err, sym, refl, ap, ◌∙◌, subst, arith}
use Rattle.std.proofs.lemmas.List.{append_assoc, append-nil, length-append, length-take, take_at, drop_at, drop-drop, length-drop}
use Rattle.std.proofs.lemmas.Bool.{le-ltb, lt-ltb, ltb-true, and_from, and_parts, ne_eqb, eq-eqb}
use Rattle.terms.specs.declared.Refusal.TheVariants.{WideContent, NoRoom}
use Rattle.recording.specs.Format.{kind, word, scanned, longest}
use Rattle.recording.specs.Records.{Record, scan, mark, idle, Contents, Fine, AllFine, spelled, spelling, scans_in, closed}
use Rattle.writer.specs.declared.Writer.{Writer}
use Rattle.writer.specs.Writing.{narrow, contents, room, admitting, closing, over, scan_count}

-- a record has as many words as contents
pub spelled_long : (r : Record) → length (spelled r) ≡ length (contents r)
spelled_long (scan input) = refl
spelled_long (mark number more) = refl
spelled_long (idle k c more) = refl

-- the end is one word more
pub closed_long : (rs : List Record) → length (closed rs) ≡ length (spelling rs) + 1
closed_long rs = length-append (spelling rs) (word 3 (scans_in rs) ∷ [])

-- contents that fit 28 bits, by test and by fact

pub narrow_contents : (cs : List ℕ) → Contents cs → narrow cs ≡ true
narrow_contents [] h = refl
narrow_contents (c ∷ cs) h = and_from (ltb c (2 ^ 28)) (narrow cs) (lt-ltb c (2 ^ 28) h.0) (narrow_contents cs h.1)

pub contents_narrow : (cs : List ℕ) → narrow cs ≡ true → Contents cs
contents_narrow [] h = tt
contents_narrow (c ∷ cs) h =
    let p = and_parts (ltb c (2 ^ 28)) (narrow cs) h in
    (ltb-true c (2 ^ 28) p.0, contents_narrow cs p.1)

pub fine_narrow : (r : Record) → Fine r → narrow (contents r) ≡ true
fine_narrow (scan input) h = narrow_contents (input ∷ []) (h, tt)
fine_narrow (mark number more) h = narrow_contents (number ∷ more) (h.0, h.1)
fine_narrow (idle k c more) h = narrow_contents (c ∷ more) (h.1, h.2)

-- the scans among the words of records

scans_append : (xs ys : List ℕ) → scan_count (xs ++ ys) ≡ scan_count xs + scan_count ys
scans_append [] ys = omega arith
scans_append (x ∷ xs) ys = omega (arith, scans_append xs ys)

no_scan : (w : ℕ) → (kind w ≡ 1 → ⊥) → scanned w ≡ 0
no_scan w h = ap (λ (b : Bool). cond b 1 0) (ne_eqb (kind w) 1 h)

scans_contents : (cs : List ℕ) → Contents cs → scan_count cs ≡ 0
scans_contents [] h = refl
scans_contents (c ∷ cs) h = omega (arith, no_scan c (λ e. omega (arith, e, h.0)), scans_contents cs h.1)

pub scans_spelling : (rs : List Record) → AllFine rs → scan_count (spelling rs) ≡ scans_in rs
scans_spelling [] h = refl
scans_spelling (scan input ∷ rs) h =
    let one : scanned (word 1 input) ≡ 1 = ap (λ (b : Bool). cond b 1 0) (eq-eqb (kind (word 1 input)) 1 (omega (arith, h.0))) in
    omega (arith, one, scans_spelling rs h.1)
scans_spelling (mark number more ∷ rs) h =
    omega (arith, no_scan (word 2 number) (λ e. omega (arith, e, h.0.0)), scans_append more (spelling rs), scans_contents more h.0.1, scans_spelling rs h.1)
scans_spelling (idle k c more ∷ rs) h =
    omega (arith, no_scan (word k c) (λ e. omega (arith, e, h.0.0, h.0.1)), scans_append more (spelling rs), scans_contents more h.0.2, scans_spelling rs h.1)

-- The words written so far and those of the records that are left are all of them; behind, the words are what they were.
pub record Filled (before words : List ℕ) (used : ℕ) (rest all : List Record) : Type 0 where
  pub front : take used words ++ spelling rest ≡ spelling all
  pub behind : drop used words ≡ drop used before
  pub many : used + length (spelling rest) ≡ length (spelling all)
  pub fine : AllFine rest

module _ (before words : List ℕ) (used : ℕ) (rest all : List Record) (f : Filled before words used rest all) where
  -- there is room for the next record
  pub filled_room : (r : Record) (next : List Record) → rest ≡ r ∷ next → (used + length (contents r) ≤ length (spelling all)) × (narrow (contents r) ≡ true)
  filled_room r next e = (
    omega (arith, f.many, ap (λ (rs : List Record). length (spelling rs)) e, length-append (spelled r) (spelling next), spelled_long r),
    fine_narrow r (subst AllFine e f.fine).0,
  )

  -- and it is written
  pub filled_more : (r : Record) (next : List Record) (new : List ℕ) (n : ℕ) → rest ≡ r ∷ next → new ≡ over words used (spelled r) → n ≡ length (contents r) → length (spelling all) ≤ length words → Filled before new (used + n) next all
  filled_more r next new n e o l h =
      let room : used + length (contents r) ≤ length (spelling all) = (filled_room r next e).0 in
      let whole : length (spelled r) ≡ n = spelled_long r ∙ sym l in
      let long : length (take used words ++ spelled r) ≡ used + n = length-append (take used words) (spelled r) ∙ (omega (arith, length-take used words, whole, l)) in
      let parts : new ≡ (take used words ++ spelled r) ++ drop (used + length (spelled r)) words = o ∙ sym (append_assoc (take used words) (spelled r) (drop (used + length (spelled r)) words)) in
      record {
        front =
            ap (λ (xs : List ℕ). take (used + n) xs ++ spelling next) parts
            ∙ (ap (λ (xs : List ℕ). xs ++ spelling next) (take_at (take used words ++ spelled r) (drop (used + length (spelled r)) words) (used + n) long)
            ∙ (append_assoc (take used words) (spelled r) (spelling next)
            ∙ (ap (λ (rs : List Record). take used words ++ spelling rs) (sym e) ∙ f.front)));
        behind =
            ap (λ (xs : List ℕ). drop (used + n) xs) parts
            ∙ (drop_at (take used words ++ spelled r) (drop (used + length (spelled r)) words) (used + n) long
            ∙ (ap (λ (k : ℕ). drop (used + k) words) whole
            ∙ (sym (drop-drop n used words) ∙ (ap (λ (xs : List ℕ). drop n xs) f.behind ∙ drop-drop n used before))));
        many = omega (arith, f.many, ap (λ (rs : List Record). length (spelling rs)) e, length-append (spelled r) (spelling next), whole);
        fine = (subst AllFine e f.fine).1;
      }

  -- behind the last record the end follows
  pub filled_end : (new : List ℕ) → rest ≡ [] → AllFine all → new ≡ over words used (word 3 (scan_count (take used words)) ∷ []) → length (spelling all) < length words → new ≡ over before 0 (closed all)
  filled_end new e a o h =
      let all-written : take used words ≡ spelling all = sym (append-nil (take used words)) ∙ (ap (λ (rs : List Record). take used words ++ spelling rs) (sym e) ∙ f.front) in
      let scans : scan_count (take used words) ≡ scans_in all = ap scan_count all-written ∙ scans_spelling all a in
      let upto : used ≡ length (spelling all) = omega (arith, f.many, ap (λ (rs : List Record). length (spelling rs)) e) in
      let far : used + 1 ≡ 0 + length (closed all) = omega (arith, upto, length-append (spelling all) (word 3 (scans_in all) ∷ [])) in
      o
      ∙ (ap (λ (xs : List ℕ). xs ++ (word 3 (scan_count (take used words)) ∷ drop (used + 1) words)) all-written
      ∙ (ap (λ (n : ℕ). spelling all ++ (word 3 n ∷ drop (used + 1) words)) scans
      ∙ (ap (λ (xs : List ℕ). spelling all ++ (word 3 (scans_in all) ∷ xs)) (sym (drop-drop 1 used words) ∙ (ap (λ (xs : List ℕ). drop 1 xs) f.behind ∙ drop-drop 1 used before))
      ∙ (sym (append_assoc (spelling all) (word 3 (scans_in all) ∷ []) (drop (used + 1) before))
      ∙ ap (λ (k : ℕ). closed all ++ drop k before) far))))

-- The same of a writer that fills its words: it is open, and its words are those that it was lent.
pub record Filling (start writer : Writer) (rest all : List Record) : Type 0 where
  pub filled : Filled start.words.now writer.words.now writer.used rest all
  pub unclosed : writer.closed ≡ false
  pub long : length writer.words.now ≡ length start.words.now
  pub lent : writer.words.ghost_name ≡ start.words.ghost_name

length_over : (ws new : List ℕ) (i : ℕ) → i + length new ≤ length ws → length (over ws i new) ≡ length ws
length_over ws new i h =
    omega (arith, length-append (take i ws) (new ++ drop (i + length new) ws), length-append new (drop (i + length new) ws), length-take i ws, length-drop (i + length new) ws)

module _ (start w : Writer) (rest all : List Record) (f : Filling start w rest all) (space : length (closed all) ≤ length start.words.now) (few : length (closed all) ≤ longest) where
  -- the next record is not refused
  pub filling_admits : (r : Record) (next : List Record) → rest ≡ r ∷ next → Ok tt ≡ admitting (room w.words.now) w.used w.closed (contents r)
  filling_admits r next e =
      let p = filled_room start.words.now w.words.now w.used rest all f.filled r next e in
      let enough : length (contents r) + 1 ≤ room w.words.now - w.used = omega (arith, p.0, closed_long all, space, few, f.long) in
      sym (
      ap (λ (b : Bool). admitting (room w.words.now) w.used b (contents r)) f.unclosed
      ∙ (ap (λ (b : Bool). cond b (cond (ltb (room w.words.now - w.used) (length (contents r) + 1)) (Err NoRoom) (Ok tt)) (Err WideContent)) p.1
      ∙ ap (λ (b : Bool). cond b (Err NoRoom) (Ok tt)) (le-ltb (room w.words.now - w.used) (length (contents r) + 1) enough)))

  pub filling_more : (after : Writer) (r : Record) (next : List Record) → rest ≡ r ∷ next → after.words.now ≡ over w.words.now w.used (spelled r) → after.used ≡ w.used + length (contents r) → after.closed ≡ w.closed → after.words.ghost_name ≡ w.words.ghost_name → Filling start after next all
  filling_more after r next e o u c n =
      let p = filled_room start.words.now w.words.now w.used rest all f.filled r next e in
      record {
        filled =
            subst (λ (k : ℕ). Filled start.words.now after.words.now k next all) (sym u)
            (filled_more start.words.now w.words.now w.used rest all f.filled r next after.words.now (length (contents r)) e o refl (omega (arith, closed_long all, space, f.long)));
        unclosed = c ∙ f.unclosed;
        long = ap length o ∙ (length_over w.words.now (spelled r) w.used (omega (arith, p.0, spelled_long r, closed_long all, space, f.long)) ∙ f.long);
        lent = n ∙ f.lent;
      }

  -- nor is the end
  pub filling_closes : rest ≡ [] → Ok tt ≡ closing (room w.words.now) w.used w.closed
  filling_closes e =
      let enough : w.used < room w.words.now = omega (arith, f.filled.many, closed_long all, space, few, f.long) in
      sym (ap (λ (b : Bool). closing (room w.words.now) w.used b) f.unclosed ∙ ap (λ (b : Bool). cond b (Ok tt) (Err NoRoom)) (lt-ltb w.used (room w.words.now) enough))

  pub filling_end : (new : List ℕ) → rest ≡ [] → AllFine all → new ≡ over w.words.now w.used (word 3 (scan_count (take w.used w.words.now)) ∷ []) → new ≡ over start.words.now 0 (closed all)
  filling_end new e a o =
      filled_end start.words.now w.words.now w.used rest all f.filled new e a o (omega (arith, closed_long all, space, f.long))
