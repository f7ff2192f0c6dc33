-- Entries set one after another, and a cell set by hand.
use Rattle.std.proofs.Common.{◌≡◌, ℕ, zero, suc, ◌+◌, ◌<◌, ◌≤◌, true, ◌&&◌, eqb, List, [], ◌∷◌, length, get_or, drop, set, is_ok, Some, None, Ok, Err, Option, Result, sym, refl, ap, ◌∙◌, arith}
use Rattle.std.proofs.lemmas.List.{drop_more, length-set, get_or-set_same, get_or-set_other}
use Rattle.std.proofs.lemmas.Bool.{and_parts, and_from, eqb-true, eq-eqb, cond_both, both_ways, false≢true}
use Rattle.tape.specs.Laws.{kept}
use Rattle.tape.specs.Tables.{empty, setting, after, entered, filled, judged, tabling, built, taken, sound, latest}
use Rattle.tape.specs.Turing.{place, found}
use Rattle.tape.specs.declared.entry.BadEntry.{BadEntry}
use Rattle.tape.specs.declared.entry.Entry.{Entry}
use Rattle.terms.specs.declared.Refusal.{Refusal}

-- a sound table with one more entry that is taken
pub sound_set : (states : ℕ) (table : List (Option Entry)) (k : ℕ) (e : Entry) → setting states e ≡ Ok tt → sound states table ≡ true → sound states (set table k (Some e)) ≡ true
sound_set states [] k e t h = refl
sound_set states (o ∷ os) zero e t h = grind arith
sound_set states (o ∷ os) (suc k) e t h =
    let p = and_parts (taken states o) (sound states os) h in
    and_from (taken states o) (sound states (set os k (Some e))) p.0 (sound_set states os k e t p.1)

-- and it is sound and as long after a call that may have refused the entry
pub sound_after : (states : ℕ) (e : Entry) (table : List (Option Entry)) (r : Result (Unit {0}) Refusal) → r ≡ setting states e → sound states table ≡ true → sound states (after r e table) ≡ true
sound_after states e table (Ok done) t h = grind (arith, sound_set)
sound_after states e table (Err refusal) t h = h

pub length_after : (e : Entry) (table : List (Option Entry)) (r : Result (Unit {0}) Refusal) → length (after r e table) ≡ length table
length_after e table (Ok done) = grind (arith, length-set)
length_after e table (Err refusal) = refl

-- where all were taken, the first was and so were those behind it
judged_ok : (r : Result (Unit {0}) Refusal) (at : ℕ) (others : Result (Unit {0}) BadEntry) → judged r at others ≡ Ok tt → (r ≡ Ok tt) × (others ≡ Ok tt)
judged_ok (Ok done) at others h = (refl, h)
judged_ok (Err refusal) at others h = absurd (false≢true (ap is_ok h))

-- what the entries from an index on make of the table so far
abbrev pub rest_of : ℕ → ℕ → List Entry → List (Option Entry) → Result (List (Option Entry)) BadEntry
rest_of states i es table = built (tabling states i es) (filled es table)

abbrev pub Built : ℕ → ℕ → List Entry → List (Option Entry) → Type 0
Built states i es table = (rest_of states i (drop i es) table ≡ rest_of states 0 es empty) × (sound states table ≡ true) × (length table ≡ 64)

module _ (states i : ℕ) (es : List Entry) (table : List (Option Entry)) (d : Entry) (h : i < length es) where
  -- the next entry is taken
  pub built_more : setting states (get_or es i d) ≡ Ok tt → Built states i es table → Built states (i + 1) es (entered (get_or es i d) table)
  built_more t b =
      let e = drop_more es i d h in
      let f : rest_of states i (drop i es) table ≡ rest_of states i (get_or es i d ∷ drop (i + 1) es) table = ap (λ s. rest_of states i s table) e in
      let g : rest_of states i (get_or es i d ∷ drop (i + 1) es) table ≡ rest_of states (i + 1) (drop (i + 1) es) (entered (get_or es i d) table)
      = ap (λ r. built (judged r i (tabling states (i + 1) (drop (i + 1) es))) (filled (drop (i + 1) es) (entered (get_or es i d) table))) t in
      (sym g ∙ sym f ∙ b.0, sound_set states table (place (get_or es i d).control (get_or es i d).read) (get_or es i d) t b.1, length-set table (place (get_or es i d).control (get_or es i d).read) (Some (get_or es i d)) ∙ b.2)

  -- and it is at its place after a call that took it
  pub built_after : (r : Result (Unit {0}) Refusal) (next : List (Option Entry)) → r ≡ setting states (get_or es i d) → is_ok r ≡ true → next ≡ after r (get_or es i d) table → Built states i es table → Built states (i + 1) es next
  built_after (Ok done) next t o n b = rw n (built_more (sym t) b)
  built_after (Err refusal) next t o n b = absurd (false≢true o)

-- what a table gives once an entry is set
module _ (states : ℕ) (few : states ≤ 16) (control symbol : ℕ) (h : symbol < 4) where
  pub one_found : (e : Entry) (table : List (Option Entry)) → length table ≡ 64 → setting states e ≡ Ok tt → found (entered e table) control symbol ≡ latest (e ∷ []) control symbol (found table control symbol)
  one_found e table long t =
      let k = kept states e (ap is_ok t) in
      let kc = k.control in
      let kr = k.read in
      let P : Option Entry → Type 0 = λ o. found (entered e table) control symbol ≡ o in
      cond_both (eqb e.control control && eqb e.read symbol) (Some e) (found table control symbol) P
      (λ b.
      let p = and_parts (eqb e.control control) (eqb e.read symbol) b in
      let a = eqb-true e.control control p.0 in
      let d = eqb-true e.read symbol p.1 in
      let s : place control symbol ≡ place e.control e.read = omega arith in
      ap (λ i. get_or (entered e table) i None) s ∙ get_or-set_same table (place e.control e.read) (Some e) None (omega arith))
      (λ b. get_or-set_other table (place e.control e.read) (place control symbol) (Some e) None
      (λ s. both_ways (eqb e.control control && eqb e.read symbol) b
      (and_from (eqb e.control control) (eqb e.read symbol) (eq-eqb e.control control (omega arith)) (eq-eqb e.read symbol (omega arith)))))

  pub all_found : (es : List Entry) (at : ℕ) (table : List (Option Entry)) → length table ≡ 64 → tabling states at es ≡ Ok tt → found (filled es table) control symbol ≡ latest es control symbol (found table control symbol)
  all_found [] at table long t = refl
  all_found (e ∷ es) at table long t =
      let j = judged_ok (setting states e) at (tabling states (at + 1) es) t in
      all_found es (at + 1) (entered e table) (length-set table (place e.control e.read) (Some e) ∙ long) j.1
      ∙ ap (latest es control symbol) (one_found e table long j.0)

-- a table that was built is the entries', and all of them were taken
pub built_ok : (r : Result (Unit {0}) BadEntry) (table places : List (Option Entry)) → Ok places ≡ built r table → (r ≡ Ok tt) × (places ≡ table)
built_ok (Ok done) table places h = (refl, cc)
built_ok (Err bad) table places h = absurd (false≢true (ap is_ok (sym h)))
