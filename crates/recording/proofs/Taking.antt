-- The check takes records that end in a right end, and nothing else.
use Rattle.std.proofs.Common.{◌≡◌, ℕ, ◌+◌, ◌^◌, ◌<◌, ◌≤◌, Bool, true, false, cond, not, ◌&&◌, ◌||◌, eqb, leb, ◌⊎◌, List, [], ◌∷◌, ◌++◌, length, Some, None, Ok, Err, Option, Result, sym, refl, ap, ◌∙◌, inl, inr, ⊎_elim, add-zero, zero-add, arith}
use Rattle.std.proofs.lemmas.List.{append_assoc, length-append}
use Rattle.std.proofs.lemmas.Bool.{true≢false, eqb-true, eq-eqb, ne_eqb, lt-leb, le-leb, cases_eq, cases_lt, and_left, and_right, or_right, and_from, both_ways}
use Rattle.terms.specs.declared.Refusal.{Refusal}
use Rattle.terms.specs.declared.Refusal.TheVariants.{TooLong, StrayMore, UnknownKind, WrongTotal, AfterEnd, NoEnd}
use Rattle.recording.specs.Checking.{Takes}
use Rattle.recording.specs.Format.{kind, content, word, is_more, is_scan, is_end, is_unknown, scanned, fault_at, walk, checked, longest}
use Rattle.recording.specs.Records.{Record, scan, mark, idle, Contents, Fine, AllFine, spelled, spelling, scans_in, Recorded}
use Rattle.recording.proofs.Refusing.{checked_long}
use Rattle.recording.proofs.Spelling.{kind_word, content_word, word_parts, content_small}
use Rattle.recording.proofs.Steps.{walk_none, walk_some, checked_short}

-- what a word without a fault is not
pub record Faultfree (i n : ℕ) (after over : Bool) (w : ℕ) : Type 0 where
  pub stray : (is_more w && (eqb i 0 || after)) ≡ false
  pub known : is_unknown w ≡ false
  pub right : (is_end w && not (eqb (content w) n)) ≡ false
  pub going : over ≡ false

free_none : (i n : ℕ) (after over : Bool) (w : ℕ) → Faultfree i n after over w → fault_at i n after over w ≡ None
free_none i n after over w p = by (is_more w && (eqb i 0 || after)) (is_unknown w) (is_end w && not (eqb (content w) n)) over p.stray p.known p.right p.going
  where
    by : (a b c d : Bool) → a ≡ false → b ≡ false → c ≡ false → d ≡ false → cond {A = Option Refusal} a (Some (StrayMore (record { 0 = i }))) (cond b (Some (UnknownKind (record { 0 = i }))) (cond c (Some (WrongTotal (record { 0 = i }))) (cond d (Some (AfterEnd (record { 0 = i }))) None))) ≡ None
    by true b c d ea eb ec ed = absurd (true≢false ea)
    by false true c d ea eb ec ed = absurd (true≢false eb)
    by false false true d ea eb ec ed = absurd (true≢false ec)
    by false false false true ea eb ec ed = absurd (true≢false ed)
    by false false false false ea eb ec ed = refl

some_none : (f : Refusal) → ◌≡◌ {A = Option Refusal} (Some f) None → ⊥
some_none f e = let z : ◌≡◌ {A = ℕ} 0 1 = cc in omega arith

none_free : (i n : ℕ) (after over : Bool) (w : ℕ) → fault_at i n after over w ≡ None → Faultfree i n after over w
none_free i n after over w e =
    let p = by (is_more w && (eqb i 0 || after)) (is_unknown w) (is_end w && not (eqb (content w) n)) over e in
    record { stray = p.0; known = p.1; right = p.2; going = p.3 }
  where
    by : (a b c d : Bool) → cond {A = Option Refusal} a (Some (StrayMore (record { 0 = i }))) (cond b (Some (UnknownKind (record { 0 = i }))) (cond c (Some (WrongTotal (record { 0 = i }))) (cond d (Some (AfterEnd (record { 0 = i }))) None))) ≡ None → (a ≡ false) × (b ≡ false) × (c ≡ false) × (d ≡ false)
    by true b c d g = absurd (some_none (StrayMore (record { 0 = i })) g)
    by false true c d g = absurd (some_none (UnknownKind (record { 0 = i })) g)
    by false false true d g = absurd (some_none (WrongTotal (record { 0 = i })) g)
    by false false false true g = absurd (some_none (AfterEnd (record { 0 = i })) g)
    by false false false false g = (refl, refl, refl, refl)

ok_err : (f : Refusal) → ◌≡◌ {A = Result (Unit {0}) Refusal} (Err f) (Ok tt) → ⊥
ok_err f e = let z : ◌≡◌ {A = ℕ} 0 1 = cc in omega arith

-- where the walk takes words, the first of them is free of faults
taken_free : (i n : ℕ) (after over : Bool) (w : ℕ) (ws : List ℕ) → walk i n after over (w ∷ ws) ≡ Ok tt → fault_at i n after over w ≡ None
taken_free i n after over w ws h = by (fault_at i n after over w) refl
  where
    by : (o : Option Refusal) → fault_at i n after over w ≡ o → fault_at i n after over w ≡ None
    by (Some f) e = absurd (ok_err f (sym (walk_some i n after over w ws f e) ∙ h))
    by None e = e

-- the six kinds of words
data Sort (w : ℕ) : Type 0 where
  a_more : kind w ≡ 0 → Sort w
  a_scan : kind w ≡ 1 → Sort w
  a_mark : kind w ≡ 2 → Sort w
  an_end : kind w ≡ 3 → Sort w
  a_needed : is_unknown w ≡ true → Sort w
  an_idle : 8 ≤ kind w → Sort w

sort : (w : ℕ) → Sort w
sort w =
    ⊎_elim a_more (λ e0. ⊎_elim a_scan (λ e1. ⊎_elim a_mark (λ e2. ⊎_elim an_end (λ e3.
    ⊎_elim (λ h. a_needed (and_from (leb 4 (kind w)) (leb (kind w) 7) (le-leb 4 (kind w) (omega arith)) (le-leb (kind w) 7 (omega arith)))) an_idle (cases_lt (kind w) 8))
    (cases_eq (kind w) 3)) (cases_eq (kind w) 2)) (cases_eq (kind w) 1)) (cases_eq (kind w) 0)

-- no word is taken behind the end
nothing_behind : (i n : ℕ) (after : Bool) (ws : List ℕ) → walk i n after true ws ≡ Ok tt → ws ≡ []
nothing_behind i n after [] h = refl
nothing_behind i n after (w ∷ ws) h = absurd (true≢false (none_free i n after true w (taken_free i n after true w ws h)).going)

-- words before whose end n scans stand: more words of the record before them, records, and a right end
pub record Parsed (i n : ℕ) (after : Bool) (ws : List ℕ) : Type 0 where
  pub more : List ℕ
  pub records : List Record
  pub contents : Contents more
  pub fine : AllFine records
  pub spells : ws ≡ more ++ (spelling records ++ (word 3 (n + scans_in records) ∷ []))
  pub none : (eqb i 0 || after) ≡ true → more ≡ []

parsed_more : (i n m : ℕ) (after before : Bool) (w : ℕ) (ws : List ℕ) → kind w ≡ 0 → m ≡ n → (eqb i 0 || after) ≡ false → Parsed (i + 1) m before ws → Parsed i n after (w ∷ ws)
parsed_more i n m after before w ws k e s p = record {
  more = w ∷ p.more;
  records = p.records;
  contents = (omega arith, p.contents);
  fine = p.fine;
  spells = ap (λ (xs : List ℕ). w ∷ xs) (p.spells ∙ ap (λ (j : ℕ). p.more ++ (spelling p.records ++ (word 3 (j + scans_in p.records) ∷ []))) e);
  none = λ t. absurd (both_ways (eqb i 0 || after) s t);
}

parsed_scan : (i n m : ℕ) (after before : Bool) (w : ℕ) (ws : List ℕ) → kind w ≡ 1 → m ≡ n + 1 → before ≡ true → Parsed (i + 1) m before ws → Parsed i n after (w ∷ ws)
parsed_scan i n m after before w ws k e b p =
    let nil : p.more ≡ [] = p.none (or_right (eqb (i + 1) 0) before b) in
    let rs : List Record = p.records in
    record {
      more = [];
      records = scan (content w) ∷ rs;
      contents = tt;
      fine = (content_small w, p.fine);
      spells = ap (λ (x : ℕ). x ∷ ws) (word_parts w ∙ ap (λ (j : ℕ). word j (content w)) k)
          ∙ ap (λ (xs : List ℕ). word 1 (content w) ∷ xs) (p.spells
          ∙ (ap (λ (xs : List ℕ). xs ++ (spelling rs ++ (word 3 (m + scans_in rs) ∷ []))) nil
          ∙ ap (λ (j : ℕ). spelling rs ++ (word 3 j ∷ [])) (omega arith)));
      none = λ t. refl;
    }

-- a mark or an idle record, with its more words
parsed_long : (i n m : ℕ) (after before : Bool) (w : ℕ) (ws : List ℕ) (r : List ℕ → Record) → ((more : List ℕ) → Contents more → Fine (r more)) → ((more : List ℕ) → spelled (r more) ≡ w ∷ more) → ((more : List ℕ) (rs : List Record) → scans_in (r more ∷ rs) ≡ scans_in rs) → m ≡ n → Parsed (i + 1) m before ws → Parsed i n after (w ∷ ws)
parsed_long i n m after before w ws r f s c e p =
    let rs : List Record = p.records in
    let more : List ℕ = p.more in
    let total : m + scans_in rs ≡ n + scans_in (r more ∷ rs) = omega (arith, e, c more rs) in
    let tail : List ℕ = word 3 (n + scans_in (r more ∷ rs)) ∷ [] in
    record {
      more = [];
      records = r more ∷ rs;
      contents = tt;
      fine = (f more p.contents, p.fine);
      spells = ap (λ (xs : List ℕ). w ∷ xs) (p.spells ∙ ap (λ (j : ℕ). more ++ (spelling rs ++ (word 3 j ∷ []))) total)
          ∙ (ap (λ (xs : List ℕ). xs ++ (spelling rs ++ tail)) (sym (s more))
          ∙ sym (append_assoc (spelled (r more)) (spelling rs) tail));
      none = λ t. refl;
    }

parsed_end : (i n : ℕ) (after : Bool) (w : ℕ) (ws : List ℕ) → kind w ≡ 3 → content w ≡ n → ws ≡ [] → Parsed i n after (w ∷ ws)
parsed_end i n after w ws k e b = record {
  more = [];
  records = [];
  contents = tt;
  fine = tt;
  spells = ap (λ (xs : List ℕ). w ∷ xs) b ∙ ap (λ (x : ℕ). x ∷ []) (omega (arith, word_parts w));
  none = λ t. refl;
}

parsed_idle : (i n m : ℕ) (after before : Bool) (w : ℕ) (ws : List ℕ) → 8 ≤ kind w → m ≡ n → Parsed (i + 1) m before ws → Parsed i n after (w ∷ ws)
parsed_idle i n m after before w ws k e p =
    parsed_long i n m after before w ws (idle (kind w) (content w)) (λ more c. (k, content_small w, c)) (λ more. ap (λ (x : ℕ). x ∷ more) (sym (word_parts w))) (λ more rs. refl) e p

parsed_mark : (i n m : ℕ) (after before : Bool) (w : ℕ) (ws : List ℕ) → kind w ≡ 2 → m ≡ n → Parsed (i + 1) m before ws → Parsed i n after (w ∷ ws)
parsed_mark i n m after before w ws k e p =
    parsed_long i n m after before w ws (mark (content w)) (λ more c. (content_small w, c)) (λ more. ap (λ (x : ℕ). x ∷ more) (omega (arith, word_parts w))) (λ more rs. refl) e p

end_right : (n : ℕ) (w : ℕ) → kind w ≡ 3 → (is_end w && not (eqb (content w) n)) ≡ false → content w ≡ n
end_right n w k e =
    eqb-true (content w) n (not_true_not (eqb (content w) n) (ap (λ (b : Bool). b && not (eqb (content w) n)) (sym (eq-eqb (kind w) 3 k)) ∙ e))
  where
    not_true_not : (b : Bool) → not b ≡ false → b ≡ true
    not_true_not true h = refl
    not_true_not false h = absurd (true≢false h)

more_belongs : (i : ℕ) (after : Bool) (w : ℕ) → kind w ≡ 0 → (is_more w && (eqb i 0 || after)) ≡ false → (eqb i 0 || after) ≡ false
more_belongs i after w k e = ap (λ (b : Bool). b && (eqb i 0 || after)) (sym (eq-eqb (kind w) 0 k)) ∙ e

-- how many scans a word adds, by its kind
no_scan : (n w : ℕ) → is_scan w ≡ false → n + scanned w ≡ n
no_scan n w e = ap (λ (b : Bool). n + cond b 1 0) e ∙ add-zero n

one_scan : (n w : ℕ) → is_scan w ≡ true → n + scanned w ≡ n + 1
one_scan n w e = ap (λ (b : Bool). n + cond b 1 0) e

pub parse : (i n : ℕ) (after : Bool) (ws : List ℕ) → walk i n after false ws ≡ Ok tt → Parsed i n after ws
parse i n after [] h = absurd (ok_err (NoEnd (record { 0 = i })) h)
parse i n after (w ∷ ws) h = by (sort w) (none_free i n after false w none) (parse (i + 1) (n + scanned w) (is_scan w) ws)
  where
    none : fault_at i n after false w ≡ None
    none = taken_free i n after false w ws h

    goes : walk (i + 1) (n + scanned w) (is_scan w) (is_end w) ws ≡ Ok tt
    goes = sym (walk_none i n after false w ws none) ∙ h

    open_still : is_end w ≡ false → walk (i + 1) (n + scanned w) (is_scan w) false ws ≡ Ok tt
    open_still e = ap (λ (b : Bool). walk (i + 1) (n + scanned w) (is_scan w) b ws) (sym e) ∙ goes

    by : Sort w → Faultfree i n after false w → (walk (i + 1) (n + scanned w) (is_scan w) false ws ≡ Ok tt → Parsed (i + 1) (n + scanned w) (is_scan w) ws) → Parsed i n after (w ∷ ws)
    by (a_more k) p ih =
        parsed_more i n (n + scanned w) after (is_scan w) w ws k (no_scan n w (ne_eqb (kind w) 1 (λ e. omega arith))) (more_belongs i after w k p.stray) (ih (open_still (ne_eqb (kind w) 3 (λ e. omega arith))))
    by (a_scan k) p ih =
        parsed_scan i n (n + scanned w) after (is_scan w) w ws k (one_scan n w (eq-eqb (kind w) 1 k)) (eq-eqb (kind w) 1 k) (ih (open_still (ne_eqb (kind w) 3 (λ e. omega arith))))
    by (a_mark k) p ih =
        parsed_mark i n (n + scanned w) after (is_scan w) w ws k (no_scan n w (ne_eqb (kind w) 1 (λ e. omega arith))) (ih (open_still (ne_eqb (kind w) 3 (λ e. omega arith))))
    by (an_end k) p ih =
        parsed_end i n after w ws k (end_right n w k p.right) (nothing_behind (i + 1) (n + scanned w) (is_scan w) ws (ap (λ (b : Bool). walk (i + 1) (n + scanned w) (is_scan w) b ws) (sym (eq-eqb (kind w) 3 k)) ∙ goes))
    by (a_needed k) p ih = absurd (both_ways (is_unknown w) p.known k)
    by (an_idle k) p ih =
        parsed_idle i n (n + scanned w) after (is_scan w) w ws k (no_scan n w (ne_eqb (kind w) 1 (λ e. omega arith))) (ih (open_still (ne_eqb (kind w) 3 (λ e. omega arith))))

taken_recorded : (ws : List ℕ) → walk 0 0 false false ws ≡ Ok tt → Recorded ws
taken_recorded ws h =
    let p = parse 0 0 false ws h in (
      p.records,
      p.fine,
      p.spells
          ∙ (ap (λ (xs : List ℕ). xs ++ (spelling p.records ++ (word 3 (0 + scans_in p.records) ∷ []))) (p.none refl)
          ∙ ap (λ (n : ℕ). spelling p.records ++ (word 3 n ∷ [])) (zero-add (scans_in p.records))),
    )

-- and back: the walk over what records spell

free_of : (i n : ℕ) (after : Bool) (w : ℕ) → is_more w ≡ false → is_unknown w ≡ false → is_end w ≡ false → Faultfree i n after false w
free_of i n after w a b c = record {
  stray = and_left (is_more w) (eqb i 0 || after) a;
  known = b;
  right = and_left (is_end w) (not (eqb (content w) n)) c;
  going = refl;
}

-- a word that begins a record without being a scan
opens : (i n : ℕ) (after : Bool) (w : ℕ) (ws : List ℕ) → (kind w ≡ 2) ⊎ (8 ≤ kind w) → walk i n after false (w ∷ ws) ≡ walk (i + 1) n false false ws
opens i n after w ws k =
    let known : is_unknown w ≡ false = ⊎_elim (λ e. and_left (leb 4 (kind w)) (leb (kind w) 7) (lt-leb 4 (kind w) (omega arith))) (λ h. and_right (leb 4 (kind w)) (leb (kind w) 7) (lt-leb (kind w) 7 (omega arith))) k in
    let end : is_end w ≡ false = ⊎_elim (λ e. ne_eqb (kind w) 3 (λ f. omega arith)) (λ h. ne_eqb (kind w) 3 (λ f. omega arith)) k in
    let one : is_scan w ≡ false = ⊎_elim (λ e. ne_eqb (kind w) 1 (λ f. omega arith)) (λ h. ne_eqb (kind w) 1 (λ f. omega arith)) k in
    let more : is_more w ≡ false = ⊎_elim (λ e. ne_eqb (kind w) 0 (λ f. omega arith)) (λ h. ne_eqb (kind w) 0 (λ f. omega arith)) k in
    walk_none i n after false w ws (free_none i n after false w (free_of i n after w more known end))
    ∙ (ap (λ (m : ℕ). walk (i + 1) m (is_scan w) (is_end w) ws) (no_scan n w one)
    ∙ (ap (λ (b : Bool). walk (i + 1) n b (is_end w) ws) one
    ∙ ap (λ (b : Bool). walk (i + 1) n false b ws) end))

scans_on : (i n : ℕ) (after : Bool) (w : ℕ) (ws : List ℕ) → kind w ≡ 1 → walk i n after false (w ∷ ws) ≡ walk (i + 1) (n + 1) true false ws
scans_on i n after w ws k =
    let one : is_scan w ≡ true = eq-eqb (kind w) 1 k in
    let end : is_end w ≡ false = ne_eqb (kind w) 3 (λ f. omega arith) in
    walk_none i n after false w ws (free_none i n after false w (free_of i n after w (ne_eqb (kind w) 0 (λ f. omega arith)) (and_left (leb 4 (kind w)) (leb (kind w) 7) (lt-leb 4 (kind w) (omega arith))) end))
    ∙ (ap (λ (m : ℕ). walk (i + 1) m (is_scan w) (is_end w) ws) (one_scan n w one)
    ∙ (ap (λ (b : Bool). walk (i + 1) (n + 1) b (is_end w) ws) one
    ∙ ap (λ (b : Bool). walk (i + 1) (n + 1) true b ws) end))

-- more words of a record
passes : (i n : ℕ) (more ws : List ℕ) → 0 < i → Contents more → walk i n false false (more ++ ws) ≡ walk (i + length more) n false false ws
passes i n [] ws h c = ap (λ (j : ℕ). walk j n false false ws) (sym (add-zero i))
passes i n (w ∷ more) ws h c =
    let k : kind w ≡ 0 = omega (arith, c.0) in
    let one : is_scan w ≡ false = ne_eqb (kind w) 1 (λ f. omega arith) in
    let end : is_end w ≡ false = ne_eqb (kind w) 3 (λ f. omega arith) in
    let start : (eqb i 0 || false) ≡ false = ap (λ (b : Bool). b || false) (ne_eqb i 0 (λ f. omega arith)) in
    let free : Faultfree i n false false w = record {
      stray = and_right (is_more w) (eqb i 0 || false) start;
      known = and_left (leb 4 (kind w)) (leb (kind w) 7) (lt-leb 4 (kind w) (omega arith));
      right = and_left (is_end w) (not (eqb (content w) n)) end;
      going = refl;
    } in
    walk_none i n false false w (more ++ ws) (free_none i n false false w free)
    ∙ (ap (λ (m : ℕ). walk (i + 1) m (is_scan w) (is_end w) (more ++ ws)) (no_scan n w one)
    ∙ (ap (λ (b : Bool). walk (i + 1) n b (is_end w) (more ++ ws)) one
    ∙ (ap (λ (b : Bool). walk (i + 1) n false b (more ++ ws)) end
    ∙ (passes (i + 1) n more ws (omega arith) c.1
    ∙ ap (λ (j : ℕ). walk j n false false ws) (omega arith)))))

ends_right : (i n : ℕ) (after : Bool) (w : ℕ) → kind w ≡ 3 → content w ≡ n → walk i n after false (w ∷ []) ≡ Ok tt
ends_right i n after w k e =
    let end : is_end w ≡ true = eq-eqb (kind w) 3 k in
    let free : Faultfree i n after false w = record {
      stray = and_left (is_more w) (eqb i 0 || after) (ne_eqb (kind w) 0 (λ f. omega arith));
      known = and_left (leb 4 (kind w)) (leb (kind w) 7) (lt-leb 4 (kind w) (omega arith));
      right = and_right (is_end w) (not (eqb (content w) n)) (ap not (eq-eqb (content w) n e));
      going = refl;
    } in
    walk_none i n after false w [] (free_none i n after false w free)
    ∙ ap (λ (b : Bool). walk (i + 1) (n + scanned w) (is_scan w) b []) end

walks_long : (i n : ℕ) (after : Bool) (w : ℕ) (more ws : List ℕ) → (kind w ≡ 2) ⊎ (8 ≤ kind w) → Contents more → walk i n after false (w ∷ (more ++ ws)) ≡ walk (i + 1 + length more) n false false ws
walks_long i n after w more ws k c = opens i n after w (more ++ ws) k ∙ passes (i + 1) n more ws (omega arith) c

walks_more : (w : ℕ) (more : List ℕ) (rs : List Record) (i n : ℕ) (after : Bool) → (kind w ≡ 2) ⊎ (8 ≤ kind w) → Contents more → AllFine rs → n + scans_in rs < 2 ^ 28 → ((j : ℕ) → walk j n false false (spelling rs ++ (word 3 (n + scans_in rs) ∷ [])) ≡ Ok tt) → walk i n after false (((w ∷ more) ++ spelling rs) ++ (word 3 (n + scans_in rs) ∷ [])) ≡ Ok tt
walks_more w more rs i n after k c f h ih =
    ap (λ (xs : List ℕ). walk i n after false (w ∷ xs)) (append_assoc more (spelling rs) (word 3 (n + scans_in rs) ∷ []))
    ∙ (walks_long i n after w more (spelling rs ++ (word 3 (n + scans_in rs) ∷ [])) k c ∙ ih (i + 1 + length more))

pub walks : (rs : List Record) (i n : ℕ) (after : Bool) → AllFine rs → n + scans_in rs < 2 ^ 28 → walk i n after false (spelling rs ++ (word 3 (n + scans_in rs) ∷ [])) ≡ Ok tt
walks [] i n after f h = ends_right i n after (word 3 (n + 0)) (kind_word 3 (n + 0) h) (content_word 3 (n + 0) h ∙ add-zero n)
walks (scan input ∷ rs) i n after f h =
    scans_on i n after (word 1 input) (spelling rs ++ (word 3 (n + (1 + scans_in rs)) ∷ [])) (kind_word 1 input f.0)
    ∙ (ap (λ (k : ℕ). walk (i + 1) (n + 1) true false (spelling rs ++ (word 3 k ∷ []))) (omega arith)
    ∙ walks rs (i + 1) (n + 1) true f.1 (omega arith))
walks (mark number more ∷ rs) i n after f h =
    walks_more (word 2 number) more rs i n after (inl (kind_word 2 number f.0.0)) f.0.1 f.1 h (λ j. walks rs j n false f.1 h)
walks (idle k c more ∷ rs) i n after f h =
    walks_more (word k c) more rs i n after (inr (omega (arith, f.0.0, kind_word k c f.0.1))) f.0.2 f.1 h (λ j. walks rs j n false f.1 h)

-- a scan is a word
scans_le : (rs : List Record) → scans_in rs ≤ length (spelling rs)
scans_le [] = omega arith
scans_le (scan input ∷ rs) = omega (arith, scans_le rs)
scans_le (mark number more ∷ rs) = omega (arith, scans_le rs, length-append more (spelling rs))
scans_le (idle k c more ∷ rs) = omega (arith, scans_le rs, length-append more (spelling rs))

recorded_taken : (ws : List ℕ) → length ws ≤ longest → Recorded ws → checked ws ≡ Ok tt
recorded_taken ws h p =
    let rs : List Record = p.0 in
    let size : length ws ≡ length (spelling rs) + 1 = ap length p.2 ∙ length-append (spelling rs) (word 3 (scans_in rs) ∷ []) in
    let few : scans_in rs < 2 ^ 28 = omega (arith, scans_le rs) in
    checked_short ws h
    ∙ (ap (walk 0 0 false false) p.2
    ∙ (ap (λ (n : ℕ). walk 0 0 false false (spelling rs ++ (word 3 n ∷ []))) (sym (zero-add (scans_in rs)))
    ∙ walks rs 0 0 false p.1 (omega arith)))

short_taken : (ws : List ℕ) → checked ws ≡ Ok tt → length ws ≤ longest
short_taken ws e = ⊎_elim (λ h. absurd (ok_err TooLong (sym (checked_long ws h) ∙ e))) (λ h. h) (cases_lt longest (length ws))

pub takes : Takes
takes ws = (
  (λ e. (short_taken ws e, taken_recorded ws (sym (checked_short ws (short_taken ws e)) ∙ e))),
  (λ p. recorded_taken ws p.0 p.1),
)
