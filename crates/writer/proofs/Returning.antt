-- What comes back of records that are written, and of words that are read and written again.
use Rattle.std.proofs.Common.{◌≡◌, ℕ, suc, ◌+◌, ◌-◌, ◌^◌, ◌<◌, ◌≤◌, Bool, true, false, cond, not, ltb, leb, ◌⊎◌, List, [], ◌∷◌, ◌++◌, map, length, take, drop, Ok, Err, Result, sym, refl, ap, ◌∙◌, subst, inl, inr, arith}
use Rattle.std.proofs.lemmas.List.{append_assoc, length-append, length-take, take_at}
use Rattle.std.proofs.lemmas.Bool.{eq-eqb, ne_eqb, le-leb, lt-leb, le-ltb, lt-ltb, leb-true, cases_lt, not-true, and_parts, cond-true, cond-false, true≢false}
use Rattle.terms.specs.declared.Refusal.{Refusal}
use Rattle.terms.specs.declared.Refusal.TheVariants.{NoRoom}
use Rattle.recording.specs.Format.{kind, word, is_more, is_scan, items, checked, longest}
use Rattle.recording.specs.Records.{Record, scan, mark, idle, Contents, Fine, AllFine, spelled, spelling, scans_in, closed, handed, Recorded}
use Rattle.recording.proofs.Spelling.{hands, kind_word}
use Rattle.recording.proofs.Taking.{takes}
use Rattle.writer.specs.Writing.{told, narrow, contents, room, admitting, writing, over, scan_count}
use Rattle.writer.specs.Trips.{bare, busy, ReadsBack, Completed, is_idle, kept, without_idle, no_idle, copying, fitting, Rewritten}
use Rattle.writer.specs.declared.records.Record as declared
use Rattle.writer.specs.declared.records.Record.TheVariants as the
use Rattle.writer.proofs.Planning.{admitted, writing_more, writing_stop, writing_end}
use Rattle.writer.proofs.Filling.{spelled_long, closed_long, contents_narrow, fine_narrow, scans_spelling}

-- busy records

busy_busy : (rs : List Record) → busy (busy rs) ≡ busy rs
busy_busy [] = refl
busy_busy (scan input ∷ rs) = ap (λ (xs : List Record). scan input ∷ xs) (busy_busy rs)
busy_busy (mark number more ∷ rs) = ap (λ (xs : List Record). mark number more ∷ xs) (busy_busy rs)
busy_busy (idle k c more ∷ rs) = busy_busy rs

pub busy_told : (ds : List declared.Record) → busy (map told ds) ≡ map told ds
busy_told [] = refl
busy_told (the.Scan input ∷ ds) = ap (λ (rs : List Record). scan input ∷ rs) (busy_told ds)
busy_told (the.Mark number more ∷ ds) = ap (λ (rs : List Record). told (the.Mark number more) ∷ rs) (busy_told ds)

-- what is handed out of records are the busy ones
pub bare_handed : (i : ℕ) (rs : List Record) → map bare (handed i rs) ≡ busy rs
bare_handed i [] = refl
bare_handed i (scan input ∷ rs) = ap (λ (xs : List Record). scan input ∷ xs) (bare_handed (i + 1) rs)
bare_handed i (mark number more ∷ rs) = ap (λ (xs : List Record). mark number more ∷ xs) (bare_handed (i + (1 + length more)) rs)
bare_handed i (idle k c more ∷ rs) = bare_handed (i + (1 + length more)) rs

scans_busy : (rs : List Record) → scans_in (busy rs) ≡ scans_in rs
scans_busy [] = refl
scans_busy (scan input ∷ rs) = ap (λ (n : ℕ). 1 + n) (scans_busy rs)
scans_busy (mark number more ∷ rs) = scans_busy rs
scans_busy (idle k c more ∷ rs) = scans_busy rs

pub fine_busy : (rs : List Record) → AllFine rs → AllFine (busy rs)
fine_busy [] h = tt
fine_busy (scan input ∷ rs) h = (h.0, fine_busy rs h.1)
fine_busy (mark number more ∷ rs) h = (h.0, fine_busy rs h.1)
fine_busy (idle k c more ∷ rs) h = fine_busy rs h.1

-- the words that are kept

kept_more : (within : Bool) (w : ℕ) (ws : List ℕ) → kind w ≡ 0 → kept within (w ∷ ws) ≡ cond within (kept within ws) (w ∷ kept within ws)
kept_more within w ws e = cond-true {A = List ℕ} (is_more w) _ _ (eq-eqb (kind w) 0 e)

kept_record : (within : Bool) (w : ℕ) (ws : List ℕ) → 0 < kind w → kind w < 8 → kept within (w ∷ ws) ≡ w ∷ kept false ws
kept_record within w ws h l =
    cond-false {A = List ℕ} (is_more w) _ _ (ne_eqb (kind w) 0 (λ e. omega arith)) ∙ cond-false {A = List ℕ} (is_idle w) _ _ (lt-leb 8 (kind w) l)

kept_idle : (within : Bool) (w : ℕ) (ws : List ℕ) → 8 ≤ kind w → kept within (w ∷ ws) ≡ kept true ws
kept_idle within w ws h =
    cond-false {A = List ℕ} (is_more w) _ _ (ne_eqb (kind w) 0 (λ e. omega arith)) ∙ cond-true {A = List ℕ} (is_idle w) _ _ (le-leb 8 (kind w) h)

kept_mores : (more ws : List ℕ) → Contents more → kept false (more ++ ws) ≡ more ++ kept false ws
kept_mores [] ws c = refl
kept_mores (w ∷ more) ws c =
    kept_more false w (more ++ ws) (omega (arith, c.0)) ∙ ap (λ (xs : List ℕ). w ∷ xs) (kept_mores more ws c.1)

kept_none : (more ws : List ℕ) → Contents more → kept true (more ++ ws) ≡ kept true ws
kept_none [] ws c = refl
kept_none (w ∷ more) ws c = kept_more true w (more ++ ws) (omega (arith, c.0)) ∙ kept_none more ws c.1

pub kept_busy : (within : Bool) (rs : List Record) (n : ℕ) → AllFine rs → n < 2 ^ 28 → kept within (spelling rs ++ (word 3 n ∷ [])) ≡ spelling (busy rs) ++ (word 3 n ∷ [])
kept_busy within [] n f h = kept_record within (word 3 n) [] (omega (arith, kind_word 3 n h)) (omega (arith, kind_word 3 n h))
kept_busy within (scan input ∷ rs) n f h =
    let k = kind_word 1 input f.0 in
    kept_record within (word 1 input) (spelling rs ++ (word 3 n ∷ [])) (omega arith) (omega arith)
    ∙ ap (λ (xs : List ℕ). word 1 input ∷ xs) (kept_busy false rs n f.1 h)
kept_busy within (mark number more ∷ rs) n f h =
    let k = kind_word 2 number f.0.0 in
    let rest : List ℕ = spelling rs ++ (word 3 n ∷ []) in
    ap (λ (xs : List ℕ). kept within (word 2 number ∷ xs)) (append_assoc more (spelling rs) (word 3 n ∷ []))
    ∙ (kept_record within (word 2 number) (more ++ rest) (omega arith) (omega arith)
    ∙ (ap (λ (xs : List ℕ). word 2 number ∷ xs) (kept_mores more rest f.0.1 ∙ ap (λ (xs : List ℕ). more ++ xs) (kept_busy false rs n f.1 h))
    ∙ ap (λ (xs : List ℕ). word 2 number ∷ xs) (sym (append_assoc more (spelling (busy rs)) (word 3 n ∷ [])))))
kept_busy within (idle k c more ∷ rs) n f h =
    let e = kind_word k c f.0.1 in
    let rest : List ℕ = spelling rs ++ (word 3 n ∷ []) in
    ap (λ (xs : List ℕ). kept within (word k c ∷ xs)) (append_assoc more (spelling rs) (word 3 n ∷ []))
    ∙ (kept_idle within (word k c) (more ++ rest) (omega (arith, e, f.0.0))
    ∙ (kept_none more rest f.0.2 ∙ kept_busy true rs n f.1 h))

-- where no record is idle, all words are kept
pub kept_all : (ws : List ℕ) → no_idle ws ≡ true → without_idle ws ≡ ws
kept_all [] h = refl
kept_all (w ∷ ws) h =
    let p = and_parts (not (is_idle w)) (no_idle ws) h in
    by (is_more w) (is_idle w) (not-true (is_idle w) p.0) (kept_all ws p.1)
  where
    by : (m i : Bool) → i ≡ false → kept false ws ≡ ws → cond m (w ∷ kept false ws) (cond i (kept true ws) (w ∷ kept false ws)) ≡ w ∷ ws
    by true i e ih = ap (λ (xs : List ℕ). w ∷ xs) ih
    by false true e ih = absurd (true≢false e)
    by false false e ih = ap (λ (xs : List ℕ). w ∷ xs) ih

-- records of a list that is written whole are fine
told_fine : (d : declared.Record) → narrow (contents (told d)) ≡ true → Fine (told d)
told_fine (the.Scan input) h = (contents_narrow (contents (told (the.Scan input))) h).0
told_fine (the.Mark number more) h =
    let c = contents_narrow (contents (told (the.Mark number more))) h in
    (c.0, c.1)

pub writing_narrow : (ds : List declared.Record) (room used n : ℕ) → Ok n ≡ writing room used (map told ds) → AllFine (map told ds)
writing_narrow [] room used n h = tt
writing_narrow (d ∷ ds) room used n h =
    by (admitting room used false (contents (told d))) (admitted room used (contents (told d))) h (writing_narrow ds room (used + length (contents (told d))) n)
  where
    by : (o : Result (Unit {0}) Refusal) → (Ok tt ≡ o → (narrow (contents (told d)) ≡ true) × (length (contents (told d)) + 1 ≤ room - used)) → Ok n ≡ elim o as (λ _. Result ℕ Refusal) [ Ok u ↦ writing room (used + length (contents (told d))) (map told ds) | Err e ↦ Err e ] → (Ok n ≡ writing room (used + length (contents (told d))) (map told ds) → AllFine (map told ds)) → AllFine (map told (d ∷ ds))
    by (Ok u) a e ih = (told_fine d (a refl).0, ih e)
    by (Err f) a e ih = let z : ◌≡◌ {A = ℕ} 0 1 = cc in absurd (omega arith)

-- fine records are refused only for want of room, all of them together
pub writing_fine : (rs : List Record) (room used : ℕ) → AllFine rs → writing room used rs ≡ cond (leb (used + length (closed rs)) room) (Ok (used + length (closed rs))) (Err NoRoom)
writing_fine [] room used f = by (cases_lt used room)
  where
    by : (used < room) ⊎ (room ≤ used) → writing room used [] ≡ cond (leb (used + 1) room) (Ok (used + 1)) (Err NoRoom)
    by (inl h) =
        writing_end room used (Ok tt) (sym (cond-true {A = Result (Unit {0}) Refusal} (ltb used room) _ _ (lt-ltb used room h)))
        ∙ sym (cond-true {A = Result ℕ Refusal} (leb (used + 1) room) _ _ (le-leb (used + 1) room (omega arith)))
    by (inr h) =
        writing_end room used (Err NoRoom) (sym (cond-false {A = Result (Unit {0}) Refusal} (ltb used room) _ _ (le-ltb used room h)))
        ∙ sym (cond-false {A = Result ℕ Refusal} (leb (used + 1) room) _ _ (lt-leb (used + 1) room (omega arith)))
writing_fine (r ∷ rs) room used f = by (cases_lt (room - used) (length (contents r) + 1)) (writing_fine rs room (used + length (contents r)) f.1)
  where
    long : length (closed (r ∷ rs)) ≡ length (contents r) + length (closed rs)
    long = omega (arith, closed_long (r ∷ rs), closed_long rs, length-append (spelled r) (spelling rs), spelled_long r)

    ready : (b : Bool) → ltb (room - used) (length (contents r) + 1) ≡ b → admitting room used false (contents r) ≡ cond b (Err NoRoom) (Ok tt)
    ready b e = rw (fine_narrow r f.0, e) refl

    by : (room - used < length (contents r) + 1) ⊎ (length (contents r) + 1 ≤ room - used) → writing room (used + length (contents r)) rs ≡ cond (leb (used + length (contents r) + length (closed rs)) room) (Ok (used + length (contents r) + length (closed rs))) (Err NoRoom) → writing room used (r ∷ rs) ≡ cond (leb (used + length (closed (r ∷ rs))) room) (Ok (used + length (closed (r ∷ rs)))) (Err NoRoom)
    by (inl h) ih =
        let no : room < used + length (closed (r ∷ rs)) = omega (arith, long, closed_long rs) in
        writing_stop room used r rs NoRoom (sym (ready true (lt-ltb (room - used) (length (contents r) + 1) h)))
        ∙ sym (cond-false {A = Result ℕ Refusal} (leb (used + length (closed (r ∷ rs))) room) _ _ (lt-leb (used + length (closed (r ∷ rs))) room no))
    by (inr h) ih =
        let same : used + length (contents r) + length (closed rs) ≡ used + length (closed (r ∷ rs)) = omega (arith, long) in
        writing_more room used r rs (sym (ready false (le-ltb (room - used) (length (contents r) + 1) h)))
        ∙ (ih ∙ ap (λ (n : ℕ). cond (leb n room) (Ok n) (Err NoRoom)) same)

-- how many words are used at last
pub writing_used : (rs : List Record) (room n : ℕ) → AllFine rs → Ok n ≡ writing room 0 rs → (n ≡ length (closed rs)) × (n ≤ room)
writing_used rs room n f h = by (leb (0 + length (closed rs)) room) (leb-true (0 + length (closed rs)) room) (h ∙ writing_fine rs room 0 f)
  where
    by : (b : Bool) → (b ≡ true → 0 + length (closed rs) ≤ room) → Ok n ≡ cond {A = Result ℕ Refusal} b (Ok (0 + length (closed rs))) (Err NoRoom) → (n ≡ length (closed rs)) × (n ≤ room)
    by true s e = let z : n ≡ 0 + length (closed rs) = cc in (omega arith, omega (arith, s refl))
    by false s e = let z : ◌≡◌ {A = ℕ} 0 1 = cc in absurd (omega arith)

-- the first round trip: records that are written are read back

reads_closed : (rs : List Record) (n : ℕ) (ws : List ℕ) → AllFine rs → busy rs ≡ rs → take n ws ≡ closed rs → length (closed rs) ≤ longest → ReadsBack rs n ws
reads_closed rs n ws f b front l = record {
  words = front;
  taken = ap checked front ∙ (takes (closed rs)).1 (l, (rs, f, refl));
  handed = ap (λ (xs : List ℕ). map bare (items xs)) front ∙ (ap (map bare) (hands rs f) ∙ (bare_handed 0 rs ∙ b));
}

pub reads_back : (rs : List Record) (n : ℕ) (ws : List ℕ) → AllFine rs → busy rs ≡ rs → n ≡ length (closed rs) → n ≤ longest → ReadsBack rs n (over ws 0 (closed rs))
reads_back rs n ws f b e l =
    reads_closed rs n (over ws 0 (closed rs)) f b (take_at (closed rs) (drop (0 + length (closed rs)) ws) n (sym e)) (omega (arith, e))

-- the end is written behind records
pub completed : (ws new : List ℕ) (used n : ℕ) → used < room ws → n ≡ used + 1 → new ≡ over ws used (word 3 (scan_count (take used ws)) ∷ []) → Completed (take used ws) n new
completed ws new used n h m o rs f b e =
    let end : List ℕ = word 3 (scan_count (take used ws)) ∷ [] in
    let long : length (take used ws) ≡ used = length-take used ws ∙ omega arith in
    let more : length (take used ws ++ end) ≡ n = length-append (take used ws) end ∙ omega arith in
    reads_closed rs n new f b
    (ap (λ (xs : List ℕ). take n xs) (o ∙ sym (append_assoc (take used ws) end (drop (used + 1) ws)))
    ∙ (take_at (take used ws ++ end) (drop (used + 1) ws) n more
    ∙ (ap (λ (xs : List ℕ). xs ++ end) e
    ∙ ap (λ (k : ℕ). spelling rs ++ (word 3 k ∷ [])) (ap scan_count e ∙ scans_spelling rs f))))
    (omega (arith, closed_long rs, ap length e))

-- the second: taken words that are read and written again are the words without idle records

count_le : (ws : List ℕ) → scan_count ws ≤ length ws
count_le [] = omega arith
count_le (w ∷ ws) = by (is_scan w) (count_le ws)
  where
    by : (b : Bool) → scan_count ws ≤ length ws → cond b 1 0 + scan_count ws ≤ suc (length ws)
    by true h = omega arith
    by false h = omega arith

pub record Again (ws : List ℕ) : Type 0 where
  pub fine : AllFine (map bare (items ws))
  pub same : busy (map bare (items ws)) ≡ map bare (items ws)
  pub words : closed (map bare (items ws)) ≡ without_idle ws

pub again : (ws : List ℕ) → checked ws ≡ Ok tt → Again ws
again ws h = by ((takes ws).0 h)
  where
    by : (length ws ≤ longest) × Recorded ws → Again ws
    by (short, (rs, f, e)) =
        let bs : map bare (items ws) ≡ busy rs = ap (λ (xs : List ℕ). map bare (items xs)) e ∙ (ap (map bare) (hands rs f) ∙ bare_handed 0 rs) in
        let few : scans_in rs < 2 ^ 28 = omega (arith, scans_spelling rs f, count_le (spelling rs), closed_long rs, ap length e, short) in
        record {
          fine = subst AllFine (sym bs) (fine_busy rs f);
          same = ap busy bs ∙ (busy_busy rs ∙ sym bs);
          words =
              ap closed bs
              ∙ (ap (λ (n : ℕ). spelling (busy rs) ++ (word 3 n ∷ [])) (scans_busy rs)
              ∙ (sym (kept_busy false rs (scans_in rs) f few) ∙ ap without_idle (sym e)));
        }

pub rewritten : (ws : List ℕ) (n : ℕ) (old : List ℕ) → checked ws ≡ Ok tt → n ≡ length (closed (map bare (items ws))) → n ≤ longest → Rewritten ws n (over old 0 (closed (map bare (items ws))))
rewritten ws n old h e l =
    let a = again ws h in
    let b = reads_back (map bare (items ws)) n old a.fine a.same e l in
    record {
      words = b.words ∙ a.words;
      rebuilt = λ none. b.words ∙ (a.words ∙ kept_all ws none);
      taken = b.taken;
      handed = b.handed;
    }

-- what the calls refuse is what does not fit
pub copying_fits : (room : ℕ) (ws : List ℕ) → copying room ws ≡ fitting room ws
copying_fits room ws = by (checked ws) (λ h. again ws h)
  where
    by : (o : Result (Unit {0}) Refusal) → (o ≡ Ok tt → Again ws) → elim o as (λ _. Result ℕ Refusal) [ Ok u ↦ writing room 0 (map bare (items ws)) | Err fault ↦ Err fault ] ≡ elim o as (λ _. Result ℕ Refusal) [ Ok u ↦ cond (leb (length (without_idle ws)) room) (Ok (length (without_idle ws))) (Err NoRoom) | Err fault ↦ Err fault ]
    by (Ok u) a =
        let g = a refl in
        let long : 0 + length (closed (map bare (items ws))) ≡ length (without_idle ws) = omega (arith, ap length g.words) in
        writing_fine (map bare (items ws)) room 0 g.fine ∙ ap (λ (n : ℕ). cond (leb n room) (Ok n) (Err NoRoom)) long
    by (Err f) a = refl
