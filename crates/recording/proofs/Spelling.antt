-- Records, the words that spell them, and what is handed out of those.
use Rattle.std.proofs.Common.{◌≡◌, ℕ, zero, suc, ◌+◌, ◌^◌, ◌<◌, Bool, true, false, cond, List, [], ◌∷◌, ◌++◌, length, sym, refl, ap, ◌∙◌, add-zero, arith}
use Rattle.std.proofs.lemmas.List.{append_assoc}
use Rattle.std.proofs.lemmas.Bool.{eq-eqb, ne_eqb, or_from}
use Rattle.source.specs.Scans.{Sample}
use Rattle.recording.specs.Format as format
use Rattle.recording.specs.Format.{Item, kind, content, word, is_scan, is_mark, items_from, mores, samples_from}
use Rattle.recording.specs.Reading.{Asking, scans_among, Among}
use Rattle.recording.specs.Records.{Record, scan, mark, idle, Contents, AllFine, spelling, scans_in, handed, Hands}
use Rattle.recording.proofs.Passing.{pass_word, scan_word, mark_word, more_word, no_more_word, more_no_item}

pub kind_word : (k c : ℕ) → c < 2 ^ 28 → kind (word k c) ≡ k
kind_word k c h = omega arith

pub content_word : (k c : ℕ) → c < 2 ^ 28 → content (word k c) ≡ c
content_word k c h = omega arith

pub word_parts : (w : ℕ) → w ≡ word (kind w) (content w)
word_parts w = omega arith

pub content_small : (w : ℕ) → content w < 2 ^ 28
content_small w = omega arith

-- more words hand nothing out
passes_items : (i : ℕ) (more ws : List ℕ) → Contents more → items_from i (more ++ ws) ≡ items_from (i + length more) ws
passes_items i [] ws c = ap (λ (j : ℕ). items_from j ws) (sym (add-zero i))
passes_items i (w ∷ more) ws c =
    pass_word i w (more ++ ws) (more_no_item w (eq-eqb (kind w) 0 (omega (arith, c.0))))
    ∙ (passes_items (i + 1) more ws c.1 ∙ ap (λ (j : ℕ). items_from j ws) (omega arith))

-- the more words end where the next record begins
mores_end : (more ws : List ℕ) → Contents more → mores ws ≡ [] → mores (more ++ ws) ≡ more
mores_end [] ws c e = e
mores_end (w ∷ more) ws c e =
    more_word w (more ++ ws) (eq-eqb (kind w) 0 (omega (arith, c.0))) ∙ ap (λ (xs : List ℕ). w ∷ xs) (mores_end more ws c.1 e)

begins : (k c : ℕ) (ws : List ℕ) → 0 < k → c < 2 ^ 28 → mores (word k c ∷ ws) ≡ []
begins k c ws h l = no_more_word (word k c) ws (ne_eqb (kind (word k c)) 0 (λ e. omega (arith, kind_word k c l)))

-- a list of records begins with no more word, nor does the end
records_begin : (rs : List Record) (n : ℕ) → AllFine rs → mores (spelling rs ++ (word 3 n ∷ [])) ≡ []
records_begin [] n f = no_more_word (word 3 n) [] (ne_eqb (kind (word 3 n)) 0 (λ e. omega arith))
records_begin (scan input ∷ rs) n f = begins 1 input (spelling rs ++ (word 3 n ∷ [])) (omega arith) f.0
records_begin (mark number more ∷ rs) n f = begins 2 number ((more ++ spelling rs) ++ (word 3 n ∷ [])) (omega arith) f.0.0
records_begin (idle k c more ∷ rs) n f = begins k c ((more ++ spelling rs) ++ (word 3 n ∷ [])) (omega (arith, f.0.0)) f.0.1

hands_from : (rs : List Record) (i n : ℕ) → AllFine rs → items_from i (spelling rs ++ (word 3 n ∷ [])) ≡ handed i rs
hands_from [] i n f =
    pass_word i (word 3 n) [] (or_from (is_scan (word 3 n)) (is_mark (word 3 n)) (ne_eqb (kind (word 3 n)) 1 (λ e. omega arith)) (ne_eqb (kind (word 3 n)) 2 (λ e. omega arith)))
hands_from (scan input ∷ rs) i n f =
    scan_word i (word 1 input) (spelling rs ++ (word 3 n ∷ [])) (eq-eqb (kind (word 1 input)) 1 (kind_word 1 input f.0))
    ∙ (ap (λ (c : ℕ). format.scan i c ∷ items_from (i + 1) (spelling rs ++ (word 3 n ∷ []))) (content_word 1 input f.0)
    ∙ ap (λ (xs : List Item). format.scan i input ∷ xs) (hands_from rs (i + 1) n f.1))
hands_from (mark number more ∷ rs) i n f =
    let w : ℕ = word 2 number in
    let rest : List ℕ = spelling rs ++ (word 3 n ∷ []) in
    let k : kind w ≡ 2 = kind_word 2 number f.0.0 in
    ap (λ (xs : List ℕ). items_from i (w ∷ xs)) (append_assoc more (spelling rs) (word 3 n ∷ []))
    ∙ (mark_word i w (more ++ rest) (ne_eqb (kind w) 1 (λ e. omega arith)) (eq-eqb (kind w) 2 k)
    ∙ (ap (λ (c : ℕ). format.mark i c (mores (more ++ rest)) ∷ items_from (i + 1) (more ++ rest)) (content_word 2 number f.0.0)
    ∙ (ap (λ (xs : List ℕ). format.mark i number xs ∷ items_from (i + 1) (more ++ rest)) (mores_end more rest f.0.1 (records_begin rs n f.1))
    ∙ ap (λ (xs : List Item). format.mark i number more ∷ xs) (passes_items (i + 1) more rest f.0.1
    ∙ (ap (λ (j : ℕ). items_from j rest) (omega arith) ∙ hands_from rs (i + (1 + length more)) n f.1)))))
hands_from (idle k c more ∷ rs) i n f =
    let w : ℕ = word k c in
    let rest : List ℕ = spelling rs ++ (word 3 n ∷ []) in
    let e : kind w ≡ k = kind_word k c f.0.1 in
    ap (λ (xs : List ℕ). items_from i (w ∷ xs)) (append_assoc more (spelling rs) (word 3 n ∷ []))
    ∙ (pass_word i w (more ++ rest) (or_from (is_scan w) (is_mark w) (ne_eqb (kind w) 1 (λ g. omega (arith, f.0.0, e))) (ne_eqb (kind w) 2 (λ g. omega (arith, f.0.0, e))))
    ∙ (passes_items (i + 1) more rest f.0.2
    ∙ (ap (λ (j : ℕ). items_from j rest) (omega arith) ∙ hands_from rs (i + (1 + length more)) n f.1)))

pub hands : Hands
hands rs f = hands_from rs 0 (scans_in rs) f

pub asking : Asking
asking [] zero h = absurd (omega arith)
asking [] (suc n) h = refl
asking (x ∷ xs) zero h = absurd (omega arith)
asking (x ∷ xs) (suc n) h = ap (λ (ys : List Item). x ∷ ys) (asking xs n (omega arith))

among_from : (i : ℕ) (ws : List ℕ) → scans_among (items_from i ws) ≡ samples_from i ws
among_from i [] = refl
among_from i (w ∷ ws) = by (among_from (i + 1) ws) (is_scan w) (is_mark w)
  where
    by : scans_among (items_from (i + 1) ws) ≡ samples_from (i + 1) ws → (a b : Bool) → scans_among (cond a (format.scan i (content w) ∷ items_from (i + 1) ws) (cond b (format.mark i (content w) (mores ws) ∷ items_from (i + 1) ws) (items_from (i + 1) ws))) ≡ cond a (record { place = i; input = content w } ∷ samples_from (i + 1) ws) (samples_from (i + 1) ws)
    by ih true b = ap (λ (ss : List Sample). record { place = i; input = content w } ∷ ss) ih
    by ih false true = ih
    by ih false false = ih

pub among : Among
among ws = among_from 0 ws
