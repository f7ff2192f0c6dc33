-- There are as many different pages as pages in use.
use Rattle.std.proofs.Common.{◌≡◌, ℕ, zero, suc, ◌+◌, ◌-◌, ◌*◌, ◌/◌, ◌%◌, ◌<◌, ◌≤◌, Bool, true, false, cond, ◌||◌, ◌==◌, Option, None, Some, List, [], ◌∷◌, ◌++◌, map, length, get_or, take, drop, sym, refl, ap, ◌∙◌, subst, ⊎_elim, arith}
use Rattle.std.specs.List.{range_with_len, count_by, slice_range}
use Rattle.std.proofs.lemmas.List.FromFn.{length-map-range_with_len, get_or-map-range_with_len}
use Rattle.std.proofs.lemmas.List.Sums.{sum_by-cons}
use Rattle.std.proofs.lemmas.List.{get_or_past, map-append, drop_more, drop_all, drop-take}
use Rattle.std.proofs.lemmas.List.Folds.{list_any-append}
use Rattle.std.proofs.lemmas.Bool.{ne_eqb, eq-eqb, eqb-true, cases_eq, cases_lt}
use Rattle.paging.specs.Layout.{pages_in, count, whole}
use Rattle.paging.specs.Pages.{at, page, numbers, shot, slot_of, named, has, distinct, TidyAll, cut, pages_of, same, among, different, used}
use Rattle.paging.proofs.Numbers.{has_right, counted_same, numbers_taken, same_self, same_equal}

bool_equal : (a b : Bool) → (a ≡ true → b ≡ true) → (b ≡ true → a ≡ true) → a ≡ b
bool_equal true b f g = sym (f refl)
bool_equal false true f g = g refl
bool_equal false false f g = refl

has_more : (k : ℕ) (ks : List ℕ) (m : ℕ) → has ks m ≡ true → has (k ∷ ks) m ≡ true
has_more k ks m h = has_right (k ∷ []) ks m h

has_head : (k : ℕ) (ks : List ℕ) → has (k ∷ ks) k ≡ true
has_head k ks = ap (λ b. b || has ks k) (eq-eqb k k refl)

among_has : (pool : List ℕ) (k : ℕ) (ks : List ℕ) → ((l : ℕ) → has ks l ≡ true → page pool k ≡ page pool l → k ≡ l) → among (page pool k) (map (page pool) ks) ≡ has ks k
among_has pool k [] h = refl
among_has pool k (l ∷ ks) h =
    ap (λ b. b || among (page pool k) (map (page pool) ks))
    (bool_equal (same (page pool k) (page pool l)) (l == k)
    (λ e. eq-eqb l k (sym (h l (has_head l ks) (same_equal (page pool k) (page pool l) e))))
    (λ e. subst (λ m. same (page pool k) (page pool m) ≡ true) (sym (eqb-true l k e)) (same_self (page pool k)))) ∙
    ap (λ b. (l == k) || b) (among_has pool k ks (λ m i e. h m (has_more l ks m i) e))

different_distinct : (pool ks : List ℕ) → ((k l : ℕ) → has ks k ≡ true → has ks l ≡ true → page pool k ≡ page pool l → k ≡ l) → different (map (page pool) ks) ≡ distinct ks
different_distinct pool [] h = refl
different_distinct pool (k ∷ ks) h =
    ap (λ b. cond b 0 1 + different (map (page pool) ks)) (among_has pool k ks (λ l i e. h k l (has_head k ks) (has_more k ks l i) e)) ∙
    ap (λ n. cond (has ks k) 0 1 + n) (different_distinct pool ks (λ l m i j e. h l m (has_more k ks l i) (has_more k ks m j) e))

-- a number counted below q beside others
one_past : (p : ℕ → Bool) (k a n : ℕ) → k < a → count_by (λ m. (k == m) || p m) (range_with_len a n) ≡ count_by p (range_with_len a n)
one_past p k a zero h = refl
one_past p k a (suc n) h =
    sum_by-cons (λ m. cond ((k == m) || p m) 1 0) a (range_with_len (a + 1) n) ∙
    ap (λ b. cond (b || p a) 1 0 + count_by (λ m. (k == m) || p m) (range_with_len (a + 1) n)) (ne_eqb k a (λ e. omega arith)) ∙
    ap (λ c. cond (p a) 1 0 + c) (one_past p k (a + 1) n (omega arith)) ∙
    sym (sum_by-cons (λ m. cond (p m) 1 0) a (range_with_len (a + 1) n))

new_one : (b : Bool) (c : ℕ) → 1 + c ≡ cond b 0 1 + (cond b 1 0 + c)
new_one true c = omega arith
new_one false c = omega arith

one_within : (p : ℕ → Bool) (k a n : ℕ) → a ≤ k → k < a + n → count_by (λ m. (k == m) || p m) (range_with_len a n) ≡ cond (p k) 0 1 + count_by p (range_with_len a n)
one_within p k a zero h l = absurd (omega arith)
one_within p k a (suc n) h l =
    sum_by-cons (λ m. cond ((k == m) || p m) 1 0) a (range_with_len (a + 1) n) ∙
    ⊎_elim
    (λ e.
    ap (λ b. cond (b || p a) 1 0 + count_by (λ m. (k == m) || p m) (range_with_len (a + 1) n)) (eq-eqb k a e) ∙
    ap (λ c. 1 + c) (one_past p k (a + 1) n (omega (arith, e))) ∙
    new_one (p a) (count_by p (range_with_len (a + 1) n)) ∙
    ap (λ m. cond (p m) 0 1 + (cond (p a) 1 0 + count_by p (range_with_len (a + 1) n))) (sym e))
    (λ ne.
    let i = one_within p k (a + 1) n (omega (arith, ne)) (omega arith) in
    ap (λ b. cond (b || p a) 1 0 + count_by (λ m. (k == m) || p m) (range_with_len (a + 1) n)) (ne_eqb k a ne) ∙
    omega (arith, i))
    (cases_eq k a) ∙
    ap (λ c. cond (p k) 0 1 + c) (sym (sum_by-cons (λ m. cond (p m) 1 0) a (range_with_len (a + 1) n)))

none_counted : (a n : ℕ) → count_by (λ m. false) (range_with_len a n) ≡ 0
none_counted a zero = refl
none_counted a (suc n) = let i = none_counted (a + 1) n in sum_by-cons (λ m. cond false 1 0) a (range_with_len (a + 1) n) ∙ omega (arith, i)

distinct_counted : (ks : List ℕ) (q : ℕ) → ((k : ℕ) → has ks k ≡ true → k < q) → distinct ks ≡ count_by (has ks) (range_with_len 0 q)
distinct_counted [] q h = sym (none_counted 0 q)
distinct_counted (k ∷ ks) q h =
    ap (λ n. cond (has ks k) 0 1 + n) (distinct_counted ks q (λ l i. h l (has_more k ks l i))) ∙
    sym (one_within (has ks) k 0 q (omega arith) (omega (arith, h k (has_head k ks))))

-- a page of a held snapshot is that of its number
page_same : (xs ys : List ℕ) (i k : ℕ) → ((t : ℕ) → t < 4 → get_or xs (4 * i + t) 0 ≡ get_or ys (4 * k + t) 0) → page xs i ≡ page ys k
page_same xs ys i k h =
    let z : get_or xs (4 * i) 0 ≡ get_or ys (4 * k) 0 = ap (λ n. get_or xs n 0) (plain i) ∙ h 0 (omega arith) ∙ ap (λ n. get_or ys n 0) (sym (plain k)) in
    ap (λ w. w ∷ get_or xs (4 * i + 1) 0 ∷ get_or xs (4 * i + 2) 0 ∷ get_or xs (4 * i + 3) 0 ∷ []) z ∙
    ap (λ w. get_or ys (4 * k) 0 ∷ w ∷ get_or xs (4 * i + 2) 0 ∷ get_or xs (4 * i + 3) 0 ∷ []) (h 1 (omega arith)) ∙
    ap (λ w. get_or ys (4 * k) 0 ∷ get_or ys (4 * k + 1) 0 ∷ w ∷ get_or xs (4 * i + 3) 0 ∷ []) (h 2 (omega arith)) ∙
    ap (λ w. get_or ys (4 * k) 0 ∷ get_or ys (4 * k + 1) 0 ∷ get_or ys (4 * k + 2) 0 ∷ w ∷ []) (h 3 (omega arith))
  where
    plain : (n : ℕ) → 4 * n ≡ 4 * n + 0
    plain n = omega arith

page_shot : (pool : List ℕ) (width : ℕ) (row : List ℕ) (i : ℕ) → ((t : ℕ) → t < 4 → width ≤ 4 * i + t → at pool (get_or row i 0) t ≡ 0) → page (shot pool width row) i ≡ page pool (get_or row i 0)
page_shot pool width row i padded =
    page_same (shot pool width row) pool i (get_or row i 0)
    (λ t h.
    ⊎_elim
    (λ l.
    let a : (4 * i + t) / 4 ≡ i = omega arith in
    let b : (4 * i + t) % 4 ≡ t = omega arith in
    get_or-map-range_with_len (λ i. at pool (get_or row (i / 4) 0) (i % 4)) 0 width (4 * i + t) (4 * i + t) 0 l (omega arith) ∙
    ap (λ x. at pool (get_or row x 0) ((4 * i + t) % 4)) a ∙ ap (λ x. at pool (get_or row i 0) x) b)
    (λ l.
    get_or_past (shot pool width row) (4 * i + t) 0 (omega (arith, length-map-range_with_len (λ i. at pool (get_or row (i / 4) 0) (i % 4)) 0 width)) ∙
    sym (padded t h l))
    (cases_lt (4 * i + t) width))

cut_shot : (pool : List ℕ) (width p : ℕ) (row : List ℕ) → ((i t : ℕ) → i < p → t < 4 → width ≤ 4 * i + t → at pool (get_or row i 0) t ≡ 0) → cut p (shot pool width row) ≡ map (page pool) (numbers p row)
cut_shot pool width p row padded =
    counted_same [] (page (shot pool width row)) (λ i. page pool (get_or row i 0)) p (λ i h. page_shot pool width row i (λ t l w. padded i t h l w)) ∙
    sym (mapped (range_with_len 0 p))
  where
    mapped : (is : List ℕ) → map (page pool) (map (λ i. get_or row i 0) is) ≡ map (λ i. page pool (get_or row i 0)) is
    mapped [] = refl
    mapped (i ∷ is) = ap (λ l. page pool (get_or row i 0) ∷ l) (mapped is)

held_pages : (pool : List ℕ) (width p : ℕ) (rows : List (Option (List ℕ)))
    → ((j : ℕ) (row : List ℕ) (i t : ℕ) → get_or rows j None ≡ Some row → i < p → t < 4 → width ≤ 4 * i + t → at pool (get_or row i 0) t ≡ 0)
    → pages_of p (map (slot_of pool width) rows) ≡ map (page pool) (named p rows)
held_pages pool width p [] h = refl
held_pages pool width p (None ∷ rows) h = held_pages pool width p rows (λ j row i t e. h (suc j) row i t e)
held_pages pool width p (Some row ∷ rows) h =
    ap (λ l. l ++ pages_of p (map (slot_of pool width) rows)) (cut_shot pool width p row (λ i t. h 0 row i t refl)) ∙
    ap (λ l. map (page pool) (numbers p row) ++ l) (held_pages pool width p rows (λ j row i t e. h (suc j) row i t e)) ∙
    sym (map-append (page pool) (numbers p row) (named p rows))

-- the different pages of tidy rows are the pages that they name
used_named : (rows : List (Option (List ℕ))) (pool : List ℕ) (width : ℕ) → TidyAll rows pool width
    → used rows pool width ≡ distinct (named (pages_in width) (take (count width (length pool)) rows))
used_named rows pool width tidy =
    let rs = take (count width (length pool)) rows in
    ap different (held_pages pool width (pages_in width) rs tidy.padded) ∙ different_distinct pool (named (pages_in width) rs) tidy.kept.shared

pub used_counted : (rows : List (Option (List ℕ))) (pool : List ℕ) (width : ℕ) → TidyAll rows pool width
    → used rows pool width ≡ count_by (has (named (pages_in width) (take (count width (length pool)) rows))) (range_with_len 0 (whole (length pool)))
used_counted rows pool width tidy =
    used_named rows pool width tidy ∙ distinct_counted (named (pages_in width) (take (count width (length pool)) rows)) (whole (length pool)) tidy.kept.inside

pub count_used : (rows : List (Option (List ℕ))) (pool : List ℕ) (width n p : ℕ) → n ≡ count width (length pool) → p ≡ pages_in width → TidyAll rows pool width
    → distinct (named p (take n rows)) ≡ used rows pool width
count_used rows pool width n p e f tidy =
    ap (λ m. distinct (named p (take m rows))) e ∙ ap (λ q. distinct (named q (take (count width (length pool)) rows))) f ∙ sym (used_named rows pool width tidy)

-- the numbers of a row counted where they stand last
pub later_in : (p : ℕ) (row rest : List ℕ) (i k : ℕ) → i < p → p ≤ length row
    → has (drop (i + 1) (numbers p row) ++ rest) k ≡ (has (slice_range row (i + 1) p) k || has rest k)
later_in p row rest i k lt le =
    list_any-append (λ n. n == k) (drop (i + 1) (numbers p row)) rest ∙
    ap (λ l. has (drop (i + 1) l) k || has rest k) (numbers_taken p row le) ∙
    (let e : p ≡ i + 1 + (p - (i + 1)) = omega (arith, lt) in
    ap (λ m. has (drop (i + 1) (take m row)) k || has rest k) e ∙ ap (λ l. has l k || has rest k) (drop-take (i + 1) (p - (i + 1)) row))

last_step : (p : ℕ) (row rest : List ℕ) (i : ℕ) → i < p
    → distinct (drop i (numbers p row) ++ rest) ≡ cond (has (drop (i + 1) (numbers p row) ++ rest) (get_or row i 0)) 0 1 + distinct (drop (i + 1) (numbers p row) ++ rest)
last_step p row rest i lt =
    ap (λ l. distinct (l ++ rest)) (drop_more (numbers p row) i 0 (omega (arith, length-map-range_with_len (λ i. get_or row i 0) 0 p))) ∙
    ap (λ k. cond (has (drop (i + 1) (numbers p row) ++ rest) k) 0 1 + distinct (drop (i + 1) (numbers p row) ++ rest)) (get_or-map-range_with_len (λ i. get_or row i 0) 0 p i i 0 lt (omega arith))

pub last_seen : (p : ℕ) (row rest : List ℕ) (i : ℕ) → i < p → has (drop (i + 1) (numbers p row) ++ rest) (get_or row i 0) ≡ true
    → distinct (drop i (numbers p row) ++ rest) ≡ distinct (drop (i + 1) (numbers p row) ++ rest)
last_seen p row rest i lt e = let s = last_step p row rest i lt ∙ ap (λ b. cond b 0 1 + distinct (drop (i + 1) (numbers p row) ++ rest)) e in omega (arith, s)

pub last_new : (p : ℕ) (row rest : List ℕ) (i : ℕ) → i < p → has (drop (i + 1) (numbers p row) ++ rest) (get_or row i 0) ≡ false
    → distinct (drop i (numbers p row) ++ rest) ≡ 1 + distinct (drop (i + 1) (numbers p row) ++ rest)
last_new p row rest i lt e = last_step p row rest i lt ∙ ap (λ b. cond b 0 1 + distinct (drop (i + 1) (numbers p row) ++ rest)) e

pub last_end : (p : ℕ) (row rest : List ℕ) (i : ℕ) → p ≤ i → distinct (drop i (numbers p row) ++ rest) ≡ distinct rest
last_end p row rest i le = ap (λ l. distinct (l ++ rest)) (drop_all i (numbers p row) (omega (arith, length-map-range_with_len (λ i. get_or row i 0) 0 p)))
