-- Numbers among others.
use Rattle.std.proofs.Common.{◌≡◌, ℕ, zero, suc, ◌+◌, ◌<◌, ◌≤◌, Bool, true, false, cond, eqb, ◌==◌, ◌||◌, ◌⊎◌, Option, None, Some, List, [], ◌∷◌, ◌++◌, map, length, get_or, take, drop, replicate, append_assoc, sym, refl, ap, ◌∙◌, inl, inr, ⊎_elim, arith}
use Rattle.std.specs.List.{list_any, find, range_with_len}
use Rattle.std.specs.Option.{option_or}
use Rattle.std.proofs.lemmas.List.Folds.{list_any-append, list_any_at, find-append}
use Rattle.std.proofs.lemmas.List.FromFn.{length-map-range_with_len, get_or-map-range_with_len}
use Rattle.std.proofs.lemmas.List.{ext_get_or, get_or-take, length-take-le, drop_more, drop_all}
use Rattle.std.proofs.lemmas.Bool.{cases_Bool, cases_eq, cond-true, cond-false, eq-eqb, eqb-true, and_parts, and_from}
use Rattle.paging.specs.Pages.{numbers, named, has, slot_names, same}

true_or : (a b : Bool) → a ≡ true → (a || b) ≡ true
true_or a b e = ap (λ x. x || b) e

or_true : (a b : Bool) → b ≡ true → (a || b) ≡ true
or_true true b e = refl
or_true false b e = e

or_cases : (a b : Bool) → (a || b) ≡ true → (a ≡ true) ⊎ (b ≡ true)
or_cases true b e = inl refl
or_cases false b e = inr e

or_none : (a : Bool) → (a || false) ≡ a
or_none true = refl
or_none false = refl

pub has_left : (xs ys : List ℕ) (k : ℕ) → has xs k ≡ true → has (xs ++ ys) k ≡ true
has_left xs ys k h = list_any-append (λ n. n == k) xs ys ∙ true_or (has xs k) (has ys k) h

pub has_right : (xs ys : List ℕ) (k : ℕ) → has ys k ≡ true → has (xs ++ ys) k ≡ true
has_right xs ys k h = list_any-append (λ n. n == k) xs ys ∙ or_true (has xs k) (has ys k) h

pub has_append : (xs ys : List ℕ) (k : ℕ) → has (xs ++ ys) k ≡ true → (has xs k ≡ true) ⊎ (has ys k ≡ true)
has_append xs ys k h = or_cases (has xs k) (has ys k) (sym (list_any-append (λ n. n == k) xs ys) ∙ h)

pub has_push : (ks : List ℕ) (k m : ℕ) → has (ks ++ k ∷ []) m ≡ true → (has ks m ≡ true) ⊎ (k ≡ m)
has_push ks k m h =
    ⊎_elim (λ a. inl a)
    (λ b. ⊎_elim (λ e. inr (eqb-true k m e)) (λ e. absurd (false_true e)) (or_cases (eqb k m) false b))
    (has_append ks (k ∷ []) m h)
  where
    false_true : false ≡ true → ⊥
    false_true e = cc

-- a number stands among the first n
pub has_at : (xs : List ℕ) (i n : ℕ) → i < n → n ≤ length xs → has (take n xs) (get_or xs i 0) ≡ true
has_at xs i n lt le =
    list_any_at (λ m. m == get_or xs i 0) (take n xs) i 0 (omega (arith, length-take-le n xs le)) (eq-eqb (get_or (take n xs) i 0) (get_or xs i 0) (get_or-take n xs i 0 lt))

-- two lists told by the place
pub counted_same : {X : Type 0} (d : X) (f g : ℕ → X) (n : ℕ) → ((i : ℕ) → i < n → f i ≡ g i) → map f (range_with_len 0 n) ≡ map g (range_with_len 0 n)
counted_same d f g n all =
    ext_get_or d (map f (range_with_len 0 n)) (map g (range_with_len 0 n)) (length-map-range_with_len f 0 n ∙ sym (length-map-range_with_len g 0 n))
    (λ i h.
    let k : i < n = omega (arith, length-map-range_with_len f 0 n) in
    get_or-map-range_with_len f 0 n i i d k (omega arith) ∙ all i k ∙ sym (get_or-map-range_with_len g 0 n i i d k (omega arith)))

pub counted_is : (f : ℕ → ℕ) (words : List ℕ) (n : ℕ) → length words ≡ n → ((i : ℕ) → i < n → f i ≡ get_or words i 0) → map f (range_with_len 0 n) ≡ words
counted_is f words n e all =
    ext_get_or 0 (map f (range_with_len 0 n)) words (length-map-range_with_len f 0 n ∙ sym e)
    (λ i h.
    let k : i < n = omega (arith, length-map-range_with_len f 0 n) in
    get_or-map-range_with_len f 0 n i i 0 k (omega arith) ∙ all i k)

-- the first p numbers of a row that is long enough
pub numbers_taken : (p : ℕ) (row : List ℕ) → p ≤ length row → numbers p row ≡ take p row
numbers_taken p row le =
    counted_is (λ i. get_or row i 0) (take p row) p (length-take-le p row le) (λ i h. sym (get_or-take p row i 0 h))

pub numbers_at : (p : ℕ) (row : List ℕ) (i : ℕ) → i < p → has (numbers p row) (get_or row i 0) ≡ true
numbers_at p row i h =
    list_any_at (λ m. m == get_or row i 0) (numbers p row) i 0 (omega (arith, length-map-range_with_len (λ i. get_or row i 0) 0 p))
    (eq-eqb (get_or (numbers p row) i 0) (get_or row i 0) (get_or-map-range_with_len (λ i. get_or row i 0) 0 p i i 0 h (omega arith)))

-- the numbers that rows name, row by row
pub named_any : (p : ℕ) (rows : List (Option (List ℕ))) (k : ℕ) → list_any (slot_names p k) rows ≡ has (named p rows) k
named_any p [] k = refl
named_any p (None ∷ rows) k = named_any p rows k
named_any p (Some row ∷ rows) k = ap (λ b. has (numbers p row) k || b) (named_any p rows k) ∙ sym (list_any-append (λ n. n == k) (numbers p row) (named p rows))

some_same : (x y : ℕ) → Some x ≡ Some y → x ≡ y
some_same x y e = cc

-- the first number below n that passes a test
pub found : (p : ℕ → Bool) (a n k : ℕ) → find p (range_with_len a n) ≡ Some k → (p k ≡ true) × (k < a + n)
found p a zero k e = absurd (cc)
found p a (suc n) k e =
    ⊎_elim
    (λ t. let q : a ≡ k = some_same a k (sym (cond-true (p a) (Some a) (find p (range_with_len (a + 1) n)) t) ∙ e) in (ap p (sym q) ∙ t, omega (arith, q)))
    (λ f. let v = found p (a + 1) n k (sym (cond-false (p a) (Some a) (find p (range_with_len (a + 1) n)) f) ∙ e) in (v.0, omega (arith, v.1)))
    (cases_Bool (p a))

pub not_found : (p : ℕ → Bool) (a n : ℕ) → find p (range_with_len a n) ≡ None → (k : ℕ) → a ≤ k → k < a + n → p k ≡ false
not_found p a zero e k h l = absurd (omega arith)
not_found p a (suc n) e k h l =
    ⊎_elim
    (λ t. let s = sym (cond-true (p a) (Some a) (find p (range_with_len (a + 1) n)) t) ∙ e in absurd (cc))
    (λ f.
    ⊎_elim (λ q. ap p q ∙ f)
    (λ ne. not_found p (a + 1) n (sym (cond-false (p a) (Some a) (find p (range_with_len (a + 1) n)) f) ∙ e) k (omega (arith, ne)) (omega arith))
    (cases_eq k a))
    (cases_Bool (p a))

-- the first of some numbers that passes a test is one of them
pub found_among : (p : ℕ → Bool) (ks : List ℕ) (k : ℕ) → find p ks ≡ Some k → (p k ≡ true) × (has ks k ≡ true)
found_among p [] k e = absurd (cc)
found_among p (n ∷ ks) k e =
    ⊎_elim
    (λ t. let q : n ≡ k = some_same n k (sym (cond-true (p n) (Some n) (find p ks) t) ∙ e) in (ap p (sym q) ∙ t, true_or (n == k) (has ks k) (eq-eqb n k q)))
    (λ f. let v = found_among p ks k (sym (cond-false (p n) (Some n) (find p ks) f) ∙ e) in (v.0, or_true (n == k) (has ks k) v.1))
    (cases_Bool (p n))

-- where none of them passes, one of them does not
pub none_among : (p : ℕ → Bool) (ks : List ℕ) (k : ℕ) → find p ks ≡ None → has ks k ≡ true → p k ≡ false
none_among p [] k e h = absurd (cc)
none_among p (n ∷ ks) k e h =
    ⊎_elim
    (λ t. let s = sym (cond-true (p n) (Some n) (find p ks) t) ∙ e in absurd (cc))
    (λ f.
    ⊎_elim (λ q. ap p (sym (eqb-true n k q)) ∙ f)
    (λ i. none_among p ks k (sym (cond-false (p n) (Some n) (find p ks) f) ∙ e) i)
    (or_cases (n == k) (has ks k) h))
    (cases_Bool (p n))

-- numbers looked through row by row, and behind the rows others
pub looked_past : (t : ℕ → Bool) (p : ℕ) (rows : List (Option (List ℕ))) (laid : List ℕ) (i : ℕ) → i < length rows → get_or rows i None ≡ None
    → find t (named p (drop i rows) ++ laid) ≡ find t (named p (drop (i + 1) rows) ++ laid)
looked_past t p rows laid i lt e =
    ap (λ l. find t (named p l ++ laid)) (drop_more rows i None lt) ∙ ap (λ s. find t (named p (s ∷ drop (i + 1) rows) ++ laid)) e

pub looked_row : (t : ℕ → Bool) (p : ℕ) (rows : List (Option (List ℕ))) (laid : List ℕ) (i : ℕ) (row : List ℕ) → i < length rows → get_or rows i None ≡ Some row
    → find t (named p (drop i rows) ++ laid) ≡ option_or (find t (numbers p row)) (find t (named p (drop (i + 1) rows) ++ laid))
looked_row t p rows laid i row lt e =
    ap (λ l. find t (named p l ++ laid)) (drop_more rows i None lt) ∙
    ap (λ s. find t (named p (s ∷ drop (i + 1) rows) ++ laid)) e ∙
    ap (find t) (append_assoc (numbers p row) (named p (drop (i + 1) rows)) laid) ∙
    find-append t (numbers p row) (named p (drop (i + 1) rows) ++ laid)

-- pages marked row by row: none at first
pub marked_none : (p : ℕ) (rows : List (Option (List ℕ))) (n k : ℕ) → (get_or (replicate n false) k false || has (named p rows) k) ≡ has (named p rows) k
marked_none p rows n k = ap (λ b. b || has (named p rows) k) (bare n k)
  where
    bare : (n k : ℕ) → get_or (replicate n false) k false ≡ false
    bare zero k = refl
    bare (suc n) zero = refl
    bare (suc n) (suc k) = bare n k

-- all marked: what is not marked is not in use
pub marked_all : (p : ℕ) (rows : List (Option (List ℕ))) (laid : List ℕ) (i k : ℕ) (mark mark' : Bool) → length rows ≤ i → (mark || has (named p (drop i rows)) k) ≡ has (named p rows) k → mark' ≡ (mark || has laid k)
    → mark' ≡ has (named p rows ++ laid) k
marked_all p rows laid i k mark mark' le h m =
    m ∙ ap (λ b. b || has laid k) (sym (or_none mark) ∙ ap (λ l. mark || has (named p l) k) (sym (drop_all i rows le)) ∙ h) ∙ sym (list_any-append (λ n. n == k) (named p rows) laid)

pub found_same : (p q : ℕ → Bool) (a n : ℕ) → ((k : ℕ) → k < a + n → p k ≡ q k) → find p (range_with_len a n) ≡ find q (range_with_len a n)
found_same p q a zero h = refl
found_same p q a (suc n) h =
    ap (λ b. cond b (Some a) (find p (range_with_len (a + 1) n))) (h a (omega arith)) ∙
    ap (λ o. cond (q a) (Some a) o) (found_same p q (a + 1) n (λ k l. h k (omega arith)))

pub has_either : (xs ys : List ℕ) (k : ℕ) → has xs k ≡ false → has ys k ≡ has (xs ++ ys) k
has_either xs ys k h = sym (list_any-append (λ n. n == k) xs ys ∙ ap (λ b. b || has ys k) h)

-- pages of equal words are the same
pub same_self : (x : List ℕ) → same x x ≡ true
same_self [] = refl
same_self (x ∷ xs) = and_from (x == x) (same xs xs) (eq-eqb x x refl) (same_self xs)

pub same_equal : (x y : List ℕ) → same x y ≡ true → x ≡ y
same_equal [] [] e = refl
same_equal [] (y ∷ ys) e = absurd (cc)
same_equal (x ∷ xs) [] e = absurd (cc)
same_equal (x ∷ xs) (y ∷ ys) e =
    let p = and_parts (x == y) (same xs ys) e in
    ap (λ n. n ∷ xs) (eqb-true x y p.0) ∙ ap (λ l. y ∷ l) (same_equal xs ys p.1)
