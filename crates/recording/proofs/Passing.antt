-- Scans, marks and more words, one word further.
use Rattle.std.proofs.Common.{◌≡◌, ℕ, suc, ◌+◌, ◌-◌, ◌<◌, ◌≤◌, Bool, true, false, not, ◌⊎◌, inl, inr, cond, ltb, List, [], ◌∷◌, length, get_or, take, drop, Some, None, Option, refl, sym, ap, ◌∙◌, add-zero, arith}
use Rattle.std.specs.List.{position, position_or_len}
use Rattle.std.specs.Option.{IfSome, IfNone, option_map}
use Rattle.std.proofs.lemmas.List.Quantifiers.{position-Some}
use Rattle.std.proofs.lemmas.List.{at_drop_all, take_all, drop-drop, length-drop, get_or-drop}
use Rattle.std.proofs.lemmas.Bool.{eqb-true, ne_eqb, ltb-false, lt-ltb, le-ltb, cases_lt, not-false, or_from, or_parts, cond-true, cond-false}
use Rattle.terms.specs.declared.Place.{Place}
use Rattle.source.specs.Scans.{first}
use Rattle.recording.specs.Format.{Item, scan, mark, kind, content, is_more, is_scan, is_mark, is_item, items_from, items_at, mores, samples_from}

pub pass_word : (i w : ℕ) (ws : List ℕ) → is_item w ≡ false → items_from i (w ∷ ws) ≡ items_from (i + 1) ws
pass_word i w ws e =
    let p = or_parts (is_scan w) (is_mark w) e in
    cond-false {A = List Item} (is_scan w) _ _ p.0 ∙ cond-false {A = List Item} (is_mark w) _ _ p.1

pub scan_word : (i w : ℕ) (ws : List ℕ) → is_scan w ≡ true → items_from i (w ∷ ws) ≡ scan i (content w) ∷ items_from (i + 1) ws
scan_word i w ws e = cond-true {A = List Item} (is_scan w) _ _ e

pub mark_word : (i w : ℕ) (ws : List ℕ) → is_scan w ≡ false → is_mark w ≡ true → items_from i (w ∷ ws) ≡ mark i (content w) (mores ws) ∷ items_from (i + 1) ws
mark_word i w ws e f = cond-false {A = List Item} (is_scan w) _ _ e ∙ cond-true {A = List Item} (is_mark w) _ _ f

pub more_no_item : (w : ℕ) → is_more w ≡ true → is_item w ≡ false
more_no_item w e =
    let k : kind w ≡ 0 = eqb-true (kind w) 0 e in
    or_from (is_scan w) (is_mark w) (ne_eqb (kind w) 1 (λ h. omega arith)) (ne_eqb (kind w) 2 (λ h. omega arith))

pub more_word : (w : ℕ) (ws : List ℕ) → is_more w ≡ true → mores (w ∷ ws) ≡ w ∷ mores ws
more_word w ws e = cond-true {A = List ℕ} (is_more w) _ _ e

pub no_more_word : (w : ℕ) (ws : List ℕ) → is_more w ≡ false → mores (w ∷ ws) ≡ []
no_more_word w ws e = cond-false {A = List ℕ} (is_more w) _ _ e

-- nothing is handed out from behind the last word
pub none_at : (ws : List ℕ) (i : ℕ) → length ws ≤ i → items_at ws i ≡ []
none_at ws i h = at_drop_all (items_from i) ws i h

-- all words from an index on
pub rest_of : (ws : List ℕ) (from : ℕ) → take (length ws - from) (drop from ws) ≡ drop from ws
rest_of ws from = take_all (length ws - from) (drop from ws) (rw length-drop (omega arith))

-- up to the first word that passes a test, where only words that fail it are passed over

module _ (test : ℕ → Bool) (passes : (w : ℕ) → test w ≡ false → is_item w ≡ false) where
  pass_to : (i : ℕ) (ws : List ℕ) → items_from (i + position_or_len test ws) (drop (position_or_len test ws) ws) ≡ items_from i ws
  pass_to i [] = refl
  pass_to i (w ∷ ws) = by (test w) refl (pass_to (i + 1) ws)
    where
      by : (b : Bool) → test w ≡ b → items_from (i + 1 + position_or_len test ws) (drop (position_or_len test ws) ws) ≡ items_from (i + 1) ws → items_from (i + cond (not b) (1 + position_or_len test ws) 0) (drop (cond (not b) (1 + position_or_len test ws) 0) (w ∷ ws)) ≡ items_from i (w ∷ ws)
      by true e ih = ap (λ (j : ℕ). items_from j (w ∷ ws)) (add-zero i)
      by false e ih =
          let one : 1 + position_or_len test ws ≡ suc (position_or_len test ws) = omega arith in
          let on : i + suc (position_or_len test ws) ≡ i + 1 + position_or_len test ws = omega arith in
          ap (λ (n : ℕ). items_from (i + n) (drop n (w ∷ ws))) one
          ∙ (ap (λ (j : ℕ). items_from j (drop (position_or_len test ws) ws)) on ∙ (ih ∙ sym (pass_word i w ws (passes w e))))

  -- the same from an index of the words on
  pub pass_on : (ws : List ℕ) (from : ℕ) → items_from (from + position_or_len test (drop from ws)) (drop (from + position_or_len test (drop from ws)) ws) ≡ items_at ws from
  pass_on ws from =
      ap (λ (xs : List ℕ). items_from (from + position_or_len test (drop from ws)) xs) (sym (drop-drop (position_or_len test (drop from ws)) from ws)) ∙ pass_to from (drop from ws)

-- the first scan or mark: nothing is passed over before it
pub item_at : (ws : List ℕ) (from : ℕ) → IfNone (option_map (λ k. from + k) (position is_item (drop from ws))) (items_at ws from ≡ []) × IfSome (option_map (λ k. from + k) (position is_item (drop from ws))) (λ at. items_at ws at ≡ items_at ws from)
item_at ws from = by (ltb k (length (drop from ws))) (ltb-false k (length (drop from ws)))
  where
    k : ℕ
    k = position_or_len is_item (drop from ws)

    same : items_at ws (from + k) ≡ items_at ws from
    same = pass_on is_item (λ w e. e) ws from

    by : (b : Bool) → (b ≡ false → length (drop from ws) ≤ k) → IfNone (option_map (λ j. from + j) (cond b (Some k) None)) (items_at ws from ≡ []) × IfSome (option_map (λ j. from + j) (cond b (Some k) None)) (λ at. items_at ws at ≡ items_at ws from)
    by true past = (tt, same)
    by false past = (sym same ∙ none_at ws (from + k) (let h : length ws - from ≤ k = rw length-drop at (past refl) in omega arith), tt)

-- it is within the words, and what stands there is a scan or mark
pub item_found : (ws : List ℕ) (from : ℕ) → IfSome (option_map (λ k. from + k) (position is_item (drop from ws))) (λ at. at < length ws) × IfSome (option_map (λ k. from + k) (position is_item (drop from ws))) (λ at. is_item (get_or ws at 0) ≡ true)
item_found ws from = by (position is_item (drop from ws)) refl
  where
    by : (o : Option ℕ) → position is_item (drop from ws) ≡ o → IfSome (option_map (λ k. from + k) o) (λ at. at < length ws) × IfSome (option_map (λ k. from + k) o) (λ at. is_item (get_or ws at 0) ≡ true)
    by (Some k) e =
        let p = position-Some is_item (drop from ws) k 0 e in
        let in_rest : k < length ws - from = rw length-drop at p.0 in
        let there : get_or (drop from ws) k 0 ≡ get_or ws (from + k) 0 = get_or-drop from ws k 0 ∙ ap (λ (j : ℕ). get_or ws j 0) (omega arith) in
        (omega arith, sym (ap (is_item) there) ∙ p.1)
    by None e = (tt, tt)

more_ends : (w : ℕ) → not (is_more w) ≡ false → is_item w ≡ false
more_ends w e = more_no_item w (not-false (is_more w) e)

more_to : (ws : List ℕ) → take (position_or_len (λ w. not (is_more w)) ws) ws ≡ mores ws
more_to [] = refl
more_to (w ∷ ws) = by (is_more w) (more_to ws)
  where
    by : (b : Bool) → take (position_or_len (λ w. not (is_more w)) ws) ws ≡ mores ws → take (cond (not (not b)) (1 + position_or_len (λ w. not (is_more w)) ws) 0) (w ∷ ws) ≡ cond b (w ∷ mores ws) []
    by true ih =
        let one : 1 + position_or_len (λ w. not (is_more w)) ws ≡ suc (position_or_len (λ w. not (is_more w)) ws) = omega arith in
        ap (λ (n : ℕ). take n (w ∷ ws)) one ∙ ap (λ (xs : List ℕ). w ∷ xs) ih
    by false ih = refl

-- the more words from an index on end behind k words, or with the last word
module _ (ws : List ℕ) (from : ℕ) where
  abbrev k : ℕ
  k = position_or_len (λ w. not (is_more w)) (drop from ws)

  pub more_some : (n : ℕ) → Some n ≡ position (λ w. not (is_more w)) (drop from ws) → (take (from + n - from) (drop from ws) ≡ mores (drop from ws)) × (items_at ws (from + n) ≡ items_at ws from)
  more_some n e = by (ltb k (length (drop from ws))) e
    where
      by : (b : Bool) → Some n ≡ cond b (Some k) None → (take (from + n - from) (drop from ws) ≡ mores (drop from ws)) × (items_at ws (from + n) ≡ items_at ws from)
      by true f =
          let same : n ≡ k = cc in
          let on : from + n - from ≡ k = omega arith in
          (ap (λ (m : ℕ). take m (drop from ws)) on ∙ more_to (drop from ws), ap (λ (m : ℕ). items_at ws (from + m)) same ∙ pass_on (λ w. not (is_more w)) more_ends ws from)
      by false f = cc

  pub more_none : None ≡ position (λ w. not (is_more w)) (drop from ws) → (take (length ws - from) (drop from ws) ≡ mores (drop from ws)) × (items_at ws (length ws) ≡ items_at ws from)
  more_none e = by (ltb k (length (drop from ws))) (ltb-false k (length (drop from ws))) e
    where
      by : (b : Bool) → (b ≡ false → length (drop from ws) ≤ k) → None ≡ cond b (Some k) None → (take (length ws - from) (drop from ws) ≡ mores (drop from ws)) × (items_at ws (length ws) ≡ items_at ws from)
      by true past f = cc
      by false past f =
          let far : length ws ≤ from + k = (let h : length ws - from ≤ k = rw length-drop at (past refl) in omega arith) in
          (rest_of ws from ∙ (sym (take_all k (drop from ws) (past refl)) ∙ more_to (drop from ws)), none_at ws (length ws) (omega arith) ∙ (sym (none_at ws (from + k) far) ∙ pass_on (λ w. not (is_more w)) more_ends ws from))

ltb_step : (k n : ℕ) → ltb (suc k) (suc n) ≡ ltb k n
ltb_step k n = by (cases_lt k n)
  where
    by : (k < n) ⊎ (n ≤ k) → ltb (suc k) (suc n) ≡ ltb k n
    by (inl h) = lt-ltb (suc k) (suc n) (omega arith) ∙ sym (lt-ltb k n h)
    by (inr h) = le-ltb (suc k) (suc n) (omega arith) ∙ sym (le-ltb k n h)

-- the place of the first scan
pub first_to : (i : ℕ) (ws : List ℕ) → option_map {U = Place} (λ k. record { 0 = i + k }) (position is_scan ws) ≡ first (samples_from i ws)
first_to i [] = refl
first_to i (w ∷ ws) = by (is_scan w) (first_to (i + 1) ws)
  where
    k : ℕ
    k = position_or_len is_scan ws

    at : ℕ → Option Place
    at p = Some (record { 0 = p })

    on : (b : Bool) → option_map {U = Place} (λ j. record { 0 = i + j }) (cond b (Some (suc k)) None) ≡ option_map {U = Place} (λ j. record { 0 = i + 1 + j }) (cond b (Some k) None)
    on true = let e : i + suc k ≡ i + 1 + k = omega arith in ap (λ (p : ℕ). Some (record { 0 = p })) e
    on false = refl

    by : (b : Bool) → option_map {U = Place} (λ j. record { 0 = i + 1 + j }) (position is_scan ws) ≡ first (samples_from (i + 1) ws) → option_map {U = Place} (λ j. record { 0 = i + j }) (cond (ltb (cond (not b) (1 + k) 0) (length (w ∷ ws))) (Some (cond (not b) (1 + k) 0)) None) ≡ first (cond b (record { place = i; input = content w } ∷ samples_from (i + 1) ws) (samples_from (i + 1) ws))
    by true ih =
        let e : i + 0 ≡ i = omega arith in
        ap (λ (b : Bool). option_map {U = Place} (λ j. record { 0 = i + j }) (cond b (Some 0) None)) (lt-ltb 0 (length (w ∷ ws)) (omega arith)) ∙ ap at e
    by false ih =
        let one : 1 + k ≡ suc k = omega arith in
        ap (λ (n : ℕ). option_map {U = Place} (λ j. record { 0 = i + j }) (cond (ltb n (length (w ∷ ws))) (Some n) None)) one
        ∙ (ap (λ (b : Bool). option_map {U = Place} (λ j. record { 0 = i + j }) (cond b (Some (suc k)) None)) (ltb_step k (length ws))
        ∙ (on (ltb k (length ws)) ∙ ih))
