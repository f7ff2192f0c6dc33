-- Numbers at a text's front.
use Rattle.std.proofs.Common.{◌≡◌, ℕ, ◌+◌, ◌*◌, ◌-◌, ◌^◌, ◌<◌, ◌≤◌, Bool, true, false, not, cond, ◌&&◌, leb, ltb, List, [], ◌∷◌, length, get_or, take, drop, Some, None, Option, sym, refl, ap, ◌∙◌, arith}
use Rattle.std.proofs.lemmas.Bool.{lt-ltb, le-ltb, le-leb, and_parts, and_from, and_left, and_right, cond-true, cond-false}
use Rattle.std.proofs.lemmas.List.{at_drop_more, at_drop_all, take_rest, length-drop}
use Rattle.std.proofs.lemmas.List.Sums.{take_while-cons}
use Rattle.std.specs.Char.{digit_value, is_digit}
use Rattle.std.specs.List.{list_all, take_while}
use Rattle.std.specs.Option.{option_map}
use Rattle.std.specs.Str.Parse.{digits_value_after, digits_value}
use Rattle.text.specs.Numbers.{value, number, front, leading, ends}
use native.Mathlib.Nat.{le-mul_of_pos_right}

-- the elements at the front that pass a test
module _ (p : ℕ → Bool) where
  -- all pass it
  front_passes : (xs : List ℕ) → list_all p (take_while p xs) ≡ true
  front_passes [] = refl
  front_passes (x ∷ xs) = by (p x) refl (front_passes xs)
    where
      by : (t : Bool) → p x ≡ t → list_all p (take_while p xs) ≡ true → list_all p (take_while p (x ∷ xs)) ≡ true
      by true e h = ap (list_all p) (take_while-cons p x xs ∙ ap (λ b. cond b (x ∷ take_while p xs) []) e) ∙ and_from (p x) (list_all p (take_while p xs)) e h
      by false e h = ap (list_all p) (take_while-cons p x xs ∙ ap (λ b. cond b (x ∷ take_while p xs) []) e)

  -- and are the whole list where all of that pass it
  front_whole : (xs : List ℕ) → list_all p xs ≡ true → take_while p xs ≡ xs
  front_whole [] h = refl
  front_whole (x ∷ xs) h =
      let q = and_parts (p x) (list_all p xs) h in
      take_while-cons p x xs ∙ ap (λ b. cond b (x ∷ take_while p xs) []) q.0 ∙ ap (λ l. x ∷ l) (front_whole xs q.1)

-- what a text writes, by its tests
by_tests : (radix : ℕ) (text : List ℕ) (some all small : Bool) → ltb 0 (length text) ≡ some → list_all (λ b. is_digit b radix) text ≡ all → ltb (digits_value radix text) (2 ^ 32) ≡ small → value radix text ≡ cond ((some && all) && small) (Some (digits_value radix text)) None
by_tests radix text some all small e f g =
    ap (λ t. cond ((t && list_all (λ b. is_digit b radix) text) && ltb (digits_value radix text) (2 ^ 32)) (Some (digits_value radix text)) None) e
    ∙ ap (λ t. cond ((some && t) && ltb (digits_value radix text) (2 ^ 32)) (Some (digits_value radix text)) None) f
    ∙ ap (λ t. cond ((some && all) && t) (Some (digits_value radix text)) None) g

in_radix : (radix : ℕ) (text : List ℕ) → 2 ≤ radix → radix ≤ 36 → number radix text ≡ value radix text
in_radix radix text low high = cond-true (leb 2 radix && leb radix 36) (value radix text) None (and_from (leb 2 radix) (leb radix 36) (le-leb 2 radix low) (le-leb radix 36 high))

-- more digits write no smaller number
no_less : (radix n : ℕ) (ds : List ℕ) → 0 < radix → n ≤ digits_value_after radix n ds
no_less radix n [] h = omega arith
no_less radix n (d ∷ ds) h = omega (arith, le-mul_of_pos_right {m = radix} n h, no_less radix (n * radix + digit_value d) ds h)

-- the first digits are read: so many of them, and the number that they write
abbrev pub Counted : (radix : ℕ) (text : List ℕ) (i n : ℕ) → Type 0
Counted radix text i n =
    (digits_value_after radix n (front radix (drop i text)) ≡ digits_value radix (front radix text))
    × (i + length (front radix (drop i text)) ≡ length (front radix text))

-- and these are all
abbrev pub AllCounted : (radix : ℕ) (text : List ℕ) (i n : ℕ) → Type 0
AllCounted radix text i n = (n ≡ digits_value radix (front radix text)) × (i ≡ length (front radix text))

module _ (radix : ℕ) (text : List ℕ) (i n : ℕ) (c : Counted radix text i n) where
  at : i < length text → (t : Bool) → is_digit (get_or text i 0) radix ≡ t → front radix (drop i text) ≡ cond t (get_or text i 0 ∷ front radix (drop (i + 1) text)) []
  at h t e =
      at_drop_more (front radix) text i 0 h ∙ take_while-cons (λ b. is_digit b radix) (get_or text i 0) (drop (i + 1) text)
      ∙ ap (λ b. cond b (get_or text i 0 ∷ front radix (drop (i + 1) text)) []) e

  -- one digit more
  pub digit_more : i < length text → digit_value (get_or text i 0) < radix → Counted radix text (i + 1) (n * radix + digit_value (get_or text i 0))
  digit_more h d =
      let e = at h true (lt-ltb (digit_value (get_or text i 0)) radix d) in
      (sym (ap (digits_value_after radix n) e) ∙ c.0, omega (arith, ap (λ (xs : List ℕ). length xs) e, c.1))

  -- a byte that is none ends them, and so does the text's end
  pub digit_none : i < length text → radix ≤ digit_value (get_or text i 0) → AllCounted radix text i n
  digit_none h d =
      let e = at h false (le-ltb (digit_value (get_or text i 0)) radix d) in
      (sym (ap (digits_value_after radix n) e) ∙ c.0, omega (arith, ap (λ (xs : List ℕ). length xs) e, c.1))

  pub text_ends : length text ≤ i → AllCounted radix text i n
  text_ends h =
      let e = at_drop_all (front radix) text i h in
      (sym (ap (digits_value_after radix n) e) ∙ c.0, omega (arith, ap (λ (xs : List ℕ). length xs) e, c.1))

  -- a number that is too large stays so
  pub too_large : 2 ≤ radix → radix ≤ 36 → 2 ^ 32 ≤ n → None ≡ leading radix text
  too_large low high large =
      let most = no_less radix n (front radix (drop i text)) (omega (arith, low)) in
      let v = by_tests radix (front radix text) (ltb 0 (length (front radix text))) true false refl (front_passes (λ b. is_digit b radix) text)
      (le-ltb (digits_value radix (front radix text)) (2 ^ 32) (omega (arith, most, c.0, large))) in
      sym (ap (option_map (λ m. (m, drop (length (front radix text)) text)))
      (in_radix radix (front radix text) low high ∙ v ∙ cond-false ((ltb 0 (length (front radix text)) && true) && false) (Some (digits_value radix (front radix text))) None (and_right (ltb 0 (length (front radix text)) && true) false refl)))

module _ (radix : ℕ) (text : List ℕ) (i n : ℕ) (low : 2 ≤ radix) (high : radix ≤ 36) (c : AllCounted radix text i n) where
  -- no digit stands at the front
  pub no_digit : i ≡ 0 → None ≡ leading radix text
  no_digit z =
      let v = by_tests radix (front radix text) false true (ltb (digits_value radix (front radix text)) (2 ^ 32)) (le-ltb 0 (length (front radix text)) (omega (arith, c.1, z))) (front_passes (λ b. is_digit b radix) text) refl in
      sym (ap (option_map (λ m. (m, drop (length (front radix text)) text))) (in_radix radix (front radix text) low high ∙ v))

  -- one does
  pub some_digits : 0 < i → n < 2 ^ 32 → Some (n, take (length text - i) (drop i text)) ≡ leading radix text
  some_digits s small =
      let v = by_tests radix (front radix text) true true true (lt-ltb 0 (length (front radix text)) (omega (arith, c.1, s))) (front_passes (λ b. is_digit b radix) text)
      (lt-ltb (digits_value radix (front radix text)) (2 ^ 32) (omega (arith, c.0, small))) in
      ap (λ l. Some (n, l)) (take_rest text i) ∙ ap (λ k. Some (n, drop k text)) c.1 ∙ ap (λ m. Some (m, drop (length (front radix text)) text)) c.0
      ∙ sym (ap (option_map (λ m. (m, drop (length (front radix text)) text))) (in_radix radix (front radix text) low high ∙ v))

-- no digit passes a test
abbrev pub NoDigit : ℕ → (ℕ → Bool) → Type 0
NoDigit radix stop = (b : ℕ) → is_digit b radix ≡ true → stop b ≡ false

-- a number at the front, where the end follows it or a byte that passes a test
abbrev pub up_to : (ℕ → Bool) → Option (ℕ × List ℕ) → Option ℕ
up_to stop None = None
up_to stop (Some p) = cond (ends stop p.1) (Some p.0) None

none_both : (t : Bool) → cond {A = Option ℕ} t None None ≡ None
none_both true = refl
none_both false = refl

by_all : (radix : ℕ) (text : List ℕ) (all : Bool) → list_all (λ b. is_digit b radix) text ≡ all → number radix text ≡ cond all (number radix (front radix text)) None
by_all radix text true e = ap (number radix) (sym (front_whole (λ b. is_digit b radix) text e))
by_all radix text false e =
    let v = by_tests radix text (ltb 0 (length text)) false (ltb (digits_value radix text) (2 ^ 32)) refl e refl in
    let f = and_left (ltb 0 (length text) && false) (ltb (digits_value radix text) (2 ^ 32)) (and_right (ltb 0 (length text)) false refl) in
    ap (λ o. cond (leb 2 radix && leb radix 36) o None) (v ∙ cond-false _ (Some (digits_value radix text)) None f) ∙ none_both (leb 2 radix && leb radix 36)

-- what stands before the first byte that passes a test
abbrev pub piece : (ℕ → Bool) → List ℕ → List ℕ
piece stop = take_while (λ b. not (stop b))

-- what stands behind the digits at the front
abbrev pub behind : ℕ → List ℕ → List ℕ
behind radix text = drop (length (front radix text)) text

-- these where one byte more stands in front

front_more : (radix b : ℕ) (bs : List ℕ) (t : Bool) → is_digit b radix ≡ t → front radix (b ∷ bs) ≡ cond t (b ∷ front radix bs) []
front_more radix b bs t e = take_while-cons (λ x. is_digit x radix) b bs ∙ ap (λ x. cond x (b ∷ front radix bs) []) e

pub piece_more : (stop : ℕ → Bool) (b : ℕ) (bs : List ℕ) (t : Bool) → stop b ≡ t → piece stop (b ∷ bs) ≡ cond (not t) (b ∷ piece stop bs) []
piece_more stop b bs t e = take_while-cons (λ x. not (stop x)) b bs ∙ ap (λ x. cond (not x) (b ∷ piece stop bs) []) e

pub behind_more : (radix b : ℕ) (bs : List ℕ) (t : Bool) → is_digit b radix ≡ t → behind radix (b ∷ bs) ≡ cond t (behind radix bs) (b ∷ bs)
behind_more radix b bs true e = ap (λ (ds : List ℕ). drop (length ds) (b ∷ bs)) (front_more radix b bs true e)
behind_more radix b bs false e = ap (λ (ds : List ℕ). drop (length ds) (b ∷ bs)) (front_more radix b bs false e)

module _ (radix : ℕ) (stop : ℕ → Bool) (apart : NoDigit radix stop) where
  -- a piece is all digits where it ends behind those at the front
  all_digits : (text : List ℕ) → list_all (λ b. is_digit b radix) (piece stop text) ≡ ends stop (behind radix text)
  all_digits [] = refl
  all_digits (b ∷ bs) = by (is_digit b radix) refl (stop b) refl (all_digits bs)
    where
      all : List ℕ → Bool
      all = list_all (λ x. is_digit x radix)

      by : (d : Bool) → is_digit b radix ≡ d → (s : Bool) → stop b ≡ s → all (piece stop bs) ≡ ends stop (behind radix bs) → all (piece stop (b ∷ bs)) ≡ ends stop (behind radix (b ∷ bs))
      by true e s f h = ap all (piece_more stop b bs false (apart b e)) ∙ ap (λ t. t && all (piece stop bs)) e ∙ h ∙ sym (ap (ends stop) (behind_more radix b bs true e))
      by false e true f h = ap all (piece_more stop b bs true f) ∙ sym (ap (ends stop) (behind_more radix b bs false e) ∙ f)
      by false e false f h = ap all (piece_more stop b bs false f) ∙ ap (λ t. t && all (piece stop bs)) e ∙ sym (ap (ends stop) (behind_more radix b bs false e) ∙ f)

  -- the digits at its front are those of the text
  front_piece : (text : List ℕ) → front radix (piece stop text) ≡ front radix text
  front_piece [] = refl
  front_piece (b ∷ bs) = by (is_digit b radix) refl (stop b) refl (front_piece bs)
    where
      by : (d : Bool) → is_digit b radix ≡ d → (s : Bool) → stop b ≡ s → front radix (piece stop bs) ≡ front radix bs → front radix (piece stop (b ∷ bs)) ≡ front radix (b ∷ bs)
      by true e s f h = ap (front radix) (piece_more stop b bs false (apart b e)) ∙ front_more radix b (piece stop bs) true e ∙ ap (λ l. b ∷ l) h ∙ sym (front_more radix b bs true e)
      by false e true f h = ap (front radix) (piece_more stop b bs true f) ∙ sym (front_more radix b bs false e)
      by false e false f h = ap (front radix) (piece_more stop b bs false f) ∙ front_more radix b (piece stop bs) false e ∙ sym (front_more radix b bs false e)

  -- a piece writes the number at the text's front, where the piece ends behind it
  pub piece_number : (text : List ℕ) → number radix (piece stop text) ≡ up_to stop (leading radix text)
  piece_number text =
      by_all radix (piece stop text) (ends stop (behind radix text)) (all_digits text) ∙ ap (λ ds. cond (ends stop (behind radix text)) (number radix ds) None) (front_piece text)
      ∙ by (ends stop (behind radix text)) (number radix (front radix text)) refl
    where
      by : (t : Bool) (o : Option ℕ) → ends stop (behind radix text) ≡ t → cond t o None ≡ up_to stop (option_map (λ n. (n, behind radix text)) o)
      by t (Some n) e = ap (λ x. cond x (Some n) None) (sym e)
      by true None e = refl
      by false None e = refl

  -- and is then as long as its digits
  pub piece_front : (text : List ℕ) → ends stop (behind radix text) ≡ true → piece stop text ≡ front radix text
  piece_front text e = sym (front_whole (λ b. is_digit b radix) (piece stop text) (all_digits text ∙ e)) ∙ front_piece text

-- a text is a number where nothing follows the digits at its front
pub whole : (radix : ℕ) (text : List ℕ) → number radix text ≡ up_to (λ b. false) (leading radix text)
whole radix text = ap (number radix) (sym (front_whole (λ b. true) text (every text))) ∙ piece_number radix (λ b. false) (λ b e. refl) text
  where
    every : (bs : List ℕ) → list_all (λ b. true) bs ≡ true
    every [] = refl
    every (b ∷ bs) = every bs

pub not_at_end : (text : List ℕ) → 0 < length text → ends (λ b. false) text ≡ false
not_at_end [] h = absurd (omega arith)
not_at_end (b ∷ bs) h = refl

-- a number takes a byte at least
pub shorter : (radix : ℕ) (text : List ℕ) (p : ℕ × List ℕ) → Some p ≡ leading radix text → length p.1 < length text
shorter radix text p e = by text (tail_of (behind radix text) (number radix (front radix text)) e) e
  where
    tail_of : (rest : List ℕ) (o : Option ℕ) → Some p ≡ option_map (λ n. (n, rest)) o → p.1 ≡ rest
    tail_of rest (Some n) h = ap (λ (x : Option (ℕ × List ℕ)). elim x [ Some v ↦ v.1 | None ↦ rest ]) h
    tail_of rest None h = ap (λ (x : Option (ℕ × List ℕ)). elim x [ Some v ↦ v.1 | None ↦ rest ]) h

    no_number : (rest ds : List ℕ) → ds ≡ [] → Some p ≡ option_map (λ n. (n, rest)) (number radix ds) → ⊥
    no_number rest ds f h =
        let z : ◌≡◌ {A = ℕ} 1 0 = ap (λ (x : Option (ℕ × List ℕ)). elim x [ Some v ↦ 1 | None ↦ 0 ]) (h ∙ ap (λ xs. option_map (λ n. (n, rest)) (number radix xs)) f ∙ ap (option_map (λ n. (n, rest))) (none_both (leb 2 radix && leb radix 36))) in
        omega arith

    by : (xs : List ℕ) → p.1 ≡ behind radix xs → Some p ≡ leading radix xs → length p.1 < length xs
    by [] q h = absurd (no_number [] [] refl h)
    by (b ∷ bs) q h = by_digit (is_digit b radix) refl
      where
        by_digit : (t : Bool) → is_digit b radix ≡ t → length p.1 < length (b ∷ bs)
        by_digit true d = omega (arith, ap (λ (xs : List ℕ). length xs) (q ∙ behind_more radix b bs true d), length-drop (length (front radix bs)) bs)
        by_digit false d = absurd (no_number (behind radix (b ∷ bs)) (front radix (b ∷ bs)) (front_more radix b bs false d) h)
