-- Numbers and the space behind them.
use Rattle.std.proofs.Common.{◌≡◌, ℕ, ◌+◌, ◌<◌, ◌≤◌, Bool, true, false, cond, eqb, ltb, List, [], ◌∷◌, length, take, drop, Some, None, Option, refl, sym, ap, ◌∙◌, arith}
use Rattle.std.proofs.lemmas.Bool.{ltb-true, ltb-false}
use Rattle.std.proofs.lemmas.Bool.Decides.{nat_tests}
use Rattle.std.proofs.lemmas.List.{length-take-le, length-drop, take_all, drop-drop}
use Rattle.std.specs.List.{position_or_len}
use Rattle.std.specs.Option.{option_map}
use Rattle.text.specs.Numbers.{number, front, leading, ends}
use Rattle.text.proofs.Numerals.{NoDigit, piece, behind, piece_number, piece_front, up_to}
use Rattle.tabletext.specs.Grammar.{chain, behind_space, numeral}

-- a number with what follows it, and one with what follows its space
abbrev pub spaced : Option (ℕ × List ℕ) → Option (ℕ × List ℕ)
spaced None = None
spaced (Some p) = option_map (λ rest. (p.0, rest)) (behind_space p.1)

abbrev space : ℕ → Bool
space b = eqb b 32

space_apart : NoDigit 10 space
space_apart b h = grind (arith, nat_tests)

module _ (line : List ℕ) where
  abbrev k : ℕ
  k = position_or_len space line

  -- a numeral by whether there is a space
  by_space : (t : Bool) → ltb k (length line) ≡ t → numeral line ≡ cond t (option_map (λ n. (n, drop (k + 1) line)) (number 10 (piece space line))) None
  by_space true e = ap (λ t. chain (option_map (λ i. (take i line, drop (i + 1) line)) (cond t (Some k) None)) (λ digits rest. option_map (λ n. (n, rest)) (number 10 digits))) e
  by_space false e = ap (λ t. chain (option_map (λ i. (take i line, drop (i + 1) line)) (cond t (Some k) None)) (λ digits rest. option_map (λ n. (n, rest)) (number 10 digits))) e

  no_number : number 10 (piece space line) ≡ None → numeral line ≡ None
  no_number e = by (ltb k (length line)) refl
    where
      by : (t : Bool) → ltb k (length line) ≡ t → numeral line ≡ None
      by true f = by_space true f ∙ ap (option_map (λ n. (n, drop (k + 1) line))) e
      by false f = by_space false f

  -- where the digits at the front end at a space or with the line, they are the piece
  no_space : ends space (behind 10 line) ≡ true → length line ≤ length (front 10 line) → numeral line ≡ None
  no_space e h = by (ltb k (length line)) refl
    where
      by : (t : Bool) → ltb k (length line) ≡ t → numeral line ≡ None
      by true f = absurd (omega (arith, ltb-true k (length line) f, length-take-le k line (omega (arith, ltb-true k (length line) f)), ap (λ (ds : List ℕ). length ds) (piece_front 10 space space_apart line e), h))
      by false f = by_space false f

  at_space : (n : ℕ) (rest : List ℕ) → ends space (behind 10 line) ≡ true → length (front 10 line) < length line → number 10 (piece space line) ≡ Some n → drop 1 (behind 10 line) ≡ rest → numeral line ≡ Some (n, rest)
  at_space n rest e h o d = by (ltb k (length line)) refl
    where
      same : length (piece space line) ≡ length (front 10 line)
      same = ap (λ (ds : List ℕ). length ds) (piece_front 10 space space_apart line e)

      by : (t : Bool) → ltb k (length line) ≡ t → numeral line ≡ Some (n, rest)
      by true f =
          let here : k + 1 ≡ length (front 10 line) + 1 = omega (arith, same, length-take-le k line (omega (arith, ltb-true k (length line) f))) in
          by_space true f ∙ ap (option_map (λ m. (m, drop (k + 1) line))) o ∙ ap (λ j. Some (n, drop j line)) here
          ∙ ap (λ (xs : List ℕ). Some (n, xs)) (sym (drop-drop 1 (length (front 10 line)) line) ∙ d)
      by false f = absurd (omega (arith, same, h, ap (λ (xs : List ℕ). length xs) (take_all k line (ltb-false k (length line) f))))

pub by_leading : (line : List ℕ) → numeral line ≡ spaced (leading 10 line)
by_leading line = by (number 10 (front 10 line)) (behind 10 line) refl refl
  where
    read : (o : Option ℕ) (rest : List ℕ) → leading 10 line ≡ option_map (λ n. (n, rest)) o → number 10 (piece space line) ≡ up_to space (option_map (λ n. (n, rest)) o)
    read o rest e = piece_number 10 space space_apart line ∙ ap (up_to space) e

    by : (o : Option ℕ) (rest : List ℕ) → behind 10 line ≡ rest → leading 10 line ≡ option_map (λ n. (n, rest)) o → numeral line ≡ spaced (leading 10 line)
    by None rest q e = no_number line (read None rest e) ∙ sym (ap spaced e)
    by (Some n) [] q e =
        no_space line (ap (ends space) q) (omega (arith, length-drop (length (front 10 line)) line, ap (λ (xs : List ℕ). length xs) q)) ∙ sym (ap spaced e)
    by (Some n) (b ∷ bs) q e = by_byte (eqb b 32) refl
      where
        by_byte : (t : Bool) → eqb b 32 ≡ t → numeral line ≡ spaced (leading 10 line)
        by_byte true f =
            at_space line n bs (ap (ends space) q ∙ f) (omega (arith, length-drop (length (front 10 line)) line, ap (λ (xs : List ℕ). length xs) q))
            (read (Some n) (b ∷ bs) e ∙ ap (λ t. cond t (Some n) None) f) (ap (drop 1) q)
            ∙ sym (ap spaced e ∙ ap (λ t. option_map (λ rest. (n, rest)) (cond t (Some bs) None)) f)
        by_byte false f =
            no_number line (read (Some n) (b ∷ bs) e ∙ ap (λ t. cond t (Some n) None) f)
            ∙ sym (ap spaced e ∙ ap (λ t. option_map (λ rest. (n, rest)) (cond t (Some bs) None)) f)
