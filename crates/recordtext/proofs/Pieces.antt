-- Numbers between blanks.
use Rattle.std.proofs.Common.{◌≡◌, ℕ, Bool, true, false, cond, List, [], ◌∷◌, ◌++◌, Some, None, Ok, Err, Option, Result, refl, sym, ap, ◌∙◌, arith}
use Rattle.std.proofs.lemmas.Bool.Decides.{nat_tests}
use Rattle.std.proofs.lemmas.List.Splits.{slice_split-cons_yes}
use Rattle.std.specs.List.{slice_split}
use Rattle.std.specs.Option.{option_map, ok_or}
use Rattle.text.specs.Numbers.{number, front, ends}
use Rattle.text.proofs.Numerals.{NoDigit, behind, piece_more, piece_number, up_to}
use Rattle.text.proofs.Pieces.{Cut, cut}
use Rattle.recordtext.specs.declared.Fault.{Fault}
use Rattle.recordtext.specs.declared.Fault.TheVariants.{Bad, NoMemory}
use Rattle.recordtext.specs.Lines.{blank, numbers_from, first_number, Numbers}

blank_apart : NoDigit 16 blank
blank_apart b h = grind (arith, nat_tests)

-- a blank adds nothing
pub skipped : (ns : List ℕ) (b : ℕ) (bs : List ℕ) → blank b ≡ true → numbers_from ns (slice_split blank (b ∷ bs)) ≡ numbers_from ns (slice_split blank bs)
skipped ns b bs e = ap (numbers_from ns) (slice_split-cons_yes blank b bs e)

-- at another byte a number is read, and the numbers behind it
abbrev pub read_on : List ℕ → Option (ℕ × List ℕ) → Option (List ℕ)
read_on ns None = None
read_on ns (Some p) = numbers_from (ns ++ (p.0 ∷ [])) (slice_split blank p.1)

read_one : (ns : List ℕ) (b : ℕ) (bs : List ℕ) → blank b ≡ false → numbers_from ns (slice_split blank (b ∷ bs)) ≡ read_on ns (first_number (b ∷ bs))
read_one ns b bs e =
    ap (numbers_from ns) (c.1 ∙ ap (λ p. p ∷ c.0) (piece_more blank b bs false e))
    ∙ ap then_pieces (ap (number 16) (sym (piece_more blank b bs false e)) ∙ piece_number 16 blank blank_apart (b ∷ bs))
    ∙ by (number 16 (front 16 (b ∷ bs))) (ends blank (behind 16 (b ∷ bs))) refl
  where
    c : Cut 16 blank (b ∷ bs)
    c = cut 16 blank blank_apart (b ∷ bs)

    one_more : Option ℕ → Option (List ℕ)
    one_more o = elim o [ Some n ↦ Some (ns ++ (n ∷ [])) | None ↦ None ]

    then_pieces : Option ℕ → Option (List ℕ)
    then_pieces o = elim (one_more o) as (λ _. Option (List ℕ)) [ Some more ↦ numbers_from more c.0 | None ↦ None ]

    with_rest : ℕ → ℕ × List ℕ
    with_rest n = (n, behind 16 (b ∷ bs))

    by : (o : Option ℕ) (t : Bool) → ends blank (behind 16 (b ∷ bs)) ≡ t → then_pieces (up_to blank (option_map with_rest o))
        ≡ read_on ns (elim (option_map with_rest o) as (λ _. Option (ℕ × List ℕ)) [ Some p ↦ cond (ends blank p.1) (Some p) None | None ↦ None ])
    by None t f = refl
    by (Some n) true f =
        ap then_pieces (ap (λ x. cond x (Some n) None) f) ∙ sym (ap (numbers_from (ns ++ (n ∷ []))) (c.2 f))
        ∙ sym (ap (read_on ns) (ap (λ x. cond x (Some (n, behind 16 (b ∷ bs))) None) f))
    by (Some n) false f = ap then_pieces (ap (λ x. cond x (Some n) None) f) ∙ sym (ap (read_on ns) (ap (λ x. cond x (Some (n, behind 16 (b ∷ bs))) None) f))

pub read_at : (ns text : List ℕ) (b : ℕ) (bs : List ℕ) → text ≡ b ∷ bs → blank b ≡ false → (o : Option (ℕ × List ℕ)) → first_number text ≡ o → numbers_from ns (slice_split blank text) ≡ read_on ns o
read_at ns text b bs e f o h =
    ap (λ t. numbers_from ns (slice_split blank t)) e ∙ read_one ns b bs f ∙ ap (λ t. read_on ns (first_number t)) (sym e) ∙ ap (read_on ns) h

-- what an Option says of itself where it became a Result
module _ {T U E : Type 0} (f : T → U) (bad : E) where
  pub was_none : (o : Option T) (e : E) → Err e ≡ ok_or o bad → option_map f o ≡ None
  was_none None e h = refl
  was_none (Some v) e h = let z : ◌≡◌ {A = ℕ} 1 0 = ap (λ (r : Result T E). elim r [ Err x ↦ 1 | Ok x ↦ 0 ]) h in absurd (omega arith)

  pub was_some : (o : Option T) (v : T) → Ok v ≡ ok_or o bad → option_map f o ≡ Some (f v)
  was_some None v h = let z : ◌≡◌ {A = ℕ} 1 0 = ap (λ (r : Result T E). elim r [ Err x ↦ 0 | Ok x ↦ 1 ]) h in absurd (omega arith)
  was_some (Some w) v h = ap (λ (r : Result T E). elim r [ Err x ↦ Some (f w) | Ok x ↦ Some (f x) ]) (sym h)

-- a fault is told where bad pieces leave no numbers
pub told : (ns : Option (List ℕ)) (fault : Fault) → (fault ≡ Bad → None ≡ ns) → Numbers ns (Err fault)
told ns Bad h = h refl
told ns NoMemory h = tt
