-- Text read piece by piece.
use Rattle.std.proofs.Common.{◌≡◌, ℕ, ◌+◌, ◌<◌, Bool, true, false, List, [], ◌∷◌, length, get_or, drop, sym, refl, ap, ◌∙◌}
use Rattle.std.proofs.lemmas.Bool.{false≢true}
use Rattle.std.proofs.lemmas.List.{at_drop_more}
use Rattle.std.proofs.lemmas.List.Splits.{slice_split-cons_yes, slice_split-cons_no}
use Rattle.std.specs.Char.{is_digit}
use Rattle.std.specs.List.{slice_split, onto_first}
use Rattle.text.specs.Numbers.{ends}
use Rattle.text.proofs.Numerals.{NoDigit, piece, behind, piece_more, behind_more}

-- where reading takes a step at each piece, and goes on with the pieces behind it as that step says, the piece at an index has its turn
pub turn : {R S : Type 0} (read : List (List ℕ) → R) (step : List ℕ → S) (on : S → List (List ℕ) → R) → ((p : List ℕ) (ps : List (List ℕ)) → read (p ∷ ps) ≡ on (step p) ps) → (pieces : List (List ℕ)) (i : ℕ) (piece : List ℕ) → (i < length pieces) × (piece ≡ get_or pieces i piece) → (s : S) → step piece ≡ s → read (drop i pieces) ≡ on s (drop (i + 1) pieces)
turn read step on reads pieces i piece t s e =
    at_drop_more read pieces i piece t.0
    ∙ reads (get_or pieces i piece) (drop (i + 1) pieces)
    ∙ ap (λ x. on x (drop (i + 1) pieces)) (ap step (sym t.1) ∙ e)

-- a text has a first piece, and those behind it; these follow the digits at the text's front too, where the first piece ends behind them
abbrev pub Cut : (radix : ℕ) (stop : ℕ → Bool) (text : List ℕ) → Type 0
Cut radix stop text = (ps : List (List ℕ)) × (slice_split stop text ≡ piece stop text ∷ ps) × (ends stop (behind radix text) ≡ true → slice_split stop (behind radix text) ≡ [] ∷ ps)

pub cut : (radix : ℕ) (stop : ℕ → Bool) → NoDigit radix stop → (text : List ℕ) → Cut radix stop text
cut radix stop apart [] = ([], refl, λ e. refl)
cut radix stop apart (b ∷ bs) = by (is_digit b radix) refl (stop b) refl (cut radix stop apart bs)
  where
    longer : (ps : List (List ℕ)) → slice_split stop bs ≡ piece stop bs ∷ ps → stop b ≡ false → slice_split stop (b ∷ bs) ≡ piece stop (b ∷ bs) ∷ ps
    longer ps h f = slice_split-cons_no stop b bs f ∙ ap (onto_first b) h ∙ ap (λ p. p ∷ ps) (sym (piece_more stop b bs false f))

    by : (d : Bool) → is_digit b radix ≡ d → (s : Bool) → stop b ≡ s → Cut radix stop bs → Cut radix stop (b ∷ bs)
    by true e s f r =
        let same = behind_more radix b bs true e in
        (r.0, longer r.0 r.1 (apart b e), λ x. ap (slice_split stop) same ∙ r.2 (ap (ends stop) (sym same) ∙ x))
    by false e true f r = (
      slice_split stop bs,
      slice_split-cons_yes stop b bs f ∙ ap (λ p. p ∷ slice_split stop bs) (sym (piece_more stop b bs true f)),
      λ x. ap (slice_split stop) (behind_more radix b bs false e) ∙ slice_split-cons_yes stop b bs f,
    )
    by false e false f r = (r.0, longer r.0 r.1 f, λ x. absurd (false≢true (sym (ap (ends stop) (behind_more radix b bs false e) ∙ f) ∙ x)))
