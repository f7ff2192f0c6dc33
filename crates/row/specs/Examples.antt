-- A worked example: under rule 90 cell 0 alone gives cells 1 and 255.
use Rattle.std.specs.Prelude.{◌≡◌, ℕ, zero, suc, cond, List, [], ◌∷◌, ◌++◌, ◌==◌}
use Rattle.row.specs.Cells.{cell, pack, next}

-- the cells below n that are 1
abbrev pub ones : List ℕ → ℕ → List ℕ
ones words zero = []
ones words (suc n) = ones words n ++ cond (cell words n == 1) (n ∷ []) []

-- the words of a row whose cell c alone is 1
abbrev pub alone : ℕ → List ℕ
alone c = pack (λ k. cond (k == c) 1 0)

-- rule 90 leads from cell 0 alone, with an input that names no cell, to cells 1 and 255
unfoldable pub Lone : Type 0
Lone = ones (next 90 (alone 0) 0) 256 ≡ 1 ∷ 255 ∷ []
