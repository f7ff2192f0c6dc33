-- Contents, words and scans, one word further.
use Rattle.std.proofs.Common.{◌≡◌, ℕ, suc, ◌+◌, ◌<◌, List, [], ◌∷◌, ◌++◌, length, take, drop, set, sym, refl, ap, ◌∙◌, arith}
use Rattle.std.proofs.lemmas.List.{set_split}
use Rattle.std.specs.List.{count_by}
use Rattle.std.proofs.lemmas.List.Recursion.{is_sum_by}
use Rattle.recording.specs.Format.{is_scan, scanned}
use Rattle.writer.specs.Writing.{over, scan_count}

-- one word written
pub over_one : (ws : List ℕ) (i w : ℕ) → i < length ws → set ws i w ≡ over ws i (w ∷ [])
over_one ws i w h =
    let e : suc i ≡ i + 1 = omega arith in
    set_split ws i w h ∙ ap (λ (k : ℕ). take i ws ++ w ∷ drop k ws) e

-- counted by the test for a scan
pub scans_counted : (ws : List ℕ) → count_by is_scan ws ≡ scan_count ws
scans_counted ws = sym (is_sum_by scan_count scanned refl (λ x xs. refl) ws)
