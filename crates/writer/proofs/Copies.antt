-- A copy's outcomes, from what its parts ensure.
use Rattle.std.proofs.Common.{◌≡◌, ℕ, ◌≤◌, min, Bool, true, cond, List, [], map, length, drop, Ok, Err, Result, sym, ap, ◌∙◌, subst, arith}
use Rattle.terms.specs.declared.Refusal.{Refusal}
use Rattle.recording.specs.Format.{Item, items, items_from, checked, longest}
use Rattle.recording.specs.Reading.{taken, left}
use Rattle.recording.specs.Records.{AllFine, closed}
use Rattle.recording.specs.declared.Reader.{Reader}
use Rattle.writer.specs.Trips.{bare, without_idle, copying, Rewritten}
use Rattle.writer.specs.Writing.{room, writing, over}
use Rattle.writer.proofs.Returning.{again, writing_used, rewritten}

-- a reader that has taken its words and has handed nothing out
pub fresh_left : (s : Reader) (ws : List ℕ) → taken s ≡ true → s.cursor ≡ 0 → s.words.now ≡ ws → left s ≡ items ws
fresh_left s ws t k w =
    ap (λ (b : Bool). cond b (items_from s.cursor (drop s.cursor s.words.now)) []) t
    ∙ (ap (λ (i : ℕ). items_from i (drop i s.words.now)) k ∙ ap items w)

module _ (ws old : List ℕ) (n : ℕ) (xs : List Item) (took : Ok tt ≡ checked ws) (some : xs ≡ items ws) (limit : n ≡ min (length old) longest) where
  -- what the calls answer is the answer
  pub copying_calls : (r : Result ℕ Refusal) → r ≡ writing n 0 (map bare xs) → r ≡ copying (room old) ws
  copying_calls r h =
      h ∙ (ap (λ (ys : List Item). writing n 0 (map bare ys)) some ∙ (ap (λ (k : ℕ). writing k 0 (map bare (items ws))) limit
      ∙ ap (λ (o : Result (Unit {0}) Refusal). elim o as (λ _. Result ℕ Refusal) [ Ok u ↦ writing (room old) 0 (map bare (items ws)) | Err fault ↦ Err fault ]) took))

  module _ (used : ℕ) (ok : Ok used ≡ writing n 0 (map bare xs)) where
    copied_used : (used ≡ length (closed (map bare (items ws)))) × (used ≤ n)
    copied_used = writing_used (map bare (items ws)) n used (again ws (sym took)).fine (ok ∙ ap (λ (ys : List Item). writing n 0 (map bare ys)) some)

    -- there is room for all
    pub copy_room : (ys : List Item) → ys ≡ items ws → (length (closed (map bare ys)) ≤ length old) × (length (closed (map bare ys)) ≤ longest) × AllFine (map bare ys)
    copy_room ys e =
        let long = ap (λ (zs : List Item). length (closed (map bare zs))) e in (
          omega (arith, long, copied_used.0, copied_used.1, limit),
          omega (arith, long, copied_used.0, copied_used.1, limit),
          subst (λ (zs : List Item). AllFine (map bare zs)) (sym e) (again ws (sym took)).fine,
        )

    -- the words that were written
    pub copy_words : (ys : List Item) (new : List ℕ) → ys ≡ items ws → new ≡ over old 0 (closed (map bare ys)) → (new ≡ over old 0 (without_idle ws)) × Rewritten ws used new
    copy_words ys new e h =
        let whole : new ≡ over old 0 (closed (map bare (items ws))) = h ∙ ap (λ (zs : List Item). over old 0 (closed (map bare zs))) e in (
          whole ∙ ap (over old 0) (again ws (sym took)).words,
          subst (Rewritten ws used) (sym whole) (rewritten ws used old (sym took) copied_used.0 (omega (arith, copied_used.1, limit))),
        )
