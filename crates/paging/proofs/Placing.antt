-- The pages of a snapshot laid one after another.
use Rattle.std.proofs.Common.{◌≡◌, ℕ, ◌+◌, ◌<◌, Bool, true, false, None, Some, List, [], ◌∷◌, ◌++◌, length, get_or, set, take, sym, refl, ap, ◌∙◌, subst, ⊎_elim, append_assoc, arith}
use Rattle.std.proofs.lemmas.List.{get_or-set_same, get_or-set_other, take_more_set}
use Rattle.std.specs.List.{find}
use Rattle.std.proofs.lemmas.Bool.{cases_lt}
use Rattle.paging.specs.Layout.{whole}
use Rattle.paging.specs.Pages.{page, has, Kept, same}
use Rattle.paging.specs.Steps.{StaysBehind, Placed, Laid}
use Rattle.paging.proofs.Numbers.{has_left, has_right, has_push, has_at, found_among, none_among, same_self, same_equal}

-- fewer numbers are kept too
pub kept_fewer : (ks ks' pool : List ℕ) → ((k : ℕ) → has ks' k ≡ true → has ks k ≡ true) → Kept ks pool → Kept ks' pool
kept_fewer ks ks' pool f k = record { inside = λ m h. k.inside m (f m h); shared = λ m l h i e. k.shared m l (f m h) (f l i) e }

not_both : (b : Bool) → b ≡ true → b ≡ false → ⊥
not_both b t f = absurd (cc)

-- a page that is there already
pub placed_known : (ks content pool : List ℕ) (k : ℕ) → has ks k ≡ true → page pool k ≡ content → Kept ks pool → Placed ks content pool k pool
placed_known ks content pool k h e kept =
    record {
      holds = e;
      stays = record { pages = λ _ _. refl; behind = λ _ _. refl; size = refl };
      kept = kept_fewer ks (ks ++ k ∷ []) pool (λ m i. ⊎_elim (λ a. a) (λ q. subst (λ n. has ks n ≡ true) q h) (has_push ks k m i)) kept;
    }

-- a page that is not in use, written
pub placed_fresh : (ks content pool : List ℕ) (k : ℕ) (pool' : List ℕ) → k < whole (length pool) → has ks k ≡ false
    → ((l : ℕ) → l < whole (length pool) → has ks l ≡ true → page pool l ≡ content → ⊥)
    → page pool' k ≡ content → ((l : ℕ) → (l ≡ k → ⊥) → page pool' l ≡ page pool l)
    → StaysBehind pool pool' → length pool' ≡ length pool
    → Kept ks pool → Placed ks content pool k pool'
placed_fresh ks content pool k pool' low unused none holds others behind size kept =
    let stays : (l : ℕ) → has ks l ≡ true → page pool' l ≡ page pool l = λ l h. others l (λ e. not_both (has ks l) h (ap (has ks) e ∙ unused)) in
    let lone : (l : ℕ) → has ks l ≡ true → page pool' l ≡ page pool' k → ⊥ = λ l h e. none l (kept.inside l h) h (sym (stays l h) ∙ e ∙ holds) in
    record {
      holds = holds;
      stays = record { pages = stays; behind = behind; size = size };
      kept = record {
        inside = λ m h. ⊎_elim (λ a. omega (arith, kept.inside m a, size)) (λ e. omega (arith, e, size)) (has_push ks k m h);
        shared = λ m l h i e.
            ⊎_elim
            (λ a. ⊎_elim
            (λ b. kept.shared m l a b (sym (stays m a) ∙ e ∙ stays l b))
            (λ q. absurd (lone m a (e ∙ ap (page pool') (sym q))))
            (has_push ks k l i))
            (λ p. ⊎_elim
            (λ b. absurd (lone l b (sym e ∙ ap (page pool') (sym p))))
            (λ q. sym p ∙ q)
            (has_push ks k l i))
            (has_push ks k m h);
      };
    }

pub laid_more : (n : ℕ) (ks words pool row content pool₁ : List ℕ) (k : ℕ) (pool₂ : List ℕ) → n < length row → content ≡ page words n
    → Laid n ks words pool row pool₁ → Placed (ks ++ take n row) content pool₁ k pool₂ → Laid (n + 1) ks words pool (set row n k) pool₂
laid_more n ks words pool row content pool₁ k pool₂ lt is d s =
    record {
      holds = λ i h.
          ⊎_elim
          (λ b.
          ap (page pool₂) (get_or-set_other row n i k 0 (λ e. omega arith)) ∙
          s.stays.pages (get_or row i 0) (has_right ks (take n row) (get_or row i 0) (has_at row i n b (omega arith))) ∙ d.holds i b)
          (λ b. let e : i ≡ n = omega arith in
          ap (λ j. page pool₂ (get_or (set row n k) j 0)) e ∙ ap (page pool₂) (get_or-set_same row n k 0 lt) ∙ s.holds ∙ is ∙ ap (page words) (sym e))
          (cases_lt i n);
      stays = record {
        pages = λ l h. s.stays.pages l (has_left ks (take n row) l h) ∙ d.stays.pages l h;
        behind = λ z h. s.stays.behind z (omega (arith, d.stays.size)) ∙ d.stays.behind z h;
        size = s.stays.size ∙ d.stays.size;
      };
      kept = subst (λ l. Kept l pool₂) (append_assoc ks (take n row) (k ∷ []) ∙ ap (λ l. ks ++ l) (sym (take_more_set row n k lt))) s.kept;
    }

pub placed_found : (ks content pool : List ℕ) (k : ℕ) → find (λ l. same (page pool l) content) ks ≡ Some k → Kept ks pool → Placed ks content pool k pool
placed_found ks content pool k e kept =
    let f = found_among (λ l. same (page pool l) content) ks k e in
    placed_known ks content pool k f.1 (same_equal (page pool k) content f.0) kept

pub placed_new : (ks content pool : List ℕ) (k : ℕ) (pool' : List ℕ) → find (λ l. same (page pool l) content) ks ≡ None
    → k < whole (length pool) → has ks k ≡ false
    → page pool' k ≡ content → ((l : ℕ) → (l ≡ k → ⊥) → page pool' l ≡ page pool l)
    → StaysBehind pool pool' → length pool' ≡ length pool
    → Kept ks pool → Placed ks content pool k pool'
placed_new ks content pool k pool' e low unused holds others behind size kept =
    placed_fresh ks content pool k pool' low unused
    (λ l _ i q. not_both (same (page pool l) content) (ap (same (page pool l)) (sym q) ∙ same_self (page pool l)) (none_among (λ l. same (page pool l) content) ks l e i))
    holds others behind size kept
