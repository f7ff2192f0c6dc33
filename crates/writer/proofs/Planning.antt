-- A list of records that is written one by one: refused at the first that is, or how many words are used at last.
use Rattle.std.proofs.Common.{◌≡◌, ℕ, ◌+◌, ◌-◌, ◌<◌, ◌≤◌, Bool, true, false, cond, ltb, List, [], ◌∷◌, length, Ok, Err, Result, sym, refl, ap, arith}
use Rattle.std.proofs.lemmas.Bool.{ltb-true, ltb-false}
use Rattle.terms.specs.declared.Refusal.{Refusal}
use Rattle.terms.specs.declared.Refusal.TheVariants.{Closed, WideContent, NoRoom}
use Rattle.recording.specs.Records.{Record}
use Rattle.writer.specs.Writing.{narrow, contents, admitting, closing, writing}

no_err : (e : Refusal) → ◌≡◌ {A = Result (Unit {0}) Refusal} (Ok tt) (Err e) → ⊥
no_err e h = let z : ◌≡◌ {A = ℕ} 0 1 = cc in omega arith

-- what a record that is not refused has
pub admitted : (room used : ℕ) (cs : List ℕ) → Ok tt ≡ admitting room used false cs → (narrow cs ≡ true) × (length cs + 1 ≤ room - used)
admitted room used cs h = by_narrow (narrow cs) h
  where
    by_room : (b : Bool) → (b ≡ false → length cs + 1 ≤ room - used) → Ok tt ≡ cond {A = Result (Unit {0}) Refusal} b (Err NoRoom) (Ok tt) → length cs + 1 ≤ room - used
    by_room true s e = absurd (no_err NoRoom e)
    by_room false s e = s refl

    by_narrow : (b : Bool) → Ok tt ≡ cond {A = Result (Unit {0}) Refusal} b (cond (ltb (room - used) (length cs + 1)) (Err NoRoom) (Ok tt)) (Err WideContent) → (b ≡ true) × (length cs + 1 ≤ room - used)
    by_narrow true e = (refl, by_room (ltb (room - used) (length cs + 1)) (ltb-false (room - used) (length cs + 1)) e)
    by_narrow false e = absurd (no_err WideContent e)

-- an end that is not refused has a word
pub ending_room : (room used : ℕ) (closed : Bool) → Ok tt ≡ closing room used closed → used < room
ending_room room used true h = absurd (no_err Closed h)
ending_room room used false h = by (ltb used room) (ltb-true used room) h
  where
    by : (b : Bool) → (b ≡ true → used < room) → Ok tt ≡ cond {A = Result (Unit {0}) Refusal} b (Ok tt) (Err NoRoom) → used < room
    by true s e = s refl
    by false s e = absurd (no_err NoRoom e)

-- one record
pub writing_more : (room used : ℕ) (r : Record) (rs : List Record) → Ok tt ≡ admitting room used false (contents r) → writing room used (r ∷ rs) ≡ writing room (used + length (contents r)) rs
writing_more room used r rs h =
    ap (λ (o : Result (Unit {0}) Refusal). elim o as (λ _. Result ℕ Refusal) [ Ok u ↦ writing room (used + length (contents r)) rs | Err e ↦ Err e ]) (sym h)

pub writing_stop : (room used : ℕ) (r : Record) (rs : List Record) (e : Refusal) → Err e ≡ admitting room used false (contents r) → writing room used (r ∷ rs) ≡ Err e
writing_stop room used r rs e h =
    ap (λ (o : Result (Unit {0}) Refusal). elim o as (λ _. Result ℕ Refusal) [ Ok u ↦ writing room (used + length (contents r)) rs | Err f ↦ Err f ]) (sym h)

pub writing_end : (room used : ℕ) (o : Result (Unit {0}) Refusal) → o ≡ closing room used false → writing room used [] ≡ elim o as (λ _. Result ℕ Refusal) [ Ok u ↦ Ok (used + 1) | Err e ↦ Err e ]
writing_end room used o h =
    ap (λ (o : Result (Unit {0}) Refusal). elim o as (λ _. Result ℕ Refusal) [ Ok u ↦ Ok (used + 1) | Err e ↦ Err e ]) (sym h)
