-- The lemmas by which the check closes the clauses of a step.
use Rattle.tape.proofs.Steps.{small_at, held_words, next_lawful, scan_local, scan_near}

pub ruleset of_step = (small_at, held_words, next_lawful, scan_local, scan_near)
