-- The lemmas by which the check closes the clauses of each public function.
use Rattle.checkpoints.proofs.Climb.{split_answer, below_top, count_room, count_answer}
use Rattle.checkpoints.proofs.Theorems.{least, binomial, inside, price, stays, cheapest, scheduled, closed, walks, worked}

pub ruleset of_rounds = (least, binomial)

pub ruleset of_split = (split_answer, below_top, inside, price, stays)

pub ruleset of_count = (count_room, count_answer, cheapest, scheduled, closed, walks, worked)
