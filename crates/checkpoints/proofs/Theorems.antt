-- The theorems, from the lemmas beside this file.
use Rattle.std.proofs.Common.{◌≡◌, zero, suc, ◌-◌, refl, arith}
use Rattle.checkpoints.proofs.Certificates.{no_cheaper, count_least}
use Rattle.checkpoints.proofs.Pascal.{reach_factorials}
use Rattle.checkpoints.proofs.Plays.{walk_schedule}
use Rattle.checkpoints.proofs.Rounds.{rounds_reach, rounds_least, split_some, split_less}
use Rattle.checkpoints.proofs.Rule.{back_price, back_left, walk_owed, walk_closed, walk_count}
use Rattle.checkpoints.specs.Binomials.{choose, reach}
use Rattle.checkpoints.specs.Counts.{sought, rounds, count}
use Rattle.checkpoints.specs.Theorems.{Binomial, Least, Inside, Price, Stays, Walk, Closed, Scheduled, Cheapest, Worked}

pub binomial : Binomial
unfolding Binomial
binomial = reach_factorials

pub least : Least
unfolding Least
least l s h = (rounds_reach l s h, rounds_least l s)

pub inside : Inside
unfolding Inside
inside m g h k = (split_some m g h k, split_less m g h k)

pub price : Price
unfolding Price
price s zero p ps r h i = absurd (omega arith)
price s (suc n) p ps r h i = let e : suc n - 1 ≡ n = omega arith in rw e (back_price s n p ps r h (omega arith))

pub stays : Stays
unfolding Stays
stays s zero p ps r h i = absurd (omega arith)
stays s (suc n) p ps r h i = let e : suc n - 1 ≡ n = omega arith in rw e (back_left s n p ps r h (omega arith))

pub walks : Walk
unfolding Walk
walks s k p ps r h = walk_owed k s p ps r h

pub closed : Closed
unfolding Closed
closed l s h = (walk_closed l s h, walk_count l s h)

pub scheduled : Scheduled
unfolding Scheduled
scheduled = walk_schedule

pub cheapest : Cheapest
unfolding Cheapest
cheapest l s acts h p = (λ r. no_cheaper l s r acts h p, count_least l s acts h p)

pub worked : Worked
unfolding count rounds sought reach choose
worked =
    record { none_with_three = refl; one_with_one = refl; two_with_one = refl; five_with_two = refl; six_with_two = refl; seven_with_two = refl; ten_with_three = refl; eleven_with_three = refl; four_with_four = refl; twenty_with_one = refl }
