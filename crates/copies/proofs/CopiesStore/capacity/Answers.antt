use Rattle.std.proofs.Common.{arith}
use Rattle.std.proofs.lemmas.Grind.{common_steps}
use Rattle.std.proofs.Math.Nat.{div-eq_of_lt}
use Rattle.copies.proofs.Marks.{slots_count}
use Rattle.copies.proofs.CopiesStore.capacity.Goals as goal

pub returns-in-Ok-clause-slots : goal.returns-in-Ok-clause-slots
returns-in-Ok-clause-slots c = grind (arith, common_steps, slots_count)

pub returns-in-Err-clause-slots : goal.returns-in-Err-clause-slots
returns-in-Err-clause-slots c = grind (arith, common_steps, div-eq_of_lt, slots_count)
