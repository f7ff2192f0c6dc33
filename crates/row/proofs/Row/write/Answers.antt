use Rattle.std.proofs.Common.{inl, inr, arith}
use Rattle.row.proofs.Stepping.{given_set, given_none}
use Rattle.row.proofs.Row.write.Goals as goal

pub returns-then-address-lt1-clause-places : goal.returns-then-address-lt1-clause-places
returns-then-address-lt1-clause-places c = given_none c.args.self.now.cells c.args.input (inl (omega arith))

pub returns-in-1-to-256-clause-places : goal.returns-in-1-to-256-clause-places
returns-in-1-to-256-clause-places c =
    rw (c.address-address.ensures, c.value-value.ensures)
    (given_set c.args.self.now.cells c.args.input c.args.self.now.ring (omega arith) (omega arith))

pub returns-else-address-lt257-clause-places : goal.returns-else-address-lt257-clause-places
returns-else-address-lt257-clause-places c = given_none c.args.self.now.cells c.args.input (inr (omega arith))
