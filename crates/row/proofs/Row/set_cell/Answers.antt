use Rattle.std.proofs.Common.{refl, arith, rules}
use Rattle.row.proofs.Stepping.{set_packed}
use Rattle.row.proofs.Row.set_cell.Goals as goal

pub returns : goal.returns
returns c = record {
  value = search rules;
  after = set_packed c.args.self.now.cells c.args.cell c.args.value c.args.self.now.ring (omega arith) (omega arith);
  rule = refl;
}
