use Rattle.std.proofs.Common.{◌≡◌, ◌*◌, rules, fold, reverse, take, drop, ◌∙◌, arith}
use Rattle.row.proofs.Packing.{joins, joined}
use Rattle.row.proofs.packed_word.Goals as goal

pub returns : goal.returns
returns c =
    let e : c.fold.result ≡ fold joined 0 (reverse (take 32 (drop (32 * c.args.k) c.args.cells.now))) = search rules in
    e ∙ joins c.args.cells.now (32 * c.args.k) 32 (omega arith) (omega arith)
