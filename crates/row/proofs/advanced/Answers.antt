use Rattle.std.proofs.Common.{◌≡◌, false, rules, slice_index_or}
use Rattle.row.specs.Cells.{bit, outcome, lower, higher}
use Rattle.row.proofs.Made.{made_at}
use Rattle.row.proofs.advanced.Goals as goal

pub returns-clause-places : goal.returns-clause-places
returns-clause-places c k h =
    made_at _ _ 256 (λ i y. bit y ≡ outcome c.args.rule (bit (slice_index_or c.args.old.now (lower i) false)) (bit (slice_index_or c.args.old.now i false)) (bit (slice_index_or c.args.old.now (higher i) false)))
    (λ i y q l s. search rules) _ c.from_fn.ensures.items k false h
