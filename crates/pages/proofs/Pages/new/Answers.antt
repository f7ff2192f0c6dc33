use Rattle.std.proofs.Common.{length}
use Rattle.paging.specs.Layout.{count, count_few}
use Rattle.paging.proofs.Rows.{bare_slots, bare_tidy}
use Rattle.pages.proofs.Pages.new.Goals as goal

pub invariant_of-result : goal.invariant_of-result
invariant_of-result c = record { tidy = bare_tidy 32 (count c.args.width (length c.args.words.now)) c.args.words.now c.args.width }

pub returns-clause-slots : goal.returns-clause-slots
returns-clause-slots c =
    bare_slots 32 (count c.args.width (length c.args.words.now)) c.args.words.now c.args.width (count_few c.args.width (length c.args.words.now))
