use Rattle.std.proofs.Common.{◌/◌, length, sym, ◌∙◌, arith}
use Rattle.paging.proofs.Pigeons.{one_free, free_found}
use Rattle.paging.proofs.Placing.{placed_found, placed_new}
use Rattle.pages.specs.Used.{in_use}
use Rattle.pages.proofs.laying.place.Goals as goal

pub returns-in-Some : goal.returns-in-Some
returns-in-Some c =
    placed_found (in_use c.args.used.now) c.args.content.now c.args.pool.now c.in-Some.known (sym c.find.ensures ∙ c.in-Some.is) c.requires.kept

pub unwrap-number-requires : goal.unwrap-number-requires
unwrap-number-requires c = one_free (in_use c.args.used.now) (length c.args.pool.now / 4) c.free.result c.requires.room c.free.ensures

pub write-requires : goal.write-requires
write-requires c =
    let f = free_found (in_use c.args.used.now) (length c.args.pool.now / 4) c.unwrap-number.result (sym c.free.ensures ∙ c.unwrap-number.ensures) in omega (arith, f.1)

pub returns-in-None : goal.returns-in-None
returns-in-None c =
    let f = free_found (in_use c.args.used.now) (length c.args.pool.now / 4) c.unwrap-number.result (sym c.free.ensures ∙ c.unwrap-number.ensures) in
    placed_new (in_use c.args.used.now) c.args.content.now c.args.pool.now c.unwrap-number.result c.write.new.pool (sym c.find.ensures ∙ c.in-None.is)
    f.1 f.0 c.write.ensures.holds c.write.ensures.others c.write.ensures.behind c.write.ensures.size c.requires.kept
