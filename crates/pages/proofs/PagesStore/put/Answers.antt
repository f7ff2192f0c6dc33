use Rattle.std.proofs.Common.{length, ◌∙◌, arith, rules}
use Rattle.paging.specs.Layout.{count_few}
use Rattle.paging.specs.Pages.{slots_of}
use Rattle.paging.proofs.Rows.{put_from, put_kept, put_room, put_tidy, put_slots, put_spared}
use Rattle.store.proofs.Refused.{done_put}
use Rattle.pages.proofs.PagesStore.put.Goals as goal

pub lay-row-requires-clause-kept : goal.lay-row-requires-clause-kept
lay-row-requires-clause-kept c =
    put_kept c.args.self.now.rows c.args.self.now.words.now c.args.self.now.width c.args.slot c.capacity-slots.result c.pages_in-pages.result
    c.capacity-slots.ensures.fitting c.pages_in-pages.ensures c.in_ok-may_put.ensures.there c.args.self.now.tidy

pub lay-row-requires-clause-room : goal.lay-row-requires-clause-room
lay-row-requires-clause-room c =
    let few = count_few c.args.self.now.width (length c.args.self.now.words.now) in
    let fitting = c.capacity-slots.ensures.fitting in
    put_room c.args.self.now.rows c.args.self.now.words.now c.args.self.now.width c.args.slot c.capacity-slots.result c.pages_in-pages.result
    fitting c.pages_in-pages.ensures c.in_ok-may_put.ensures.there (omega (arith, few, fitting))

pub invariant_of-self : goal.invariant_of-self
invariant_of-self c =
    let few = count_few c.args.self.now.width (length c.args.self.now.words.now) in
    let fitting = c.capacity-slots.ensures.fitting in
    record {
      tidy =
          put_tidy c.args.self.now.rows c.args.words.now c.args.self.now.words.now c.lay-row.result c.lay-row.new.pool c.args.self.now.width c.args.slot
          (put_from c.args.self.now.rows c.args.words.now c.args.self.now.words.now c.lay-row.result c.lay-row.new.pool c.args.self.now.width c.args.slot c.capacity-slots.result c.pages_in-pages.result
          fitting c.pages_in-pages.ensures c.in_ok-may_put.ensures.there (omega (arith, few, fitting)) c.in_ok-may_put.ensures.whole (search rules) c.args.self.now.tidy c.lay-row.ensures);
    }

pub returns-clause-after : goal.returns-clause-after
returns-clause-after c =
    let few = count_few c.args.self.now.width (length c.args.self.now.words.now) in
    let fitting = c.capacity-slots.ensures.fitting in
    put_slots c.args.self.now.rows c.args.words.now c.args.self.now.words.now c.lay-row.result c.lay-row.new.pool c.args.self.now.width c.args.slot
    (put_from c.args.self.now.rows c.args.words.now c.args.self.now.words.now c.lay-row.result c.lay-row.new.pool c.args.self.now.width c.args.slot c.capacity-slots.result c.pages_in-pages.result
    fitting c.pages_in-pages.ensures c.in_ok-may_put.ensures.there (omega (arith, few, fitting)) c.in_ok-may_put.ensures.whole (search rules) c.args.self.now.tidy c.lay-row.ensures) ∙
    done_put c.args.self.now.width (slots_of c.args.self.now.rows c.args.self.now.words.now c.args.self.now.width) c.args.slot c.args.words.now c.in_ok-may_put.ensures.whole

pub returns-clause-spared : goal.returns-clause-spared
returns-clause-spared c =
    let few = count_few c.args.self.now.width (length c.args.self.now.words.now) in
    let fitting = c.capacity-slots.ensures.fitting in
    put_spared c.args.self.now.rows c.args.words.now c.args.self.now.words.now c.lay-row.result c.lay-row.new.pool c.args.self.now.width c.args.slot
    (put_from c.args.self.now.rows c.args.words.now c.args.self.now.words.now c.lay-row.result c.lay-row.new.pool c.args.self.now.width c.args.slot c.capacity-slots.result c.pages_in-pages.result
    fitting c.pages_in-pages.ensures c.in_ok-may_put.ensures.there (omega (arith, few, fitting)) c.in_ok-may_put.ensures.whole (search rules) c.args.self.now.tidy c.lay-row.ensures)
