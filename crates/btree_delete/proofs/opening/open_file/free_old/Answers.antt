use Rattle.std.proofs.Common.{refl}
use Rattle.std.specs.BTreeSet.{contains}
use Rattle.std.specs.Ordering.{nat_cmp}
use Rattle.btree_delete.proofs.FreedPageLemmas.{can_free, frees_staged}
use Rattle.btree_delete.proofs.opening.open_file.free_old.Goals as goal

pub stage-requires : goal.stage-requires
stage-requires g c = can_free c.args.pages.now.pages c.args.pages.now.stored _ 0 _ (contains nat_cmp c.args.free.now) c.new.ensures.items refl c.requires.whole c.requires.fits c.requires.stay c.in_ok-listed.ensures.some

pub returns-clause-freed : goal.returns-clause-freed
returns-clause-freed g c = frees_staged c.stage.result c.args.pages.now c.stage.new.self c.new.result.items _ (contains nat_cmp c.args.free.now) c.new.ensures.items c.in_ok-listed.ensures.some c.in_ok-listed.ensures.all c.stage.ensures.pages c.stage.ensures.count c.stage.ensures.in_memory c.stage.ensures.store
