use Rattle.std.proofs.Common.{◌≡◌, ◌-◌, ℕ, Some, None, length, ap, ◌∙◌, subst, ◌≤◌, arith}
use Rattle.std.proofs.lemmas.Grind.{common_steps}
use Rattle.page_store.specs.PageMap.{after}
use Rattle.btree_insert.specs.Contents.{set_in}
use Rattle.btree_delete.specs.Shrinking.{UnderfullGoesUp, LeavesTree, gone, Removal, removal}
use Rattle.btree_delete.specs.Subtrees.{head_page}
use Rattle.btree_delete.specs.PagesLeft.{pages_freed}
use Rattle.btree_delete.proofs.RootLemmas.{shrank_whole, shrank_underfull, shrank_deleted, shrink_tidy, tidy_stages}
use Rattle.btree_delete.proofs.deletion.deleting.shrink_tree.Goals as goal

pub returns-in_ok-next-in-Whole-clause-deleted : goal.returns-in_ok-next-in-Whole-clause-deleted
returns-in_ok-next-in-Whole-clause-deleted c = λ P es us key holds found leaves.
    let ws = c.args.edit.now.writes.items in
    let fs = c.args.edit.now.freed.items in
    let T = c.args.tree.now in
    let found2 = found ∙ ap (λ (s : Removal). Some (gone s).1) (ap (removal c.args.node.now) c.in-Whole.is) in
    let leaves2 = subst (λ (s : Removal). LeavesTree (head_page T.order 1 (T.height - 1) T.root) (pages_freed P (after P ws fs) 0 (length fs)) us (set_in key None es) s) (ap (removal c.args.node.now) c.in-Whole.is) leaves in
    let shrank = shrank_whole P T ws fs us (set_in key None es) c.in-Whole.removed c.requires.height leaves2 in
    let len_is : c.len.result ≡ length fs = c.len.ensures ∙ c.args.edit.now.freed.ok.0 in
    let next_is = c.in_ok-next-in-Whole.ensures.value ∙ ap (λ (n : ℕ). record T { count = T.count - 1; used = T.used - n }) len_is in
    shrank_deleted P (after P ws fs) T T c.in_ok-next-in-Whole.next es us key c.in-Whole.removed.1 (length fs) holds found2 shrank c.in_ok-next-in-Whole.ensures.enough.0 (subst (λ (n : ℕ). n ≤ T.used) len_is c.in_ok-next-in-Whole.ensures.enough.1) next_is

pub returns-in_ok-next-in-Whole-clause-fits : goal.returns-in_ok-next-in-Whole-clause-fits
returns-in_ok-next-in-Whole-clause-fits c = λ pages visited used here tidy.
    tidy_stages pages visited c.args.edit.now.writes.items c.args.edit.now.freed.items c.args.edit.now.taken c.requires.none_taken tidy

pub returns-in_ok-next-in-Underfull-clause-deleted : goal.returns-in_ok-next-in-Underfull-clause-deleted
returns-in_ok-next-in-Underfull-clause-deleted c = λ P es us key holds found leaves.
    let ws = c.args.edit.now.writes.items in
    let fs = c.args.edit.now.freed.items in
    let ws2 = c.shrink_root.new.edit.writes.items in
    let fs2 = c.shrink_root.new.edit.freed.items in
    let T = c.args.tree.now in
    let S = c.in_ok-shrunk-in-Underfull.shrunk in
    let found2 = found ∙ ap (λ (s : Removal). Some (gone s).1) (ap (removal c.args.node.now) c.in-Underfull.is) in
    let leaves2 = subst (λ (s : Removal). LeavesTree (head_page T.order 1 (T.height - 1) T.root) (pages_freed P (after P ws fs) 0 (length fs)) us (set_in key None es) s) (ap (removal c.args.node.now) c.in-Underfull.is) leaves in
    let up = subst (UnderfullGoesUp T.order T.height (record { low = None; high = None }) T.root ws fs) (ap (removal c.args.node.now) c.in-Underfull.is) c.requires.up in
    let shrank = shrank_underfull P T S ws ws2 fs fs2 us (set_in key None es) c.in-Underfull.removed c.args.node.now (record { low = None; high = None }) c.requires.order.0 c.requires.height up.0 up.2 leaves2 c.in_ok-shrunk-in-Underfull.ensures.shrinks in
    let len_is : c.len-in-Underfull.result ≡ length fs2 = c.len-in-Underfull.ensures ∙ c.shrink_root.new.edit.freed.ok.0 in
    let next_is = c.in_ok-next-in-Underfull.ensures.value ∙ ap (λ (n : ℕ). record S { count = S.count - 1; used = S.used - n }) len_is in
    shrank_deleted P (after P ws2 fs2) T S c.in_ok-next-in-Underfull.next es us key c.in-Underfull.removed.1 (length fs2) holds found2 shrank c.in_ok-next-in-Underfull.ensures.enough.0 (subst (λ (n : ℕ). n ≤ S.used) len_is c.in_ok-next-in-Underfull.ensures.enough.1) next_is

pub returns-in_ok-next-in-Underfull-clause-fits : goal.returns-in_ok-next-in-Underfull-clause-fits
returns-in_ok-next-in-Underfull-clause-fits c = λ pages visited used here tidy.
    let T = c.args.tree.now in
    let up = subst (UnderfullGoesUp T.order T.height (record { low = None; high = None }) T.root c.args.edit.now.writes.items c.args.edit.now.freed.items) (ap (removal c.args.node.now) c.in-Underfull.is) c.requires.up in
    let next_tidy = shrink_tidy pages visited T c.in_ok-shrunk-in-Underfull.shrunk c.args.node.now c.args.edit.now.writes.items c.shrink_root.new.edit.writes.items c.args.edit.now.freed.items c.shrink_root.new.edit.freed.items used here up.2 c.in_ok-shrunk-in-Underfull.ensures.shrinks tidy in
    tidy_stages pages visited c.shrink_root.new.edit.writes.items c.shrink_root.new.edit.freed.items c.shrink_root.new.edit.taken (c.in_ok-shrunk-in-Underfull.ensures.edit.taken ∙ c.requires.none_taken) next_tidy

pub returns-in_err-next-in-Whole-clause-deleted : goal.returns-in_err-next-in-Whole-clause-deleted
returns-in_err-next-in-Whole-clause-deleted c = grind (arith, common_steps)

pub returns-in_err-next-in-Underfull-clause-deleted : goal.returns-in_err-next-in-Underfull-clause-deleted
returns-in_err-next-in-Underfull-clause-deleted c = grind (arith, common_steps)
