use Rattle.std.proofs.Common.{◌≡◌, IsTrue, length, ap, sym, ◌∙◌, subst, arith}
use Rattle.std.proofs.lemmas.Bool.{false≢true}
use Rattle.page_store.specs.PageMap.{at}
use Rattle.btree_node.specs.declared.node.Node.{Node}
use Rattle.btree_node.specs.Layout.{layout_of}
use Rattle.btree_node.specs.Spelling.{CanStand}
use Rattle.btree_node.proofs.VersionLemmas.{stands_written}
use Rattle.btree_insert.specs.Bounds.{AreWithin}
use Rattle.btree_insert.specs.PageTrees.{SpellsIn}
use Rattle.btree_insert.proofs.SpeltLemmas.{bytes_of}
use Rattle.btree_delete.specs.Survey.{node_in, Respells}
use Rattle.btree_delete.proofs.RespellLemmas.{one_in}
use Rattle.btree_delete.proofs.opening.survey.read_page.Given as given
use Rattle.btree_delete.proofs.opening.survey.read_page.Goals as goal
use Rattle.btree_delete.proofs.opening.survey.read_page.Goals.{After-count_in, then-count_in-least-via-then-count_in-least, then-count_in-least-via-else-count_in-least+then-not-is_page_within}

-- the node of the page
module _ (g : given.Over) (c : After-count_in g) where
  abbrev node : Node
  node = node_in c.args.order c.respell.new.page

  spelt : Respells (layout_of c.args.version) c.args.order c.fetch.new.to c.respell.new.page
  spelt = c.respell.ensures.spelt c.if-not-respell.false

  can : CanStand node c.args.order
  can = stands_written c.args.version node c.args.order spelt.stands

  count : c.count_in.result ≡ length node.elements.items
  count = c.count_in.ensures.node c.args.order node c.requires.order can spelt.now

  same : IsTrue c.args.pages.now.steady → (m : Node) → SpellsIn (layout_of c.args.version) c.args.order (at c.args.pages.now.pages) c.args.n m → node ≡ m
  same steady m spells =
      one_in (layout_of c.args.version) c.args.order c.fetch.new.to node m c.requires.order spelt.stands spelt.was spells.stands (ap bytes_of (sym (c.in-Ok.ensures.page steady) ∙ spells.page))

pub returns-then-count_in-least-clause-exact : goal.returns-then-count_in-least-clause-exact
returns-then-count_in-least-clause-exact g c = λ steady m spells enough within.
    let p = (goal.at.returns-then-count_in-least-clause-exact g c).After-count_in in
    let is = same g p steady m spells in
    elim c.then-count_in-least.branch [
      | then-count_in-least-via-then-count_in-least w ↦ absurd (omega (arith, w.if-count_in-least.true, enough, count g p, ap (λ (n : Node). length n.elements.items) is))
      | then-count_in-least-via-else-count_in-least+then-not-is_page_within w ↦ absurd (false≢true (sym w.if-not-is_page_within.true
          ∙ (w.is_page_within.ensures (node g p) (can g p) (spelt g p).now).1 (subst (λ (n : Node). AreWithin c.args.bounds.now n.elements.items) (sym is) within)))
    ]

pub returns-clause-exact : goal.returns-clause-exact
returns-clause-exact g c = λ steady m spells enough within. same g (goal.at.returns-clause-exact g c).After-count_in steady m spells

pub returns-clause-stands : goal.returns-clause-stands
returns-clause-stands g c =
    let p = (goal.at.returns-clause-stands g c).After-count_in in
    record {
      stands = (spelt g p).stands;
      enough = omega (arith, c.if-count_in-least.false, count g p);
      within = (c.is_page_within.ensures (node g p) (can g p) (spelt g p).now).0 c.if-not-is_page_within.false;
    }
