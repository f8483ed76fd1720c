use Rattle.std.proofs.Common.{ℕ, List, Result, Ok, Err, OnOk, refl, subst}
use Rattle.btree_node.specs.Lists.{Element}
use Rattle.rec_types.specs.Contents.{Contents}
use Rattle.page_rescue.specs.Rescue.{GrowsBy, IsAmong, IsInPage}
use Rattle.page_rescue.proofs.GrowthLemmas.{grows_from}
use Rattle.page_rescue.proofs.rescue.take_page.Goals as goal

-- what comes from a node of the page comes from the page
from_page : {A E : Type 0} {From More : List ℕ → List ℕ → Type 0} (answer : Result A E) (a b : Contents) → ((k v : List ℕ) → From k v → More k v) → OnOk answer (GrowsBy From a b) → OnOk answer (GrowsBy More a b)
from_page (Ok done) a b more grew = grows_from a b more grew
from_page (Err fault) a b more grew = grew

pub returns-in-true-clause-grows : goal.returns-in-true-clause-grows
returns-in-true-clause-grows c = from_page c.take_all.result c.args.table.now.contents c.take_all.new.table.contents (λ k v among. (c.is_whole.new.node, c.in-true.ensures.found refl, subst (λ (es : List Element). IsAmong es k v) c.as_slice.ensures.value among)) c.take_all.ensures.grows
