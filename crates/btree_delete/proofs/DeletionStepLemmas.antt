-- What the steps of a deletion below a page come to.
use Rattle.std.proofs.Common.{◌≡◌, ℕ, zero, suc, ◌<◌, ◌≤◌, ⊎_elim, inl, inr, false, List, [], ◌∷◌, ◌++◌, length, refl, ap, sym, ◌∙◌, subst, arith}
use Rattle.std.proofs.lemmas.Bool.{cases_lt}
use Rattle.page_store.specs.PageMap.{PageMap, after}
use Rattle.btree_node.specs.declared.node.Node.{Node}
use Rattle.btree_node.specs.Lists.{Element}
use Rattle.btree_insert.specs.declared.bounds.Bounds.{Bounds}
use Rattle.btree_insert.specs.Bounds.{AreWithin, Between, son_bounds}
use Rattle.btree_insert.specs.PageTrees.{IsIn, Fan, Spells, kind_of_level}
use Rattle.btree_insert.proofs.Membership.{in_left, in_right}
use Rattle.btree_delete.specs.Treatment.{son_number, brothers}
use Rattle.btree_delete.specs.Shrinking.{MayBeUnderfull, WritesOrHandsUp, Loses, TreatsAndSettles, StaysUnvisited, unsettled, Removal}
use Rattle.btree_delete.specs.Tidy.{is_visited, Untouched, done_so_far}
use Rattle.btree_delete.proofs.BrotherLemmas.{right_brother, treated_right, left_brother, treated_left}
use Rattle.btree_delete.proofs.SonsLemmas.{Kin}
use Rattle.btree_delete.proofs.UnderflowLemmas.{Treated}
use Rattle.btree_delete.proofs.EditLemmas.{unvisited_push}

-- a page whose son is underfull: what stands below it, and what went so far
pub record Broken (k : ℕ) (old mid : PageMap) (visited : List ℕ) (lo hi h p s : ℕ) (node F : Node) (es : List Element) (us : List ℕ) : Type 0 where
  pub mids : List ℕ
  pub fan : Fan (Kin k old mid visited h s node) F.sons.items F.elements.items es mids
  pub loses : Loses old mid lo hi us (p ∷ mids)

-- a page whose underfull son was treated, and the page that was visited for it
pub record TreatedSon (k : ℕ) (old mid new : PageMap) (lo hi h : ℕ) (G : Node) (es : List Element) (visited visited2 mids : List ℕ) : Type 0 where
  pub treated : Treated k mid new lo hi h G es mids
  pub t : ℕ
  pub visited_is : visited2 ≡ visited ++ t ∷ []
  pub t_in : IsIn t mids

-- what is asked of a brother on the right, and on the left
abbrev pub AskRight : ℕ → PageMap → ℕ → List ℕ → Bounds → Node → ℕ → (Node → Type 0) → Type 0
AskRight k old level visited b F i X =
    i < length F.elements.items → (n : Node) → Spells k old (son_number F (suc i)) n → n.kind ≡ kind_of_level level → AreWithin (son_bounds F.elements.items (suc i) b) n.elements.items → is_visited visited (son_number F (suc i)) ≡ false → X n

-- what is asked of the brother on the left where the son is the last
abbrev pub AskLeft : ℕ → PageMap → ℕ → List ℕ → Bounds → Node → ℕ → (ℕ → Node → Type 0) → Type 0
AskLeft k old level visited b F i X =
    (j : ℕ) → i ≡ suc j → i ≡ length F.elements.items → (n : Node) → Spells k old (son_number F j) n → n.kind ≡ kind_of_level level → AreWithin (son_bounds F.elements.items j b) n.elements.items → is_visited visited (son_number F j) ≡ false → X j n

pair_in : (t : ℕ) (us upre lefts rights upost : List ℕ) → us ≡ upre ++ ((lefts ++ rights) ++ upost) → IsIn t (lefts ++ rights) → IsIn t us
pair_in t us upre lefts rights upost us_is is = subst (IsIn t) (sym us_is) (in_right t upre ((lefts ++ rights) ++ upost) (in_left t (lefts ++ rights) upost is))

-- an underfull son has a brother, so that the question has an answer
pub ask : (X : Type 0) (k : ℕ) (old mid : PageMap) (visited : List ℕ) (lo hi h level p s : ℕ) (node F : Node) (es : List Element) (us : List ℕ) (b : Bounds) (i : ℕ) → suc h ≡ level → 0 < length F.elements.items → i ≤ length F.elements.items → s ≡ son_number F i → Between b es
    → Broken k old mid visited lo hi h p s node F es us → AskRight k old level visited b F i (λ n. X) → AskLeft k old level visited b F i (λ j n. X) → X
ask X k old mid visited lo hi h level p s node F es us b i level_is some low s_is between broken right left =
    ⊎_elim
    (λ (less : i < length F.elements.items). let br = right_brother k old mid mid visited h s node F es broken.mids b i s_is less broken.loses.left.apart.1 between broken.fan in right less br.n br.spells (br.head.kind ∙ ap kind_of_level level_is) br.head.within br.beside.unvisited)
    (λ (more : length F.elements.items ≤ i). at i refl more)
    (cases_lt i (length F.elements.items))
  where
    at : (x : ℕ) → x ≡ i → length F.elements.items ≤ i → X
    at zero is more = absurd (omega (arith, some, is, more))
    at (suc j) is more =
        let i_is : i ≡ suc j = sym is in
        let br = left_brother k old mid mid visited h s node F es broken.mids b j (s_is ∙ ap (son_number F) i_is) (omega (arith, low, is)) broken.loses.left.apart.1 between broken.fan in
        left j i_is (omega (arith, low, more)) br.n br.spells (br.head.kind ∙ ap kind_of_level level_is) br.head.within br.beside.unvisited

-- the same, and the page was settled
pub record SettledSon (k height : ℕ) (b : Bounds) (old mid : PageMap) (lo h p : ℕ) (es : List Element) (visited visited2 mids : List ℕ) (e : Element) (ws3 : List (ℕ × List ℕ)) (fs2 : List ℕ) (g : Removal) : Type 0 where
  pub G : Node
  pub son : TreatedSon k old mid (after old (unsettled g ws3) fs2) lo (length fs2) h G es visited visited2 mids
  pub may_be_underfull : MayBeUnderfull k height b G
  pub kept : Untouched (unsettled g ws3) fs2 p
  pub settles : WritesOrHandsUp k (unsettled g ws3) ws3 p e G g

-- what comes of a father whose underfull son was treated
abbrev pub Answer : ℕ → ℕ → Bounds → ℕ → Node → ℕ → Node → Node → Element → List (ℕ × List ℕ) → List (ℕ × List ℕ) → List ℕ → List ℕ → List ℕ → List ℕ → Removal → ℕ → Type 0
Answer k height b p F i L R e ws ws3 fs fs2 visited visited2 g t = (visited2 ≡ visited ++ t ∷ []) × TreatsAndSettles (record { order = k; height = height; page = p; bounds = b }) F (brothers i L R) e (done_so_far ws fs) (done_so_far ws3 fs2) g

-- an underfull son treated, and its father settled
pub treat_son : (k height : ℕ) (old : PageMap) (visited visited2 : List ℕ) (lo h level p s : ℕ) (node F : Node) (e : Element) (g : Removal) (ws ws3 : List (ℕ × List ℕ)) (fs fs2 : List ℕ) (es : List Element) (us : List ℕ) (b : Bounds) (i : ℕ) → 1 ≤ k → suc h ≡ level → 0 < length F.elements.items → i ≤ length F.elements.items → s ≡ son_number F i → Between b es
    → Untouched ws fs (son_number F i) → ((q : ℕ) → is_visited visited q ≡ false → Untouched ws fs q) → (broken : Broken k old (after old ws fs) visited lo (length fs) h p s node F es us)
    → AskRight k old level visited b F i (λ n. Answer k height b p F i node n e ws ws3 fs fs2 visited visited2 g (son_number F (suc i))) → AskLeft k old level visited b F i (λ j n. Answer k height b p F j n node e ws ws3 fs fs2 visited visited2 g (son_number F j))
    → SettledSon k height b old (after old ws fs) (length fs) h p es visited visited2 broken.mids e ws3 fs2 g
treat_son k height old visited visited2 lo h level p s node F e g ws ws3 fs fs2 es us b i order level_is some low s_is between mine untouched broken right left =
    ⊎_elim
    (λ (less : i < length F.elements.items).
    let br = right_brother k old (after old ws fs) (after old (unsettled g ws3) fs2) visited h s node F es broken.mids b i s_is less broken.loses.left.apart.1 between broken.fan in
    let done = right less br.n br.spells (br.head.kind ∙ ap kind_of_level level_is) br.head.within br.beside.unvisited in
    record {
      G = done.1.treated;
      son = record {
        treated = treated_right k old visited h s node F done.1.treated ws (unsettled g ws3) fs fs2 es broken.mids b i order mine.kept (untouched (son_number F (suc i)) br.beside.unvisited).kept br done.1.treats;
        t = son_number F (suc i);
        visited_is = done.0;
        t_in = pair_in (son_number F (suc i)) broken.mids br.sons.at.upre br.sons.at.lefts br.sons.at.rights br.sons.at.upost br.sons.at.us_is (in_right (son_number F (suc i)) br.sons.at.lefts br.sons.at.rights (subst (IsIn (son_number F (suc i))) (sym br.head.us_is) (inl refl)));
      };
      may_be_underfull = done.1.may_be_underfull;
      kept = done.1.kept;
      settles = done.1.settles;
    })
    (λ (more : length F.elements.items ≤ i). at i refl more)
    (cases_lt i (length F.elements.items))
  where
    at : (x : ℕ) → x ≡ i → length F.elements.items ≤ i → SettledSon k height b old (after old ws fs) (length fs) h p es visited visited2 broken.mids e ws3 fs2 g
    at zero is more = absurd (omega (arith, some, is, more))
    at (suc j) is more =
        let i_is : i ≡ suc j = sym is in
        let br = left_brother k old (after old ws fs) (after old (unsettled g ws3) fs2) visited h s node F es broken.mids b j (s_is ∙ ap (son_number F) i_is) (omega (arith, low, is)) broken.loses.left.apart.1 between broken.fan in
        let done = left j i_is (omega (arith, low, more)) br.n br.spells (br.head.kind ∙ ap kind_of_level level_is) br.head.within br.beside.unvisited in
        record {
          G = done.1.treated;
          son = record {
            treated = treated_left k old visited h s node F done.1.treated ws (unsettled g ws3) fs fs2 es broken.mids b j order (untouched (son_number F j) br.beside.unvisited).kept (subst (λ (x : ℕ). Untouched ws fs (son_number F x)) i_is mine).kept br done.1.treats;
            t = son_number F j;
            visited_is = done.0;
            t_in = pair_in (son_number F j) broken.mids br.sons.at.upre br.sons.at.lefts br.sons.at.rights br.sons.at.upost br.sons.at.us_is (in_left (son_number F j) br.sons.at.lefts br.sons.at.rights (subst (IsIn (son_number F j)) (sym br.head.us_is) (inl refl)));
          };
          may_be_underfull = done.1.may_be_underfull;
          kept = done.1.kept;
          settles = done.1.settles;
        }

-- what is not below the page stays unvisited: the page itself, a son's pages and a brother are below it
pub still_unvisited : (visited visited2 visited3 : List ℕ) (p t : ℕ) (us mine : List ℕ) → IsIn p us → ((q : ℕ) → IsIn q mine → IsIn q us) → IsIn t us → StaysUnvisited (visited ++ p ∷ []) visited2 mine → visited3 ≡ visited2 ++ t ∷ [] → StaysUnvisited visited visited3 us
still_unvisited visited visited2 visited3 p t us mine p_in mine_in t_in stays visited_is = λ q unvisited out.
    subst (λ (ms : List ℕ). is_visited ms q ≡ false) (sym visited_is)
    (unvisited_push visited2 t q (stays q (unvisited_push visited p q unvisited (λ e. out (subst (λ (x : ℕ). IsIn x us) (sym e) p_in))) (λ is. out (mine_in q is))) (λ e. out (subst (λ (x : ℕ). IsIn x us) (sym e) t_in)))

-- a visit of one page leaves the others unvisited
pub page_unvisited : (visited : List ℕ) (p : ℕ) (us : List ℕ) → IsIn p us → StaysUnvisited visited (visited ++ p ∷ []) us
page_unvisited visited p us p_in = λ q unvisited out. unvisited_push visited p q unvisited (λ e. out (subst (λ (x : ℕ). IsIn x us) (sym e) p_in))

-- the numbers of a son's pages are the page's
pub below_in : (p : ℕ) (us upre mine upost : List ℕ) → us ≡ p ∷ (upre ++ (mine ++ upost)) → (q : ℕ) → IsIn q mine → IsIn q us
below_in p us upre mine upost us_is q is = subst (IsIn q) (sym us_is) (inr (in_right q upre (mine ++ upost) (in_left q mine upost is)))

-- a tree's head is one of its pages
pub page_in : (p : ℕ) (us below : List ℕ) → us ≡ p ∷ below → IsIn p us
page_in p us below us_is = subst (IsIn p) (sym us_is) (inl refl)

-- what a call on a son leaves unvisited
pub son_unvisited : (visited visited2 : List ℕ) (p : ℕ) (us upre mine upost : List ℕ) → us ≡ p ∷ (upre ++ (mine ++ upost)) → StaysUnvisited (visited ++ p ∷ []) visited2 mine → StaysUnvisited visited visited2 us
son_unvisited visited visited2 p us upre mine upost us_is stays = λ q unvisited out.
    stays q (unvisited_push visited p q unvisited (λ e. out (subst (λ (x : ℕ). IsIn x us) (sym e) (page_in p us (upre ++ (mine ++ upost)) us_is)))) (λ is. out (below_in p us upre mine upost us_is q is))
