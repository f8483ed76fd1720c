-- Closes that are tried again.
use Rattle.std.proofs.Common.{◌≡◌, ℕ, ◌+◌, ◌-◌, ◌<◌, ◌≤◌, ◌++◌, ⊎_elim, List, [], ◌∷◌, length, take, Option, Some, None, zero, suc, refl, sym, ap, ◌∙◌, subst, inl, inr, arith, append-nil, unwrap_or, true}
use Rattle.std.proofs.lemmas.List.{append_assoc, take-append-le}
use Rattle.std.proofs.Math.Seq.{take-append-add, take-append_seam, take-length}
use Rattle.std.proofs.lemmas.Bool.{cases_lt}
use Rattle.rec_types.specs.LimitBounds.{Bounds}
use Rattle.page_store.specs.Fronts.{tried}
use Rattle.page_store.specs.Journal.{Journal, carried, noted_steps, opened_before, untouched, NotesFront}
use Rattle.page_store.specs.declared.step.Step.{Step}
use Rattle.page_store.proofs.TryLemmas.{carried-append}
use Rattle.btree_delete.specs.Closing.{closing, IsNewOrFile, IsEither}
use Rattle.btree_delete.specs.Origins.{Origin, origin_of as table_origin}
use Rattle.btree_delete.specs.TableView.{TableView, IsClosed, table_contents}
use Rattle.rec_types.specs.Contents.{Contents}
use Rattle.recfile_c.specs.Paged.{HasNoStep, HasTried, KeepsUnclosed, IsTriedAgain, MakesPages, OpensPages, Settles}
use Rattle.recfile_c.specs.FileTables.{origin_in}
use Rattle.recfile_c.specs.declared.file_table.FileTable.TheVariants.{Paged}
use Rattle.recfile_c.specs.Steps.{JournalView, pages_after, journal_of}
use Rattle.recfile_c.proofs.StepLaws.{steps_in, opened_in}

-- a journal without a step is known by its pages
opened_is : (pages : List (List ℕ)) (steps : List Step) (opened : List (List ℕ)) → opened_before pages steps ≡ Some opened → ◌≡◌ {A = Journal} (record { opened = pages; steps = steps }) (record { opened = opened; steps = [] })
opened_is pages [] opened is = ap (λ (o : Option (List (List ℕ))). record { opened = unwrap_or o []; steps = [] }) is
opened_is pages (s ∷ steps) opened is = absurd (cc)

untouched_is : (j : Option Journal) (opened : List (List ℕ)) → untouched j ≡ Some opened → j ≡ Some (record { opened = opened; steps = [] })
untouched_is None opened is = absurd (cc)
untouched_is (Some j) opened is = ap (λ (x : Journal). Some x) (opened_is j.opened j.steps opened is)

-- the journal of a store that a table was made of
abbrev journal_in : Option Origin → Option Journal
journal_in None = None
journal_in (Some o) = o.journal

-- no try yet
pub none_tried : (t : TableView) (opened : List (List ℕ)) → HasNoStep t opened → HasTried t opened []
none_tried t opened none = untouched_is t.pages.journal opened none

-- a front of a list is so many of it
front_is : (all front rest : List Step) → all ≡ front ++ rest → front ≡ take (length front) all
front_is all front rest is = sym (ap (take (length front)) is ∙ take-append_seam front rest)

tried-append : (ks js : List ℕ) (all : List Step) → tried (ks ++ js) all ≡ tried ks all ++ tried js all
tried-append [] js all = refl
tried-append (k ∷ ks) js all = ap (λ (steps : List Step). take k all ++ steps) (tried-append ks js all) ∙ sym (append_assoc (take k all) (tried ks all) (tried js all))

tried_one : (ks : List ℕ) (k : ℕ) (all : List Step) → tried (ks ++ k ∷ []) all ≡ tried ks all ++ take k all
tried_one ks k all = tried-append ks (k ∷ []) all ∙ ap (λ (steps : List Step). tried ks all ++ steps) (append-nil (take k all))

-- a front of tries is tries
front_of_tries : (ks : List ℕ) (m : ℕ) (all : List Step) → (js : List ℕ) × (take m (tried ks all) ≡ tried js all)
front_of_tries [] zero all = ([], refl)
front_of_tries [] (suc m) all = ([], refl)
front_of_tries (k ∷ ks) m all =
    ⊎_elim (λ (short : m < length (take k all)).
    let front = take m (take k all) in (
      length front ∷ [],
      take-append-le m (take k all) (tried ks all) (omega (arith, short))
          ∙ take_twice m k all
          ∙ sym (append-nil (take (length front) all)),
    ))
    (λ (long : length (take k all) ≤ m).
    let later = front_of_tries ks (m - length (take k all)) all in
    let parts : m ≡ length (take k all) + (m - length (take k all)) = omega (arith, long) in (
      k ∷ later.0,
      ap (λ (n : ℕ). take n (take k all ++ tried ks all)) parts
          ∙ take-append-add (take k all) (tried ks all) (m - length (take k all))
          ∙ ap (λ (steps : List Step). take k all ++ steps) later.1,
    ))
    (cases_lt m (length (take k all)))
  where
    take_twice : (m k : ℕ) (all : List Step) → take m (take k all) ≡ take (length (take m (take k all))) all
    take_twice zero k all = refl
    take_twice (suc m) zero all = refl
    take_twice (suc m) (suc k) [] = refl
    take_twice (suc m) (suc k) (s ∷ all) = ap (λ (steps : List Step). s ∷ steps) (take_twice m k all)

-- one more try
pub tried_again : (old new : TableView) → closing new ≡ closing old → NotesFront (closing old) old.pages.journal new.pages.journal
    → (opened : List (List ℕ)) (ks : List ℕ) → HasTried old opened ks → (k : ℕ) × HasTried new opened (ks ++ k ∷ [])
tried_again old new same front opened ks has =
    let all = closing old in
    let k = length front.0 in
    let steps : tried ks all ++ front.0 ≡ tried (ks ++ k ∷ []) (closing new) =
    ap (λ (steps : List Step). tried ks all ++ steps) (front_is all front.0 front.1 front.2)
    ∙ sym (tried_one ks k all)
    ∙ ap (tried (ks ++ k ∷ [])) (sym same) in
    (k, front.3 ∙ ap (λ (j : Option Journal). noted_steps j front.0) has ∙ ap (λ (steps : List Step). Some (record { opened = opened; steps = steps })) steps)

-- the journal after the last try
pub last_try : (t : TableView) (j : JournalView) (opened : List (List ℕ)) (ks : List ℕ) → journal_of j ≡ noted_steps t.pages.journal (closing t) → HasTried t opened ks
    → (j.opened ≡ opened) × (j.steps ≡ tried ks (closing t) ++ closing t)
last_try t j opened ks steps has =
    let is = steps ∙ ap (λ (o : Option Journal). noted_steps o (closing t)) has in
    (ap opened_in is, ap steps_in is)

-- each front of all steps
pub fronts_tried : (t : TableView) (j : JournalView) (ks : List ℕ) → journal_of j ≡ noted_steps t.pages.journal (closing t) → HasTried t j.opened ks
    → ((old : List (List ℕ)) (js : List ℕ) → IsNewOrFile old → IsEither old (carried old (closing t)) (carried old (tried js (closing t))))
    → ((old : List (List ℕ)) (js : List ℕ) → carried (carried old (tried js (closing t))) (closing t) ≡ carried old (closing t))
    → IsNewOrFile j.opened → (m : ℕ) → IsEither j.opened (pages_after j) (carried j.opened (take m j.steps))
fronts_tried t j ks steps has fronts again file m =
    let all = closing t in
    let is = (last_try t j j.opened ks steps has).1 in
    let whole : tried ks all ++ all ≡ tried (ks ++ length all ∷ []) all = ap (λ (ss : List Step). tried ks all ++ ss) (sym (take-length all)) ∙ sym (tried_one ks (length all) all) in
    let front = front_of_tries (ks ++ length all ∷ []) m all in
    let left : carried j.opened (take m j.steps) ≡ carried j.opened (tried front.0 all) = ap (λ (ss : List Step). carried j.opened (take m ss)) (is ∙ whole) ∙ ap (carried j.opened) front.1 in
    let new : pages_after j ≡ carried j.opened all = ap (carried j.opened) is ∙ carried-append j.opened (tried ks all) all ∙ again j.opened ks in
    subst (λ (ps : List (List ℕ)). IsEither j.opened ps (carried j.opened (take m j.steps))) (sym new)
    (subst (λ (ps : List (List ℕ)). IsEither j.opened (carried j.opened all) ps) (sym left) (fronts j.opened front.0 file))

-- each of several closes is one more try
pub tries_again : (n : ℕ) (old new : TableView) (opened : List (List ℕ)) (ks : List ℕ) → IsTriedAgain n old new → HasTried old opened ks → (js : List ℕ) × HasTried new opened js
tries_again zero old new opened ks same has = (ks, subst (λ (t : TableView). HasTried t opened ks) (sym same) has)
tries_again (suc n) old new opened ks tries has = let next = tries.1.tries opened ks has in tries_again n tries.0 new opened (ks ++ next.0 ∷ []) tries.2 next.1

order_kept : (new old : TableView) → KeepsUnclosed old new → new.tree.order ≡ old.tree.order
order_kept new old kept = λ i. (kept.tree i).order

made_of : (order : ℕ) (limits : Bounds) (t : TableView) → MakesPages order limits t → t.tree.order ≡ order
made_of order limits t makes = λ i. (makes.created.tree i).order

-- the table that is closed at last has the order and the records of the first
again_same : (n : ℕ) (old new : TableView) → IsTriedAgain n old new → (new.tree.order ≡ old.tree.order) × (table_contents new ≡ table_contents old) × (new.pages.steady ≡ old.pages.steady)
again_same zero old new same = (ap (λ (t : TableView). t.tree.order) same, ap table_contents same, ap (λ (t : TableView). t.pages.steady) same)
again_same (suc n) old new tries =
    let later = again_same n tries.0 new tries.2 in
    (later.0 ∙ order_kept tries.0 old tries.1, later.1 ∙ tries.1.contents, later.2 ∙ tries.1.steady)

-- and the file that is left the order of its tree
of_order : (order : ℕ) (made now last : TableView) (n : ℕ) (j : JournalView) → made.tree.order ≡ order → made.pages.steady ≡ true
    → origin_in (Paged now) ≡ origin_in (Paged made) → IsTriedAgain n now last → Settles last j
    → (last.tree.order ≡ order) × IsClosed 2 (pages_after j) 0 last.tree (table_contents now)
of_order order made now last n j is steady same tries settles =
    let tried = again_same n now last tries in
    let origin : table_origin now ≡ table_origin made = ap (λ (o : Option Origin). unwrap_or o (table_origin now)) same in (
      tried.0 ∙ ap (λ (o : Origin). o.order) origin ∙ is,
      subst (λ (m : Contents). IsClosed 2 (pages_after j) 0 last.tree m) tried.1 (settles.closed (tried.2 ∙ ap (λ (o : Origin). o.steady) origin ∙ steady)),
    )

pub opened_order : (pages : List (List ℕ)) (limits : Bounds) (made now last : TableView) (n : ℕ) (j : JournalView) → OpensPages pages limits made
    → origin_in (Paged now) ≡ origin_in (Paged made) → IsTriedAgain n now last → Settles last j
    → (last.tree.order ≡ made.tree.order) × IsClosed 2 (pages_after j) 0 last.tree (table_contents now)
opened_order pages limits made now last n j opens = of_order made.tree.order made now last n j refl opens.steady

pub made_order : (order : ℕ) (limits : Bounds) (made now last : TableView) (n : ℕ) (j : JournalView) → MakesPages order limits made
    → origin_in (Paged now) ≡ origin_in (Paged made) → IsTriedAgain n now last → Settles last j
    → (last.tree.order ≡ order) × IsClosed 2 (pages_after j) 0 last.tree (table_contents now)
made_order order limits made now last n j makes = of_order order made now last n j (made_of order limits made makes) makes.steady

-- from the pages of a new file or of an opened one to the steps that are handed out
from_pages : (pages : List (List ℕ)) (made now last : TableView) (n : ℕ) (j : JournalView) → HasNoStep made pages → IsNewOrFile pages
    → origin_in (Paged now) ≡ origin_in (Paged made) → IsTriedAgain n now last → Settles last j
    → (j.opened ≡ pages) × ((k : ℕ) → IsEither pages (pages_after j) (carried pages (take k j.steps)))
from_pages pages made now last n j none file same tries settles =
    let has = tries_again n now last pages [] tries (none_tried now pages (ap (λ (o : Option Origin). untouched (journal_in o)) same ∙ none)) in
    let is = settles.opened pages has.0 has.1 in (
      is,
      λ k. subst (λ (ps : List (List ℕ)). IsEither ps (pages_after j) (carried ps (take k j.steps))) is
          (settles.fronts has.0 (subst (λ (ps : List (List ℕ)). HasTried last ps has.0) (sym is) has.1) (subst IsNewOrFile (sym is) file) k),
    )

pub handed_in : (pages : List (List ℕ)) (limits : Bounds) (made now last : TableView) (n : ℕ) (j : JournalView) → OpensPages pages limits made
    → origin_in (Paged now) ≡ origin_in (Paged made) → IsTriedAgain n now last → Settles last j
    → (j.opened ≡ pages) × ((k : ℕ) → IsEither pages (pages_after j) (carried pages (take k j.steps)))
handed_in pages limits made now last n j opens =
    from_pages pages made now last n j opens.steps
    (inr (record { h = opens.opens.h; tree = made.tree; es = opens.opens.es; us = opens.opens.us; clean = opens.opens.clean }))

pub newly_made : (order : ℕ) (limits : Bounds) (made now last : TableView) (n : ℕ) (j : JournalView) → MakesPages order limits made
    → origin_in (Paged now) ≡ origin_in (Paged made) → IsTriedAgain n now last → Settles last j
    → (j.opened ≡ []) × ((k : ℕ) → IsEither [] (pages_after j) (carried [] (take k j.steps)))
newly_made order limits made now last n j makes = from_pages [] made now last n j makes.steps (inl refl)
