-- What contracts see of a table in a tree.
use Rattle.std.proofs.Common.{◌≡◌, ℕ, ◌≤◌, true, false, Option, Some, None, IsSome, IsTrue, Result, Ok, Err, IsOk, IfOk, IfErr, MatchResult, ◌⊎◌, inl, inr, List, [], length, refl, ap, sym, ◌∙◌, subst, arith}
use Rattle.std.specs.FinMap as maps
use Rattle.std.specs.FinMap.{empty_of_len}
use Rattle.rec_types.specs.Contents.{Contents, set_to}
use Rattle.rec_types.specs.Ordered.{is_left, nearest, beside, in_turn, all_beside}
use Rattle.rec_types.specs.declared.gap.Gap.{Gap}
use Rattle.rec_types.specs.declared.side.Side.{Side}
use Rattle.rec_types.specs.Table.{is_device}
use Rattle.rec_types.specs.declared.table.TableFault.{TableFault}
use Rattle.rec_types.specs.declared.table_calls.TableCalls.{TableCalls}
use Rattle.rec_types.specs.declared.table.TableFault.TheVariants.{Device, Damaged, NoRoom, Memory}
use Rattle.page_store.specs.PageMap.{at}
use Rattle.page_store.specs.PagesView.{PagesView}
use Rattle.btree_node.specs.Lists.{Element, Ascends}
use Rattle.btree_insert.specs.declared.tree.Tree.{Tree}
use Rattle.btree_insert.specs.declared.tree.TreeFault.{TreeFault}
use Rattle.btree_insert.specs.declared.tree.TreeFault.TheVariants.{Device as ReadFailed, Damaged as NoTreePage, Memory as NoMemory}
use Rattle.btree_insert.specs.Faults.{TreeAsksNoMemory}
use Rattle.btree_insert.specs.Growth.{IsNotOfPages}
use Rattle.rec_types.specs.Told.{TellsAll, TellsUntil, TellsSome}
use Rattle.btree_insert.specs.PageTrees.{Holds}
use Rattle.btree_insert.specs.Nearest.{IsNearest, TellsOrDevice}
use Rattle.btree_insert.specs.Contents.{lookup_in, set_in, contents_of}
use Rattle.btree_insert.specs.Elements.{contents_at}
use Rattle.btree_insert.proofs.ContentsLemmas.{entries-contents_of, len-contents_of}
use Rattle.btree_insert.proofs.TreeElementLemmas.{contents_set, contents_get}
use Rattle.btree_insert.proofs.ElementMapLemmas.{one_if_none, put-length}
use Rattle.btree_delete.specs.TableAnswers.{table_answer, IsSet, IsFull, MayRefuse, KeepsLimits, StagesSet, TellsChange}
use Rattle.btree_insert.specs.Spelt.{AreSpeltIn}
use Rattle.btree_delete.specs.declared.table.fault_counts.FaultCounts.{FaultCounts}
use Rattle.btree_delete.specs.TableView.{TableView, Fills, IsClosed, IsTable, table_contents, table_of}
use Rattle.btree_delete.proofs.ClosedFileLemmas.{held_contents}

-- no elements are no contents
pub no_contents : contents_of [] ≡ maps.empty
no_contents = empty_of_len (contents_of []) (len-contents_of [] tt)

-- the records of a table are as many as its tree says
pub count_is : (t : TableView) → IsTable t → IsTrue t.pages.steady → t.tree.count ≡ maps.len (table_contents t)
count_is t is steady =
    let held = is.holds steady in
    let holds = held.fills.holds in
    holds.count ∙ sym (len-contents_of held.es holds.ascends) ∙ ap maps.len (sym (held_contents (at t.pages.pages) t.tree held.es held.us is.tree.order.1 holds))

-- pages that are seen to be steady are
steady_here : (here now : TableView) → here ≡ now → IsTrue now.pages.steady → IsTrue here.pages.steady
steady_here here now same steady = ap (λ (t : TableView). t.pages.steady) same ∙ steady

-- the count is that of the contents
pub count_seen : (here now : TableView) → here ≡ now → IsTable here → IsTrue now.pages.steady → here.tree.count ≡ maps.len (table_contents now)
count_seen here now same is steady = count_is here is (steady_here here now same steady) ∙ ap (λ (t : TableView). maps.len (table_contents t)) same

-- what a change answers over the pages of a table
abbrev pub Changes : TableView → List (Option (List ℕ)) → List ℕ → Option (List ℕ) → Result (Tree × Option (List ℕ)) TableFault → Type 0
Changes t new key to r =
    IsTrue t.pages.steady → (es : List Element) → (us : List ℕ) → Fills t.pages.pages t.tree es us → t.tree.count ≤ t.limit → MatchResult r (λ x. IsSet new x.0 t.limit es key to x.1) (MayRefuse t.limit t.tree.count es key to)

-- the answer of a set, where it is known
set_answer : (t : TableView) (new : List (Option (List ℕ))) (key : List ℕ) (to : Option (List ℕ)) (r answer : Result (Tree × Option (List ℕ)) TableFault) (is : IsTable t) (steady : IsTrue t.pages.steady) → Changes t new key to r → r ≡ answer
    → MatchResult answer (λ x. IsSet new x.0 t.limit (is.holds steady).es key to x.1) (MayRefuse t.limit t.tree.count (is.holds steady).es key to)
set_answer t new key to r answer is steady call r_is =
    let held = is.holds steady in
    subst (Changes t new key to) r_is call steady held.es held.us held.fills (is.count steady)

-- a look-up in the tree is one in the contents
looked_up : (here now : TableView) (key : List ℕ) (same : here ≡ now) (is : IsTable here) (steady : IsTrue here.pages.steady) → lookup_in key (is.holds steady).es ≡ maps.get (table_contents now) key
looked_up here now key same is steady =
    let held = is.holds steady in
    contents_get (at here.pages.pages) here.tree held.es held.us key is.tree.order.1 held.fills.holds ∙ ap (λ (t : TableView). maps.get (table_contents t) key) same

too_many : (limit count next : ℕ) (es : List Element) (key : List ℕ) (to : Option (List ℕ)) → Ascends es → count ≡ length es → next ≡ length (set_in key to es) → next ≤ limit → IsFull limit count es key to → ⊥
too_many limit count next es key None up count_is next_is few full = absurd (let never = full.puts in cc)
too_many limit count next es key (Some value) up count_is next_is few full =
    let one = put-length key value es up in
    let added = ap one_if_none full.absent in
    let high = full.full in
    absurd (omega (arith, one, added, high, few, count_is, next_is))

-- equal answers have equal faults
pub same_fault : {X : Type 0} (a b : TableFault) → ◌≡◌ {A = Result X TableFault} (Err a) (Err b) → a ≡ b
same_fault a b same = cc

only_room : (X : Type 0) (limit count : ℕ) (es : List Element) (key : List ℕ) (to : Option (List ℕ)) (fault : TableFault) → MayRefuse limit count es key to fault → IsFull limit count es key to → is_device {A = X} (Err fault) ≡ false → fault ≡ NoRoom
only_room X limit count es key to Device refused full device = absurd (cc)
only_room X limit count es key to (Damaged page) refused full device = absurd refused
only_room X limit count es key to NoRoom refused full device = refl
only_room X limit count es key to Memory refused full device = absurd (refused.0 full)

-- only a device refuses to take out an absent key
only_device : (X : Type 0) (limit count : ℕ) (es : List Element) (key : List ℕ) (fault : TableFault) → MayRefuse limit count es key None fault → lookup_in key es ≡ None → is_device {A = X} (Err fault) ≡ true
only_device X limit count es key Device refused none = refl
only_device X limit count es key (Damaged page) refused none = absurd refused
only_device X limit count es key NoRoom refused none = absurd (let never = refused.puts in cc)
only_device X limit count es key Memory refused none = absurd (let some = refused.1 refl in cc)

-- a change over the pages of a table
module _ (here now : TableView) (new : List (Option (List ℕ))) (key : List ℕ) (to : Option (List ℕ)) (r : Result (Tree × Option (List ℕ)) TableFault) (same : here ≡ now) (is : IsTable here) (call : Changes here new key to r) (steady : IsTrue now.pages.steady) where
  steady2 : IsTrue here.pages.steady
  steady2 = steady_here here now same steady

  done : (next : Tree) (before : Option (List ℕ)) → r ≡ Ok (next, before) → IsSet new next here.limit (is.holds steady2).es key to before
  done next before r_is = set_answer here new key to r (Ok (next, before)) is steady2 call r_is

  refused : (fault : TableFault) → r ≡ Err fault → MayRefuse here.limit here.tree.count (is.holds steady2).es key to fault
  refused fault r_is = set_answer here new key to r (Err fault) is steady2 call r_is

  full_of : IsSome to → maps.get (table_contents now) key ≡ None → now.limit ≤ maps.len (table_contents now) → IsFull here.limit here.tree.count (is.holds steady2).es key to
  full_of puts absent full = record {
    puts = puts;
    absent = looked_up here now key same is steady2 ∙ absent;
    full = omega (arith, ap (λ (t : TableView). t.limit) same, full, count_seen here now same is steady);
  }

  -- what stood at the key
  pub set_value : (next : Tree) (before : Option (List ℕ)) → r ≡ Ok (next, before) → before ≡ maps.get (table_contents now) key
  set_value next before r_is = (done next before r_is).answer ∙ looked_up here now key same is steady2

  -- the records after it
  pub set_contents : (next : Tree) (before : Option (List ℕ)) → r ≡ Ok (next, before) → IfOk r (λ x. KeepsLimits here.tree x.0) → contents_at next.order (at new) next.height next.root ≡ set_to (table_contents now) key to
  set_contents next before r_is limits =
      let held = is.holds steady2 in
      let set = done next before r_is in
      let kept = subst (λ (r : Result (Tree × Option (List ℕ)) TableFault). IfOk r (λ x. KeepsLimits here.tree x.0)) r_is limits in
      contents_set (at here.pages.pages) (at new) here.tree next held.es held.us set.vs key to is.tree.order.1 kept.order held.fills.holds set.fills.holds
      ∙ ap (λ (t : TableView). set_to (table_contents t) key to) same

  -- a new key is not put where there are as many records as there may be
  pub set_full : (next : Tree) (before : Option (List ℕ)) → r ≡ Ok (next, before) → IsSome to → maps.get (table_contents now) key ≡ None → now.limit ≤ maps.len (table_contents now) → ⊥
  set_full next before r_is puts absent full =
      let held = is.holds steady2 in
      let set = done next before r_is in
      too_many here.limit here.tree.count next.count held.es key to held.fills.holds.ascends held.fills.holds.count set.fills.holds.count set.few (full_of puts absent full)

  -- NoRoom comes of a new key at the limit
  pub refused_room : (fault : TableFault) → r ≡ Err fault → fault ≡ NoRoom → IsSome to × (maps.get (table_contents now) key ≡ None) × (now.limit ≤ maps.len (table_contents now))
  refused_room fault r_is fault_is =
      let full = subst (MayRefuse here.limit here.tree.count (is.holds steady2).es key to) fault_is (refused fault r_is) in (
        full.puts,
        sym (looked_up here now key same is steady2) ∙ full.absent,
        (let high = full.full in omega (arith, high, ap (λ (t : TableView). t.limit) same, count_seen here now same is steady)),
      )

  -- and always comes of it
  pub full_refused : (X : Type 0) (fault : TableFault) → r ≡ Err fault → IsSome to → maps.get (table_contents now) key ≡ None → now.limit ≤ maps.len (table_contents now) → is_device {A = X} (Err fault) ≡ false → fault ≡ NoRoom
  full_refused X fault r_is puts absent full device = only_room X here.limit here.tree.count (is.holds steady2).es key to fault (refused fault r_is) (full_of puts absent full) device

  -- no other fault than the device's comes of taking out an absent key
  pub absent_refused : (X : Type 0) (fault : TableFault) → r ≡ Err fault → to ≡ None → maps.get (table_contents now) key ≡ None → is_device {A = X} (Err fault) ≡ true
  absent_refused X fault r_is none absent =
      only_device X here.limit here.tree.count (is.holds steady2).es key fault (subst (λ (w : Option (List ℕ)). MayRefuse here.limit here.tree.count (is.holds steady2).es key w fault) none (refused fault r_is)) (looked_up here now key same is steady2 ∙ absent)

-- where no edit was staged, the tree and the pages are as they were
abbrev pub IsIdle : TableView → PagesView → Tree → Type 0
IsIdle t pages next = (next ≡ t.tree) × (pages.pages ≡ t.pages.pages) × (pages.changed ≡ t.pages.changed)

idle_of : (t : TableView) (pages : PagesView) (next : Tree) (to before : Option (List ℕ)) → (to ≡ None → before ≡ None → IsIdle t pages next) → (to ≡ None → IsSome before → pages.changed ≡ true) → (IsSome to → pages.changed ≡ true) → pages.changed ≡ false → IsIdle t pages next
idle_of t pages next (Some value) before out_none out put idle = absurd (let never = sym (put refl) ∙ idle in cc)
idle_of t pages next None (Some value) out_none out put idle = absurd (let never = sym (out refl refl) ∙ idle in cc)
idle_of t pages next None None out_none out put idle = out_none refl refl

-- the table after it
pub set_table : (t : TableView) (pages : PagesView) (key : List ℕ) (to : Option (List ℕ)) (r : Result (Tree × Option (List ℕ)) TableFault) (next : Tree) (before : Option (List ℕ)) (faults : FaultCounts) (calls : TableCalls) → IsTable t → Changes t pages.pages key to r → r ≡ Ok (next, before)
    → IfOk r (λ x. KeepsLimits t.tree x.0) → TellsChange t.tree to t.pages r pages → StagesSet t.pages r pages → AreSpeltIn t.tree.order pages → IsTable (table_of pages next t.limit faults calls)
set_table t pages key to r next before faults calls is call r_is limits tells stages spelt =
    let kept = subst (λ (r : Result (Tree × Option (List ℕ)) TableFault). IfOk r (λ x. KeepsLimits t.tree x.0)) r_is limits in
    let steady_is = ap (λ (v : PagesView). v.steady) stages.store in
    let ok = subst (λ (r : Result (Tree × Option (List ℕ)) TableFault). IsOk r) (sym r_is) refl in
    let done : (steady : IsTrue pages.steady) → IsSet pages.pages next t.limit (is.holds (sym steady_is ∙ steady)).es key to before = λ steady. set_answer t pages.pages key to r (Ok (next, before)) is (sym steady_is ∙ steady) call r_is in
    record {
      tree = record {
        order = (omega (arith, is.tree.order.0, kept.order), omega (arith, is.tree.order.1, kept.order));
        height = kept.height;
        count = kept.count;
        used = kept.used;
      };
      count = λ steady. (done steady).few;
      limit = is.limit;
      spelt = subst (λ (k : ℕ). AreSpeltIn k pages) (sym kept.order) spelt;
      holds = λ steady. record { es = set_in key to (is.holds (sym steady_is ∙ steady)).es; us = (done steady).vs; fills = (done steady).fills };
      closed = λ steady idle.
          let none = subst (λ (r : Result (Tree × Option (List ℕ)) TableFault). to ≡ None → IfOk r (λ x. x.1 ≡ None → IsIdle t pages x.0)) r_is tells.absent in
          let some = subst (λ (r : Result (Tree × Option (List ℕ)) TableFault). to ≡ None → IfOk r (λ x. IsSome x.1 → pages.changed ≡ true)) r_is tells.taken_out in
          let as_was = idle_of t pages next to before none some (λ puts. tells.put puts ok) idle in
          let closed = is.closed (sym steady_is ∙ steady) (sym as_was.2 ∙ idle) in
          let same : table_contents t ≡ contents_at next.order (at pages.pages) next.height next.root = λ i. contents_at (sym as_was.0 i).order (at (sym as_was.1 i)) (sym as_was.0 i).height (sym as_was.0 i).root in
          subst (λ (ps : List (List ℕ)). IsClosed 2 ps pages.tail next (contents_at next.order (at pages.pages) next.height next.root)) (sym (ap (λ (v : PagesView). v.stored) stages.store))
          (subst (λ (n : ℕ). IsClosed 2 t.pages.stored n next (contents_at next.order (at pages.pages) next.height next.root)) (sym (ap (λ (v : PagesView). v.tail) stages.store))
          (subst (λ (x : Tree). IsClosed 2 t.pages.stored t.pages.tail x (contents_at next.order (at pages.pages) next.height next.root)) (sym as_was.0)
          (subst (λ (m : Contents). IsClosed 2 t.pages.stored t.pages.tail t.tree m) same closed)));
    }

-- what a look-up answers
pub got : (here now : TableView) (key : List ℕ) (r : Result (Option (List ℕ)) TreeFault) → here ≡ now → IsTable here
    → (IsTrue here.pages.steady → (es : List Element) → (us : List ℕ) → Holds (at here.pages.pages) here.tree es us → MatchResult r (λ found. found ≡ lookup_in key es) (λ fault. fault ≡ ReadFailed))
    → IsTrue now.pages.steady → IfOk (table_answer r) (λ found. found ≡ maps.get (table_contents now) key)
got here now key (Ok found) same is call steady =
    let steady2 = steady_here here now same steady in
    let held = is.holds steady2 in
    call steady2 held.es held.us held.fills.holds ∙ looked_up here now key same is steady2
got here now key (Err fault) same is call steady = tt

-- and a walk
pub listed : (X : Type 0) (items : X → List Element) (here now : TableView) (r : Result X TreeFault) → here ≡ now → IsTable here → (IsTrue here.pages.steady → (es : List Element) → (us : List ℕ) → Holds (at here.pages.pages) here.tree es us → MatchResult r (λ list. items list ≡ es) IsNotOfPages)
    → IsTrue now.pages.steady → IfOk (table_answer r) (λ list. items list ≡ maps.entries (table_contents now))
listed X items here now (Ok list) same is call steady =
    let steady2 = steady_here here now same steady in
    let held = is.holds steady2 in
    call steady2 held.es held.us held.fills.holds ∙ sym (entries-contents_of held.es held.fills.holds.ascends) ∙ ap maps.entries (sym (held_contents (at here.pages.pages) here.tree held.es held.us is.tree.order.1 held.fills.holds))
    ∙ ap (λ (t : TableView). maps.entries (table_contents t)) same
listed X items here now (Err fault) same is call steady = tt

-- and a search for the record beside a gap
pub beside_told : (side : Side) (from : Gap) (here now : TableView) (r : Result (Option Element) TreeFault) → here ≡ now → IsTable here
    → (IsTrue here.pages.steady → (es : List Element) → (us : List ℕ) → Holds (at here.pages.pages) here.tree es us → IsNearest (nearest side (is_left from) es None) r)
    → IsTrue now.pages.steady → IfOk (table_answer r) (λ found. found ≡ beside side (table_contents now) from)
unfolding beside
beside_told side from here now (Ok found) same is call steady =
    let steady2 = steady_here here now same steady in
    let held = is.holds steady2 in
    call steady2 held.es held.us held.fills.holds
    ∙ ap (λ (es : List Element). nearest side (is_left from) es None)
    (sym (entries-contents_of held.es held.fills.holds.ascends) ∙ ap maps.entries (sym (held_contents (at here.pages.pages) here.tree held.es held.us is.tree.order.1 held.fills.holds))
    ∙ ap (λ (t : TableView). maps.entries (table_contents t)) same)
beside_told side from here now (Err fault) same is call steady = tt

-- and a sink that is told the records
pub told_records : {F : Type 0} (told : List Element → Type 0) (stops : List Element → F → Type 0) (here now : TableView) (r : Result (Result (Unit {0}) F) TreeFault) → here ≡ now → IsTable here
    → (IsTrue here.pages.steady → (es : List Element) → (us : List ℕ) → Holds (at here.pages.pages) here.tree es us → TellsAll ReadFailed told stops es r)
    → IsTrue now.pages.steady → TellsAll Device told stops (maps.entries (table_contents now)) (table_answer r)
told_records {F} told stops here now r same is call steady =
    let steady2 = steady_here here now same steady in
    let held = is.holds steady2 in
    let entries_are : held.es ≡ maps.entries (table_contents now) = sym (entries-contents_of held.es held.fills.holds.ascends) ∙ ap maps.entries (sym (held_contents (at here.pages.pages) here.tree held.es held.us is.tree.order.1 held.fills.holds))
    ∙ ap (λ (t : TableView). maps.entries (table_contents t)) same in
    subst (λ (es : List Element). TellsAll Device told stops es (table_answer r)) entries_are (answered held.es r (call steady2 held.es held.us held.fills.holds))
  where
    answered : (es : List Element) (r : Result (Result (Unit {0}) F) TreeFault) → TellsAll ReadFailed told stops es r → TellsAll Device told stops es (table_answer r)
    answered es (Ok (Ok ended)) is = is
    answered es (Ok (Err stop)) is = is
    answered es (Err ReadFailed) is = (refl, is.1)
    answered es (Err (NoTreePage page)) is = let no = is.0 in absurd (cc)
    answered es (Err NoMemory) is = let no = is.0 in absurd (cc)

-- and a sink that is told those on a side of a gap
pub told_on_side : {F : Type 0} (told : List Element → Type 0) (stops : List Element → F → Type 0) (side : Side) (from : Gap) (here now : TableView) (r : Result (Result (Unit {0}) F) TreeFault) → here ≡ now → IsTable here
    → (IsTrue here.pages.steady → (es : List Element) → (us : List ℕ) → Holds (at here.pages.pages) here.tree es us → TellsOrDevice told stops (in_turn side (is_left from) es []) r)
    → IsTrue now.pages.steady → TellsUntil told stops (all_beside side (table_contents now) from) (table_answer r) × ((page : ℕ) → table_answer r ≡ Err (Damaged page) → ⊥)
unfolding all_beside
told_on_side {F} told stops side from here now r same is call steady =
    let steady2 = steady_here here now same steady in
    let held = is.holds steady2 in
    let entries_are : held.es ≡ maps.entries (table_contents now) = sym (entries-contents_of held.es held.fills.holds.ascends) ∙ ap maps.entries (sym (held_contents (at here.pages.pages) here.tree held.es held.us is.tree.order.1 held.fills.holds))
    ∙ ap (λ (t : TableView). maps.entries (table_contents t)) same in
    subst (λ (es : List Element). TellsUntil told stops (in_turn side (is_left from) es []) (table_answer r) × ((page : ℕ) → table_answer r ≡ Err (Damaged page) → ⊥)) entries_are (answered (in_turn side (is_left from) held.es []) r (call steady2 held.es held.us held.fills.holds))
  where
    answered : (es : List Element) (r : Result (Result (Unit {0}) F) TreeFault) → TellsOrDevice told stops es r → TellsUntil told stops es (table_answer r) × ((page : ℕ) → table_answer r ≡ Err (Damaged page) → ⊥)
    answered es (Ok (Ok ended)) is = (is, λ page no. absurd (cc))
    answered es (Ok (Err stop)) is = (is, λ page no. absurd (cc))
    answered es (Err ReadFailed) is = (is.1, λ page no. absurd (cc))
    answered es (Err (NoTreePage page)) is = let no = is.0 in absurd (cc)
    answered es (Err NoMemory) is = let no = is.0 in absurd (cc)

-- whatever the pages hold
pub told_some : {F : Type 0} (told : List Element → Type 0) (stops : List Element → F → Type 0) (r : Result (Result (Unit {0}) F) TreeFault) → TellsSome told stops r → TellsSome told stops (table_answer r)
told_some told stops (Ok taken) is = is
told_some told stops (Err fault) is = is

-- the faults where no memory is asked for
pub looking_faults : {A : Type 0} (r : Result A TreeFault) → TreeAsksNoMemory r → IfErr (table_answer r) (λ fault. (fault ≡ Device) ⊎ ((page : ℕ) × (fault ≡ Damaged page)))
looking_faults (Ok x) asks = tt
looking_faults (Err ReadFailed) asks = inl refl
looking_faults (Err (NoTreePage page)) asks = inr (page, refl)
looking_faults (Err NoMemory) asks = absurd (asks refl)
