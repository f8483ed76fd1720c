-- What a table in a tree answers.
use Rattle.std.proofs.Common.{◌≡◌, ℕ, suc, ◌<◌, ◌≤◌, Option, Some, None, Result, Ok, Err, MatchResult, List, [], ◌∷◌, length, arith}
use Rattle.std.specs.Ordering.{nat_cmp}
use Rattle.std.specs.Cmp.Lexicographic.{slice_cmp}
use Rattle.std.specs.declared.cmp.Ordering.{Ordering}
use Rattle.std.specs.declared.cmp.Ordering.TheVariants.{Less, Equal, Greater}
use Rattle.page_store.specs.PageMap.{at}
use Rattle.page_store.specs.FreeNumbers.{candidate}
use Rattle.btree_node.specs.Lists.{Element}
use Rattle.btree_insert.specs.declared.tree.Tree.{Tree}
use Rattle.btree_insert.specs.declared.tree.TreeFault.{TreeFault}
use Rattle.btree_insert.specs.declared.tree.TreeFault.TheVariants.{Device as ReadFailed, Damaged as NoTreePage, Memory as NoMemory}
use Rattle.btree_insert.specs.Contents.{by_order, lookup_in, set_in}
use Rattle.btree_insert.specs.Inserted.{Inserted, IsRefused}
use Rattle.btree_insert.specs.PagesGrown.{taking}
use Rattle.btree_delete.specs.Deleted.{Deleted, MayStop}
use Rattle.btree_delete.specs.TableView.{Fills}
use Rattle.btree_delete.specs.TableAnswers.{table_fault, table_answer, IsSet, MayRefuse}
use Rattle.btree_delete.proofs.TableLimitLemmas.{grown_alone, left_alone, grown_small, grown_count}

-- the pages after an insertion
pub put_set : (old new : List (Option (List ℕ))) (taken : ℕ) (tree next : Tree) (es : List Element) (us key value : List ℕ) (before : Option (List ℕ)) (limit : ℕ) → Fills old tree es us → Inserted (taking old (at new) taken) tree es us key value (next, before)
    → tree.count ≤ limit → (lookup_in key es ≡ None → tree.count < limit) → IsSet new next limit es key (Some value) before
put_set old new taken tree next es us key value before limit fills done few room = record {
  vs = done.vs;
  fills = record { holds = done.holds; alone = grown_alone (at old) (at new) (candidate old) taken us done.vs done.kept fills.alone };
  answer = done.answer;
  few = grown_count (at old) (at new) (candidate old) taken tree next es us key value before limit fills.holds done few room;
}

-- an insertion below the limit of records is refused from outside alone
pub put_refused : (old : List (Option (List ℕ))) (tree : Tree) (es : List Element) (us key value : List ℕ) (limit : ℕ) (fault : TreeFault) → 1 ≤ tree.order → 1 ≤ length old → length old ≤ 1000001 → at old 0 ≡ None → limit ≤ 1000000
    → Fills old tree es us → tree.count ≤ limit → (lookup_in key es ≡ None → tree.count < limit) → IsRefused old tree es us key value fault → MayRefuse limit tree.count es key (Some value) (table_fault fault)
put_refused old tree es us key value limit ReadFailed order some most header small fills few room refused = tt
put_refused old tree es us key value limit (NoTreePage page) order some most header small fills few room (new, taken, (next, before), done, fails) =
    absurd (fails (grown_small old new taken tree next es us key value before limit order some most header fills done (grown_count (at old) new (candidate old) taken tree next es us key value before limit fills.holds done few room) small))
put_refused old tree es us key value limit NoMemory order some most header small fills few room refused = (
  λ full. let low = room full.absent in let high = full.full in absurd (omega (arith, low, high)),
  λ none. cc,
)

-- the answer to a put where there is room for a new key
pub put_answer : (old new : List (Option (List ℕ))) (tree : Tree) (es : List Element) (us key value : List ℕ) (limit : ℕ) (r : Result (Tree × Option (List ℕ)) TreeFault) → 1 ≤ tree.order → 1 ≤ length old → length old ≤ 1000001 → at old 0 ≡ None → limit ≤ 1000000
    → Fills old tree es us → tree.count ≤ limit → (lookup_in key es ≡ None → tree.count < limit)
    → MatchResult r (λ x. (taken : ℕ) × Inserted (taking old (at new) taken) tree es us key value x) (IsRefused old tree es us key value)
    → MatchResult (table_answer r) (λ x. IsSet new x.0 limit es key (Some value) x.1) (MayRefuse limit tree.count es key (Some value))
put_answer old new tree es us key value limit (Ok (next, before)) order some most header small fills few room (taken, done) =
    put_set old new taken tree next es us key value before limit fills done few room
put_answer old new tree es us key value limit (Err fault) order some most header small fills few room refused =
    put_refused old tree es us key value limit fault order some most header small fills few room refused

-- a key taken out leaves no more keys
fewer_by : (key : List ℕ) (e : Element) (es : List Element) → length (set_in key None es) ≤ length es → (o : Ordering) → length (by_order o (e ∷ es) es (e ∷ set_in key None es)) ≤ suc (length es)
fewer_by key e es rest Less = omega arith
fewer_by key e es rest Equal = omega arith
fewer_by key e es rest Greater = omega (arith, rest)

-- taking a key out leaves no more elements
pub fewer : (key : List ℕ) (es : List Element) → length (set_in key None es) ≤ length es
fewer key [] = omega arith
fewer key (e ∷ es) = fewer_by key e es (fewer key es) (slice_cmp nat_cmp key e.0)

stop_refused : (limit count : ℕ) (es : List Element) (key : List ℕ) (fault : TreeFault) → MayStop (lookup_in key es) fault → MayRefuse limit count es key None (table_fault fault)
stop_refused limit count es key ReadFailed stops = tt
stop_refused limit count es key (NoTreePage page) stops = absurd stops
stop_refused limit count es key NoMemory stops = (λ full. absurd (let never = full.puts in cc), λ _. stops)

-- the answer to a taking out
pub take_answer : (old new : List (Option (List ℕ))) (tree : Tree) (es : List Element) (us key : List ℕ) (limit : ℕ) (r : Result (Tree × Option (List ℕ)) TreeFault) → Fills old tree es us → tree.count ≤ limit
    → MatchResult r (λ x. Deleted (at old) (at new) tree es us key x) (MayStop (lookup_in key es)) → MatchResult (table_answer r) (λ x. IsSet new x.0 limit es key None x.1) (MayRefuse limit tree.count es key None)
take_answer old new tree es us key limit (Ok (next, before)) fills few done = record {
  vs = done.vs;
  fills = record { holds = done.holds; alone = left_alone (at old) (at new) us done.vs done.left fills.alone };
  answer = done.answer;
  few = let low = fewer key es in omega (arith, low, few, done.holds.count, fills.holds.count);
}
take_answer old new tree es us key limit (Err fault) fills few stops = stop_refused limit tree.count es key fault stops
