-- What stays true of a deletion's writes, freed numbers and pages visited as they grow.
use Rattle.std.proofs.Common.{◌≡◌, ℕ, suc, ◌+◌, inl, inr, Bool, true, false, ◌||◌, eqb, Option, IsSome, List, [], ◌∷◌, ◌++◌, length, length-append, refl, ap, sym, ◌∙◌, subst, arith, eq-eqb}
use Rattle.std.specs.List.{AllByRecursion}
use Rattle.std.proofs.lemmas.List.Folds.{list_any-append}
use Rattle.std.proofs.lemmas.Bool.Decides.{nat_tests}
use Rattle.page_store.specs.PageMap.{at, is_written, is_freed}
use Rattle.btree_node.specs.declared.node.Node.{Node}
use Rattle.btree_node.specs.Cut.{left_of, right_of}
use Rattle.btree_node.specs.Joined.{half_of_both}
use Rattle.btree_node.specs.Spelling.{spelling}
use Rattle.btree_delete.specs.Treatment.{son_number, both, Treats, brothers}
use Rattle.btree_delete.specs.Tidy.{is_visited, Visited, Untouched, IsTidy, done_so_far}
use Rattle.btree_insert.proofs.EditFitLemmas.{or_true}
use Rattle.btree_delete.proofs.EditedPagesLemmas.{or_right}

or_left : (b c : Bool) → (b || c) ≡ false → b ≡ false
or_left true c is = is
or_left false c is = refl

-- numbers that differ are told apart
pub differ : (q n : ℕ) → (q ≡ n → ⊥) → eqb q n ≡ false
differ q n other = grind (arith, nat_tests)

-- numbers that are told apart differ
pub differ_back : (q n : ℕ) → eqb q n ≡ false → q ≡ n → ⊥
differ_back q n is same = let never : true ≡ false = sym (eq-eqb q n same) ∙ is in absurd (cc)

-- one more page visited
pub visited_push : (visited : List ℕ) (n q : ℕ) → is_visited (visited ++ n ∷ []) q ≡ (is_visited visited q || (eqb n q || false))
visited_push visited n q = list_any-append (λ m. eqb m q) visited (n ∷ [])

-- a page just visited is visited
pub visited_here : (visited : List ℕ) (n : ℕ) → is_visited (visited ++ n ∷ []) n ≡ true
visited_here visited n = visited_push visited n n ∙ or_true (is_visited visited n) (eqb n n || false) (ap (λ b. b || false) (eq-eqb n n refl))

-- what was visited stays so
pub visited_stays : (visited : List ℕ) (n q : ℕ) → is_visited visited q ≡ true → is_visited (visited ++ n ∷ []) q ≡ true
visited_stays visited n q is = visited_push visited n q ∙ ap (λ b. b || (eqb n q || false)) is

-- what isn't visited wasn't before
pub visited_before : (visited : List ℕ) (n q : ℕ) → is_visited (visited ++ n ∷ []) q ≡ false → is_visited visited q ≡ false
visited_before visited n q is = or_left (is_visited visited q) (eqb n q || false) (sym (visited_push visited n q) ∙ is)

-- a visit of another page leaves one unvisited
pub unvisited_push : (visited : List ℕ) (n q : ℕ) → is_visited visited q ≡ false → (q ≡ n → ⊥) → is_visited (visited ++ n ∷ []) q ≡ false
unvisited_push visited n q is other =
    visited_push visited n q ∙ ap (λ b. b || (eqb n q || false)) is ∙ ap (λ (b : Bool). b || false) (differ n q (λ e. other (sym e)))

-- a page that was visited is none that was not
pub visited_differs : (visited : List ℕ) (p q : ℕ) → is_visited visited p ≡ true → is_visited visited q ≡ false → p ≡ q → ⊥
visited_differs visited p q is not same = let never : true ≡ false = sym is ∙ ap (is_visited visited) same ∙ not in absurd (cc)

-- the pages that were visited are visited still
pub visit_stays : (old new : List ℕ) (n q : ℕ) → Visited old new n → is_visited old q ≡ true → is_visited new q ≡ true
visit_stays old new n q visit is = subst (λ (m : List ℕ). is_visited m q ≡ true) (sym visit.added) (visited_stays old n q is)

-- and there is one more of them
pub visit_one_more : (old new : List ℕ) (n : ℕ) → Visited old new n → length new ≡ length old + 1
visit_one_more old new n visit = ap length visit.added ∙ length-append old (n ∷ [])

-- one more write
pub written_push : (ws : List (ℕ × List ℕ)) (n : ℕ) (page : List ℕ) (q : ℕ) → is_written (ws ++ (n, page) ∷ []) q ≡ (is_written ws q || (eqb q n || false))
written_push ws n page q = list_any-append (λ (w : ℕ × List ℕ). eqb q w.0) ws ((n, page) ∷ [])

unwritten_push : (ws : List (ℕ × List ℕ)) (n : ℕ) (page : List ℕ) (q : ℕ) → is_written ws q ≡ false → (q ≡ n → ⊥) → is_written (ws ++ (n, page) ∷ []) q ≡ false
unwritten_push ws n page q is other =
    written_push ws n page q ∙ ap (λ b. b || (eqb q n || false)) is ∙ ap (λ (b : Bool). b || false) (differ q n other)

-- one more number freed
freed_push : (fs : List ℕ) (n q : ℕ) → is_freed (fs ++ n ∷ []) q ≡ (is_freed fs q || (eqb q n || false))
freed_push fs n q = list_any-append (λ f. eqb q f) fs (n ∷ [])

unfreed_push : (fs : List ℕ) (n q : ℕ) → is_freed fs q ≡ false → (q ≡ n → ⊥) → is_freed (fs ++ n ∷ []) q ≡ false
unfreed_push fs n q is other =
    freed_push fs n q ∙ ap (λ b. b || (eqb q n || false)) is ∙ ap (λ (b : Bool). b || false) (differ q n other)

-- an edit that does nothing touches no page
pub untouched_none : (q : ℕ) → Untouched [] [] q
untouched_none q = record { unwritten = refl; kept = refl }

-- writing another page leaves one untouched
pub untouched_write : (ws : List (ℕ × List ℕ)) (fs : List ℕ) (n : ℕ) (page : List ℕ) (q : ℕ) → Untouched ws fs q → (q ≡ n → ⊥) → Untouched (ws ++ (n, page) ∷ []) fs q
untouched_write ws fs n page q is other = record { unwritten = unwritten_push ws n page q is.unwritten other; kept = is.kept }

-- so does freeing another
pub untouched_free : (ws : List (ℕ × List ℕ)) (fs : List ℕ) (n q : ℕ) → Untouched ws fs q → (q ≡ n → ⊥) → Untouched ws (fs ++ n ∷ []) q
untouched_free ws fs n q is other = record { unwritten = is.unwritten; kept = unfreed_push fs n q is.kept other }

all_push : {X : Type 0} (P : X → Type 0) (xs : List X) (x : X) → AllByRecursion P xs → P x → AllByRecursion P (xs ++ x ∷ [])
all_push P [] x all new = (new, tt)
all_push P (y ∷ xs) x all new = (all.0, all_push P xs x all.1 new)

still_unwritten : (ws : List (ℕ × List ℕ)) (n : ℕ) (page : List ℕ) (fs : List ℕ) → is_freed fs n ≡ false → AllByRecursion (λ f. is_written ws f ≡ false) fs → AllByRecursion (λ f. is_written (ws ++ (n, page) ∷ []) f ≡ false) fs
still_unwritten ws n page [] kept all = tt
still_unwritten ws n page (f ∷ fs) kept all = (
  unwritten_push ws n page f all.0 (λ e. differ_back n f (or_left (eqb n f) (is_freed fs n) kept) (sym e)),
  still_unwritten ws n page fs (or_right (eqb n f) (is_freed fs n) kept) all.1,
)

-- empty lists touch no page
pub untouched_empty : (ws : List (ℕ × List ℕ)) (fs : List ℕ) (q : ℕ) → ws ≡ [] → fs ≡ [] → Untouched ws fs q
untouched_empty ws fs q no_writes none_freed = rw (no_writes, none_freed) (untouched_none q)

-- one more visit leaves an edit tidy
pub tidy_visited : (pages : List (Option (List ℕ))) (visited : List ℕ) (n : ℕ) (ws : List (ℕ × List ℕ)) (fs : List ℕ) → IsTidy pages visited ws fs → IsTidy pages (visited ++ n ∷ []) ws fs
tidy_visited pages visited n ws fs tidy = record {
  written = tidy.written;
  freed_in_use = tidy.freed_in_use;
  freed_not_written = tidy.freed_not_written;
  unvisited = λ q is. tidy.unvisited q (visited_before visited n q is);
}

-- so does writing a visited page that isn't freed
pub tidy_write : (pages : List (Option (List ℕ))) (visited : List ℕ) (ws : List (ℕ × List ℕ)) (fs : List ℕ) (n : ℕ) (page : List ℕ) → IsSome (at pages n) → is_visited visited n ≡ true → is_freed fs n ≡ false → IsTidy pages visited ws fs → IsTidy pages visited (ws ++ (n, page) ∷ []) fs
tidy_write pages visited ws fs n page used visited_is kept tidy = record {
  written = all_push (λ (w : ℕ × List ℕ). IsSome (at pages w.0)) ws (n, page) tidy.written used;
  freed_in_use = tidy.freed_in_use;
  freed_not_written = still_unwritten ws n page fs kept tidy.freed_not_written;
  unvisited = λ q is. untouched_write ws fs n page q (tidy.unvisited q is) (λ e. visited_differs visited n q visited_is is (sym e));
}

-- so does freeing a visited page that isn't written
pub tidy_free : (pages : List (Option (List ℕ))) (visited : List ℕ) (ws : List (ℕ × List ℕ)) (fs : List ℕ) (n : ℕ) → IsSome (at pages n) → is_visited visited n ≡ true → is_written ws n ≡ false → IsTidy pages visited ws fs → IsTidy pages visited ws (fs ++ n ∷ [])
tidy_free pages visited ws fs n used visited_is unwritten tidy = record {
  written = tidy.written;
  freed_in_use = all_push (λ f. IsSome (at pages f)) fs n tidy.freed_in_use used;
  freed_not_written = all_push (λ f. is_written ws f ≡ false) fs n tidy.freed_not_written unwritten;
  unvisited = λ q is. untouched_free ws fs n q (tidy.unvisited q is) (λ e. visited_differs visited n q visited_is is (sym e));
}

-- two pages treated: one rewritten and one freed, or both rewritten
pub treats_tidy : (pages : List (Option (List ℕ))) (visited : List ℕ) (k i : ℕ) (F G L R : Node) (ws ws2 : List (ℕ × List ℕ)) (fs fs2 : List ℕ) → IsSome (at pages (son_number F i)) → IsSome (at pages (son_number F (suc i))) → is_visited visited (son_number F i) ≡ true → is_visited visited (son_number F (suc i)) ≡ true
    → (son_number F i ≡ son_number F (suc i) → ⊥) → Untouched ws fs (son_number F i) → Untouched ws fs (son_number F (suc i)) → Treats k F G (brothers i L R) (done_so_far ws fs) (done_so_far ws2 fs2) → IsTidy pages visited ws fs → IsTidy pages visited ws2 fs2
treats_tidy pages visited k i F G L R ws ws2 fs fs2 left_used right_used left_visited right_visited other left right (inl done) tidy =
    let page = spelling (both F i L R) k in
    let wrote = tidy_write pages visited ws fs (son_number F i) page left_used left_visited left.kept tidy in
    let unwritten = (untouched_write ws fs (son_number F i) page (son_number F (suc i)) right (λ e. other (sym e))).unwritten in
    rw (done.wrote, done.frees) (tidy_free pages visited (ws ++ (son_number F i, page) ∷ []) fs (son_number F (suc i)) right_used right_visited unwritten wrote)
treats_tidy pages visited k i F G L R ws ws2 fs fs2 left_used right_used left_visited right_visited other left right (inr done) tidy =
    let left_page = spelling (left_of (half_of_both L R) (both F i L R)) k in
    let right_page = spelling (right_of (half_of_both L R) (both F i L R)) k in
    let wrote = tidy_write pages visited ws fs (son_number F i) left_page left_used left_visited left.kept tidy in
    rw (done.wrote, done.frees) (tidy_write pages visited (ws ++ (son_number F i, left_page) ∷ []) fs (son_number F (suc i)) right_page right_used right_visited right.kept wrote)

-- treating two sons leaves other pages untouched
pub treats_others : (q k i : ℕ) (F G L R : Node) (ws ws2 : List (ℕ × List ℕ)) (fs fs2 : List ℕ) → (q ≡ son_number F i → ⊥) → (q ≡ son_number F (suc i) → ⊥) → Treats k F G (brothers i L R) (done_so_far ws fs) (done_so_far ws2 fs2) → Untouched ws fs q → Untouched ws2 fs2 q
treats_others q k i F G L R ws ws2 fs fs2 not_left not_right (inl done) is =
    let page = spelling (both F i L R) k in
    rw (done.wrote, done.frees) (untouched_free (ws ++ (son_number F i, page) ∷ []) fs (son_number F (suc i)) q (untouched_write ws fs (son_number F i) page q is not_left) not_right)
treats_others q k i F G L R ws ws2 fs fs2 not_left not_right (inr done) is =
    let left_page = spelling (left_of (half_of_both L R) (both F i L R)) k in
    let right_page = spelling (right_of (half_of_both L R) (both F i L R)) k in
    rw (done.wrote, done.frees) (untouched_write (ws ++ (son_number F i, left_page) ∷ []) fs (son_number F (suc i)) right_page q (untouched_write ws fs (son_number F i) left_page q is not_left) not_right)

-- a page that was visited and one that was not, treated with the one on the left
pub treat_tidy_right : (pages : List (Option (List ℕ))) (visited visited2 : List ℕ) (k i : ℕ) (F G L R : Node) (ws ws2 : List (ℕ × List ℕ)) (fs fs2 : List ℕ) → visited2 ≡ visited ++ son_number F (suc i) ∷ [] → is_visited visited (son_number F (suc i)) ≡ false
    → IsSome (at pages (son_number F i)) → IsSome (at pages (son_number F (suc i))) → is_visited visited (son_number F i) ≡ true → Untouched ws fs (son_number F i) → Treats k F G (brothers i L R) (done_so_far ws fs) (done_so_far ws2 fs2) → IsTidy pages visited ws fs → IsTidy pages visited2 ws2 fs2
treat_tidy_right pages visited visited2 k i F G L R ws ws2 fs fs2 visited_is unvisited left_used right_used left_visited left done tidy =
    rw visited_is (treats_tidy pages (visited ++ son_number F (suc i) ∷ []) k i F G L R ws ws2 fs fs2 left_used right_used (visited_stays visited (son_number F (suc i)) (son_number F i) left_visited) (visited_here visited (son_number F (suc i)))
    (visited_differs visited (son_number F i) (son_number F (suc i)) left_visited unvisited) left (tidy.unvisited (son_number F (suc i)) unvisited) done (tidy_visited pages visited (son_number F (suc i)) ws fs tidy))

-- with the one on the right
pub treat_tidy_left : (pages : List (Option (List ℕ))) (visited visited2 : List ℕ) (k i : ℕ) (F G L R : Node) (ws ws2 : List (ℕ × List ℕ)) (fs fs2 : List ℕ) → visited2 ≡ visited ++ son_number F i ∷ [] → is_visited visited (son_number F i) ≡ false
    → IsSome (at pages (son_number F i)) → IsSome (at pages (son_number F (suc i))) → is_visited visited (son_number F (suc i)) ≡ true → Untouched ws fs (son_number F (suc i)) → Treats k F G (brothers i L R) (done_so_far ws fs) (done_so_far ws2 fs2) → IsTidy pages visited ws fs → IsTidy pages visited2 ws2 fs2
treat_tidy_left pages visited visited2 k i F G L R ws ws2 fs fs2 visited_is unvisited left_used right_used right_visited right done tidy =
    rw visited_is (treats_tidy pages (visited ++ son_number F i ∷ []) k i F G L R ws ws2 fs fs2 left_used right_used (visited_here visited (son_number F i)) (visited_stays visited (son_number F i) (son_number F (suc i)) right_visited)
    (λ e. visited_differs visited (son_number F (suc i)) (son_number F i) right_visited unvisited (sym e)) (tidy.unvisited (son_number F i) unvisited) right done (tidy_visited pages visited (son_number F i) ws fs tidy))
