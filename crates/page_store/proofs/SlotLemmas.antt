-- Slots of changed pages: more of them, and pages put into them.
use Rattle.std.proofs.lemmas.Bool.{eq-eqb, false≢true}
use Rattle.std.proofs.Common.{◌≢◌, get_or-set_other, ◌≡◌, ℕ, ◌<◌, Bool, true, false, not, cond, ◌&&◌, ◌||◌, List, [], ◌∷◌, ◌++◌, length, Option, Some, None, Box, get_or, set, eqb, zero, suc, refl, sym, ap, subst, ◌∙◌, arith, All}
use Rattle.std.specs.Option.{option_map}
use Rattle.std.specs.Ordering.{nat_cmp}
use Rattle.std.specs.BTreeMap.{is_at}
use Rattle.std.proofs.lemmas.List.{map_push, map-set, length-map, get_or-map}
use Rattle.std.proofs.lemmas.List.Folds.{list_any-append, list_any_at}
use Rattle.page_store.specs.PageMap.{at, is_written, is_freed}
use Rattle.page_store.specs.Overlaid.{slots_of}
use Rattle.page_store.specs.Slots.{bytes_in, put_slots}
use Rattle.page_store.proofs.NumberSetLemmas.{one_out, same_number_back}

at_push_none : (slots : List (Option (List ℕ))) (n : ℕ) → at (slots ++ None ∷ []) n ≡ at slots n
at_push_none [] zero = refl
at_push_none [] (suc n) = refl
at_push_none (slot ∷ slots) zero = refl
at_push_none (slot ∷ slots) (suc n) = at_push_none slots n

-- a slot more
pub slots_pushed : {Z : Type 0} (items : List (Option (Box (List ℕ) Z))) (n : ℕ) → at (slots_of (items ++ None ∷ [])) n ≡ at (slots_of items) n
slots_pushed {Z} items n =
    ap (λ (slots : List (Option (List ℕ))). at slots n) (map_push (option_map (λ (page : Box (List ℕ) Z). page.value)) items None) ∙ at_push_none (slots_of items) n

pub put_more : (slots : List (Option (List ℕ))) (writes : List (ℕ × List ℕ)) (w : ℕ × List ℕ) → put_slots slots (writes ++ w ∷ []) ≡ set (put_slots slots writes) w.0 (Some w.1)
put_more slots [] w = refl
put_more slots (v ∷ writes) w = put_more (set slots v.0 (Some v.1)) writes w

bytes_pushed : {Z : Type 0} (pages : List (ℕ × Box (List ℕ) Z)) (n : ℕ) (page : Box (List ℕ) Z) → bytes_in (pages ++ (n, page) ∷ []) ≡ bytes_in pages ++ (n, page.value) ∷ []
bytes_pushed {Z} pages n page = map_push (λ (p : ℕ × Box (List ℕ) Z). (p.0, p.1.value)) pages (n, page)

-- a page more in its slot
pub slots_put : {Z : Type 0} (old : List (Option (List ℕ))) (items : List (Option (Box (List ℕ) Z))) (pages : List (ℕ × Box (List ℕ) Z)) (n : ℕ) (page : Box (List ℕ) Z) → slots_of items ≡ put_slots old (bytes_in pages) → slots_of (set items n (Some page)) ≡ put_slots old (bytes_in (pages ++ (n, page) ∷ []))
slots_put {Z} old items pages n page was =
    map-set (option_map (λ (page : Box (List ℕ) Z). page.value)) items n (Some page)
    ∙ ap (λ (slots : List (Option (List ℕ))). set slots n (Some page.value)) was
    ∙ sym (put_more old (bytes_in pages) (n, page.value))
    ∙ ap (put_slots old) (sym (bytes_pushed pages n page))

or_nothing : (a b : Bool) → (a || (b || false)) ≡ (a || b)
or_nothing true b = refl
or_nothing false true = refl
or_nothing false false = refl

written_pushed : {Z : Type 0} (pages : List (ℕ × Box (List ℕ) Z)) (n q : ℕ) (page : Box (List ℕ) Z) → is_written (bytes_in (pages ++ (n, page) ∷ [])) q ≡ (is_written (bytes_in pages) q || eqb q n)
written_pushed pages n q page =
    ap (λ (writes : List (ℕ × List ℕ)). is_written writes q) (bytes_pushed pages n page)
    ∙ list_any-append (λ (w : ℕ × List ℕ). eqb q w.0) (bytes_in pages) ((n, page.value) ∷ [])
    ∙ or_nothing (is_written (bytes_in pages) q) (eqb q n)

-- a number more that isn't free
pub free_put : {Z : Type 0} (pages : List (ℕ × Box (List ℕ) Z)) (n q : ℕ) (page : Box (List ℕ) Z) (old current new : Bool) → new ≡ cond (is_at (nat_cmp n) q) false current → current ≡ (old && not (is_written (bytes_in pages) q)) → new ≡ (old && not (is_written (bytes_in (pages ++ (n, page) ∷ [])) q))
free_put pages n q page old current new is was =
    is ∙ ap (λ b. cond b false current) (same_number_back n q)
    ∙ ap (λ c. cond (eqb q n) false c) was
    ∙ one_out (eqb q n) (is_written (bytes_in pages) q) old
    ∙ ap (λ f. old && not f) (sym (written_pushed pages n q page))

-- a slot more or none
pub slots_kept : {Z : Type 0} (room : Bool) (items new : List (Option (Box (List ℕ) Z))) (n : ℕ) → new ≡ cond room (items ++ None ∷ []) items → at (slots_of new) n ≡ at (slots_of items) n
slots_kept {Z} true items new n is = ap (λ (xs : List (Option (Box (List ℕ) Z))). at (slots_of xs) n) is ∙ slots_pushed items n
slots_kept {Z} false items new n is = ap (λ (xs : List (Option (Box (List ℕ) Z))). at (slots_of xs) n) is

-- each number of a list of pages is below the limit
pub number_fits : {Z : Type 0} (pages : List (ℕ × Box (List ℕ) Z)) (limit k n : ℕ) (page : Box (List ℕ) Z) → All (λ (w : ℕ × List ℕ). w.0 < limit) (bytes_in pages) → k < length pages → (n, page) ≡ get_or pages k (n, page) → n < limit
number_fits {Z} pages limit k n page all below is =
    let long : k < length (bytes_in pages) = omega (arith, length-map {B = ℕ × List ℕ} pages (λ (p : ℕ × Box (List ℕ) Z). (p.0, p.1.value))) in
    let same : get_or (bytes_in pages) k (n, page.value) ≡ (n, page.value) =
    get_or-map {Y = ℕ × List ℕ} (λ (p : ℕ × Box (List ℕ) Z). (p.0, p.1.value)) pages k (n, page) (n, page.value) below
    ∙ ap (λ (p : ℕ × Box (List ℕ) Z). (p.0, p.1.value)) (sym is) in
    subst (λ (w : ℕ × List ℕ). w.0 < limit) same (all k (n, page.value) long)

-- there are as many slots as items
pub length-slots_of : {Z : Type 0} (items : List (Option (Box (List ℕ) Z))) → length (slots_of items) ≡ length items
length-slots_of {Z} items = length-map {B = Option (List ℕ)} items (option_map (λ (page : Box (List ℕ) Z). page.value))

-- a page dropped
pub slots_dropped : {Z : Type 0} (items : List (Option (Box (List ℕ) Z))) (n q : ℕ) → q ≢ n → at (slots_of (set items n None)) q ≡ at (slots_of items) q
slots_dropped {Z} items n q other =
    ap (λ (slots : List (Option (List ℕ))). at slots q) (map-set (option_map (λ (page : Box (List ℕ) Z). page.value)) items n None)
    ∙ get_or-set_other (slots_of items) n q None None other

-- a number that isn't in a list is none of its elements
pub not_at : (numbers : List ℕ) (i q : ℕ) → i < length numbers → is_freed numbers q ≡ false → q ≢ get_or numbers i 0
not_at numbers i q below kept = λ same.
    let here : eqb q (get_or numbers i 0) ≡ true = eq-eqb q (get_or numbers i 0) same in
    false≢true (sym kept ∙ list_any_at (λ n. eqb q n) numbers i 0 below here)
