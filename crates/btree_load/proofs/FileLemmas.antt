-- The file that a filled store is.
use Rattle.std.proofs.Common.{◌-◌, ◌++◌, length-append, ◌≡◌, ℕ, zero, suc, ◌<◌, ◌≤◌, ⊎_elim, inr, Some, None, List, [], ◌∷◌, length, slice_get, slice_set, refl, ap, sym, ◌∙◌, subst, arith}
use Rattle.std.proofs.lemmas.Bool.{cases_lt}
use Rattle.std.proofs.lemmas.List.{length-replicate}
use Rattle.page_store.specs.Blank.{blank, blanks}
use Rattle.std.proofs.lemmas.Option.{slice_get_past}
use Rattle.btree_node.specs.declared.header.Header.{Header}
use Rattle.btree_node.specs.declared.node.Node.{Node}
use Rattle.btree_node.specs.HeaderSpelling.{header_spelling, clean_state}
use Rattle.btree_node.specs.Layout.{IsOrder, second_version}
use Rattle.btree_node.specs.Lists.{Element, Ascends}
use Rattle.btree_insert.specs.PageTrees.{Apart, Spells, TreeOf, RootAt}
use Rattle.btree_insert.proofs.ChangedTreeLemmas.{tree_move}
use Rattle.btree_insert.proofs.DistinctPageLemmas.{spells_one, tree_apart}
use Rattle.btree_insert.proofs.Membership.{each_in}
use Rattle.btree_delete.specs.CleanFile.{in_file}
use Rattle.btree_load.specs.Trees.{HasRoot, IsFilled}
use Rattle.btree_load.proofs.FanLemmas.{fan_map, in_file_is}

-- page 0 is none of the tree
same_behind : (stored : List (List ℕ)) (page : List ℕ) (q : ℕ) → in_file (slice_set stored 0 page) q ≡ in_file stored q
same_behind [] page q = refl
same_behind (p ∷ stored) page zero = refl
same_behind (p ∷ stored) page (suc q) = in_file_is (page ∷ stored) q ∙ sym (in_file_is (p ∷ stored) q)

root_behind : (k : ℕ) (stored : List (List ℕ)) (page : List ℕ) (height root : ℕ) (es : List Element) (us : List ℕ) → RootAt k (in_file stored) height root es us → RootAt k (in_file (slice_set stored 0 page)) height root es us
root_behind k stored page zero root es us tree = tree
root_behind k stored page (suc h) root es us tree =
    tree_move k (in_file stored) (in_file (slice_set stored 0 page)) 1 (suc h) root es us tree (each_in (λ q. in_file (slice_set stored 0 page) q ≡ in_file stored q) us (λ q is. same_behind stored page q))

first_page : (stored : List (List ℕ)) (page : List ℕ) → 0 < length stored → slice_get (slice_set stored 0 page) 0 ≡ Some page
first_page [] page some = absurd (omega (arith, some))
first_page (p ∷ stored) page some = refl

-- a page that is there has a number below their count
page_below : (stored : List (List ℕ)) (q : ℕ) (page : List ℕ) → in_file stored q ≡ Some page → q < length stored
page_below stored zero page is = absurd (cc)
page_below stored (suc q) page is =
    ⊎_elim (λ (low : suc q < length stored). low)
    (λ (past : length stored ≤ suc q). absurd (none_there (sym (sym (in_file_is stored q) ∙ is) ∙ slice_get_past stored (suc q) past)))
    (cases_lt (suc q) (length stored))
  where
    none_there : Some page ≡ None → ⊥
    none_there never = (cc)

root_below : (k : ℕ) (stored : List (List ℕ)) (height root : ℕ) (es : List Element) (us : List ℕ) → 0 < length stored → RootAt k (in_file stored) height root es us → root < length stored
root_below k stored zero root es us some (root_is, es_is, us_is) = omega (arith, some, root_is)
root_below k stored (suc h) root es us some (n, below, spelled, least, body, us_is) = page_below stored root _ spelled.page

-- pages with at least k elements have at least one
loose : (spells : ℕ → Node → Type 0) (fill least h p : ℕ) (es : List Element) (us : List ℕ) → 1 ≤ fill → 1 ≤ least → TreeOf spells fill least h p es us → TreeOf spells 1 1 h p es us
loose spells fill least zero p es us fill_some some tree = absurd tree
loose spells fill least (suc zero) p es us fill_some some (n, below, spelled, least_is, body, us_is) =
    (n, below, spelled, omega (arith, some, least_is), body, us_is)
loose spells fill least (suc (suc h)) p es us fill_some some (n, below, spelled, least_is, body, us_is) = (
  n,
  below,
  spelled,
  omega (arith, some, least_is),
  (body.0, fan_map (TreeOf spells fill fill (suc h)) (TreeOf spells 1 1 (suc h)) (λ s xs vs tree. loose spells fill fill (suc h) s xs vs fill_some fill_some tree) n.sons.items n.elements.items es below body.1),
  us_is,
)

root_apart : (k : ℕ) (stored : List (List ℕ)) (height root : ℕ) (es : List Element) (us : List ℕ) → IsOrder k → Ascends es → RootAt k (in_file stored) height root es us → Apart us
root_apart k stored zero root es us order up (root_is, es_is, us_is) = subst Apart (sym us_is) tt
root_apart k stored (suc h) root es us order up tree =
    tree_apart (Spells k (in_file stored)) (spells_one k (in_file stored) order.1) (suc h) root es us (loose (Spells k (in_file stored)) k 1 (suc h) root es us order.0 (omega arith) tree) up

-- the header of a file with these pages and records
abbrev pub header_for : ℕ → ℕ → ℕ → ℕ → Header
header_for k pages root count = record { version = second_version; order = k; pages = pages; root = root; count = count }

-- the pages of a tree behind page 0, which tells of it, are a closed file
pub file_filled : (k root count : ℕ) (old stored : List (List ℕ)) (tail : ℕ) (es : List Element) → IsOrder k → Ascends es → length es ≤ 1000000 → 0 < count → count ≤ 1000001 → length old ≡ count → HasRoot k old root es
    → stored ≡ slice_set old 0 (header_spelling (header_for k count root (length es)) clean_state) → length stored ≡ length old → tail ≡ 0 → IsFilled k stored tail es
file_filled k root count old stored tail es order up few some most long has stored_is same no_tail =
    let h = header_for k count root (length es) in
    let page = header_spelling h clean_state in
    let tree : RootAt k (in_file stored) has.height root es has.us = subst (λ (ps : List (List ℕ)). RootAt k (in_file ps) has.height root es has.us) (sym stored_is) (root_behind k old page has.height root es has.us has.tree) in
    let low : root < length stored = root_below k stored has.height root es has.us (omega (arith, same, long, some)) tree in
    record {
      tree = record { order = k; root = root; height = has.height; count = length es; used = length has.us };
      order = refl;
      closed = record {
        h = h;
        es = es;
        us = has.us;
        version_is = refl;
        clean = record {
          begins = record {
            long = record { no_tail = no_tail; some = omega (arith, same, long, some); most = omega (arith, same, long, most) };
            header = record {
              fits = record { version = inr refl; order = order; pages = omega (arith, most); root = omega (arith, low, same, long, most); count = omega (arith, few) };
              page = ap (λ (ps : List (List ℕ)). slice_get ps 0) stored_is ∙ first_page old page (omega (arith, long, some));
            };
            agrees = record { pages = sym (same ∙ long); root = low };
          };
          there = record {
            order = refl;
            root = refl;
            holds = record { tree = tree; ascends = up; apart = root_apart k stored has.height root es has.us order up tree; count = refl; used = refl };
          };
          count = refl;
        };
        records = refl;
      };
    }

-- a store that was made longer
pub grown : (old new : List (List ℕ)) (n : ℕ) → length old ≤ n → new ≡ old ++ blanks (n - length old) → length new ≡ n
grown old new n fits is =
    let both = length-append old (blanks (n - length old)) in
    let more = length-replicate (n - length old) blank in
    omega (arith, ap length is, both, more, fits)
