-- What a walk keeps of a file's pages, each put in memory as it is written.
use Rattle.std.proofs.Common.{◌≡◌, ◌≢◌, ℕ, zero, suc, ◌<◌, length, Bool, true, false, cond, ⊎_elim, IsTrue, List, [], ◌∷◌, get_or, set, eqb, refl, ap, sym, ◌∙◌, subst, arith}
use Rattle.std.proofs.lemmas.Bool.Decides.{nat_tests, eqb_tells}
use Rattle.std.proofs.lemmas.List.{get_or-set_other}
use Rattle.page_store.specs.PageMap.{at}
use Rattle.page_store.specs.PagesView.{PagesView, is_in_memory}
use Rattle.btree_node.specs.declared.layout.Layout.{Layout}
use Rattle.btree_node.specs.declared.node.Node.{Node}
use Rattle.btree_node.specs.Layout.{first_version, first_layout, second_layout, layout_of}
use Rattle.btree_node.specs.Spelling.{spelling, spelling_in}
use Rattle.btree_insert.specs.declared.tree.TreeFault.{TreeFault}
use Rattle.btree_insert.specs.declared.tree.TreeFault.TheVariants.{Device}
use Rattle.btree_insert.specs.Growth.{IsNotOfPages}
use Rattle.btree_insert.specs.PageTrees.{SpellsIn, Spells}
use Rattle.btree_insert.specs.Spelt.{AreSpeltIn}
use Rattle.btree_delete.specs.CleanFile.{in_file}
use Rattle.btree_delete.specs.Survey.{none_of, stored_page, AreFresh, IsRespelt, AreKept}
use Rattle.btree_delete.proofs.MeasureLemmas.{set_unvisited}
use Rattle.btree_insert.proofs.SpeltLemmas.{spelt_none}
use Rattle.std.proofs.lemmas.Bool.{false≢true}

-- what is said of a number that isn't another, and of that one
by_number : (A : Type 0) (q n : ℕ) → (q ≡ n → A) → ((q ≡ n → ⊥) → A) → A
by_number A q n same other = decide (eqb q n) refl
  where
    decide : (b : Bool) → eqb q n ≡ b → A
    decide true is = same (grind (arith, nat_tests))
    decide false is = other (λ e. grind (arith, nat_tests))

-- pages of which one more was read and kept
pub kept_more : (layout : Layout) (k n : ℕ) (old new : PagesView) (bits bits2 : List Bool) (node : Node) → AreKept layout k old bits → get_or bits n true ≡ false → bits2 ≡ set bits n true
    → length new.pages ≡ length old.pages → new.stored ≡ old.stored → new.steady ≡ old.steady → ((q : ℕ) → (q ≡ n → ⊥) → (at new.pages q ≡ at old.pages q) × (is_in_memory new q ≡ is_in_memory old q))
    → (IsTrue old.steady → SpellsIn layout k (at old.pages) n node) → (IsTrue old.steady → Spells k (at new.pages) n node) → AreSpeltIn k new → AreKept layout k new bits2
kept_more layout k n old new bits bits2 node kept unread bits_is count_is stored_is steady_is others was now spelt = record {
  whole = count_is ∙ kept.whole ∙ ap length (sym stored_is);
  unread = λ q is.
      let both = set_unvisited bits n q (ap (λ (xs : List Bool). get_or xs q true) (sym bits_is) ∙ is) in
      let before = kept.unread q both.0 in
      let other = others q both.1 in
      (other.0 ∙ before.0 ∙ sym (stored_same q), other.1 ∙ before.1);
  respelt = λ steady q is.
      let before : IsTrue old.steady = sym steady_is ∙ steady in
      by_number (IsRespelt layout k new q) q n
      (λ same. subst (IsRespelt layout k new) (sym same) record {
        node = node;
        was = record { page = stored_same n ∙ sym (kept.unread n unread).0 ∙ (was before).page; stands = (was before).stands };
        now = now before;
      })
      (λ other.
      let there = kept.respelt before q (sym (get_or-set_other bits n q true false other) ∙ ap (λ (xs : List Bool). get_or xs q false) (sym bits_is) ∙ is) in
      record {
        node = there.node;
        was = record { page = stored_same q ∙ there.was.page; stands = there.was.stands };
        now = record { page = (others q other).0 ∙ there.now.page; stands = there.now.stands };
      });
  spelt = spelt;
}
  where
    stored_same : (q : ℕ) → stored_page new q ≡ stored_page old q
    stored_same q = ap (λ (xs : List (List ℕ)). in_file xs q) stored_is

-- a page that was not read is the file's
pub in_pages : (layout : Layout) (k n : ℕ) (v : PagesView) (bits : List Bool) (m : Node) → AreKept layout k v bits → get_or bits n true ≡ false → SpellsIn layout k (stored_page v) n m → SpellsIn layout k (at v.pages) n m
in_pages layout k n v bits m kept unread spells = record { page = (kept.unread n unread).0 ∙ spells.page; stands = spells.stands }

pub in_store : (layout : Layout) (k n : ℕ) (v : PagesView) (bits : List Bool) (m : Node) → AreKept layout k v bits → get_or bits n true ≡ false → SpellsIn layout k (at v.pages) n m → SpellsIn layout k (stored_page v) n m
in_store layout k n v bits m kept unread spells = record { page = sym (kept.unread n unread).0 ∙ spells.page; stands = spells.stands }

pub outside : (fault : TreeFault) → fault ≡ Device → IsNotOfPages fault
outside fault is = subst IsNotOfPages (sym is) tt

none_reached : (count q : ℕ) → get_or (none_of count) q false ≡ false
none_reached zero q = refl
none_reached (suc count) zero = refl
none_reached (suc count) (suc q) = none_reached count q

-- pages of which none was read
pub nothing_kept : (layout : Layout) (k : ℕ) (v : PagesView) (count : ℕ) (bits : List Bool) → AreFresh v → bits ≡ none_of count → AreKept layout k v bits
nothing_kept layout k v count bits fresh bits_is = record {
  whole = fresh.whole;
  unread = λ q _. (fresh.same q, fresh.none q);
  respelt = λ steady q is. absurd (false≢true (sym (none_reached count q) ∙ ap (λ (xs : List Bool). get_or xs q false) (sym bits_is) ∙ is));
  spelt = spelt_none k v fresh.none;
}

-- a page whose bit isn't false was reached
pub reached_of : (bits : List Bool) (q : ℕ) → q < length bits → (get_or bits q true ≡ false → ⊥) → get_or bits q false ≡ true
reached_of [] q low never = absurd (omega (arith, low))
reached_of (true ∷ bits) zero low never = refl
reached_of (false ∷ bits) zero low never = absurd (never refl)
reached_of (b ∷ bits) (suc q) low never = reached_of bits q (omega (arith, low)) never

-- what isn't of the first version is spelt as it is written
pub written_second : (version : ℕ) (n : Node) (k : ℕ) → version ≢ first_version → spelling_in (layout_of version) n k ≡ spelling n k
written_second version n k other =
    ap (λ (layout : Layout). spelling_in layout n k)
    (⊎_elim (λ (is : (eqb version 1 ≡ true) × (version ≡ 1)). absurd (other is.1))
    (λ (not : (eqb version 1 ≡ false) × (version ≢ 1)). ap (λ b. cond b first_layout second_layout) not.0)
    (eqb_tells version 1))
