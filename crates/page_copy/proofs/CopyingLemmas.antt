-- What the calls of a copying lead to, and what a front of them leaves.
use Rattle.std.proofs.Common.{◌≡◌, ◌⊎◌, inl, inr, ⊎_elim, ℕ, ◌-◌, ◌<◌, ◌≤◌, ◌++◌, List, [], ◌∷◌, length, length-append, take, Option, Some, None, IsSome, is_some, Result, Ok, Err, OnOk, slice_get, slice_set, false, zero, suc, refl, sym, ap, ◌∙◌, subst, arith, set, length-set, unwrap_or, get_or, get_or-set_same, get_or-set_other, ext_get_or}
use Rattle.std.proofs.lemmas.Bool.{cases_lt, false≢true}
use Rattle.std.proofs.lemmas.List.{append_assoc, length-replicate}
use Rattle.std.proofs.lemmas.Option.{slice_get-get_or, slice_get_past}
use Rattle.rec_types.specs.Table.{counted}
use Rattle.page_store.specs.Blank.{blank, blanks}
use Rattle.page_store.specs.Journal.{Journal, NotesFront, carry, carried, noted_steps, write_of, writes_below}
use Rattle.page_store.specs.StoreFaults.{is_failed}
use Rattle.page_store.specs.WritingBack.{AreStored}
use Rattle.page_store.specs.declared.step.Step.{Step}
use Rattle.page_store.specs.declared.step.Step.TheVariants.{SetPages, Write, Sync}
use Rattle.page_store.specs.declared.store_fault.StoreFault.{StoreFault}
use Rattle.page_store.specs.declared.store_fault.StoreFault.TheVariants.{Failed, Memory}
use Rattle.page_store.proofs.FrontLemmas.{later_front}
use Rattle.page_store.proofs.JournalLemmas.{then_front}
use Rattle.page_store.proofs.WriteBackLemmas.{pages_put, pages_skipped}
use Rattle.page_copy.specs.declared.copying.CopyFault.{CopyFault}
use Rattle.page_copy.specs.declared.copying.CopyFault.TheVariants.{Source, Length, Copy}
use Rattle.page_copy.specs.Copying.{IsNoneOrCopy, MakesCalls, behind_first, copying, first_of, is_copy, last_calls}
use Rattle.page_copy.specs.Examples.{pages_4_and_5}

-- a call of the copy that failed
module _ {A B : Type 0} (answer : Result A StoreFault) (result : Result B CopyFault) where
  alike : (fault : StoreFault) (named : CopyFault) → answer ≡ Err fault → result ≡ Err named → named ≡ Copy fault → is_failed answer ≡ is_copy result
  alike Failed named failed told is = ap is_failed failed ∙ sym (ap (λ (r : Result B CopyFault). is_copy r) (told ∙ ap Err is))
  alike Memory named failed told is = ap is_failed failed ∙ sym (ap (λ (r : Result B CopyFault). is_copy r) (told ∙ ap Err is))

  pub copy_failed : (old new : ℕ) (fault : StoreFault) → answer ≡ Err fault → (p : (named : CopyFault) × (result ≡ Err named) × (named ≡ Copy fault)) → new ≡ counted old (is_failed answer) → new ≡ counted old (is_copy result)
  copy_failed old new fault failed p is = is ∙ ap (counted old) (alike fault p.0 failed p.1 p.2)

-- steps after others
carried_append : (pages : List (List ℕ)) (steps more : List Step) → carried pages (steps ++ more) ≡ carried (carried pages steps) more
carried_append pages [] more = refl
carried_append pages (s ∷ steps) more = carried_append (carry pages s) steps more

some_same : {page like : List ℕ} → Some page ≡ Some like → page ≡ like
some_same same = ap (λ (o : Option (List ℕ)). unwrap_or o []) same

none_of : {page : Option (List ℕ)} → page ≡ None → IsSome page → ⊥
none_of none some = false≢true (sym (ap is_some none) ∙ some)

-- the page with page 0 and those behind it
pub whole_copy : (pages stored : List (List ℕ)) → length stored ≡ length pages → AreStored (behind_first pages) stored → slice_set stored 0 (first_of pages) ≡ pages
whole_copy pages stored long are = ext_get_or [] (slice_set stored 0 (first_of pages)) pages (length-set stored 0 (first_of pages) ∙ long) at where
  at : (i : ℕ) → i < length (slice_set stored 0 (first_of pages)) → get_or (slice_set stored 0 (first_of pages)) i [] ≡ get_or pages i []
  at zero below = get_or-set_same stored 0 (first_of pages) [] (let l = length-set stored 0 (first_of pages) in omega (arith, below))
  at (suc i) below =
      let l = length-set stored 0 (first_of pages) in
      let fits : suc i < length stored = omega (arith, below) in
      let there : suc i < length pages = omega (arith, long) in
      let is = slice_get-get_or pages (suc i) [] there in
      get_or-set_other stored 0 (suc i) (first_of pages) [] (λ same. omega (arith, same))
      ∙ some_same (sym (slice_get-get_or stored (suc i) [] fits) ∙ are (suc i) (subst IsSome (sym is) refl) ∙ is)

-- so many pages are written
module _ (pages : List (List ℕ)) where
  record Written (stored : List (List ℕ)) (n : ℕ) : Type 0 where
    pub long : length (carried stored (writes_below (behind_first pages) n)) ≡ length stored
    pub put : (k : ℕ) → k < n → IsSome (behind_first pages k) → slice_get (carried stored (writes_below (behind_first pages) n)) k ≡ behind_first pages k

  one_more : (stored : List (List ℕ)) (n : ℕ) (page : Option (List ℕ)) → behind_first pages n ≡ page → n < length stored → Written stored n → Written stored (suc n)
  one_more stored n None is below was = record {
    long = ap (λ (o : Option (List ℕ)). length (carried stored (writes_below (behind_first pages) n ++ write_of n o))) is
        ∙ ap (λ (ps : List (List ℕ)). length ps) (carried_append stored (writes_below (behind_first pages) n) []) ∙ was.long;
    put = λ k under some.
        ap (λ (o : Option (List ℕ)). slice_get (carried stored (writes_below (behind_first pages) n ++ write_of n o)) k) is
        ∙ ap (λ (ps : List (List ℕ)). slice_get ps k) (carried_append stored (writes_below (behind_first pages) n) [])
        ∙ pages_skipped (behind_first pages) _ n was.put is k (omega (arith, under)) some;
  }
  one_more stored n (Some page) is below was = record {
    long = ap (λ (o : Option (List ℕ)). length (carried stored (writes_below (behind_first pages) n ++ write_of n o))) is
        ∙ ap (λ (ps : List (List ℕ)). length ps) (carried_append stored (writes_below (behind_first pages) n) (Write n page ∷ []))
        ∙ length-set _ n page ∙ was.long;
    put = λ k under some.
        ap (λ (o : Option (List ℕ)). slice_get (carried stored (writes_below (behind_first pages) n ++ write_of n o)) k) is
        ∙ ap (λ (ps : List (List ℕ)). slice_get ps k) (carried_append stored (writes_below (behind_first pages) n) (Write n page ∷ []))
        ∙ pages_put (behind_first pages) (carried stored (writes_below (behind_first pages) n)) _ n page (let l = was.long in omega (arith, below)) was.put is refl k (omega (arith, under)) some;
  }

  written : (stored : List (List ℕ)) (n : ℕ) → n ≤ length stored → Written stored n
  written stored zero below = record { long = refl; put = λ k under some. absurd (omega (arith, under)) }
  written stored (suc n) below = one_more stored n (behind_first pages n) refl (omega (arith, below)) (written stored n (omega (arith, below)))

-- a page that is there has a number below the length
some_below : (pages : List (List ℕ)) (k : ℕ) → IsSome (slice_get pages k) → k < length pages
some_below pages k some =
    ⊎_elim (λ (below : k < length pages). below)
    (λ (past : length pages ≤ k). absurd (none_of (slice_get_past pages k past) some))
    (cases_lt k (length pages))

wide : length blank ≡ 4096
unfolding blank
wide = length-replicate {A = ℕ} 4096 0

-- the last page
whole_after : (pages stored : List (List ℕ)) → length stored ≡ length pages → AreStored (behind_first pages) stored → carried stored (Sync ∷ last_calls pages) ≡ pages
whole_after pages stored long are = whole_copy pages stored long are

-- what all of the calls lead to
pub all_copied : (pages : List (List ℕ)) → carried [] (copying pages) ≡ pages
all_copied pages =
    let zeros = blanks (length pages - 0) in
    let many : length zeros ≡ length pages = length-replicate (length pages - 0) blank ∙ omega arith in
    let w = written pages zeros (length pages) (omega (arith, many)) in
    carried_append zeros (writes_below (behind_first pages) (length pages)) (Sync ∷ last_calls pages)
    ∙ whole_after pages (carried zeros (writes_below (behind_first pages) (length pages))) (w.long ∙ many) (λ k some. stored_by k some w) where
      stored_by : (k : ℕ) → IsSome (behind_first pages k) → Written pages (blanks (length pages - 0)) (length pages) → slice_get (carried (blanks (length pages - 0)) (writes_below (behind_first pages) (length pages))) k ≡ behind_first pages k
      stored_by zero some w = absurd (cc)
      stored_by (suc k) some w = w.put (suc k) (some_below pages (suc k) some) some

-- zeros over zeros
blank_again : (n : ℕ) → set (blanks (suc n - 0)) 0 blank ≡ blanks (suc n - 0)
blank_again n =
    let some : suc n - 0 ≡ suc n = omega arith in
    ap (λ k. set (blanks k) 0 blank) some ∙ sym (ap blanks some)

abbrev behind : List ℕ → List (List ℕ) → List Step
behind p rest = writes_below (behind_first (p ∷ rest)) (length (p ∷ rest)) ++ (Sync ∷ Write 0 p ∷ Sync ∷ [])

-- what the first of them lead to
pub front_of : (pages : List (List ℕ)) (k : ℕ) → 1 ≤ length pages → IsNoneOrCopy pages (carried [] (take k (copying pages)))
front_of pages zero some = inl refl
front_of [] (suc k) some = absurd (omega (arith, some))
front_of (p ∷ rest) (suc k) some =
    ⊎_elim (λ marked. inr (inl marked)) (λ all. inr (inr (all ∙ all_copied (p ∷ rest))))
    (subst (λ (zeros : List (List ℕ)). (slice_get (carried zeros (take k (behind p rest))) 0 ≡ Some blank) ⊎ (carried zeros (take k (behind p rest)) ≡ carried zeros (behind p rest))) (blank_again (length rest))
    (later_front [] (behind_first (p ∷ rest)) (length (p ∷ rest)) blank p (suc k) some refl))

-- page 0 that is written first is neither
pub never_first : IsNoneOrCopy pages_4_and_5 ((4 ∷ []) ∷ blank ∷ []) → ⊥
never_first (inl none) = let e : ◌≡◌ {A = ℕ} 2 0 = ap (λ (ps : List (List ℕ)). length ps) none in absurd (omega (arith, e))
never_first (inr (inl zeros)) = let e : ◌≡◌ {A = ℕ} 1 (length blank) = ap (λ (o : Option (List ℕ)). length (unwrap_or o [])) zeros in absurd (omega (arith, e, wide))
never_first (inr (inr whole)) = let e : ◌≡◌ {A = ℕ} (length blank) 1 = ap (λ (ps : List (List ℕ)). length (unwrap_or (slice_get ps 1) [])) whole in absurd (omega (arith, e, wide))

-- calls that end with a fault
pub stopped : (calls : List Step) (old new : Option Journal) (fault : CopyFault) (result : Result (Unit {0}) CopyFault) → result ≡ Err fault → NotesFront calls old new → MakesCalls calls old result new
stopped calls old new fault result told front = subst (λ (r : Result (Unit {0}) CopyFault). MakesCalls calls old r new) (sym told) front

noted_again : (o : Option Journal) (some more : List Step) → noted_steps (noted_steps o some) more ≡ noted_steps o (some ++ more)
noted_again None some more = refl
noted_again (Some j) some more = ap (λ (steps : List Step). Some (record { opened = j.opened; steps = steps })) (append_assoc j.steps some more)

then_noted : (old mid new : Option Journal) (some more : List Step) → mid ≡ noted_steps old some → new ≡ noted_steps mid more → new ≡ noted_steps old (some ++ more)
then_noted old mid new some more is later = later ∙ ap (λ o. noted_steps o more) is ∙ noted_again old some more

-- the calls of a copying, one part after another
module _ (pages : List (List ℕ)) (old longer put kept new : Option Journal) where
  abbrev writes : List Step
  writes = writes_below (behind_first pages) (length pages)

  abbrev longer_calls : List Step
  longer_calls = SetPages (length pages) ∷ []

  pub no_writes : longer ≡ noted_steps old longer_calls → NotesFront writes longer new → NotesFront (copying pages) old new
  no_writes first second = then_front old longer new longer_calls writes (Sync ∷ last_calls pages) first second

  module _ (first : longer ≡ noted_steps old longer_calls) (second : put ≡ noted_steps longer writes) where
    put_is : put ≡ noted_steps old (longer_calls ++ writes)
    put_is = then_noted old longer put longer_calls writes first second

    pub no_sync : new ≡ put → NotesFront (copying pages) old new
    no_sync same = (longer_calls ++ writes, Sync ∷ last_calls pages, refl, same ∙ put_is)

    module _ (third : kept ≡ noted_steps put (Sync ∷ [])) where
      kept_is : kept ≡ noted_steps old ((longer_calls ++ writes) ++ Sync ∷ [])
      kept_is = then_noted old put kept (longer_calls ++ writes) (Sync ∷ []) put_is third

      in_parts : ((longer_calls ++ writes) ++ Sync ∷ []) ++ last_calls pages ≡ copying pages
      in_parts = append_assoc (longer_calls ++ writes) (Sync ∷ []) (last_calls pages)

      pub all_calls : (r : Result (Unit {0}) CopyFault) → MakesCalls (last_calls pages) kept r new → MakesCalls (copying pages) old r new
      all_calls (Ok done) last = then_noted old kept new ((longer_calls ++ writes) ++ Sync ∷ []) (last_calls pages) kept_is last ∙ ap (noted_steps old) in_parts
      all_calls (Err fault) last =
          let front = then_front old kept new ((longer_calls ++ writes) ++ Sync ∷ []) (last_calls pages) [] kept_is last in
          (front.0, front.1, sym in_parts ∙ front.2, front.3)

-- the copy is whole, where its last page was put
pub same_copy : (pages read_pages stored new : List (List ℕ)) (r : Result (Unit {0}) CopyFault) → read_pages ≡ pages → length stored ≡ length pages → AreStored (behind_first pages) stored → OnOk r (new ≡ slice_set stored 0 (first_of read_pages)) → OnOk r (new ≡ pages)
same_copy pages read_pages stored new (Ok done) same long are put = put ∙ ap (λ (ps : List (List ℕ)). slice_set stored 0 (first_of ps)) same ∙ whole_copy pages stored long are
same_copy pages read_pages stored new (Err fault) same long are put = tt

-- a page behind page 0 that was read of pages that are the same
pub behind_some : (pages read_pages : List (List ℕ)) (n : ℕ) (page : List ℕ) → 1 ≤ n → read_pages ≡ pages → slice_get read_pages n ≡ Some page → behind_first pages n ≡ Some page
behind_some pages read_pages zero page some same is = absurd (omega (arith, some))
behind_some pages read_pages (suc n) page some same is = ap (λ (ps : List (List ℕ)). slice_get ps (suc n)) (sym same) ∙ is

pub stored_at : (pages : List (List ℕ)) (n : ℕ) → IsSome (behind_first pages n) → n < length pages
stored_at pages zero some = absurd (cc)
stored_at pages (suc n) some = some_below pages (suc n) some

alike_faults : (A B : Type 0) (fault : CopyFault) → is_copy {A = B} (Err fault) ≡ is_copy {A = A} (Err fault)
alike_faults A B Source = refl
alike_faults A B Length = refl
alike_faults A B (Copy Failed) = refl
alike_faults A B (Copy Memory) = refl

pub longer_is : (old longer : Option Journal) (count long : ℕ) → count ≡ long → longer ≡ noted_steps old (SetPages count ∷ []) → longer ≡ noted_steps old (SetPages long ∷ [])
longer_is old longer count long is made = made ∙ ap (λ k. noted_steps old (SetPages k ∷ [])) is

pub made_long : (old stored : List (List ℕ)) (count : ℕ) → length old ≡ 0 → stored ≡ old ++ blanks (count - length old) → length stored ≡ count
made_long old stored count none is =
    let both = length-append old (blanks (count - length old)) in
    let zeros = length-replicate (count - length old) blank in
    ap (λ (ps : List (List ℕ)). length ps) is ∙ omega arith

-- the copy isn't what failed
pub counted_not : {A B : Type 0} (old : ℕ) (answer : Result A CopyFault) (result : Result B CopyFault) (fault : CopyFault) → answer ≡ Err fault → (p : (named : CopyFault) × (result ≡ Err named) × (named ≡ fault)) → is_copy answer ≡ false → old ≡ counted old (is_copy result)
counted_not {A} {B} old answer result fault failed p other =
    let same : is_copy result ≡ false = ap (λ (r : Result B CopyFault). is_copy r) (p.1 ∙ ap Err p.2) ∙ alike_faults A B fault ∙ sym (ap (λ (r : Result A CopyFault). is_copy r) failed) ∙ other in
    sym (ap (counted old) same)

-- the same of pages that are the same
module _ (pages read_pages : List (List ℕ)) where
  pub same_front : (old new : Option Journal) → read_pages ≡ pages → NotesFront (writes_below (behind_first read_pages) (length read_pages)) old new → NotesFront (writes_below (behind_first pages) (length pages)) old new
  same_front old new same front = subst (λ (ps : List (List ℕ)). NotesFront (writes_below (behind_first ps) (length ps)) old new) same front

  pub same_writes : (old new : Option Journal) → read_pages ≡ pages → new ≡ noted_steps old (writes_below (behind_first read_pages) (length read_pages)) → new ≡ noted_steps old (writes_below (behind_first pages) (length pages))
  same_writes old new same made = made ∙ ap (λ (ps : List (List ℕ)). noted_steps old (writes_below (behind_first ps) (length ps))) same

  pub same_last : (old new : Option Journal) (r : Result (Unit {0}) CopyFault) → read_pages ≡ pages → MakesCalls (last_calls read_pages) old r new → MakesCalls (last_calls pages) old r new
  same_last old new r same made = subst (λ (ps : List (List ℕ)). MakesCalls (last_calls ps) old r new) same made

  pub same_stored : (stored kept : List (List ℕ)) → read_pages ≡ pages → kept ≡ stored → AreStored (behind_first read_pages) stored → AreStored (behind_first pages) kept
  same_stored stored kept same is are k some =
      ap (λ (ps : List (List ℕ)). slice_get ps k) is
      ∙ are k (subst (λ (ps : List (List ℕ)). IsSome (behind_first ps k)) (sym same) some)
      ∙ ap (λ (ps : List (List ℕ)). behind_first ps k) same
