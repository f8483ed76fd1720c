-- Calls noted one after another.
use Rattle.std.proofs.Common.{◌≡◌, ◌≢◌, ℕ, ◌+◌, ◌≤◌, ◌++◌, List, [], ◌∷◌, Option, Some, None, Result, Ok, Err, OnOk, OnErr, zero, suc, refl, sym, ap, ◌∙◌, ⊎_elim, arith}
use Rattle.std.proofs.lemmas.List.{append_assoc, append-nil}
use Rattle.std.proofs.lemmas.Bool.{cases_eq}
use Rattle.std.proofs.Math.Numerals.{add-one}
use Rattle.page_store.specs.PageMap.{PageMap}
use Rattle.page_store.specs.declared.store_fault.StoreFault.{StoreFault}
use Rattle.page_store.specs.declared.step.Step.{Step}
use Rattle.page_store.specs.declared.step.Step.TheVariants.{SetPages, Write, Sync}
use Rattle.page_store.specs.Journal.{Journal, noted_steps, NotesFront, write_of, writes_below, writing_back}

noted_again : (o : Option Journal) (some more : List Step) → noted_steps (noted_steps o some) more ≡ noted_steps o (some ++ more)
noted_again None some more = refl
noted_again (Some j) some more = ap (λ (steps : List Step). Some (record { opened = j.opened; steps = steps })) (append_assoc j.steps some more)

-- noting no call changes nothing
pub noted_none : (o : Option Journal) → o ≡ noted_steps o []
noted_none None = refl
noted_none (Some j) = ap (λ (steps : List Step). Some (record { opened = j.opened; steps = steps })) (sym (append-nil j.steps))

-- calls after others
pub then_noted : (old mid new : Option Journal) (some more : List Step) → mid ≡ noted_steps old some → new ≡ noted_steps mid more → new ≡ noted_steps old (some ++ more)
then_noted old mid new some more is later = later ∙ ap (λ o. noted_steps o more) is ∙ noted_again old some more

-- calls that were made, and a front of those that follow
pub then_front : (old mid new : Option Journal) (some more last : List Step) → mid ≡ noted_steps old some → NotesFront more mid new → NotesFront (some ++ (more ++ last)) old new
then_front old mid new some more last is noted_front = (
  some ++ noted_front.0,
  noted_front.1 ++ last,
  ap (λ (steps : List Step). some ++ steps) (ap (λ (steps : List Step). steps ++ last) noted_front.2 ∙ append_assoc noted_front.0 noted_front.1 last) ∙ sym (append_assoc some noted_front.0 (noted_front.1 ++ last)),
  then_noted old mid new some noted_front.0 is noted_front.3,
)

-- no further call
pub none_noted : (old mid new : Option Journal) (some last : List Step) → mid ≡ noted_steps old some → new ≡ mid → NotesFront (some ++ last) old new
none_noted old mid new some last is same = (some, last, refl, same ∙ is)

-- the writes of the pages below a greater number begin with those below a smaller one
pub writes_split : (pages : PageMap) (n m : ℕ) → n ≤ m → (last : List Step) × (writes_below pages m ≡ writes_below pages n ++ last)
writes_split pages n zero below = ([], (let e : n ≡ 0 = omega arith in ap (writes_below pages) (sym e)) ∙ sym (append-nil (writes_below pages n)))
writes_split pages n (suc m) below =
    ⊎_elim (λ (same : n ≡ suc m). ([], ap (writes_below pages) (sym same) ∙ sym (append-nil (writes_below pages n))))
    (λ (other : n ≢ suc m).
    let before = writes_split pages n m (omega arith) in
    (before.0 ++ write_of m (pages m), ap (λ (steps : List Step). steps ++ write_of m (pages m)) before.1 ∙ append_assoc (writes_below pages n) before.0 (write_of m (pages m))))
    (cases_eq n (suc m))

-- one page more
pub write_noted : (pages : PageMap) (n : ℕ) (page : List ℕ) (old mid new : Option Journal) → Some page ≡ pages n → mid ≡ noted_steps old (writes_below pages n) → new ≡ noted_steps mid (Write n page ∷ []) → new ≡ noted_steps old (writes_below pages (n + 1))
write_noted pages n page old mid new is was more =
    then_noted old mid new (writes_below pages n) (Write n page ∷ []) was more
    ∙ ap (λ (o : Option (List ℕ)). noted_steps old (writes_below pages n ++ write_of n o)) is
    ∙ ap (λ k. noted_steps old (writes_below pages k)) (sym (add-one n))

-- a page that isn't to be written adds no call
pub skip_noted : (pages : PageMap) (n : ℕ) (old new : Option Journal) → None ≡ pages n → new ≡ noted_steps old (writes_below pages n) → new ≡ noted_steps old (writes_below pages (n + 1))
skip_noted pages n old new is was =
    was ∙ ap (noted_steps old) (sym (append-nil (writes_below pages n)))
    ∙ ap (λ (o : Option (List ℕ)). noted_steps old (writes_below pages n ++ write_of n o)) is
    ∙ ap (λ k. noted_steps old (writes_below pages k)) (sym (add-one n))

-- a write of page n fails after those below it
pub failed_writes : (pages : PageMap) (n count : ℕ) (old mid new : Option Journal) → n ≤ count → mid ≡ noted_steps old (writes_below pages n) → new ≡ mid → NotesFront (writes_below pages count) old new
failed_writes pages n count old mid new below was same =
    let split = writes_split pages n count below in (writes_below pages n, split.0, split.1, same ∙ was)

-- maps of pages that are alike below the count
pub writes_alike : (pages like : PageMap) (count : ℕ) → ((n : ℕ) → pages n ≡ like n) → writes_below pages count ≡ writes_below like count
writes_alike pages like zero same = refl
writes_alike pages like (suc n) same =
    ap (λ (steps : List Step). steps ++ write_of n (pages n)) (writes_alike pages like n same) ∙ ap (λ (o : Option (List ℕ)). writes_below like n ++ write_of n o) (same n)

-- the calls hang on which pages are written, and with which bytes, alone
pub writing_alike : (pages like : PageMap) (count long : ℕ) (writing clean : List ℕ) → count ≡ long → ((n : ℕ) → pages n ≡ like n) → writing_back pages count writing clean ≡ writing_back like long writing clean
writing_alike pages like count long writing clean is same =
    ap (λ (steps : List Step). SetPages count ∷ Write 0 writing ∷ Sync ∷ (steps ++ (Sync ∷ Write 0 clean ∷ Sync ∷ []))) (writes_alike pages like count same)
    ∙ ap (λ k. writing_back like k writing clean) is

-- The calls of a writing back, where the first that fails notes nothing.
abbrev first_three : ℕ → List ℕ → List Step
first_three count writing = SetPages count ∷ Write 0 writing ∷ Sync ∷ []

module _ (pages : PageMap) (count : ℕ) (writing clean : List ℕ) (old longer marked put kept new : Option Journal) where
  abbrev writes : List Step
  writes = writes_below pages count

  abbrev last : List Step
  last = Sync ∷ Write 0 clean ∷ Sync ∷ []

  pub no_header : longer ≡ noted_steps old (SetPages count ∷ []) → NotesFront (Write 0 writing ∷ Sync ∷ []) longer new → NotesFront (writing_back pages count writing clean) old new
  no_header first second = then_front old longer new (SetPages count ∷ []) (Write 0 writing ∷ Sync ∷ []) (writes ++ last) first second

  module _ (first : longer ≡ noted_steps old (SetPages count ∷ [])) (second : marked ≡ noted_steps longer (Write 0 writing ∷ Sync ∷ [])) where
    marked_is : marked ≡ noted_steps old (first_three count writing)
    marked_is = then_noted old longer marked (SetPages count ∷ []) (Write 0 writing ∷ Sync ∷ []) first second

    pub no_writes : NotesFront writes marked new → NotesFront (writing_back pages count writing clean) old new
    no_writes third = then_front old marked new (first_three count writing) writes last marked_is third

    module _ (third : put ≡ noted_steps marked writes) where
      put_is : put ≡ noted_steps old (first_three count writing ++ writes)
      put_is = then_noted old marked put (first_three count writing) writes marked_is third

      pub no_sync : new ≡ put → NotesFront (writing_back pages count writing clean) old new
      no_sync same = none_noted old put new (first_three count writing ++ writes) last put_is same

      module _ (fourth : kept ≡ noted_steps put (Sync ∷ [])) where
        kept_is : kept ≡ noted_steps old ((first_three count writing ++ writes) ++ Sync ∷ [])
        kept_is = then_noted old put kept (first_three count writing ++ writes) (Sync ∷ []) put_is fourth

        in_parts : ((first_three count writing ++ writes) ++ Sync ∷ []) ++ (Write 0 clean ∷ Sync ∷ []) ≡ writing_back pages count writing clean
        in_parts = append_assoc (first_three count writing ++ writes) (Sync ∷ []) (Write 0 clean ∷ Sync ∷ [])

        pub all_noted : (r : Result (Unit {0}) StoreFault) → OnOk r (new ≡ noted_steps kept (Write 0 clean ∷ Sync ∷ [])) → OnOk r (new ≡ noted_steps old (writing_back pages count writing clean))
        all_noted (Ok x) fifth = then_noted old kept new ((first_three count writing ++ writes) ++ Sync ∷ []) (Write 0 clean ∷ Sync ∷ []) kept_is fifth ∙ ap (noted_steps old) in_parts
        all_noted (Err fault) fifth = tt

        pub no_close : (r : Result (Unit {0}) StoreFault) → OnErr r (NotesFront (Write 0 clean ∷ Sync ∷ []) kept new) → OnErr r (NotesFront (writing_back pages count writing clean) old new)
        no_close (Ok x) fifth = tt
        no_close (Err fault) fifth =
            let front = then_front old kept new ((first_three count writing ++ writes) ++ Sync ∷ []) (Write 0 clean ∷ Sync ∷ []) [] kept_is fifth in
            (front.0, front.1, sym in_parts ∙ front.2, front.3)
