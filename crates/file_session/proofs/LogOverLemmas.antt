-- What a log says behind its first line, and what becomes of records that it is put over.
use Rattle.std.proofs.Common.{◌≡◌, ◌≢◌, ◌⊎◌, ⊎_elim, inl, inr, ℕ, ◌<◌, Bool, true, false, List, [], ◌∷◌, ◌++◌, length, map, Option, Some, None, codes, refl, sym, ap, subst, ◌∙◌, arith, nat_eq}
use Rattle.std.proofs.lemmas.Bool.{false≢true}
use Rattle.std.specs.FinMap.{get}
use Rattle.std.specs.List.{All}
use Rattle.std.specs.Prelude.{slice_index_or}
use Rattle.std.specs.Bool.{Decides}
use Rattle.std.specs.Cmp.{unsigned_Decides}
use Rattle.std.specs.Cmp.Lexicographic.{pointwise, pointwise_decides}
use Rattle.std.specs.Option.{option_eq}
use Rattle.rec_types.specs.Contents.{Contents, set_to, same_key}
use Rattle.rec_types.proofs.ContentsLemmas.{same_contents, get-set_to-there, same_key-is}
use Rattle.commit_paper.specs.Text.{log_text, AreUnits, closes}
use Rattle.command_text.specs.Grammar.{Read}
use Rattle.command_text.specs.Script.{lines_of, entries_in, commands_of}
use Rattle.command_text.specs.Units.{Write, unit_commands}
use Rattle.command_text.specs.declared.command.Command.{Command}
use Rattle.record_file.specs.Durable.{overlay}
use Rattle.record_file.proofs.CommitLemmas.{overlay-again}
use Rattle.file_session.specs.LogOver.{IsHead, IsLogOver, SayOver, said_by, values_at}
use Rattle.file_session.specs.Overlaid.{IsLogCommand, writes_said}
use Rattle.std.proofs.lemmas.List.{append-nil}
use Rattle.file_session.proofs.LogLemmas.{log_said, unit_first, unit_logged}

-- a key that is among those of some writes
abbrev pub IsNamed : List ℕ → List Write → Type 0
IsNamed k [] = ⊥
IsNamed k (e ∷ es) = (same_key k e.0 ≡ true) ⊎ IsNamed k es

-- another keeps its record
touched : (m : Contents) (es : List Write) (k : List ℕ) → (get (overlay m es) k ≡ get m k) ⊎ IsNamed k es
touched m [] k = inl refl
touched m (e ∷ es) k = at (same_key k e.0) refl (touched (set_to m e.0 e.1) es k)
  where
    at : (b : Bool) → same_key k e.0 ≡ b → (get (overlay (set_to m e.0 e.1) es) k ≡ get (set_to m e.0 e.1) k) ⊎ IsNamed k es → (get (overlay (set_to m e.0 e.1) es) k ≡ get m k) ⊎ IsNamed k (e ∷ es)
    at true is later = inr (inl is)
    at false is later = ⊎_elim (λ same. inl (same ∙ get-set_to-there m e.0 e.1 k is)) (λ more. inr (inr more)) later

abbrev head_or : Option (List ℕ) → List (Option (List ℕ)) → Option (List ℕ)
head_or d [] = d
head_or d (x ∷ xs) = x

abbrev rest_of : List (Option (List ℕ)) → List (Option (List ℕ))
rest_of [] = []
rest_of (x ∷ xs) = xs

named_same : (m n : Contents) (es : List Write) (k : List ℕ) → values_at m es ≡ values_at n es → IsNamed k es → get m k ≡ get n k
named_same m n [] k same named = absurd named
named_same m n (e ∷ es) k same named = ⊎_elim
    (λ is. ap (get m) (same_key-is k e.0 is) ∙ ap (head_or None) same ∙ sym (ap (get n) (same_key-is k e.0 is)))
    (λ more. named_same m n es k (ap rest_of same) more)
    named

-- writes that leave what stands at their keys leave all
pub unchanged : (m : Contents) (es : List Write) → values_at m es ≡ values_at (overlay m es) es → overlay m es ≡ m
unchanged m es same = same_contents (overlay m es) m (λ k. ⊎_elim (λ is. is) (λ named. sym (named_same m (overlay m es) es k same named)) (touched m es k))

-- what stands there, of a line and then the others
by_keys : (m : Contents) (es : List Write) → values_at m es ≡ map (get m) (map (λ (e : Write). e.0) es)
by_keys m [] = refl
by_keys m (e ∷ es) = ap (λ (vs : List (Option (List ℕ))). get m e.0 ∷ vs) (by_keys m es)

values_append : (m : Contents) (es fs : List Write) → values_at m (es ++ fs) ≡ values_at m es ++ values_at m fs
values_append m [] fs = refl
values_append m (e ∷ es) fs = ap (λ (vs : List (Option (List ℕ))). get m e.0 ∷ vs) (values_append m es fs)

abbrev first_of : List ℕ → List (List ℕ) → List ℕ
first_of d [] = d
first_of d (x ∷ xs) = x

abbrev others_of : List (List ℕ) → List (List ℕ)
others_of [] = []
others_of (x ∷ xs) = xs

-- the first line of a log whose first unit is that line, and what the units behind it say
pub cut_head : (first : List ℕ) (us : List (List (List ℕ))) (text line rest : List ℕ) → AreUnits ((first ∷ []) ∷ us) → text ≡ log_text ((first ∷ []) ∷ us) → lines_of text ≡ line ∷ lines_of rest → (line ≡ first) × (commands_of rest ≡ said_by us)
cut_head first us text line rest are is cut =
    let both = sym cut ∙ ap lines_of is ∙ unit_first (first ∷ []) (log_text us) are.0 in (
      ap (first_of []) both,
      ap (λ (ls : List (List ℕ)). entries_in (others_of ls)) both ∙ log_said us are.1,
    )

-- a first line of this version ends its unit
head_closes : (line : List ℕ) → IsHead line → closes line ≡ true
head_closes line is = ap closes is.1

pub first_unit : (units : List (List (List ℕ))) (text line rest : List ℕ) → AreUnits units → text ≡ log_text units → 0 < length text → lines_of text ≡ line ∷ lines_of rest → IsHead line → (us : List (List (List ℕ))) × (units ≡ (line ∷ []) ∷ us) × (commands_of rest ≡ said_by us)
first_unit [] text line rest are is some cut head = absurd (omega (arith, ap length is, some))
first_unit ([] ∷ us) text line rest are is some cut head = absurd are.0
first_unit ((first ∷ []) ∷ us) text line rest are is some cut head =
    let has = cut_head first us text line rest are is cut in
    (us, ap (λ (l : List ℕ). (l ∷ []) ∷ us) (sym has.0), has.1)
first_unit ((first ∷ next ∷ lines) ∷ us) text line rest are is some cut head =
    let same : line ≡ first = ap (first_of []) (sym cut ∙ ap lines_of is ∙ unit_first (first ∷ next ∷ lines) (log_text us) are.0) in
    absurd (false≢true (sym are.0.1 ∙ ap closes (sym same) ∙ head_closes line head))

-- units that are put over records have a first line of this version
pub found_head : (head : List ℕ) (under records : Contents) (units : List (List (List ℕ))) (text line rest : List ℕ) → AreUnits units → text ≡ log_text units → lines_of text ≡ line ∷ lines_of rest → IsLogOver head under records units → IsHead line × SayOver under (commands_of rest) records × ((line ≡ head) ⊎ (records ≡ under))
found_head head under records [] text line rest are is cut over = absurd over
found_head head under records ([] ∷ us) text line rest are is cut over = absurd over
found_head head under records ((first ∷ []) ∷ us) text line rest are is cut over =
    let has = cut_head first us text line rest are is cut in (
      subst IsHead (sym has.0) over.is_head,
      subst (λ (es : List (Read Command)). SayOver under es records) (sym has.1) over.say,
      ⊎_elim (λ same. inl (has.0 ∙ same)) (λ none. inr none) over.tied,
    )
found_head head under records ((first ∷ next ∷ lines) ∷ us) text line rest are is cut over = absurd over

-- a log isn't empty
pub found_some : (head : List ℕ) (under records : Contents) (units : List (List (List ℕ))) (text : List ℕ) → text ≡ log_text units → IsLogOver head under records units → text ≡ [] → ⊥
found_some head under records [] text is over none = over
found_some head under records ([] ∷ us) text is over none = over
found_some head under records ((first ∷ []) ∷ us) text is over none = absurd (omega (arith, ap length (sym none ∙ is), long first (log_text us)))
  where
    long : (line rest : List ℕ) → 0 < length ((line ++ 10 ∷ []) ++ [] ++ rest)
    long line rest = grind (arith)
found_some head under records ((first ∷ next ∷ lines) ∷ us) text is over none = over

-- what was put over records makes no more of what it made
pub over_again : (head later : List ℕ) (under records : Contents) (units : List (List (List ℕ))) → IsLogOver head under records units → IsLogOver later records records units
over_again head later under records [] over = over
over_again head later under records ([] ∷ us) over = over
over_again head later under records ((first ∷ []) ∷ us) over =
    let es = writes_said (said_by us) in
    record {
      is_head = over.is_head;
      say = (over.say.0, over.say.1 ∙ sym (overlay-again under es) ∙ ap (λ (m : Contents). overlay m es) (sym over.say.1));
      tied = inr refl;
    }
over_again head later under records ((first ∷ next ∷ lines) ∷ us) over = over

-- commands that are put over records, behind a first line of this version
pub over_first : (head : List ℕ) (under records : Contents) (units : List (List (List ℕ))) (text line rest : List ℕ) → AreUnits units → text ≡ log_text units → 0 < length text → lines_of text ≡ line ∷ lines_of rest → IsHead line → SayOver under (commands_of rest) records → (line ≡ head) ⊎ (records ≡ under) → IsLogOver head under records units
over_first head under records units text line rest are is some cut is_head say tied =
    let has = first_unit units text line rest are is some cut is_head in
    subst (IsLogOver head under records) (sym has.1) (record {
      is_head = is_head;
      say = subst (λ (es : List (Read Command)). SayOver under es records) has.2 say;
      tied = tied;
    })

-- a log makes one set of records of those of its file
pub over_once : (head : List ℕ) (under a b : Contents) (units : List (List (List ℕ))) → IsLogOver head under a units → IsLogOver head under b units → a ≡ b
over_once head under a b [] over other = absurd over
over_once head under a b ([] ∷ us) over other = absurd over
over_once head under a b ((first ∷ []) ∷ us) over other = over.say.1 ∙ sym other.say.1
over_once head under a b ((first ∷ next ∷ lines) ∷ us) over other = absurd over

-- examples, and what is none
pub once_put : (head : List ℕ) (under : Contents) (unit : List (List ℕ)) (n : ℕ) → IsHead head → entries_in unit ≡ unit_commands n ((97 ∷ [], Some (120 ∷ [])) ∷ []) → IsLogOver head under (set_to under (97 ∷ []) (Some (120 ∷ []))) ((head ∷ []) ∷ unit ∷ [])
once_put head under unit n is read =
    let said : said_by (unit ∷ []) ≡ unit_commands n ((97 ∷ [], Some (120 ∷ [])) ∷ []) = append-nil (entries_in unit) ∙ read in
    record {
      is_head = is;
      say = (
        subst (λ (es : List (Read Command)). All IsLogCommand es) (sym said) (unit_logged n ((97 ∷ [], Some (120 ∷ [])) ∷ [])),
        ap (λ (es : List (Read Command)). overlay under (writes_said es)) (sym said),
      );
      tied = inl refl;
    }

pub other_file : (head first : List ℕ) (under records : Contents) (units : List (List (List ℕ))) → first ≢ head → records ≢ under → IsLogOver head under records ((first ∷ []) ∷ units) → ⊥
other_file head first under records units other changed over = ⊎_elim (λ same. other same) (λ none. changed none) over.tied

pub other_version : IsHead (codes "commits 2 4 5") → ⊥
other_version is = absurd (omega (arith, ap (λ (l : List ℕ). slice_index_or l 8 0) is.1))

pub unalone : (head first next : List ℕ) (under records : Contents) (units : List (List (List ℕ))) → IsLogOver head under records ((first ∷ next ∷ []) ∷ units) → ⊥
unalone head first next under records units over = over

pub empty_log : (head : List ℕ) (under records : Contents) → IsLogOver head under records [] → ⊥
empty_log head under records over = over

-- what stands at keys is compared by its bytes
abbrev value_or : List ℕ → Option (List ℕ) → List ℕ
value_or d None = d
value_or d (Some v) = v

value_decides : (a b : Option (List ℕ)) → Decides (option_eq (pointwise nat_eq) a b) (a ≡ b)
value_decides None None = (λ e. refl, λ e. refl)
value_decides None (Some b) = (λ e. absurd (cc e), λ e. absurd (cc e))
value_decides (Some a) None = (λ e. absurd (cc e), λ e. absurd (cc e))
value_decides (Some a) (Some b) =
    let both = pointwise_decides unsigned_Decides a b in
    (λ e. ap Some (both.0 e), λ e. both.1 (ap (value_or []) e))

pub values_decide : (xs ys : List (Option (List ℕ))) → Decides (pointwise (option_eq (pointwise nat_eq)) xs ys) (xs ≡ ys)
values_decide = pointwise_decides value_decides
