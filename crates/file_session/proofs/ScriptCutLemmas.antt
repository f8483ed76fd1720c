-- Where a text is cut at its first LF.
use Rattle.std.proofs.Common.{◌≡◌, ℕ, ◌+◌, ◌-◌, ◌<◌, ◌≤◌, Bool, true, false, cond, nat_lt, List, [], ◌∷◌, ◌++◌, length, take, drop, get_or, Option, Some, None, Ok, Err, ◌==◌, ⊎_elim, refl, sym, ap, subst, ◌∙◌, arith}
use Rattle.std.proofs.lemmas.Grind.{common_steps}
use Rattle.std.proofs.lemmas.Bool.Decides.{nat_tests}
use Rattle.std.specs.List.{slice_split, position, position_or_len}
use Rattle.std.proofs.lemmas.Bool.{cases_lt}
use Rattle.memchr.specs.Find.{IsFirstByte, is_byte}
use Rattle.std.proofs.lemmas.List.Sums.{split_at_first, fails_before_first, passes_at_first}
use Rattle.std.proofs.lemmas.List.{drop_all}
use Rattle.std.proofs.lemmas.List.Splits.{length-slice_split}
use Rattle.command_text.specs.declared.command.Command.{Command}
use Rattle.command_text.specs.Grammar.{Read}
use Rattle.command_text.specs.Script.{HasNoLf, commands_of, is_lf, keep, lines_of, without_empty_last}
use Rattle.command_text.proofs.TextCutLemmas.{cut_some, cut_none, rest_cut}

-- a line is no last one where more pieces follow
pub first_stays : (line : List ℕ) (rest : List (List ℕ)) → 0 < length rest → without_empty_last (line ∷ rest) ≡ line ∷ without_empty_last rest
first_stays line [] some = absurd (omega arith)
first_stays line (next ∷ rest) some = refl

whole_stays : (line : List ℕ) → 0 < length line → without_empty_last (line ∷ []) ≡ line ∷ []
whole_stays [] some = absurd (omega arith)
whole_stays (b ∷ bs) some = refl

-- a text is its first line and the text after it
pub lines_cut : (text : List ℕ) (i : ℕ) → position is_lf text ≡ Some i → lines_of text ≡ take i text ∷ lines_of (take (length text - (i + 1)) (drop (i + 1) text))
lines_cut text i is =
    let rest : List ℕ = drop (i + 1) text in
    let some : 0 < length (slice_split is_lf rest) = omega (arith, length-slice_split is_lf rest) in
    ap without_empty_last (cut_some is_lf text i is).1
    ∙ first_stays (take i text) (slice_split is_lf rest) some
    ∙ ap (λ (after : List ℕ). take i text ∷ lines_of after) (sym (rest_cut text (i + 1)))

-- a text without LF is one line, and nothing follows it
pub lines_whole : (text : List ℕ) → 0 < length text → position is_lf text ≡ None → lines_of text ≡ text ∷ lines_of (take (length text - length text) (drop (length text) text))
lines_whole text some is =
    ap without_empty_last (cut_none is_lf text is)
    ∙ whole_stays text some
    ∙ ap (λ (after : List ℕ). text ∷ lines_of after) (sym (rest_cut text (length text) ∙ drop_all (length text) text (omega arith)))

found_is : (b : Bool) (n i : ℕ) → cond b (Some n) None ≡ Some i → (b ≡ true) × (n ≡ i)
found_is true n i is = (refl, cc)
found_is false n i is = absurd (cc)

none_is : (b : Bool) (n : ℕ) → cond b (Some n) None ≡ None → b ≡ false
none_is true n is = absurd (cc)
none_is false n is = refl

lf_is : (b : ℕ) → is_lf b ≡ true → b ≡ 10
lf_is b is = grind (arith, nat_tests)

-- A text is what stands before its first LF, the LF, and the rest.
pub cut_at : (text : List ℕ) (i : ℕ) → position is_lf text ≡ Some i → (text ≡ take i text ++ 10 ∷ take (length text - (i + 1)) (drop (i + 1) text)) × HasNoLf (take i text)
cut_at text i is =
    let found = found_is (nat_lt (position_or_len is_lf text) (length text)) (position_or_len is_lf text) i is in
    let lt : position_or_len is_lf text < length text = grind (arith, nat_tests, found.0) in
    let front : HasNoLf (take (position_or_len is_lf text) text) = λ k d m. let fails = fails_before_first is_lf text k d (grind (arith, common_steps)) in grind (arith, common_steps) in
    subst (λ n. (text ≡ take n text ++ 10 ∷ take (length text - (n + 1)) (drop (n + 1) text)) × HasNoLf (take n text)) found.1 (
      split_at_first is_lf text 0 lt
          ∙ ap (λ b. take (position_or_len is_lf text) text ++ b ∷ drop (position_or_len is_lf text + 1) text) (lf_is _ (passes_at_first is_lf text 0 lt))
          ∙ ap (λ r. take (position_or_len is_lf text) text ++ 10 ∷ r) (sym (rest_cut text (position_or_len is_lf text + 1))),
      front,
    )

-- A text without LF has none.
pub no_cut : (text : List ℕ) → position is_lf text ≡ None → HasNoLf text
no_cut text is k d lt =
    let none = none_is (nat_lt (position_or_len is_lf text) (length text)) (position_or_len is_lf text) is in
    fails_before_first is_lf text k d (grind (arith, nat_tests, none))

not_found : (b : Bool) (n : ℕ) → (b ≡ true → ⊥) → None ≡ cond b (Some n) None
not_found true n never = absurd (never refl)
not_found false n never = refl

-- What a search of bytes finds is the first LF.
pub first_found : (text : List ℕ) (r : Option ℕ) → IsFirstByte (is_byte 10) text r → r ≡ position is_lf text
first_found text None nowhere =
    let at : ℕ = position_or_len is_lf text in
    not_found (nat_lt at (length text)) at (λ is. let lt : at < length text = grind (arith, nat_tests, is) in nowhere at (omega arith) lt (passes_at_first is_lf text 0 lt))
first_found text (Some k) found =
    let at : ℕ = position_or_len is_lf text in
    let low : k ≤ at = ⊎_elim (λ (lt : at < k). absurd (found.0.before at (omega arith) lt (passes_at_first is_lf text 0 (omega (arith, found.0.high))))) (λ (le : k ≤ at). le) (cases_lt at k) in
    let high : at ≤ k = ⊎_elim (λ (lt : k < at). let fails : is_lf (get_or text k 0) ≡ false = fails_before_first is_lf text k 0 lt in absurd (cc (sym fails ∙ found.1))) (λ (le : at ≤ k). le) (cases_lt k at) in
    let same : at ≡ k = omega arith in
    subst (λ (n : ℕ). Some n ≡ cond (nat_lt at (length text)) (Some at) None) same (grind (arith, nat_tests, found.0.high))

-- what a line says stands before what the others say
pub keep-append : (line : Read (Option Command)) (xs ys : List (Read Command)) → keep line (xs ++ ys) ≡ keep line xs ++ ys
keep-append (Ok None) xs ys = refl
keep-append (Ok (Some c)) xs ys = refl
keep-append (Err fault) xs ys = refl

-- where no bytes are left there are no lines
pub nothing_left : (rest : List ℕ) → true ≡ (length rest == 0) → commands_of rest ≡ []
nothing_left [] is = refl
nothing_left (b ∷ rest) is = absurd (grind (arith, nat_tests))
