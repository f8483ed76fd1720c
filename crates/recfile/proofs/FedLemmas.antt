-- What the lines are of bytes that come piece by piece.
use Rattle.std.proofs.Common.{◌≡◌, ℕ, ◌<◌, false, if◌then◌else◌, List, [], ◌∷◌, ◌++◌, length, refl, sym, ap, ◌∙◌, arith, append_assoc, append-nil}
use Rattle.std.specs.List.{slice_split}
use Rattle.std.proofs.lemmas.List.Elements.{All-nil, All-append}
use Rattle.std.proofs.lemmas.List.Splits.{slice_split_at, slice_split_none, length-slice_split}
use Rattle.command_text.specs.Grammar.{is_word}
use Rattle.command_text.specs.Script.{is_lf, HasNoLf, without_empty_last, without_last, lines_of, ended_lines}
use Rattle.recfile.specs.Shell.{Fed}

pub fed_none : Fed [] [] []
fed_none = record { split = λ more. refl; unended = All-nil (λ b. is_lf b ≡ false) }

-- more of the line that has begun
pub fed_on : (taken : List ℕ) (passed : List (List ℕ)) (begun piece : List ℕ) → Fed taken passed begun → HasNoLf piece → Fed (taken ++ piece) passed (begun ++ piece)
fed_on taken passed begun piece fed none = record {
  split = λ more. ap (slice_split is_lf) (append_assoc taken piece more) ∙ fed.split (piece ++ more) ∙ ap (λ text. passed ++ slice_split is_lf text) (sym (append_assoc begun piece more));
  unended = All-append (λ b. is_lf b ≡ false) begun piece fed.unended none;
}

-- the line is ended by the piece and an LF, whatever follows
ended : (taken : List ℕ) (passed : List (List ℕ)) (begun piece rest : List ℕ) → Fed taken passed begun → HasNoLf piece → slice_split is_lf (taken ++ (piece ++ 10 ∷ rest)) ≡ passed ++ (begun ++ piece) ∷ slice_split is_lf rest
ended taken passed begun piece rest fed none =
    fed.split (piece ++ 10 ∷ rest)
    ∙ ap (λ text. passed ++ slice_split is_lf text) (sym (append_assoc begun piece (10 ∷ rest)))
    ∙ ap (λ ls. passed ++ ls) (slice_split_at is_lf (begun ++ piece) 10 rest (All-append (λ b. is_lf b ≡ false) begun piece fed.unended none) refl)

pub fed_end : (taken : List ℕ) (passed : List (List ℕ)) (begun piece : List ℕ) → Fed taken passed begun → HasNoLf piece → Fed (taken ++ (piece ++ 10 ∷ [])) (passed ++ (begun ++ piece) ∷ []) []
fed_end taken passed begun piece fed none = record {
  split = λ more.
      ap (slice_split is_lf) (append_assoc taken (piece ++ 10 ∷ []) more ∙ ap (λ text. taken ++ text) (append_assoc piece (10 ∷ []) more))
      ∙ ended taken passed begun piece more fed none
      ∙ sym (append_assoc passed ((begun ++ piece) ∷ []) (slice_split is_lf more));
  unended = All-nil (λ b. is_lf b ≡ false);
}

last_off : (lines : List (List ℕ)) (last : List ℕ) → without_last (lines ++ last ∷ []) ≡ lines
last_off [] last = refl
last_off (line ∷ []) last = refl
last_off (line ∷ next ∷ lines) last = ap (λ ls. line ∷ ls) (last_off (next ∷ lines) last)

last_kept : (lines : List (List ℕ)) (last : List ℕ) → without_empty_last (lines ++ last ∷ []) ≡ lines ++ (if is_word last then last ∷ [] else [])
last_kept [] last = refl
last_kept (line ∷ []) last = refl
last_kept (line ∷ next ∷ lines) last = ap (λ ls. line ∷ ls) (last_kept (next ∷ lines) last)

-- the bytes so far
all_so_far : (taken : List ℕ) (passed : List (List ℕ)) (begun : List ℕ) → Fed taken passed begun → slice_split is_lf taken ≡ passed ++ begun ∷ []
all_so_far taken passed begun fed =
    ap (slice_split is_lf) (sym (append-nil taken)) ∙ fed.split []
    ∙ ap (λ text. passed ++ slice_split is_lf text) (append-nil begun)
    ∙ ap (λ ls. passed ++ ls) (slice_split_none is_lf begun fed.unended)

-- the lines that have ended
pub ended_so_far : (taken : List ℕ) (passed : List (List ℕ)) (begun : List ℕ) → Fed taken passed begun → ended_lines taken ≡ passed
ended_so_far taken passed begun fed = ap without_last (all_so_far taken passed begun fed) ∙ last_off passed begun

-- all lines, where no more bytes come
pub lines_at_end : (taken : List ℕ) (passed : List (List ℕ)) (begun : List ℕ) → Fed taken passed begun → lines_of taken ≡ passed ++ (if is_word begun then begun ∷ [] else [])
lines_at_end taken passed begun fed = ap without_empty_last (all_so_far taken passed begun fed) ∙ last_kept passed begun

-- a last one follows
last_follows : (lines : List (List ℕ)) (line : List ℕ) (rest : List (List ℕ)) → 0 < length rest → without_last (lines ++ line ∷ rest) ≡ lines ++ line ∷ without_last rest
last_follows [] line [] some = absurd (omega arith)
last_follows [] line (next ∷ rest) some = refl
last_follows (first ∷ []) line rest some = ap (λ ls. first ∷ ls) (last_follows [] line rest some)
last_follows (first ∷ next ∷ lines) line rest some = ap (λ ls. first ∷ ls) (last_follows (next ∷ lines) line rest some)

-- the lines that have ended, up to one that ends here, and those after it
pub ended_at : (taken : List ℕ) (passed : List (List ℕ)) (begun piece rest : List ℕ) → Fed taken passed begun → HasNoLf piece → ended_lines (taken ++ (piece ++ 10 ∷ rest)) ≡ passed ++ (begun ++ piece) ∷ ended_lines rest
ended_at taken passed begun piece rest fed none =
    ap without_last (ended taken passed begun piece rest fed none)
    ∙ last_follows passed (begun ++ piece) (slice_split is_lf rest) (omega (arith, length-slice_split is_lf rest))
