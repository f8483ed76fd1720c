use Rattle.std.proofs.Common.{◌∷◌, ◌++◌, [], Bool, false, List, slice_get, Option, Some, None, refl, sym, ap, ◌∙◌}
use Rattle.rec_types.specs.History.{Change, take_back}
use Rattle.record_file.specs.Undo.{wrote}
use Rattle.record_file.proofs.CompensatedOnceLemmas.{compensates_take}
use Rattle.record_file.proofs.ResumedLemmas.{takes_whole}
use Rattle.record_file.proofs.laws.resumed_whole.Goals as goal

pub returns-clause-taken : goal.returns-clause-taken
returns-clause-taken c = λ old new first last between t p. takes_whole t p old new first last between

pub returns-clause-compensated : goal.returns-clause-compensated
returns-clause-compensated c = λ old new first last between t p stops none over ran.
    compensates_take old new (first ∷ (between ++ last ∷ [])) t p ran.1.kept ran (takes_whole t p old new first last between stops none over ran)

abbrev lives : Option Change → Bool
lives None = false
lives (Some c) = c.live

pub returns-clause-half : goal.returns-clause-half
returns-clause-half c = λ old new was is whole.
    let first = ap (λ (h : List Change). slice_get h 0) was in
    absurd (cc (ap lives (ap (λ (h : List Change). slice_get h 0) (sym is) ∙ whole 0 (wrote 1 97 120) first refl ∙ ap (λ (h : List Change). slice_get (take_back h 1 0) 0) was)))
