use Rattle.std.proofs.Common.{◌≡◌, Bool, false, List, [], ◌∷◌, reverse, refl, sym, ap, ◌∙◌, arith, rules}
use Rattle.rec_types.specs.Kept.{Kept}
use Rattle.tx_log.specs.Examples.{eight}
use Rattle.tx_log.specs.Log.{IsNumbered, AllWritten, back_in}
use Rattle.tx_log.specs.declared.log_record.LogRecord.{LogRecord}
use Rattle.tx_log.proofs.LogLawLemmas.{is_chained}
use Rattle.tx_log.proofs.laws.chained.Goals as goal

pub returns-clause-whole : goal.returns-clause-whole
returns-clause-whole c =
    let numbered : IsNumbered (reverse eight) = search rules in
    let follows : AllWritten (reverse eight) = search rules in
    is_chained eight numbered follows

pub returns-clause-number : goal.returns-clause-number
returns-clause-number c = λ cs chained. absurd (omega (arith, chained.numbers [] [] _ refl))

pub returns-clause-prev : goal.returns-clause-prev
returns-clause-prev c = λ cs chained. absurd (omega (arith, chained.prevs (_ ∷ []) [] _ refl))

first_of : (u v : LogRecord) → u ∷ [] ≡ v ∷ [] → u ≡ v
first_of u v is = cc

abbrev first_live : List Kept → Bool
first_live [] = false
first_live (k ∷ ks) = k.live

pub returns-clause-unnamed : goal.returns-clause-unnamed
returns-clause-unnamed c = λ cs chained. absurd (cc ((chained.named [] [] _ refl refl).1))

pub returns-clause-another : goal.returns-clause-another
returns-clause-another c = λ cs chained.
    let named = chained.named (_ ∷ []) [] _ refl refl in
    absurd (cc (named.3 ∙ ap back_in (sym (first_of _ _ named.1))))

pub returns-clause-twice : goal.returns-clause-twice
returns-clause-twice c = λ cs chained. absurd (omega (arith, chained.once [] _ _ refl refl))

pub returns-clause-live : goal.returns-clause-live
returns-clause-live c = λ kept live chained. absurd (cc (sym live ∙ ap first_live chained.told))
