-- What the log tells of a call.
use Rattle.std.proofs.Common.{◌≡◌, Bool, List, [], ◌∷◌, ◌++◌, refl, sym, ap, ◌∙◌, IsTrue}
use Rattle.std.proofs.lemmas.List.{append-nil, append_assoc}
use Rattle.rec_types.specs.Contents.{Contents, write_to}
use Rattle.tx_log.specs.Log.{key_of_record, new_of}
use Rattle.tx_log.specs.declared.log_record.LogRecord.{LogRecord}
use Rattle.record_file.specs.Abstract.{Tells, written}

written-append : (rs more : List LogRecord) (m : Contents) → written m (rs ++ more) ≡ written (written m rs) more
written-append [] more m = refl
written-append (r ∷ rs) more m = written-append rs more (write_to m (key_of_record r) (new_of r))

nothing_before : (rs more : List LogRecord) → rs ++ more ≡ [] → rs ≡ []
nothing_before [] more none = refl
nothing_before (r ∷ rs) more none = absurd (cc)

nothing_after : (rs more : List LogRecord) → rs ++ more ≡ [] → more ≡ []
nothing_after [] more none = none
nothing_after (r ∷ rs) more none = absurd (cc)

some_record : (r : LogRecord) (rs : List LogRecord) (P : Type 0) → r ∷ rs ≡ [] → P
some_record r rs P none = absurd (cc)

-- nothing was written
pub tells_none : (sound : Bool) (m n : Contents) (old new : List LogRecord) → n ≡ m → new ≡ old → Tells sound m old n new
tells_none sound m n old new same is = ([], is ∙ sym (append-nil old), λ _. same, λ _. same)

-- one record was written
pub tells_one : (sound : Bool) (m n : Contents) (old mid new : List LogRecord) (r : LogRecord) → mid ≡ old → new ≡ mid ++ r ∷ [] → (IsTrue sound → n ≡ write_to m (key_of_record r) (new_of r)) → Tells sound m old n new
tells_one sound m n old mid new r is grown put =
    (r ∷ [], grown ∙ ap (λ rs. rs ++ r ∷ []) is, put, some_record r [] (n ≡ m))

-- one call after another
pub tells_on : (sound then_sound : Bool) (m n k : Contents) (old mid new : List LogRecord) → then_sound ≡ sound → Tells sound m old n mid → Tells then_sound n mid k new → Tells sound m old k new
tells_on sound then_sound m n k old mid new same first then = (
  first.0 ++ then.0,
  then.1 ∙ ap (λ rs. rs ++ then.0) first.1 ∙ append_assoc old first.0 then.0,
  λ is. then.2 (same ∙ is) ∙ ap (λ c. written c then.0) (first.2 is) ∙ sym (written-append first.0 then.0 m),
  λ none. then.3 (nothing_after first.0 then.0 none) ∙ first.3 (nothing_before first.0 then.0 none),
)
