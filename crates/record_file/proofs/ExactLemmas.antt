-- What stays true of a file makes it exact, and calls one after another are a run.
use Rattle.std.proofs.Common.{◌≡◌, ℕ, ◌≤◌, Bool, true, false, cond, if◌then◌else◌, not, ◌&&◌, ◌||◌, eqb, List, [], ◌∷◌, ◌++◌, length, map, filter, Some, refl, sym, ap, subst, ◌∙◌, arith}
use Rattle.std.proofs.lemmas.Bool.Decides.{nat_tests}
use Rattle.std.specs.List.{list_any}
use Rattle.rec_types.specs.Contents.{Contents}
use Rattle.rec_types.specs.History.{Change}
use Rattle.rec_types.specs.Kept.{change_of, history_of}
use Rattle.tx_log.specs.Log.{tells_change}
use Rattle.tx_log.specs.LogLaws.{undoes, change_told}
use Rattle.tx_log.specs.Owners.{claims, owner_of}
use Rattle.tx_log.specs.declared.log_record.LogRecord.{LogRecord}
use Rattle.record_file.specs.Abstract.{File, open_of, IsKeptFile}
use Rattle.record_file.specs.Exact.{IsExact}
use Rattle.record_file.specs.Runs.{Event, Seen, Step, Run}
use Rattle.record_file.specs.declared.call.Call.{Call}
use Rattle.record_file.specs.declared.call.Answer.{Answer}
use Rattle.record_file.specs.Calls.{Makes, AreEvents, MakesAll}

-- the owner has a live change at the key
owner_owns : (opened : ℕ → Bool) (h : List Change) (t : ℕ) (x : List ℕ) → owner_of opened h x ≡ Some t → list_any (λ c. claims opened x c && (eqb c.tx t)) h ≡ true
owner_owns opened [] t x is = absurd (cc)
owner_owns opened (c ∷ h) t x is = at (claims opened x c) is (owner_owns opened h t x)
  where
    same : c.tx ≡ t → eqb c.tx t ≡ true
    same here = at (eqb c.tx t) refl
      where
        at : (b : Bool) → eqb c.tx t ≡ b → eqb c.tx t ≡ true
        at true is = is
        at false apart = absurd (grind (arith, nat_tests))

    or_later : (b : Bool) → list_any (λ c. claims opened x c && (eqb c.tx t)) h ≡ true → b || list_any (λ c. claims opened x c && (eqb c.tx t)) h ≡ true
    or_later true later = refl
    or_later false later = later

    at : (b : Bool) → (if b then Some c.tx else owner_of opened h x) ≡ Some t → (owner_of opened h x ≡ Some t → list_any (λ c. claims opened x c && (eqb c.tx t)) h ≡ true) → (b && (eqb c.tx t)) || list_any (λ c. claims opened x c && (eqb c.tx t)) h ≡ true
    at true is ih = let here : c.tx ≡ t = cc in ap (λ b. b || list_any (λ c. claims opened x c && (eqb c.tx t)) h) (same here)
    at false is ih = ih is

-- how many pass a test that at most one passes
one_or_none : (test : LogRecord → Bool) (rs : List LogRecord) → length (filter test rs) ≤ 1 → length (filter test rs) ≡ (if not (list_any test rs) then 0 else 1)
one_or_none test [] few = refl
one_or_none test (r ∷ rs) few = at (test r) few (one_or_none test rs)
  where
    at : (b : Bool) → length (cond b (r ∷ filter test rs) (filter test rs)) ≤ 1 → (length (filter test rs) ≤ 1 → length (filter test rs) ≡ (if not (list_any test rs) then 0 else 1)) → length (cond b (r ∷ filter test rs) (filter test rs)) ≡ (if not (b || list_any test rs) then 0 else 1)
    at true few ih = omega (arith, few)
    at false few ih = ih few

-- a file that keeps what stays true is exact
pub kept_exact : (sound : Bool) (now : Contents) (limit : ℕ) (f : File) (log : List LogRecord) → IsKeptFile sound now limit f log → IsExact sound now f log
kept_exact sound now limit f log kept = record {
  records = kept.replayed;
  owners = λ t x. (owner_owns (open_of f) f.history t x, kept.owned t x);
  changes = sym kept.chained.2 ∙ ap history_of kept.chained.1.told ∙ told (filter tells_change log);
  compensated = λ older newer u is update. one_or_none (undoes u) log (kept.chained.1.once older newer u is update);
}
  where
    told : (us : List LogRecord) → history_of (map (change_told log) us) ≡ map (λ u. change_of (change_told log u)) us
    told [] = refl
    told (u ∷ us) = ap (λ h. change_of (change_told log u) ∷ h) (told us)

run-more : (old mid new : Seen) (es : List Event) (e : Event) → Run old es mid → Step mid e new → Run old (es ++ e ∷ []) new
run-more old mid new [] e ran step = (new, subst (λ (s : Seen). Step s e new) ran step, refl)
run-more old mid new (d ∷ es) e ran step = (ran.0, ran.1, run-more ran.0 mid new es e ran.2 step)

events-more : (calls : List Call) (answers : List Answer) (es : List Event) (asked : Call) (told : Answer) (old new : Seen) (made : Makes old asked told new) → AreEvents calls answers es → AreEvents (calls ++ asked ∷ []) (answers ++ told ∷ []) (es ++ made.event ∷ [])
events-more [] [] [] asked told old new made tell = (made.tells, tt)
events-more [] [] (e ∷ es) asked told old new made tell = absurd tell
events-more [] (a ∷ answers) es asked told old new made tell = absurd tell
events-more (c ∷ calls) [] es asked told old new made tell = absurd tell
events-more (c ∷ calls) (a ∷ answers) [] asked told old new made tell = absurd tell
events-more (c ∷ calls) (a ∷ answers) (e ∷ es) asked told old new made tell = (tell.0, events-more calls answers es asked told old new made tell.1)

-- no calls make nothing
pub makes_none : (s : Seen) → MakesAll s [] [] s
makes_none s = record { events = []; tell = tt; ran = refl }

-- one more call and its answer
pub makes_more : (old mid new : Seen) (calls : List Call) (answers : List Answer) (asked : Call) (told : Answer) → MakesAll old calls answers mid → Makes mid asked told new → MakesAll old (calls ++ asked ∷ []) (answers ++ told ∷ []) new
makes_more old mid new calls answers asked told made makes = record {
  events = made.events ++ makes.event ∷ [];
  tell = events-more calls answers made.events asked told mid new makes made.tell;
  ran = run-more old mid new made.events makes.event made.ran makes.step;
}
