-- A key has one owner.
use Rattle.std.proofs.Common.{◌≡◌, ℕ, ◌≤◌, Bool, true, false, cond, ◌&&◌, ◌||◌, ◌==◌, eqb, List, [], ◌∷◌, map, Some, None, Option, option_map, refl, sym, ap, subst, ◌∙◌, arith}
use Rattle.std.proofs.lemmas.Bool.Decides.{nat_tests}
use Rattle.std.specs.List.{list_any}
use Rattle.rec_types.specs.Contents.{same_key}
use Rattle.rec_types.specs.History.{Change}
use Rattle.rec_types.specs.Kept.{Kept, history_of, OnlyOf, IsOwned}
use Rattle.rec_types.specs.declared.transaction.Entry.{Entry}
use Rattle.rec_types.specs.Contents.{Contents}
use Rattle.rec_types.proofs.ContentsLemmas.{same_key-is}
use Rattle.std.specs.FinMap as maps
use Rattle.tx_log.specs.Owners.{claims, owner_of, charged}
use Rattle.tx_log.specs.LogState.{LogState, IsLog, open_in, history_in}
use Rattle.tx_log.specs.LogLaws.{IsChained}
use Rattle.record_file.specs.Abstract.{IsRecordFile, IsKeptFile, file_of}
use Rattle.record_file.specs.Steps.{entry_with}

-- another's change at a key that only one transaction changes
only_owns : (is_open : ℕ → Bool) (cs : List Kept) (t u : ℕ) (x : List ℕ) → OnlyOf t x cs → list_any (λ c. claims is_open x c && (c.tx == u)) (history_of cs) ≡ true → u ≡ t
only_owns is_open [] t u x only owns = absurd (cc)
only_owns is_open (d ∷ cs) t u x only owns = at d.live (is_open d.tx) (same_key d.key x) (eqb d.tx u) refl refl refl (only_owns is_open cs t u x only.1) owns
  where
    at : (live opened same own : Bool) → d.live ≡ live → same_key d.key x ≡ same → eqb d.tx u ≡ own → (list_any (λ c. claims is_open x c && (c.tx == u)) (history_of cs) ≡ true → u ≡ t) → ((((live && opened) && same) && own) || list_any (λ c. claims is_open x c && (c.tx == u)) (history_of cs)) ≡ true → u ≡ t
    at true true true true live same own ih is = let this : d.tx ≡ u = grind (arith, nat_tests) in sym this ∙ only.0 live (same_key-is d.key x same)
    at true true true false live same own ih is = ih is
    at true true false own live same own_is ih is = ih is
    at true false same own live same_is own_is ih is = ih is
    at false opened same own live same_is own_is ih is = ih is

-- a transaction with a live change at a key owns it
pub owner_is : (is_open : ℕ → Bool) (cs : List Kept) (t : ℕ) (x : List ℕ) → IsOwned is_open cs → list_any (λ c. claims is_open x c && (c.tx == t)) (history_of cs) ≡ true → owner_of is_open (history_of cs) x ≡ Some t
owner_is is_open [] t x owned owns = absurd (cc)
owner_is is_open (d ∷ cs) t x owned owns = at d.live (is_open d.tx) (same_key d.key x) (eqb d.tx t) refl refl refl refl (owner_is is_open cs t x owned.1) owns
  where
    at : (live opened same own : Bool) → d.live ≡ live → is_open d.tx ≡ opened → same_key d.key x ≡ same → eqb d.tx t ≡ own → (list_any (λ c. claims is_open x c && (c.tx == t)) (history_of cs) ≡ true → owner_of is_open (history_of cs) x ≡ Some t) → ((((live && opened) && same) && own) || list_any (λ c. claims is_open x c && (c.tx == t)) (history_of cs)) ≡ true → cond ((live && opened) && same) (Some d.tx) (owner_of is_open (history_of cs) x) ≡ Some t
    at true true true true live opened same own ih is = let this : d.tx ≡ t = grind (arith, nat_tests) in ap (λ n. Some n) this
    at true true true false live opened same own ih is = ap (λ n. Some n) (sym (only_owns is_open cs d.tx t x (subst (λ k. OnlyOf d.tx k cs) (same_key-is d.key x same) (owned.0 live opened)) is))
    at true true false own live opened same own_is ih is = ih is
    at true false same own live opened same_is own_is ih is = ih is
    at false opened same own live opened_is same_is own_is ih is = ih is

-- what stays true of a file
pub kept_file : (sound : Bool) (now : Contents) (limit : ℕ) (log : LogState) → IsRecordFile sound now limit log → IsLog log → IsChained log.records log.changes → IsKeptFile sound now limit (file_of log now) log.records
kept_file sound now limit log is kept chained = record {
  limited = is.limited;
  replayed = λ here. (is.fits here).replayed;
  within = λ here. subst (λ (m : Contents). maps.len (charged (open_in log) (history_in log) m) ≤ log.limits.records) (is.fits here).replayed (is.within here);
  owned = λ t x owns. owner_is (open_in log) log.changes t x kept.owned owns;
  written = is.told;
  chained = (log.changes, chained, refl, λ here. (is.fits here).befores);
  used = kept.fits;
  begun = kept.bounded;
  opens = kept.opens;
  depths = kept.depths;
  whole = is.whole;
}

-- entries that are made of records with their owners tell of them
pub tell_owners : (is_open : ℕ → Bool) (h : List Change) (rs : List (List ℕ × List ℕ)) → map (entry_with is_open h) rs ≡ map (λ (e : Entry). entry_with is_open h (e.key, e.value)) (map (entry_with is_open h) rs)
tell_owners is_open h [] = refl
tell_owners is_open h (r ∷ rs) = ap (λ (es : List Entry). entry_with is_open h r ∷ es) (tell_owners is_open h rs)

-- an entry of a record that was found tells of its owner
pub tells_owner : (is_open : ℕ → Bool) (history : List Change) (found : Option (List ℕ × List ℕ)) → option_map (entry_with is_open history) found ≡ option_map (λ (e : Entry). entry_with is_open history (e.key, e.value)) (option_map (entry_with is_open history) found)
tells_owner is_open history None = refl
tells_owner is_open history (Some e) = refl
