-- What an accepted change tells of the file before it.
use Rattle.std.proofs.Common.{◌≡◌, ℕ, ◌≤◌, Bool, true, false, cond, ◌&&◌, ◌||◌, nat_le, List, [], ◌∷◌, ◌++◌, Option, Some, None, is_some, is_none, IfSome, refl, sym, ap, subst, ◌∙◌, IsTrue, arith}
use Rattle.std.proofs.lemmas.Bool.Decides.{nat_tests}
use Rattle.std.specs.FinMap.{get, len}
use Rattle.rec_types.specs.Contents.{Contents, set_to, write_to, same_key, has}
use Rattle.rec_types.specs.History.{Change}
use Rattle.rec_types.specs.declared.transaction.TxId.{TxId}
use Rattle.rec_types.proofs.ContentsLemmas.{same_key-sym, get-write_to-there}
use Rattle.rec_types.proofs.Sizes.{IsWithin, has-set_to, len-within, len_new}
use Rattle.tx_log.specs.Log.{key_of_record, new_of, change_record}
use Rattle.tx_log.specs.Owners.{claims, charged}
use Rattle.tx_log.specs.declared.log_record.LogRecord.{LogRecord}
use Rattle.record_file.specs.Abstract.{File, Told, AllTold, written, open_of, records_of, charged_of, is_full, with_change}
use Rattle.record_file.specs.Runs.{Seen, IsKeptSeen}
use Rattle.record_file.specs.Steps.{Accepts, key_change}
use Rattle.record_file.specs.declared.refusal.Refusal.{Refusal}
use Rattle.record_file.proofs.ChargedLemmas.{claimed, has-charged, claimed-push}
use Rattle.record_file.proofs.FileLemmas.{or_either, or_first, or_second, replay-push}

-- an answer is no refusal
pub unrefused : (P : Type 0) (first : Option Refusal) → IfSome first (λ refusal. (None ≡ Some refusal) × P) → first ≡ None
unrefused P None is = refl
unrefused P (Some refusal) is = absurd (cc is.0)

told_last : (rs : List LogRecord) (r : LogRecord) (m : Contents) → AllTold m (rs ++ r ∷ []) → Told (written m rs) r
told_last [] r m told = told.0
told_last (s ∷ rs) r m told = told_last rs r (write_to m (key_of_record s) (new_of s)) told.1

stood_told : (lsn prev : ℕ) (t : TxId) (x : List ℕ) (before : Option (List ℕ)) (w : Option (Option (List ℕ))) (now : Contents) → Told now (change_record lsn prev t x before w) → before ≡ get now x
stood_told lsn prev t x before None now told = told
stood_told lsn prev t x before (Some w) now told = told

-- the answer is what stood at the key
pub accepted_stood : (old new : Seen) (t : TxId) (x : List ℕ) (before : Option (List ℕ)) (after : Option (Option (List ℕ))) → IsTrue old.sound → IsTrue new.sound → IsKeptSeen old → IsKeptSeen new → new.file.opening ≡ old.file.opening → Accepts old.file old.log (key_change t x before after) new.file new.log → before ≡ get (records_of old.file) x
accepted_stood old new t x before after sound still was is opening accepted =
    let told = told_last old.log _ new.file.opening (subst (AllTold new.file.opening) accepted.logged (is.written still).1) in
    stood_told _ _ t x before after (written new.file.opening old.log) told
    ∙ ap (λ (m : Contents). get (written m old.log) x) opening
    ∙ ap (λ (m : Contents). get m x) (sym (was.written sound).0 ∙ was.replayed sound)

-- a change charges its key, and leaves what was charged so
charged_grown : (is_open : ℕ → Bool) (h : List Change) (m : Contents) (c : Change) → c.live ≡ true → is_open c.tx ≡ true → IsWithin (set_to (charged is_open h m) c.key (Some [])) (charged is_open (h ++ c ∷ []) (write_to m c.key c.after))
charged_grown is_open h m c live opened q is =
    has-charged is_open (h ++ c ∷ []) (write_to m c.key c.after) q
    ∙ ap (λ b. b || has (write_to m c.key c.after) q) (claimed-push is_open h c q)
    ∙ at (same_key q c.key) refl (sym (has-set_to (charged is_open h m) c.key (Some []) q) ∙ is)
  where
    own : same_key q c.key ≡ true → claims is_open q c ≡ true
    own same = (λ i. (live i && opened i) && same_key-sym c.key q i) ∙ same

    at : (b : Bool) → same_key q c.key ≡ b → cond b true (has (charged is_open h m) q) ≡ true → (claimed is_open h q || claims is_open q c) || has (write_to m c.key c.after) q ≡ true
    at true same there = or_first (claimed is_open h q || claims is_open q c) (has (write_to m c.key c.after) q) (or_second (claimed is_open h q) (claims is_open q c) (own same))
    at false apart there =
        or_either (claimed is_open h q) (has m q) (sym (has-charged is_open h m q) ∙ there) ((claimed is_open h q || claims is_open q c) || has (write_to m c.key c.after) q ≡ true)
        (λ owns. or_first (claimed is_open h q || claims is_open q c) (has (write_to m c.key c.after) q) (or_first (claimed is_open h q) (claims is_open q c) owns))
        (λ stands. or_second (claimed is_open h q || claims is_open q c) (has (write_to m c.key c.after) q) (ap is_some (get-write_to-there m c.key c.after q apart) ∙ stands))

-- where a change leaves no more charged keys than the limit, its key wasn't full
pub accepted_not_full : (f : File) (t : ℕ) (x : List ℕ) (after : Option (Option (List ℕ))) → open_of f t ≡ true → len (charged_of (with_change f t x after)) ≤ f.limits.records → is_full f x ≡ false
accepted_not_full f t x after there within = at (get (charged_of f) x) refl (nat_le f.limits.records (len (charged_of f))) refl
  where
    grown : len (set_to (charged_of f) x (Some [])) ≤ f.limits.records
    grown = omega (arith, within, len-within _ _ (charged_grown (open_of f) f.history (records_of f) (record { tx = t; key = x; after = after; live = true }) refl there), ap (λ (m : Contents). len (charged (open_of f) (f.history ++ record { tx = t; key = x; after = after; live = true } ∷ []) m)) (replay-push f.history (record { tx = t; key = x; after = after; live = true }) f.opening))

    at : (o : Option (List ℕ)) → get (charged_of f) x ≡ o → (b : Bool) → nat_le f.limits.records (len (charged_of f)) ≡ b → is_none (get (charged_of f) x) && nat_le f.limits.records (len (charged_of f)) ≡ false
    at (Some r) is b low = ap (λ o. is_none o && nat_le f.limits.records (len (charged_of f))) is
    at None is false low = ap (λ o. is_none o && nat_le f.limits.records (len (charged_of f))) is ∙ low
    at None is true low = let more = len_new (charged_of f) x [] (ap is_some is) in absurd (grind (arith, nat_tests, more, grown))
