-- What a change, and taking one back, do to the file that a log and a table stand for.
use Rattle.std.proofs.Common.{◌≡◌, ℕ, ◌+◌, ◌≤◌, ◌<◌, Bool, true, false, cond, ◌&&◌, ◌||◌, List, [], ◌∷◌, ◌++◌, Option, Some, None, option_map, is_some, refl, sym, ap, subst, ◌∙◌, IsTrue, arith}
use Rattle.std.specs.FinMap.{get, len}
use Rattle.rec_types.specs.Contents.{Contents, set_to, write_to, same_key, has}
use Rattle.rec_types.specs.History.{Change, applied, replay, undo_last}
use Rattle.rec_types.specs.Kept.{Kept, change_of, history_of, back_of, opening_of, newest_live, undone, BeforesFit, IsOwned, AllBegun}
use Rattle.rec_types.proofs.ContentsLemmas.{set_to-twice, set_to-same, get-write_to-there, same_key-is, same_key-sym}
use Rattle.rec_types.proofs.TakeBackLemmas.{opening-push, opening-over, opening-undone, replay-back, befores-undone, befores-push}
use Rattle.rec_types.proofs.HistoryLemmas.{history-undone}
use Rattle.rec_types.proofs.Sizes.{has-set_to, IsWithin, len-within, room_for, len_new, len_known}
use Rattle.tx_log.specs.LogState.{LogState, IsLog, history_in, open_in}
use Rattle.tx_log.specs.declared.log_record.LogRecord.{LogRecord}
use Rattle.tx_log.specs.Owners.{charged, keys_absent}
use Rattle.record_file.specs.Abstract.{Fits, file_of, with_change, charged_of}
use Rattle.record_file.proofs.ChargedCountLemmas.{len-charged}
use Rattle.record_file.proofs.ChargedLemmas.{claimed, has-charged, claimed-push, claimed-undone, claimed-newest, claimed-within}

-- the history of one more change
pub history-push : (cs : List Kept) (c : Kept) → history_of (cs ++ c ∷ []) ≡ history_of cs ++ change_of c ∷ []
history-push [] c = refl
history-push (d ∷ cs) c = ap (λ h. change_of d ∷ h) (history-push cs c)

-- the replay of one more change
pub replay-push : (h : List Change) (c : Change) (m : Contents) → replay m (h ++ c ∷ []) ≡ applied c (replay m h)
replay-push [] c m = refl
replay-push (d ∷ h) c m = replay-push h c (applied d m)

-- a live change that knows what stands at its key
abbrev pub change : ℕ → ℕ → List ℕ → Option (List ℕ) → Option (Option (List ℕ)) → Kept
change lsn t x before w = record { lsn = lsn; tx = t; key = x; before = before; after = w; live = true }

-- a change leaves the opening records
pub opening_put : (cs : List Kept) (m : Contents) (lsn t : ℕ) (x : List ℕ) (before : Option (List ℕ)) (w : Option (Option (List ℕ))) → before ≡ get m x → opening_of (cs ++ change lsn t x before w ∷ []) (write_to m x w) ≡ opening_of cs m
opening_put cs m lsn t x before w is = opening-push cs (change lsn t x before w) (write_to m x w) ∙ ap (opening_of cs) (back w)
  where
    back : (w : Option (Option (List ℕ))) → write_to (write_to m x w) x (option_map (λ _. before) w) ≡ m
    back None = refl
    back (Some w) = set_to-twice m x w before ∙ set_to-same m x before is

-- after a put the file has one more live change
pub put_file : (log : LogState) (m : Contents) (records : List LogRecord) (room : Option (List ℕ)) (lsn t : ℕ) (x : List ℕ) (before : Option (List ℕ)) (w : Option (Option (List ℕ))) → before ≡ get m x → file_of (record log { records = records; changes = log.changes ++ change lsn t x before w ∷ []; room = room }) (write_to m x w) ≡ with_change (file_of log m) t x w
put_file log m records room lsn t x before w is i = record {
  opening = opening_put log.changes m lsn t x before w is i;
  history = history-push log.changes (change lsn t x before w) i;
  begun = log.begun;
  txs = log.txs;
  limits = log.limits;
}

-- what stood before each live change still fits after one more
pub fits_put : (cs : List Kept) (m : Contents) (lsn t : ℕ) (x : List ℕ) (before : Option (List ℕ)) (w : Option (Option (List ℕ))) → Fits cs m → before ≡ get m x → Fits (cs ++ change lsn t x before w ∷ []) (write_to m x w)
fits_put cs m lsn t x before w fits is =
    let opening = opening_put cs m lsn t x before w is in
    let c = change lsn t x before w in
    record {
      replayed = ap (λ (n : Contents). write_to n x w) fits.replayed
          ∙ sym (replay-push (history_of cs) (change_of c) (opening_of cs m))
          ∙ (λ i. replay (sym opening i) (sym (history-push cs c) i));
      befores = subst (λ (b : Contents). BeforesFit b (cs ++ c ∷ [])) (sym opening) (befores-push cs c (opening_of cs m) fits.befores (is ∙ ap (λ (n : Contents). get n x) fits.replayed));
    }

-- taking a change back leaves the opening records
pub opening_undo : (t : ℕ) (cs : List Kept) (u : Kept) (m : Contents) → newest_live t cs ≡ Some u → opening_of (undone t cs) (write_to m u.key (back_of u)) ≡ opening_of cs m
opening_undo t cs u m newest = opening-undone t cs (write_to m u.key (back_of u)) ∙ opening-over t cs u m u.before newest

-- after a change was taken back the file has its newest live change taken back
pub undo_file : (log : LogState) (m : Contents) (records : List LogRecord) (room : Option (List ℕ)) (t : ℕ) (u : Kept) → newest_live t log.changes ≡ Some u → file_of (record log { records = records; changes = undone t log.changes; room = room }) (write_to m u.key (back_of u)) ≡ record (file_of log m) { history = undo_last t (history_in log) }
undo_file log m records room t u newest i = record {
  opening = opening_undo t log.changes u m newest i;
  history = history-undone t log.changes i;
  begun = log.begun;
  txs = log.txs;
  limits = log.limits;
}

-- what stood before each live change still fits after the newest is taken back
pub fits_undo : (is_open : ℕ → Bool) (cs : List Kept) (m : Contents) (t : ℕ) (u : Kept) → IsOwned is_open cs → IsTrue (is_open t) → newest_live t cs ≡ Some u → Fits cs m → Fits (undone t cs) (write_to m u.key (back_of u))
fits_undo is_open cs m t u owned open_t newest fits =
    let opening = opening_undo t cs u m newest in
    record {
      replayed = ap (λ (n : Contents). write_to n u.key (back_of u)) fits.replayed
          ∙ sym (replay-back is_open t cs u (opening_of cs m) owned open_t fits.befores newest)
          ∙ ap (λ (b : Contents). replay b (history_of (undone t cs))) (sym opening);
      befores = subst (λ (b : Contents). BeforesFit b (undone t cs)) (sym opening) (befores-undone is_open t cs (opening_of cs m) owned open_t fits.befores);
    }

-- room

-- one of two tests holds
pub or_either : (a b : Bool) → a || b ≡ true → (P : Type 0) → (a ≡ true → P) → (b ≡ true → P) → P
or_either true b is P first second = first refl
or_either false b is P first second = second is

-- where the first holds, one of them does
pub or_first : (a b : Bool) → a ≡ true → a || b ≡ true
or_first true b is = refl
or_first false b is = absurd (cc)

-- where the second holds, one of them does
pub or_second : (a b : Bool) → b ≡ true → a || b ≡ true
or_second true b is = refl
or_second false b is = is

-- a key that has a record is charged
pub records_within : (is_open : ℕ → Bool) (h : List Change) (m : Contents) → IsWithin m (charged is_open h m)
records_within is_open h m q is = has-charged is_open h m q ∙ or_second (claimed is_open h q) (has m q) is

-- what is charged after a change was charged before, or is its key
charged_after : (is_open : ℕ → Bool) (cs : List Kept) (m : Contents) (lsn t : ℕ) (x : List ℕ) (before : Option (List ℕ)) (w : Option (Option (List ℕ))) → IsWithin (charged is_open (history_of (cs ++ change lsn t x before w ∷ [])) (write_to m x w)) (set_to (charged is_open (history_of cs) m) x (Some []))
charged_after is_open cs m lsn t x before w q is =
    has-set_to (charged is_open (history_of cs) m) x (Some []) q
    ∙ at (same_key q x) refl (or_either (claimed is_open (history_of (cs ++ c ∷ [])) q) (has (write_to m x w) q) (sym (has-charged is_open (history_of (cs ++ c ∷ [])) (write_to m x w) q) ∙ is) Goal)
  where
    c : Kept
    c = change lsn t x before w

    Goal : Type 0
    Goal = has (charged is_open (history_of cs) m) q ≡ true

    at : (same : Bool) → same_key q x ≡ same → ((claimed is_open (history_of (cs ++ c ∷ [])) q ≡ true → Goal) → (has (write_to m x w) q ≡ true → Goal) → Goal) → cond same true (has (charged is_open (history_of cs) m) q) ≡ true
    at true same cases = refl
    at false apart cases = cases
        (λ owns. has-charged is_open (history_of cs) m q ∙ or_first (claimed is_open (history_of cs) q) (has m q) (not_mine (is_open t) (claimed is_open (history_of cs) q) (sym (ap (λ h. claimed is_open h q) (history-push cs c) ∙ claimed-push is_open (history_of cs) (change_of c) q) ∙ owns)))
        (λ there. has-charged is_open (history_of cs) m q ∙ or_second (claimed is_open (history_of cs) q) (has m q) (sym (ap is_some (get-write_to-there m x w q apart)) ∙ there))
      where
        elsewhere : same_key x q ≡ false
        elsewhere = same_key-sym x q ∙ apart

        not_mine : (opened owned : Bool) → owned || (opened && same_key x q) ≡ true → owned ≡ true
        not_mine opened true is = refl
        not_mine true false is = absurd (cc (sym elsewhere ∙ is))
        not_mine false false is = absurd (cc)

-- a put at a key for which there is room keeps the charged keys within the limit
pub charged_put : (is_open : ℕ → Bool) (cs : List Kept) (m : Contents) (limit lsn t : ℕ) (x : List ℕ) (before : Option (List ℕ)) (w : Option (Option (List ℕ))) → len (charged is_open (history_of cs) m) ≤ limit → (has (charged is_open (history_of cs) m) x ≡ false → len (charged is_open (history_of cs) m) < limit) → len (charged is_open (history_of (cs ++ change lsn t x before w ∷ [])) (write_to m x w)) ≤ limit
charged_put is_open cs m limit lsn t x before w within room = at (has (charged is_open (history_of cs) m) x) refl
  where
    old : Contents
    old = charged is_open (history_of cs) m

    new : Contents
    new = charged is_open (history_of (cs ++ change lsn t x before w ∷ [])) (write_to m x w)

    fewer : len new ≤ len (set_to old x (Some []))
    fewer = len-within new (set_to old x (Some [])) (charged_after is_open cs m lsn t x before w)

    at : (there : Bool) → has old x ≡ there → len new ≤ limit
    at true is = omega (arith, fewer, len_known old x [] is)
    at false is = omega (arith, fewer, len_new old x [] is, room is)

-- what is charged after a change was taken back was charged before
charged_back : (is_open : ℕ → Bool) (cs : List Kept) (m : Contents) (t : ℕ) (u : Kept) → is_open t ≡ true → newest_live t cs ≡ Some u → IsWithin (charged is_open (history_of (undone t cs)) (write_to m u.key (back_of u))) (charged is_open (history_of cs) m)
charged_back is_open cs m t u open_t newest q is =
    or_either (claimed is_open (history_of (undone t cs)) q) (has (write_to m u.key (back_of u)) q) (sym (has-charged is_open (history_of (undone t cs)) (write_to m u.key (back_of u)) q) ∙ is) (has (charged is_open (history_of cs) m) q ≡ true)
    (λ owns. has-charged is_open (history_of cs) m q ∙ or_first (claimed is_open (history_of cs) q) (has m q) (claimed-undone is_open t cs q owns))
    (λ there. at (same_key q u.key) refl there)
  where
    at : (same : Bool) → same_key q u.key ≡ same → has (write_to m u.key (back_of u)) q ≡ true → has (charged is_open (history_of cs) m) q ≡ true
    at true same there = has-charged is_open (history_of cs) m q ∙ or_first (claimed is_open (history_of cs) q) (has m q) (ap (claimed is_open (history_of cs)) (same_key-is q u.key same) ∙ claimed-newest is_open t cs u open_t newest)
    at false apart there = has-charged is_open (history_of cs) m q ∙ or_second (claimed is_open (history_of cs) q) (has m q) (sym (ap is_some (get-write_to-there m u.key (back_of u) q apart)) ∙ there)

-- taking a change back charges no more keys
pub charged_undo : (is_open : ℕ → Bool) (cs : List Kept) (m : Contents) (limit t : ℕ) (u : Kept) → is_open t ≡ true → newest_live t cs ≡ Some u → len (charged is_open (history_of cs) m) ≤ limit → len (charged is_open (history_of (undone t cs)) (write_to m u.key (back_of u))) ≤ limit
charged_undo is_open cs m limit t u open_t newest within = omega (arith, len-within _ _ (charged_back is_open cs m t u open_t newest))

-- with fewer transactions open, or one more of which there is no change, no further key is charged
pub charged_within : (is_open also_open : ℕ → Bool) (n : ℕ) (cs : List Kept) (m : Contents) (limit : ℕ) → ((t : ℕ) → t ≤ n → IsTrue (also_open t) → IsTrue (is_open t)) → AllBegun n cs → len (charged is_open (history_of cs) m) ≤ limit → len (charged also_open (history_of cs) m) ≤ limit
charged_within is_open also_open n cs m limit within begun size = omega (
  arith,
  len-within (charged also_open (history_of cs) m) (charged is_open (history_of cs) m) (λ q is.
      or_either (claimed also_open (history_of cs) q) (has m q) (sym (has-charged also_open (history_of cs) m q) ∙ is) (has (charged is_open (history_of cs) m) q ≡ true)
      (λ owns. has-charged is_open (history_of cs) m q ∙ or_first (claimed is_open (history_of cs) q) (has m q) (claimed-within is_open also_open n cs q within begun owns))
      (λ there. has-charged is_open (history_of cs) m q ∙ or_second (claimed is_open (history_of cs) q) (has m q) there)),
)

-- Taking back is never refused for room: the key is owned, so it is charged, and if it has no record there are
-- fewer records than charged keys.
pub undo_has_room : (is_open : ℕ → Bool) (cs : List Kept) (m : Contents) (limit t : ℕ) (u : Kept) → is_open t ≡ true → newest_live t cs ≡ Some u → len (charged is_open (history_of cs) m) ≤ limit → get m u.key ≡ None → limit ≤ len m → ⊥
undo_has_room is_open cs m limit t u open_t newest within keys_absent full =
    let owns : has (charged is_open (history_of cs) m) u.key ≡ true = has-charged is_open (history_of cs) m u.key ∙ or_first (claimed is_open (history_of cs) u.key) (has m u.key) (claimed-newest is_open t cs u open_t newest) in
    let fewer = room_for m (charged is_open (history_of cs) m) u.key (records_within is_open (history_of cs) m) owns (ap is_some keys_absent) in
    absurd (omega (arith, fewer))

-- Nor is a put at a key that isn't full.
pub put_has_room : (is_open : ℕ → Bool) (cs : List Kept) (m : Contents) (limit : ℕ) (x : List ℕ) → len (charged is_open (history_of cs) m) ≤ limit → (has (charged is_open (history_of cs) m) x ≡ false → len (charged is_open (history_of cs) m) < limit) → get m x ≡ None → limit ≤ len m → ⊥
put_has_room is_open cs m limit x within room keys_absent full = at (has (charged is_open (history_of cs) m) x) refl
  where
    at : (there : Bool) → has (charged is_open (history_of cs) m) x ≡ there → ⊥
    at true is = absurd (omega (arith, room_for m (charged is_open (history_of cs) m) x (records_within is_open (history_of cs) m) is (ap is_some keys_absent)))
    at false is = absurd (omega (arith, len-within m (charged is_open (history_of cs) m) (records_within is_open (history_of cs) m), room is))

-- the records and the absent keys are the charged ones
pub charged_count : (log : LogState) (m : Contents) (n a : ℕ) → Fits log.changes m → IsLog log → n ≡ len m → a ≡ len (keys_absent (open_in log) log.changes) → n + a ≡ len (charged_of (file_of log m))
charged_count log m n a fits kept counted gone =
    let all = len-charged (open_in log) log.changes (opening_of log.changes m) kept.owned fits.befores in
    omega (arith, all, counted, gone, ap len fits.replayed)
