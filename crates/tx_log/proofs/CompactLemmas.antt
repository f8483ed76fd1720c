-- The records of a log in little memory: what stays as bytes and entries are added.
use Rattle.std.proofs.Common.{◌≡◌, ℕ, ◌≤◌, ◌<◌, ◌-◌, Bool, true, false, if◌then◌else◌, zero, suc, List, [], ◌∷◌, ◌++◌, length, take, drop, map, Option, Some, None, option_map, slice_get, get_or, reverse, leb, leb-true, refl, sym, ap, subst, ◌∙◌, arith}
use Rattle.std.specs.List.{filter}
use Rattle.std.proofs.lemmas.List.{take-append-le, drop-append-le, length-drop}
use Rattle.std.proofs.lemmas.Option.{slice_get-get_or}
use Rattle.rec_types.specs.Widths.{widest_record}
use Rattle.rec_types.specs.declared.transaction.TxId.{TxId}
use Rattle.tx_log.specs.Compact.{read, LiesIn, before_in, after_in, told_as, back_kind, record_of_entry}
use Rattle.tx_log.specs.Log.{back_record, back_in, lsn_of, key_of_record, prev_of, chain, IsNumbered}
use Rattle.tx_log.specs.Marks.{first_lsn}
use Rattle.tx_log.specs.Walks.{change_in, link_of, newest_in, is_after, step_to}
use Rattle.tx_log.proofs.MarkLemmas.{first_there}
use Rattle.tx_log.proofs.WalkSteps.{walk_step, stops_at, first_above}
use Rattle.tx_log.specs.declared.log_record.LogRecord.{LogRecord}
use Rattle.tx_log.specs.declared.log_record.LogRecord.TheVariants as logged
use Rattle.tx_log.specs.declared.records.Span.{Span}
use Rattle.tx_log.specs.declared.records.Kind.{Kind}
use Rattle.tx_log.specs.declared.records.Kind.TheVariants.{Update, Compensation, Claim, Unclaim}
use Rattle.tx_log.specs.declared.records.Entry.{Entry}

-- a span reads the same once there are more bytes
pub read-more : (xs ys : List ℕ) (s : Span) → LiesIn (length xs) s → read (xs ++ ys) s ≡ read xs s
read-more xs ys s within = at (leb s.len widest_record) refl
  where
    same : s.len ≤ widest_record → take s.len (drop s.at (xs ++ ys)) ≡ take s.len (drop s.at xs)
    same short =
        let fits = within.fits short in
        let starts : s.at ≤ length xs = omega (arith, fits) in
        let ends : s.len ≤ length (drop s.at xs) = omega (arith, fits, length-drop s.at xs) in
        ap (take s.len) (drop-append-le s.at xs ys starts) ∙ take-append-le s.len (drop s.at xs) ys ends

    at : (there : Bool) → leb s.len widest_record ≡ there → (if there then Some (take s.len (drop s.at (xs ++ ys))) else None) ≡ (if there then Some (take s.len (drop s.at xs)) else None)
    at true e = ap Some (same (leb-true s.len widest_record e))
    at false e = refl

-- the same of all entries
pub records-more : (xs ys : List ℕ) (es : List Entry)
    → ((i : ℕ) (e : Entry) → slice_get es i ≡ Some e → LiesIn (length xs) (before_in e))
    → ((i : ℕ) (e : Entry) → slice_get es i ≡ Some e → LiesIn (length xs) (after_in e))
    → map (record_of_entry (xs ++ ys)) es ≡ map (record_of_entry xs) es
records-more xs ys [] before after = refl
records-more xs ys (e ∷ es) before after =
    (λ i. told_as e.kind e.lsn e.prev e.tx e.key (read-more xs ys (before_in e) (before 0 e refl) i) (read-more xs ys (after_in e) (after 0 e refl) i) e.rest
    ∷ records-more xs ys es (λ j. before (suc j)) (λ j. after (suc j)) i)

-- spans that lie in some bytes lie in more
pub within-more : (n m : ℕ) (s : Span) → n ≤ m → LiesIn n s → LiesIn m s
within-more n m s more within = record { fits = λ short. let fits = within.fits short in omega (arith, fits, more) }

-- after one entry more each of them has a span in the bytes
pub within-push : (n : ℕ) (span : Entry → Span) (es : List Entry) (new : Entry)
    → ((i : ℕ) (e : Entry) → slice_get es i ≡ Some e → LiesIn n (span e)) → LiesIn n (span new)
    → (i : ℕ) (e : Entry) → slice_get (es ++ new ∷ []) i ≡ Some e → LiesIn n (span e)
within-push n span [] new each last zero e is = subst (λ (o : Option Entry). LiesIn n (span (pick o))) is last
  where
    pick : Option Entry → Entry
    pick (Some x) = x
    pick None = new
within-push n span [] new each last (suc i) e is = absurd (cc is)
within-push n span (d ∷ es) new each last zero e is = each 0 e is
within-push n span (d ∷ es) new each last (suc i) e is = within-push n span es new (λ j. each (suc j)) last i e is

-- what stands for the taking back of a record shares the span of what stood before
pub back-told : (k : Kind) (lsn prev : ℕ) (tx : TxId) (ulsn uprev : ℕ) (utx : TxId) (key : List ℕ) (before after other : Option (List ℕ)) (undo_next : ℕ)
    → told_as (back_kind k) lsn prev tx key before other uprev ≡ back_record lsn prev tx (key_of_record (told_as k ulsn uprev utx key before after undo_next)) (back_in (told_as k ulsn uprev utx key before after undo_next)) (prev_of (told_as k ulsn uprev utx key before after undo_next))
back-told Update lsn prev tx ulsn uprev utx key before after other undo_next = refl
back-told Compensation lsn prev tx ulsn uprev utx key before after other undo_next = refl
back-told Claim lsn prev tx ulsn uprev utx key before after other undo_next = refl
back-told Unclaim lsn prev tx ulsn uprev utx key before after other undo_next = refl

-- the number leads to the first of the chain
pub newest-there : (log : List LogRecord) (from at : ℕ) → IsNumbered (reverse log) → at ≡ first_lsn (chain (reverse log) from) → 0 < at → at ≤ length log → option_map change_in (slice_get log (at - 1)) ≡ newest_in (chain (reverse log) from)
newest-there log from at numbered is some within =
    let nothing : LogRecord = logged.Unclaim 0 0 (record { 0 = 0 }) [] 0 in
    let found = slice_get-get_or log (at - 1) nothing (omega (arith, some, within)) in
    let first = first_there log from at nothing (get_or log (at - 1) nothing) numbered is some refl in
    ap (option_map change_in) found ∙ sym (ap newest_in first.is)

pub link-there : (log : List LogRecord) (from at : ℕ) → IsNumbered (reverse log) → at ≡ first_lsn (chain (reverse log) from) → 0 < at → at ≤ length log → option_map (λ u. link_of (change_in u)) (slice_get log (at - 1)) ≡ option_map link_of (newest_in (chain (reverse log) from))
link-there log from at numbered is some within = twice (slice_get log (at - 1)) ∙ ap (option_map link_of) (newest-there log from at numbered is some within)
  where
    twice : (o : Option LogRecord) → option_map (λ u. link_of (change_in u)) o ≡ option_map link_of (option_map change_in o)
    twice None = refl
    twice (Some u) = refl

-- a first change that isn't above a place has none after it that is
pub none_above : (rs : List LogRecord) (from at to : ℕ) → IsNumbered rs → at ≡ first_lsn (chain rs from) → at ≤ to → None ≡ option_map step_to (newest_in (filter (is_after to) (chain rs from)))
none_above rs from at to numbered is low = of (chain rs from) refl
  where
    of : (us : List LogRecord) → chain rs from ≡ us → None ≡ option_map step_to (newest_in (filter (is_after to) (chain rs from)))
    of [] e = sym (ap (λ us. option_map step_to (newest_in (filter (is_after to) us))) e)
    of (u ∷ us) e =
        let step = walk_step rs from (change_in u) numbered (ap newest_in e) in
        let under : lsn_of u ≤ to = omega (arith, is, ap first_lsn e, low) in
        sym (ap (λ us. option_map step_to (newest_in us)) (stops_at rs from (change_in u) to numbered step under))

-- a first change above a place is the newest there
first_of : (rs : List LogRecord) (from to : ℕ) → IsNumbered rs → to < first_lsn (chain rs from) → newest_in (chain rs from) ≡ newest_in (filter (is_after to) (chain rs from))
first_of rs from to numbered above = of (chain rs from) refl
  where
    of : (us : List LogRecord) → chain rs from ≡ us → newest_in (chain rs from) ≡ newest_in (filter (is_after to) (chain rs from))
    of [] e = ap newest_in e ∙ sym (ap (λ us. newest_in (filter (is_after to) us)) e)
    of (u ∷ us) e =
        let step = walk_step rs from (change_in u) numbered (ap newest_in e) in
        let over : to < lsn_of u = omega (arith, above, ap first_lsn e) in
        ap newest_in e ∙ first_above rs from to (change_in u) step over

-- the number leads to what takes that change back
pub step-there : (log : List LogRecord) (from at to : ℕ) → IsNumbered (reverse log) → at ≡ first_lsn (chain (reverse log) from) → to < at → at ≤ length log → option_map (λ u. step_to (change_in u)) (slice_get log (at - 1)) ≡ option_map step_to (newest_in (filter (is_after to) (chain (reverse log) from)))
step-there log from at to numbered is above within =
    let rs = reverse log in
    twice (slice_get log (at - 1))
    ∙ ap (option_map step_to) (newest-there log from at numbered is (omega (arith, above)) within)
    ∙ ap (option_map step_to) (first_of rs from to numbered (omega (arith, is, above)))
  where
    twice : (o : Option LogRecord) → option_map (λ u. step_to (change_in u)) o ≡ option_map step_to (option_map change_in o)
    twice None = refl
    twice (Some u) = refl
