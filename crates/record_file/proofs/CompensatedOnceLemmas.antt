-- Between two exact files the log grows by a compensation of each change that was taken back.
use Rattle.std.proofs.Common.{◌≡◌, ℕ, ◌+◌, zero, suc, Bool, true, false, cond, if◌then◌else◌, not, ◌&&◌, List, [], ◌∷◌, ◌++◌, length, map, filter, slice_get, Some, refl, sym, ap, subst, ◌∙◌, arith}
use Rattle.std.proofs.lemmas.List.{append-nil, append_assoc}
use Rattle.rec_types.specs.History.{Change}
use Rattle.rec_types.specs.Kept.{change_of}
use Rattle.tx_log.specs.Log.{tells_change}
use Rattle.tx_log.specs.LogLaws.{undoes, change_told}
use Rattle.tx_log.specs.declared.log_record.LogRecord.{LogRecord}
use Rattle.record_file.specs.Resumed.{TakesWhole, CompensatesTake}
use Rattle.record_file.specs.Runs.{Seen, Event, Step, Run, IsKeptSeen}
use Rattle.record_file.proofs.ExactLemmas.{kept_exact}
use Rattle.record_file.specs.Exact.{IsExactSeen, CompensatesOnce}

-- where a record that passes a test stands
abbrev StandsIn : (LogRecord → Bool) → List LogRecord → LogRecord → Type 0
StandsIn test rs u = (older newer : List LogRecord) × (rs ≡ older ++ u ∷ newer) × (test u ≡ true)

stands : (test : LogRecord → Bool) (rs : List LogRecord) (i : ℕ) (u : LogRecord) → slice_get (filter test rs) i ≡ Some u → StandsIn test rs u
stands test [] i u is = absurd (cc)
stands test (r ∷ rs) i u is = at (test r) refl i is (λ j found. stands test rs j u found)
  where
    later : StandsIn test rs u → StandsIn test (r ∷ rs) u
    later s = (r ∷ s.0, s.1, ap (λ (xs : List LogRecord). r ∷ xs) s.2, s.3)

    at : (b : Bool) → test r ≡ b → (i : ℕ) → slice_get (cond b (r ∷ filter test rs) (filter test rs)) i ≡ Some u → ((j : ℕ) → slice_get (filter test rs) j ≡ Some u → StandsIn test rs u) → StandsIn test (r ∷ rs) u
    at true passes zero is ih = let same : r ≡ u = cc in ([], rs, ap (λ (x : LogRecord). x ∷ rs) same, ap test (sym same) ∙ passes)
    at true passes (suc i) is ih = later (ih i is)
    at false fails i is ih = later (ih i is)

filter-append : (test : LogRecord → Bool) (rs more : List LogRecord) → filter test (rs ++ more) ≡ filter test rs ++ filter test more
filter-append test [] more = refl
filter-append test (r ∷ rs) more = at (test r) (filter-append test rs more)
  where
    at : (b : Bool) → filter test (rs ++ more) ≡ filter test rs ++ filter test more → cond b (r ∷ filter test (rs ++ more)) (filter test (rs ++ more)) ≡ cond b (r ∷ filter test rs) (filter test rs) ++ filter test more
    at true ih = ap (λ (xs : List LogRecord). r ∷ xs) ih
    at false ih = ih

length-both : (xs ys : List LogRecord) → length (xs ++ ys) ≡ length xs + length ys
length-both [] ys = omega arith
length-both (x ∷ xs) ys = let ih = length-both xs ys in omega (arith, ih)

get-append : (xs ys : List LogRecord) (i : ℕ) (u : LogRecord) → slice_get xs i ≡ Some u → slice_get (xs ++ ys) i ≡ Some u
get-append [] ys i u is = absurd (cc)
get-append (x ∷ xs) ys zero u is = is
get-append (x ∷ xs) ys (suc i) u is = get-append xs ys i u is

get-map : (f : LogRecord → Change) (rs : List LogRecord) (i : ℕ) (u : LogRecord) → slice_get rs i ≡ Some u → slice_get (map f rs) i ≡ Some (f u)
get-map f [] i u is = absurd (cc)
get-map f (r ∷ rs) zero u is = let same : r ≡ u = cc in ap (λ (x : LogRecord). Some (f x)) same
get-map f (r ∷ rs) (suc i) u is = get-map f rs i u is

-- the change of an update of an exact file
told_live : (s : Seen) → IsExactSeen s → (i : ℕ) (u : LogRecord) (c : Change) → slice_get (filter tells_change s.log) i ≡ Some u → slice_get s.file.history i ≡ Some c → c.live ≡ (change_told s.log u).live
told_live s exact i u c at is =
    let there : slice_get s.file.history i ≡ Some (change_of (change_told s.log u)) = ap (λ (h : List Change). slice_get h i) exact.changes ∙ get-map (λ u. change_of (change_told s.log u)) (filter tells_change s.log) i u at in
    let both : Some c ≡ Some (change_of (change_told s.log u)) = sym is ∙ there in
    let same : c ≡ change_of (change_told s.log u) = cc in
    ap (λ (c : Change). c.live) same

counts : (past now : Bool) (old more all : ℕ) → all ≡ old + more → old ≡ (if past then 0 else 1) → all ≡ (if now then 0 else 1) → more ≡ (if past && not now then 1 else 0)
counts true true old more all sum was is = omega (arith, sum, was, is)
counts true false old more all sum was is = omega (arith, sum, was, is)
counts false true old more all sum was is = absurd (omega (arith, sum, was, is))
counts false false old more all sum was is = omega (arith, sum, was, is)

-- between two exact files each change that was taken back is compensated once
compensates : (old new : Seen) (more : List LogRecord) → new.log ≡ old.log ++ more → IsExactSeen old → IsExactSeen new → CompensatesOnce old new
compensates old new more longer was is = (
  more,
  longer,
  λ i u past now at before after.
      let there = stands tells_change old.log i u at in
      let grown : new.log ≡ there.0 ++ u ∷ (there.1 ++ more) = longer ∙ ap (λ (rs : List LogRecord). rs ++ more) there.2 ∙ append_assoc there.0 (u ∷ there.1) more in
      let at_new : slice_get (filter tells_change new.log) i ≡ Some u = ap (λ (rs : List LogRecord). slice_get (filter tells_change rs) i) longer ∙ ap (λ (rs : List LogRecord). slice_get rs i) (filter-append tells_change old.log more) ∙ get-append (filter tells_change old.log) (filter tells_change more) i u at in
      counts past.live now.live (length (filter (undoes u) old.log)) (length (filter (undoes u) more)) (length (filter (undoes u) new.log))
      (ap (λ (rs : List LogRecord). length (filter (undoes u) rs)) longer ∙ ap length (filter-append (undoes u) old.log more) ∙ length-both (filter (undoes u) old.log) (filter (undoes u) more))
      (was.compensated there.0 there.1 u there.2 there.3 ∙ ap (λ b. if b then 0 else 1) (sym (told_live old was i u past at before)))
      (is.compensated there.0 (there.1 ++ more) u grown there.3 ∙ ap (λ b. if b then 0 else 1) (sym (told_live new is i u now at_new after))),
)

exact_of : (s : Seen) → IsKeptSeen s → IsExactSeen s
exact_of s kept = kept_exact _ _ _ _ _ kept

-- so it is in a step
pub compensates_once : (old new : Seen) (e : Event) → Step old e new → CompensatesOnce old new
compensates_once old new e step = compensates old new step.happens.told.0 step.happens.told.1 (exact_of old step.kept) (exact_of new step.keeps)

run_grows : (old new : Seen) (es : List Event) → Run old es new → (more : List LogRecord) × (new.log ≡ old.log ++ more)
run_grows old new [] ran = ([], ap (λ (s : Seen). s.log) ran ∙ sym (append-nil old.log))
run_grows old new (e ∷ es) ran =
    let later = run_grows ran.0 new es ran.2 in
    let first = ran.1.happens.told in
    (first.0 ++ later.0, later.1 ∙ ap (λ (rs : List LogRecord). rs ++ later.0) first.1 ∙ append_assoc old.log first.0 later.0)

-- what stays true of a file is true of it after a run
pub run_keeps : (old new : Seen) (es : List Event) → IsKeptSeen old → Run old es new → IsKeptSeen new
run_keeps old new [] kept ran = subst IsKeptSeen (sym ran) kept
run_keeps old new (e ∷ es) kept ran = run_keeps ran.0 new es ran.1.keeps ran.2

-- and in a run
pub run_compensates : (old new : Seen) (es : List Event) → IsKeptSeen old → Run old es new → CompensatesOnce old new
run_compensates old new es kept ran =
    let grown = run_grows old new es ran in
    compensates old new grown.0 grown.1 (exact_of old kept) (exact_of new (run_keeps old new es kept ran))

-- of the changes of a whole take
pub compensates_take : (old new : Seen) (es : List Event) (t p : ℕ) → IsKeptSeen old → Run old es new → TakesWhole old t p new → CompensatesTake old t p new
compensates_take old new es t p kept ran whole =
    let all = run_compensates old new es kept ran in
    (all.0, all.1, λ i u past taken at before mine after. all.2 i u past taken at before (whole i past before mine ∙ after))
