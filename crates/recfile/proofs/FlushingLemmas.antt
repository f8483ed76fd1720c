-- Sessions in a row.
use Rattle.std.proofs.Common.{◌≡◌, ℕ, ◌≤◌, Bool, true, false, not, is_some, ◌&&◌, List, Option, Some, None, IfSome, Result, Ok, Err, OnOk, IsTrue, refl, sym, ap, subst, ◌∙◌}
use Rattle.std.specs.FinMap as maps
use Rattle.std.specs.Result.{is_ok}
use Rattle.rec_types.specs.Contents.{Contents}
use Rattle.rec_types.specs.LimitBounds.{Bounds}
use Rattle.btree_insert.specs.declared.tree.Tree.{Tree}
use Rattle.btree_insert.proofs.ContentsLemmas.{len-contents_of}
use Rattle.btree_delete.specs.TableView.{IsClosed}
use Rattle.page_journal.specs.Crash.{IsAtRest}
use Rattle.page_journal.specs.Files.{Files, PageFile, SideFile, recovered, recovered_by}
use Rattle.page_journal.specs.declared.disk_state.DiskState.{Ghosts}
use Rattle.record_file.specs.Durable.{overlay}
use Rattle.file_session.specs.Beside.{IsSettledWith}
use Rattle.recfile.specs.DurableSession.{RunsLogged}
use Rattle.recfile.specs.Flushing.{BeginsNext, Flushes, RunsTo, SessionPoint}
use Rattle.file_session.specs.LogOver.{HoldsRecords, HoldsWithin}
use Rattle.file_session.specs.Overlaid.{writes_in_turn}
use Rattle.file_session.specs.Settling.{IsJustSettled}
use Rattle.recfile.specs.Streams.{CallsMade}
use Rattle.file_session.specs.declared.file_fault.FileFault.{FileFault}
use Rattle.recfile.specs.declared.manner.Manner.{Manner}

-- a closed file has as many records as its tree says
closed_count : (version tail : ℕ) (stored : List (List ℕ)) (tree : Tree) (contents : Contents) → IsClosed version stored tail tree contents → tree.count ≡ maps.len contents
closed_count version tail stored tree contents closed =
    closed.clean.there.holds.count ∙ sym (len-contents_of closed.es closed.clean.there.holds.ascends) ∙ ap maps.len closed.records

fewer : (limit order : ℕ) (records : Contents) (file : PageFile) → HoldsRecords order records file → maps.len records ≤ limit → HoldsWithin limit order records file
fewer limit order records file holds few =
    (holds.0, holds.1, holds.2, holds.3, subst (λ (n : ℕ). n ≤ limit) (sym (closed_count holds.0 file.tail file.pages holds.1 records holds.3)) few)

first_of_and : (a b : Bool) → true ≡ (a && b) → a ≡ true
first_of_and true b is = refl
first_of_and false b is = absurd (cc)

second_of_and : (a b : Bool) → true ≡ (a && b) → true ≡ b
second_of_and true b is = is
second_of_and false b is = absurd (cc)

of_ok : {A E : Type 0} (r : Result A E) (P : Type 0) → is_ok r ≡ true → OnOk r P → P
of_ok (Ok x) P is known = known
of_ok (Err e) P is known = absurd (cc)

none_of : {A : Type 0} (o : Option A) → not (is_some o) ≡ true → o ≡ None
none_of None is = refl
none_of (Some x) is = absurd (cc)

-- a session that ended at a flush had opened its file, and closed it
pub opened_flush : (unopened : Option FileFault) (Unread : FileFault → Type 0) (flushed : Bool) → ((fault : FileFault) → Unread fault → flushed ≡ false) → flushed ≡ true → IfSome unopened Unread → unopened ≡ None
opened_flush None Unread flushed unread is known = refl
opened_flush (Some fault) Unread flushed unread is known = absurd (let never = unread fault known in cc)

pub closed_flush : (manner : Manner) (limits : Bounds) (left leaves held holds : Option (List ℕ)) (before after : CallsMade) (unclosed : Option FileFault) (status : ℕ) (flushed : Bool) → RunsLogged manner limits left leaves held holds before after unclosed status flushed → flushed ≡ true → unclosed ≡ None
closed_flush manner limits left leaves held holds before after unclosed status flushed ran is =
    none_of unclosed (first_of_and _ _ (second_of_and _ _ (sym is ∙ ran.flush)))

-- nothing is read and nothing is written where the file isn't opened
pub unread_left : {X Y Z : Type 0} (unopened : Option FileFault) (left : X → Option (List ℕ)) (held : Y → Option (List ℕ)) (reader read : X) (out written : Y) (before after : Z) (status : ℕ) (unclosed : Option FileFault) (flushed : Bool)
    → IfSome unopened (λ _. (status ≡ 1) × (unclosed ≡ None) × (read ≡ reader) × (written ≡ out) × (after ≡ before) × (flushed ≡ false))
    → IfSome unopened (λ _. (status ≡ 1) × (unclosed ≡ None) × (left read ≡ left reader) × (held written ≡ held out) × (after ≡ before) × (flushed ≡ false))
unread_left None left held reader read out written before after status unclosed flushed known = known
unread_left (Some fault) left held reader read out written before after status unclosed flushed known = (known.0, known.1, ap left known.2, ap held known.3, known.4, known.5)

pub flush_session : {D : Type 0} (g : Ghosts D) (manner : Manner) (limits : Bounds) (old closed : SessionPoint D) (unopened unclosed : Option FileFault) (flushed : Bool) (status : ℕ) → flushed ≡ true → RunsTo g manner limits old closed unopened unclosed flushed status → RunsTo g manner limits old closed None None true status
flush_session g manner limits old closed unopened unclosed flushed status is session =
    let opened = opened_flush unopened _ flushed (λ fault known. known.5) is session.unread in
    let done = closed_flush manner limits old.left closed.left old.held closed.held old.calls closed.calls unclosed status flushed (session.ran opened) is in
    subst (λ (x : Option FileFault × Option FileFault × Bool). RunsTo g manner limits old closed x.0 x.1 x.2 status) (λ i. (opened i, done i, is i)) session

-- after a session that ended at a flush
module _ {D : Type 0} (g : Ghosts D) (manner : Manner) (limits : Bounds) (old closed : SessionPoint D) (status : ℕ) (session : RunsTo g manner limits old closed None None true status) where
  settled : (steady : IsTrue (g.steady old.disk)) (order : ℕ) (contents : Contents) (holds : HoldsWithin limits.records order contents (recovered (g.began old.disk)))
      → IsSettledWith g order (overlay contents (writes_in_turn (session.session steady order contents holds).made.kept)) closed.disk
  settled steady order contents holds =
      let ends = session.session steady order contents holds in
      of_ok ends.run.ended _ (first_of_and _ _ ends.flush) ends.closed refl

  any_settled : IsTrue (g.steady old.disk) → (order : ℕ) × (records : Contents) × IsSettledWith g order records closed.disk
  any_settled steady =
      let opened = (session.opens steady refl).1 in
      (opened.0.order, _, settled steady opened.0.order opened.1 (opened.2, opened.0, refl, opened.3, opened.4))

  pub at_rest : IsTrue (g.steady closed.disk) → IsAtRest g closed.disk
  at_rest steady c now =
      let has = (any_settled (sym (session.steady refl) ∙ steady)).2 in
      ((has.settled.crash c now).0, (has.settled.crash c now).1 ∙ sym has.settled.no_side, has.no_log.crash c now ∙ sym has.no_log.seen)

  module _ (new : SessionPoint D) (next : BeginsNext g closed new) where
    pub just_settled : IsJustSettled g new.disk
    just_settled = record {
      rest = next.again.rest;
      began = next.again.began;
      moment = next.again.moment;
      alone = λ steady.
          ap (λ (f : Files). f.commits.log) (sym next.again.began ∙ next.again.seen)
          ∙ (any_settled (sym (session.steady refl) ∙ sym next.again.steady ∙ steady)).2.no_log.seen;
    }

    pub flushes : Flushes g manner limits old new
    flushes = record {
      closed = closed;
      status = status;
      session = session;
      next = next;
      records = λ steady order contents holds.
          let ends = session.session steady order contents holds in
          let has = settled steady order contents holds in
          let ok = first_of_and _ _ ends.flush in
          let file = ap recovered (sym next.again.began ∙ next.again.seen) ∙ ap (λ (side : Option SideFile). recovered_by side (g.seen closed.disk).main) has.settled.no_side in
          subst (HoldsWithin limits.records order (overlay contents (writes_in_turn ends.made.kept))) (sym file)
          (fewer limits.records order (overlay contents (writes_in_turn ends.made.kept)) (g.seen closed.disk).main has.has
          (subst (λ (m : Contents). maps.len m ≤ limits.records) (of_ok ends.run.ended _ ok ends.records) (of_ok ends.run.ended _ ok ends.within)));
    }
