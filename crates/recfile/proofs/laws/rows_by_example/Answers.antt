use Rattle.std.proofs.Common.{◌≡◌, ℕ, ◌<◌, List, [], length, take, Option, Some, None, refl, ap, subst, arith, inl, inr}
use Rattle.std.specs.Io.KnownBytes.{Appends}
use Rattle.std.proofs.KnownBytes.{Appends-nil}
use Rattle.std.proofs.lemmas.List.{length-take-le}
use Rattle.rec_types.specs.LimitBounds.{Bounds}
use Rattle.page_journal.specs.declared.disk_state.DiskState.{Ghosts}
use Rattle.recfile.specs.Flushing.{BeginsNone, EndsRow, SessionPoint, flush_reply}
use Rattle.file_session.specs.declared.file_fault.FileFault.{FileFault}
use Rattle.recfile.specs.declared.manner.Manner.{Manner}
use Rattle.recfile.proofs.laws.rows_by_example.Goals as goal

-- a part of the reply isn't the whole of it
part_of_reply : (before after : Option (List ℕ)) (sent : ℕ) → sent < length flush_reply → Appends before after (take sent flush_reply) → before ≡ Some [] → after ≡ Some flush_reply → ⊥
part_of_reply before after sent few told was is =
    let whole : flush_reply ≡ take sent flush_reply = subst (λ (x : Option (List ℕ) × Option (List ℕ)). Appends x.0 x.1 (take sent flush_reply)) (λ i. (was i, is i)) told in
    let long = ap {B = ℕ} length whole in
    absurd (omega (arith, few, long, length-take-le sent flush_reply (omega (arith, few))))

badly : {D : Type 0} (g : Ghosts D) (closed new : SessionPoint D) (unopened unclosed : Option FileFault) → BeginsNone g closed new unopened unclosed 0 → ⊥
badly g closed new None unclosed none = absurd (omega (arith, none.why.0))
badly g closed new (Some fault) unclosed none = absurd (omega (arith, none.why.0))

unopened_badly : {D : Type 0} (g : Ghosts D) (manner : Manner) (limits : Bounds) (last new : SessionPoint D) (fault : FileFault) (unclosed : Option FileFault) → EndsRow g manner limits last new (Some fault) unclosed 0 → ⊥
unopened_badly g manner limits last new fault unclosed (inl session) = absurd (omega (arith, session.1.unread.0))
unopened_badly g manner limits last new fault unclosed (inr row) = absurd (omega (arith, row.3.why.0))

never_unclosed : {D : Type 0} (g : Ghosts D) (closed new : SessionPoint D) (unopened : Option FileFault) (fault : FileFault) (status : ℕ) → BeginsNone g closed new unopened (Some fault) status → ⊥
never_unclosed g closed new unopened fault status none = absurd (let never = none.closes in cc)

pub returns : goal.returns
returns c = record {
  example = λ closed. record { left = refl; closes = refl; why = (refl, (0, omega arith, Appends-nil closed.held), refl, refl) };
  replied = λ closed new unclosed status was is none. part_of_reply closed.held new.held none.why.1.0 none.why.1.1 none.why.1.2 was is;
  read_on = λ closed new unopened unclosed status differ none. differ none.left;
  not_closed = λ closed new unopened fault status none. never_unclosed _ closed new unopened fault status none;
  ends_well = λ closed new unopened unclosed none. badly _ closed new unopened unclosed none;
  unopened_row = λ manner limits old new fault unclosed row. unopened_badly _ manner limits row.last new fault unclosed row.end;
}
