-- Why commands of a log aren't put over a sound table.
use Rattle.std.proofs.Common.{◌≡◌, ◌≢◌, ◌∙◌, ⊎_elim, inl, inr, ℕ, [], Option, Some, Result, Ok, Err, refl, ap, subst}
use Rattle.std.specs.List.{All}
use Rattle.std.proofs.lemmas.List.Elements.{All-head}
use Rattle.rec_types.specs.Answered.{Answered}
use Rattle.rec_types.specs.Table.{counted, is_device as table_device}
use Rattle.rec_types.specs.declared.table_state.TableState.{Ghosts}
use Rattle.rec_types.specs.declared.table.TableFault.{TableFault}
use Rattle.rec_types.specs.declared.table.TableFault.TheVariants as tables
use Rattle.command_text.specs.declared.command.Command.{Command}
use Rattle.command_text.specs.declared.command.LineFault.{LineFault}
use Rattle.command_text.specs.Grammar.{Read}
use Rattle.file_session.specs.Beside.{IsOverlayFault, IsUnput}
use Rattle.file_session.specs.FileFaults.{fault_of_overlay, is_file_device}
use Rattle.file_session.specs.declared.file_fault.FileFault.{FileFault}
use Rattle.file_session.specs.Overlaid.{IsLogCommand, line_entries}
use Rattle.file_session.specs.declared.overlaying.OverlayFault.{OverlayFault}
use Rattle.file_session.specs.declared.overlaying.OverlayFault.TheVariants as overlaying

pub overlay_fault : {A : Type 0} (Logged : Type 0) (fault : TableFault) → ((page : ℕ) → ◌≢◌ {A = Result A TableFault} (Err fault) (Err (tables.Damaged page))) → IsOverlayFault Logged (overlaying.Table fault)
overlay_fault Logged tables.Device whole = inl (inl refl)
overlay_fault Logged (tables.Damaged page) whole = absurd (whole page refl)
overlay_fault Logged tables.NoRoom whole = inr refl
overlay_fault Logged tables.Memory whole = inl (inr refl)

-- of a part of what is put over it
pub overlay_part : (Part Whole : Type 0) (fault : OverlayFault) → (Whole → Part) → IsOverlayFault Part fault → IsOverlayFault Whole fault
overlay_part Part Whole overlaying.Line part why = λ whole. why (part whole)
overlay_part Part Whole (overlaying.Table fault) part why = why

-- whether the device failed
device_of_overlay : (A : Type 0) (fault : TableFault) → table_device {A = A} (Err fault) ≡ is_file_device (fault_of_overlay (overlaying.Table fault))
device_of_overlay A tables.Device = refl
device_of_overlay A (tables.Damaged page) = refl
device_of_overlay A tables.NoRoom = refl
device_of_overlay A tables.Memory = refl

pub overlay_counts : {T A : Type 0} (t : Ghosts T) (old new : T) (fault : TableFault) → Answered {A = A} t old (Err fault) new → t.device_failures new ≡ counted (t.device_failures old) (is_file_device (fault_of_overlay (overlaying.Table fault)))
overlay_counts {T} {A} t old new fault answered = answered.device ∙ ap (counted (t.device_failures old)) (device_of_overlay A fault)

pub one_command : (said : Read (Option Command)) (c : Command) → said ≡ Ok (Some c) → All IsLogCommand (line_entries said) → IsLogCommand (Ok c)
one_command said c is all = All-head IsLogCommand (Ok c) [] (subst (λ (s : Read (Option Command)). All IsLogCommand (line_entries s)) is all)

pub no_command : (said : Read (Option Command)) (fault : LineFault) → said ≡ Err fault → All IsLogCommand (line_entries said) → ⊥
no_command said fault is all = All-head IsLogCommand (Err fault) [] (subst (λ (s : Read (Option Command)). All IsLogCommand (line_entries s)) is all)

-- by their names for a file
pub unput_fault : (Logged Over : Type 0) (fault : OverlayFault) (named : FileFault) → named ≡ fault_of_overlay fault → (Over → Logged) → IsOverlayFault Logged fault → IsUnput Over named
unput_fault Logged Over overlaying.Line named is all why = inr (is, λ over. why (all over))
unput_fault Logged Over (overlaying.Table tables.Device) named is all why = inl (inl (inl is))
unput_fault Logged Over (overlaying.Table (tables.Damaged page)) named is all why = absurd (⊎_elim (λ o. ⊎_elim (λ e. absurd (cc e)) (λ e. absurd (cc e)) o) (λ e. absurd (cc e)) why)
unput_fault Logged Over (overlaying.Table tables.NoRoom) named is all why = inl (inr is)
unput_fault Logged Over (overlaying.Table tables.Memory) named is all why = inl (inl (inr is))

-- of a part of a log
pub unput_part : (Part Whole : Type 0) (fault : FileFault) → (Whole → Part) → IsUnput Part fault → IsUnput Whole fault
unput_part Part Whole fault part why = ⊎_elim (λ settling. inl settling) (λ log. inr (log.0, λ whole. log.1 (part whole))) why
