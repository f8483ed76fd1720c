use Rattle.std.proofs.Common.{Ok, sym, subst}
use Rattle.std.specs.String.{string_bytes}
use Rattle.command_text.specs.declared.command.Command.{Command}
use Rattle.recfile.specs.Run.{CommandRan}
use Rattle.recfile.proofs.CallRunLemmas.{ran_of}
use Rattle.recfile.proofs.call.call.Goals as goal

pub returns-in-Begin : goal.returns-in-Begin
returns-in-Begin g c = record { ran = subst (λ (k : Command). CommandRan g.T.TableState g.K.Keeper.keeps g.K.Keeper.moves c.args.file.now (Ok k) c.begin.result (string_bytes c.begin.new.text) c.begin.new.file) (sym c.in-Begin.is) (ran_of g.T.TableState g.K.Keeper.keeps g.K.Keeper.moves g.met.K.Keeper.moves_none _ _ _ _ _ c.begin.ensures) }

pub returns-in-Put : goal.returns-in-Put
returns-in-Put g c = record { ran = subst (λ (k : Command). CommandRan g.T.TableState g.K.Keeper.keeps g.K.Keeper.moves c.args.file.now (Ok k) c.put.result (string_bytes c.put.new.text) c.put.new.file) (sym c.in-Put.is) (ran_of g.T.TableState g.K.Keeper.keeps g.K.Keeper.moves g.met.K.Keeper.moves_none _ _ _ _ _ c.put.ensures) }

pub returns-in-Claim : goal.returns-in-Claim
returns-in-Claim g c = record { ran = subst (λ (k : Command). CommandRan g.T.TableState g.K.Keeper.keeps g.K.Keeper.moves c.args.file.now (Ok k) c.claim.result (string_bytes c.claim.new.text) c.claim.new.file) (sym c.in-Claim.is) (ran_of g.T.TableState g.K.Keeper.keeps g.K.Keeper.moves g.met.K.Keeper.moves_none _ _ _ _ _ c.claim.ensures) }

pub returns-in-Del : goal.returns-in-Del
returns-in-Del g c = record { ran = subst (λ (k : Command). CommandRan g.T.TableState g.K.Keeper.keeps g.K.Keeper.moves c.args.file.now (Ok k) c.remove.result (string_bytes c.remove.new.text) c.remove.new.file) (sym c.in-Del.is) (ran_of g.T.TableState g.K.Keeper.keeps g.K.Keeper.moves g.met.K.Keeper.moves_none _ _ _ _ _ c.remove.ensures) }

pub returns-in-Get : goal.returns-in-Get
returns-in-Get g c = record { ran = subst (λ (k : Command). CommandRan g.T.TableState g.K.Keeper.keeps g.K.Keeper.moves c.args.file.now (Ok k) c.get.result (string_bytes c.get.new.text) c.get.new.file) (sym c.in-Get.is) (ran_of g.T.TableState g.K.Keeper.keeps g.K.Keeper.moves g.met.K.Keeper.moves_none _ _ _ _ _ c.get.ensures) }

pub returns-in-Save : goal.returns-in-Save
returns-in-Save g c = record { ran = subst (λ (k : Command). CommandRan g.T.TableState g.K.Keeper.keeps g.K.Keeper.moves c.args.file.now (Ok k) c.savepoint.result (string_bytes c.savepoint.new.text) c.savepoint.new.file) (sym c.in-Save.is) (ran_of g.T.TableState g.K.Keeper.keeps g.K.Keeper.moves g.met.K.Keeper.moves_none _ _ _ _ _ c.savepoint.ensures) }

pub returns-in-Release : goal.returns-in-Release
returns-in-Release g c = record { ran = subst (λ (k : Command). CommandRan g.T.TableState g.K.Keeper.keeps g.K.Keeper.moves c.args.file.now (Ok k) c.release.result (string_bytes c.release.new.text) c.release.new.file) (sym c.in-Release.is) (ran_of g.T.TableState g.K.Keeper.keeps g.K.Keeper.moves g.met.K.Keeper.moves_none _ _ _ _ _ c.release.ensures) }

pub returns-in-Back : goal.returns-in-Back
returns-in-Back g c = record { ran = subst (λ (k : Command). CommandRan g.T.TableState g.K.Keeper.keeps g.K.Keeper.moves c.args.file.now (Ok k) c.rollback_to.result (string_bytes c.rollback_to.new.text) c.rollback_to.new.file) (sym c.in-Back.is) (ran_of g.T.TableState g.K.Keeper.keeps g.K.Keeper.moves g.met.K.Keeper.moves_none _ _ _ _ _ c.rollback_to.ensures) }

pub returns-in-Resume : goal.returns-in-Resume
returns-in-Resume g c = record { ran = subst (λ (k : Command). CommandRan g.T.TableState g.K.Keeper.keeps g.K.Keeper.moves c.args.file.now (Ok k) c.resume.result (string_bytes c.resume.new.text) c.resume.new.file) (sym c.in-Resume.is) (ran_of g.T.TableState g.K.Keeper.keeps g.K.Keeper.moves g.met.K.Keeper.moves_none _ _ _ _ _ c.resume.ensures) }

pub returns-in-Abort : goal.returns-in-Abort
returns-in-Abort g c = record { ran = subst (λ (k : Command). CommandRan g.T.TableState g.K.Keeper.keeps g.K.Keeper.moves c.args.file.now (Ok k) c.abort.result (string_bytes c.abort.new.text) c.abort.new.file) (sym c.in-Abort.is) (ran_of g.T.TableState g.K.Keeper.keeps g.K.Keeper.moves g.met.K.Keeper.moves_none _ _ _ _ _ c.abort.ensures) }

pub returns-in-List : goal.returns-in-List
returns-in-List g c = record { ran = subst (λ (k : Command). CommandRan g.T.TableState g.K.Keeper.keeps g.K.Keeper.moves c.args.file.now (Ok k) c.list.result (string_bytes c.list.new.text) c.list.new.file) (sym c.in-List.is) (ran_of g.T.TableState g.K.Keeper.keeps g.K.Keeper.moves g.met.K.Keeper.moves_none _ _ _ _ _ c.list.ensures) }

pub returns-in-Keys : goal.returns-in-Keys
returns-in-Keys g c = record { ran = subst (λ (k : Command). CommandRan g.T.TableState g.K.Keeper.keeps g.K.Keeper.moves c.args.file.now (Ok k) c.keys.result (string_bytes c.keys.new.text) c.keys.new.file) (sym c.in-Keys.is) (ran_of g.T.TableState g.K.Keeper.keeps g.K.Keeper.moves g.met.K.Keeper.moves_none _ _ _ _ _ c.keys.ensures) }

pub returns-in-Log : goal.returns-in-Log
returns-in-Log g c = record { ran = subst (λ (k : Command). CommandRan g.T.TableState g.K.Keeper.keeps g.K.Keeper.moves c.args.file.now (Ok k) c.log.result (string_bytes c.log.new.text) c.log.new.file) (sym c.in-Log.is) (ran_of g.T.TableState g.K.Keeper.keeps g.K.Keeper.moves g.met.K.Keeper.moves_none _ _ _ _ _ c.log.ensures) }

pub returns-in-From : goal.returns-in-From
returns-in-From g c = record { ran = subst (λ (k : Command). CommandRan g.T.TableState g.K.Keeper.keeps g.K.Keeper.moves c.args.file.now (Ok k) c.from.result (string_bytes c.from.new.text) c.from.new.file) (sym c.in-From.is) (ran_of g.T.TableState g.K.Keeper.keeps g.K.Keeper.moves g.met.K.Keeper.moves_none _ _ _ _ _ c.from.ensures) }

pub returns-in-Upto : goal.returns-in-Upto
returns-in-Upto g c = record { ran = subst (λ (k : Command). CommandRan g.T.TableState g.K.Keeper.keeps g.K.Keeper.moves c.args.file.now (Ok k) c.upto.result (string_bytes c.upto.new.text) c.upto.new.file) (sym c.in-Upto.is) (ran_of g.T.TableState g.K.Keeper.keeps g.K.Keeper.moves g.met.K.Keeper.moves_none _ _ _ _ _ c.upto.ensures) }

pub returns-in-Committed : goal.returns-in-Committed
returns-in-Committed g c = record { ran = subst (λ (k : Command). CommandRan g.T.TableState g.K.Keeper.keeps g.K.Keeper.moves c.args.file.now (Ok k) c.committed.result (string_bytes c.committed.new.text) c.committed.new.file) (sym c.in-Committed.is) (ran_of g.T.TableState g.K.Keeper.keeps g.K.Keeper.moves g.met.K.Keeper.moves_none _ _ _ _ _ c.committed.ensures) }
