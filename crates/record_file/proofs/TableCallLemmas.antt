-- What several calls did to a table and its log, one after another.
use Rattle.std.proofs.Common.{◌≡◌, ◌∷◌, [], ◌++◌, Option, None, Ok, IsTrue, refl, ap, subst, ◌∙◌, inl}
use Rattle.rec_types.specs.Answered.{Answered}
use Rattle.rec_types.specs.Contents.{write_to}
use Rattle.rec_types.specs.Table.{counted}
use Rattle.rec_types.specs.declared.table_state.TableState.{Ghosts}
use Rattle.record_file.specs.declared.fault.Cause.{Cause}
use Rattle.tx_log.specs.Log.{key_of_record, new_of}
use Rattle.tx_log.specs.declared.log_record.LogRecord.{LogRecord}
use Rattle.record_file.specs.Abstract.{File, OpenFile, with_open_txs}
use Rattle.tx_log.specs.Transactions.{Transactions}
use Rattle.record_file.specs.Outside.{by_device, TellsDamage}
use Rattle.record_file.specs.TableCalls.{ChangesTable}
use Rattle.record_file.proofs.FaultLemmas.{tells_no_damage}
use Rattle.record_file.proofs.LogGrowthLemmas.{tells_none, tells_one, tells_on}

-- only transactions change
pub changes_none : {T : Type 0} (t : Ghosts T) (old new : OpenFile T) (txs : Transactions) → new ≡ with_open_txs old txs → ChangesTable t old None new
changes_none t old new txs is = record {
  told = tells_none _ _ _ _ _ (ap (λ (s : OpenFile _). t.contents s.table) is) (ap (λ (s : OpenFile _). s.log) is);
  soundness = ap (λ (s : OpenFile _). t.sound s.table) is;
  origin = ap (λ (s : OpenFile _). t.origin s.table) is;
  opening = λ _. ap (λ (s : OpenFile _). s.file.opening) is;
  device = ap (λ (s : OpenFile _). t.device_failures s.table) is;
  damages = inl (ap (λ (s : OpenFile _). t.damages s.table) is);
}

-- the table was asked, and its contents, the file and the log stay
pub changes_asked : {T A : Type 0} (t : Ghosts T) (old new : OpenFile T) (x : A) → Answered t old.table (Ok x) new.table → (t.contents new.table ≡ t.contents old.table) × (new.file ≡ old.file) × (new.log ≡ old.log) → ChangesTable t old None new
changes_asked t old new x answered same = record {
  told = tells_none _ _ _ _ _ same.0 same.2;
  soundness = answered.soundness;
  origin = answered.origin;
  opening = λ _. ap (λ (f : File). f.opening) same.1;
  device = answered.device;
  damages = inl answered.damages;
}

-- the table was asked twice
pub answered_then : {T A B : Type 0} (t : Ghosts T) (old mid new : T) (x : A) (y : B) → Answered t old (Ok x) mid → Answered t mid (Ok y) new → Answered t old (Ok y) new
answered_then t old mid new x y first then = record {
  limit = then.limit ∙ first.limit;
  soundness = then.soundness ∙ first.soundness;
  origin = then.origin ∙ first.origin;
  device = then.device ∙ first.device;
  memory = then.memory ∙ first.memory;
  damages = then.damages ∙ first.damages;
  whole = λ sound. then.whole (first.soundness ∙ sound);
}

-- a record was set in the table of an open file, and the log tells it
pub changes_set : {T A : Type 0} (t : Ghosts T) (held old new : OpenFile T) (x : A) (r : LogRecord) → held ≡ old → Answered t held.table (Ok x) new.table → new.log ≡ held.log ++ r ∷ [] → (IsTrue (t.sound held.table) → t.contents new.table ≡ write_to (t.contents held.table) (key_of_record r) (new_of r)) → (IsTrue (t.sound held.table) → new.file.opening ≡ held.file.opening) → ChangesTable t old None new
changes_set t held old new x r view_is answered grown put opening = subst (λ s. ChangesTable t s None new) view_is record {
  told = tells_one _ _ _ _ _ _ r refl grown put;
  soundness = answered.soundness;
  origin = answered.origin;
  opening = opening;
  device = answered.device;
  damages = inl answered.damages;
}

-- a call that nothing from outside ended, and then another one
pub changes_then : {T : Type 0} (t : Ghosts T) (old mid new : OpenFile T) (cause : Option Cause) → ChangesTable t old None mid → ChangesTable t mid cause new → ChangesTable t old cause new
changes_then t old mid new cause first then = record {
  told = tells_on _ _ _ _ _ _ _ _ first.soundness first.told then.told;
  soundness = then.soundness ∙ first.soundness;
  origin = then.origin ∙ first.origin;
  opening = λ sound. then.opening (first.soundness ∙ sound) ∙ first.opening sound;
  device = then.device ∙ ap (λ n. counted n (by_device cause)) first.device;
  damages = subst (λ d. TellsDamage d cause (t.damages new.table)) (tells_no_damage _ _ first.damages) then.damages;
}
