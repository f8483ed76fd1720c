use Rattle.std.proofs.Common.{rules, ◌≡◌, ℕ, Bool, false, List, Option, Some, None, Ok, is_some, refl, ap, sym, ◌∙◌, arith}
use Rattle.std.specs.FinMap as maps
use Rattle.std.proofs.lemmas.Grind.{common_steps}
use Rattle.rec_types.specs.Calls.{with_get}
use Rattle.rec_types.specs.Contents.{Contents}
use Rattle.rec_types.specs.Kept.{IsOwned, opening_of}
use Rattle.tx_log.specs.LogState.{LogState, open_in, history_in}
use Rattle.tx_log.specs.Owners.{owner_of, before_owned}
use Rattle.record_file.specs.Abstract.{OpenFile, Fits, file_of, open_of}
use Rattle.record_file.specs.Asked.{looked_unless}
use Rattle.record_file.specs.Committed.{committed}
use Rattle.record_file.proofs.CommittedLemmas.{before_at, unowned_at, owned_alike}
use Rattle.record_file.proofs.MadeLemmas.{committed_made}
use Rattle.record_file.proofs.file.RecordFile.committed.Goals as goal

-- what the log tells of an owned key is committed
owned_there : (log : LogState) (now : Contents) (x : List ℕ) (before : Option (List ℕ)) → IsOwned (open_in log) log.changes → Fits log.changes now → before_owned (open_in log) log.changes x ≡ Some before → before ≡ maps.get (committed (file_of log now)) x
owned_there log now x before owned fits is = sym (before_at (open_in log) x log.changes (opening_of log.changes now) (opening_of log.changes now) before refl owned fits.befores is)

-- and what stands at another
unowned_there : (log : LogState) (now : Contents) (x : List ℕ) → Fits log.changes now → before_owned (open_in log) log.changes x ≡ None → maps.get now x ≡ maps.get (committed (file_of log now)) x
unowned_there log now x fits is = ap (λ (m : Contents). maps.get m x) fits.replayed ∙ sym (unowned_at (open_in log) x log.changes (opening_of log.changes now) (opening_of log.changes now) refl is)

pub returns-in-Some : goal.returns-in-Some
returns-in-Some g c =
    let log = c.self.inside.log in
    let x = c.args.key.now in
    let now = g.T.TableState.contents c.self.inside.table in
    let owned : before_owned (open_in log) log.changes x ≡ Some c.in-Some.before = sym c.in-Some.ensures.value in
    committed_made g.T.TableState _ _ x (Ok c.in-Some.before)
    (λ sound few. (
      first_of (search rules, grind (arith, common_steps)),
      owned_there log now x c.in-Some.before c.in-Some.ensures.kept.owned (c.self.invariant.fits (ap (λ (s : OpenFile _). g.T.TableState.sound s.table) c.self.view_is ∙ sound)) owned
          ∙ ap (λ (s : OpenFile _). maps.get (committed s.file) x) c.self.view_is,
      refl,
    ))
    (search rules) refl (search rules)
    (ap (λ (b : Bool). looked_unless b (g.T.TableState.calls c.args.self.now.table)) (sym (ap is_some owned) ∙ sym (owned_alike (open_in log) x log.changes) ∙ ap (λ (s : OpenFile _). is_some (owner_of (open_of s.file) s.file.history x)) c.self.view_is))

-- the key has no owner
looks : (log : LogState) (x : List ℕ) → None ≡ before_owned (open_in log) log.changes x → false ≡ is_some (owner_of (open_in log) (history_in log) x)
looks log x none = ap is_some none ∙ sym (owned_alike (open_in log) x log.changes)

pub returns : goal.returns
returns g c =
    let log = c.self.inside.log in
    let x = c.args.key.now in
    let now = g.T.TableState.contents c.self.inside.table in
    let none : None ≡ before_owned (open_in log) log.changes x = c.in_default.ensures.value in
    committed_made g.T.TableState _ _ x (Ok c.in_ok-found.found)
    (λ sound few.
    let here = ap (λ (s : OpenFile _). g.T.TableState.sound s.table) c.self.view_is ∙ sound in (
      first_of (search rules, grind (arith, common_steps)),
      c.in_ok-found.ensures.value here ∙ unowned_there log now x (c.self.invariant.fits here) (sym none) ∙ ap (λ (s : OpenFile _). maps.get (committed s.file) x) c.self.view_is,
      first_of (search rules, grind (arith, common_steps)),
    ))
    (search rules) (search rules) (search rules)
    (c.get.ensures.calls ∙ ap (λ (s : OpenFile _). with_get (g.T.TableState.calls s.table)) c.self.view_is
    ∙ ap (λ (b : Bool). looked_unless b (g.T.TableState.calls c.args.self.now.table)) (looks log x none ∙ ap (λ (s : OpenFile _). is_some (owner_of (open_of s.file) s.file.history x)) c.self.view_is))

-- the look failed
pub returns-in_err-found : goal.returns-in_err-found
returns-in_err-found g c =
    let log = c.self.inside.log in
    let x = c.args.key.now in
    let none : None ≡ before_owned (open_in log) log.changes x = c.in_default.ensures.value in
    committed_made g.T.TableState _ _ x c.from_residual.result
    (search rules) (search rules) (search rules) (search rules)
    (c.get.ensures.calls ∙ ap (λ (s : OpenFile _). with_get (g.T.TableState.calls s.table)) c.self.view_is
    ∙ ap (λ (b : Bool). looked_unless b (g.T.TableState.calls c.args.self.now.table)) (looks log x none ∙ ap (λ (s : OpenFile _). is_some (owner_of (open_of s.file) s.file.history x)) c.self.view_is))
