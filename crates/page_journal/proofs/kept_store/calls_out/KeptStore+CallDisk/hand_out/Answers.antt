use Rattle.page_journal.proofs.CallsOutLemmas.{fronts_handed, guards_out, logged_out, now_handed}
use Rattle.page_journal.proofs.kept_store.calls_out.KeptStore+CallDisk.hand_out.Goals as goal

pub invariant_of-self : goal.invariant_of-self
invariant_of-self c = (
  c.self.invariant.0,
  logged_out c.self.inside.state c.self.inside.kept.items c.self.inside.log c.self.inside.doubt.items c.self.inside.disk c.hand_out.new.self c.hand_out.ensures.told c.self.invariant.1 c.self.invariant.3,
  c.self.invariant.2,
  guards_out c.self.inside.state c.self.inside.kept.items c.self.inside.log c.self.inside.doubt.items c.self.inside.disk c.hand_out.new.self c.hand_out.ensures.told c.self.invariant.1 c.self.invariant.3,
)

pub returns-clause-fronts : goal.returns-clause-fronts
returns-clause-fronts c = fronts_handed c.self.inside.state c.self.inside.kept.items c.self.inside.log c.self.inside.doubt.items c.self.inside.disk c.hand_out.new.self c.hand_out.ensures.told c.self.invariant.1 c.self.invariant.3

pub returns-clause-now : goal.returns-clause-now
returns-clause-now c = now_handed c.self.inside.state c.self.inside.kept.items c.self.inside.log c.self.inside.doubt.items c.self.inside.disk c.hand_out.new.self c.hand_out.ensures.told c.self.invariant.1 c.self.invariant.3
