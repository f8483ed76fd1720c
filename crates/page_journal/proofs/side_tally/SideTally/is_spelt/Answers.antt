use Rattle.std.proofs.Common.{◌≡◌, ◌↔◌, sym, subst, refl, take, arith, Some, None, IsTrue}
use Rattle.std.proofs.lemmas.List.{take_all}
use Rattle.page_journal.specs.SideBytes.{Tally, tally_header, header_width}
use Rattle.page_journal.proofs.SideLemmas.{spelt_by}
use Rattle.page_journal.proofs.side_tally.SideTally.is_spelt.Goals as goal

pub returns-in-Some : goal.returns-in-Some
returns-in-Some c =
    let t : Tally = record { long = c.self.inside.long; rest = c.self.inside.rest; kept = c.self.inside.kept; least = c.self.inside.least; sum = c.self.inside.sum } in
    let all = c.args.bytes.now in
    subst (λ (t : Tally). IsTrue c.is_same.result ↔ (take (header_width t.rest) all ≡ tally_header t)) c.self.view_is
    (spelt_by t (Some c.in-Some.rest) all all c.header_of.result c.is_same.result c.in-Some.is (sym (take_all 40 all (omega (arith, c.told-bytes)))) c.header_of.ensures c.is_same.ensures)

pub returns-in-None : goal.returns-in-None
returns-in-None c =
    let t : Tally = record { long = c.self.inside.long; rest = c.self.inside.rest; kept = c.self.inside.kept; least = c.self.inside.least; sum = c.self.inside.sum } in
    let all = c.args.bytes.now in
    subst (λ (t : Tally). IsTrue c.is_same-in-None.result ↔ (take (header_width t.rest) all ≡ tally_header t)) c.self.view_is
    (spelt_by t None all (take 32 all) c.old_header_of-old.result c.is_same-in-None.result c.in-None.is refl c.old_header_of-old.ensures c.is_same-in-None.ensures)
