use Rattle.std.proofs.Common.{◌≡◌, ℕ, List, [], ◌++◌, length, Option, Some, sym, ap, subst, ◌∙◌, arith}
use Rattle.std.specs.Io.KnownBytes.{Appends}
use Rattle.std.proofs.lemmas.List.{length-append}
use Rattle.command_text.specs.Units.{Write}
use Rattle.page_journal.specs.Files.{recovered}
use Rattle.record_file.specs.Durable.{overlay}
use Rattle.recfile.specs.Flushing.{flush_reply}
use Rattle.file_session.specs.Overlaid.{writes_in_turn}
use Rattle.recfile.specs.Shell.{flush_line}
use Rattle.recfile.proofs.DurableExampleLemmas.{one}
use Rattle.file_session.proofs.FindsOnceLemmas.{held_within_once}
use Rattle.recfile.proofs.laws.flushes_by_example.Goals as goal

-- bytes don't follow some of them
behind : (left taken : List ℕ) → left ≡ (taken ++ flush_line) ++ left → ⊥
behind left taken is =
    let long = ap length is in
    absurd (omega (arith, long, length-append (taken ++ flush_line) left, length-append taken flush_line))

unwritten : [] ≡ flush_reply → ⊥
unwritten is = absurd (omega (arith, ap length is))

no_reply : (before after : Option (List ℕ)) → Appends before after flush_reply → before ≡ Some [] → after ≡ Some [] → ⊥
no_reply before after told is none = unwritten (subst (λ (x : Option (List ℕ) × Option (List ℕ)). Appends x.0 x.1 flush_reply) (λ i. (is i, none i)) told)

pub returns : goal.returns
returns c = record {
  unfinished = λ strict left leaves held holds old new stops one_open. absurd (omega (arith, stops.none, one_open));
  unasked = λ strict left held holds old new stops. behind left stops.taken stops.consumed;
  silent = λ manner limits old new goes before after. no_reply goes.closed.held new.held goes.next.told before after;
  lost = λ manner limits old new goes order contents steady holds es made differ still.
      differ (sym (ap (λ (kept : List (List Write)). overlay contents (writes_in_turn kept)) made ∙ ap (overlay contents) (one es))
      ∙ held_within_once limits.records order order _ contents (recovered new.disk.first) (goes.records steady order contents holds) still);
}
