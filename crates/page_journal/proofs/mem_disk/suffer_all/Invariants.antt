use Rattle.std.proofs.Common.{◌≡◌, All, reverse, take}
use Rattle.page_journal.specs.History.{all_done, MayLeave}
use Rattle.page_journal.specs.declared.fate.Fate.TheVariants.{Done}
use Rattle.page_journal.proofs.mem_disk.suffer_all.Given as goal

abbrev pub invariant-loop-i : goal.invariant-loop-i
invariant-loop-i l = record {
  may : MayLeave l.fn.seen (reverse (take l.i l.calls)) l.left;
  seen : l.seen ≡ all_done l.fn.seen (reverse (take l.i l.calls));
  whole : All (λ fate. fate ≡ Done) l.fates → l.left ≡ l.seen;
}
