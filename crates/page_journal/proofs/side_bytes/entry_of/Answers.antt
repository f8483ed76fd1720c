use Rattle.std.proofs.Common.{◌≡◌, ◌++◌, length, take, drop, ap, ◌∙◌, arith}
use Rattle.std.proofs.lemmas.List.{length-take-le}
use borrow.Rule.Slice.PartMut.{put_mid}
use Rattle.page_journal.proofs.SideLemmas.{entry_put}
use Rattle.page_journal.proofs.side_bytes.entry_of.Goals as goal

pub returns : goal.returns
returns c =
    let blank = c.blank_entry-entry.result in
    let long : length blank ≡ 4100 = c.blank_entry-entry.ensures in
    ap (put_mid 4 4096 (c.write_u32.new.buf ++ drop 4 blank)) c.copy_from_slice.ensures.after
    ∙ entry_put c.args.n blank (take 4 blank) c.write_u32.new.buf c.args.page.now long (length-take-le 4 blank (omega (arith, long))) c.write_u32.ensures
