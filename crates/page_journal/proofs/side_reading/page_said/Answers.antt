use Rattle.std.proofs.Common.{◌≡◌, ◌+◌, ◌-◌, ◌∙◌, take, drop, ap, arith}
use Rattle.page_journal.proofs.side_reading.page_said.Goals as goal

pub returns : goal.returns
returns c =
    let at = c.args.at in
    let wide : at + 4096 - at ≡ 4096 = omega arith in
    c.copy_from_slice.ensures.after ∙ ap (λ n. take n (drop at c.args.bytes.now)) wide
