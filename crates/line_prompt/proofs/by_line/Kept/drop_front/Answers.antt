use Rattle.std.proofs.Common.{◌≡◌, ℕ, ◌+◌, ◌-◌, ◌≤◌, List, length, take, drop, slice_range, sym, ap, ◌∙◌, arith, length-take, drop-drop}
use Rattle.std.proofs.lemmas.List.{drop-take}
use Rattle.line_prompt.proofs.by_line.Kept.drop_front.Goals as goal

-- a part that begins later is what is left of it
slice_range-later : (xs : List ℕ) (a e n : ℕ) → n ≤ length (slice_range xs a e) → slice_range xs (a + n) e ≡ drop n (slice_range xs a e)
slice_range-later xs a e n within =
    let whole : n + (e - (a + n)) ≡ e - a = omega (arith, length-take (e - a) (drop a xs)) in
    ap (take (e - (a + n))) (sym (drop-drop n a xs))
    ∙ sym (drop-take n (e - (a + n)) (drop a xs))
    ∙ ap (λ k. drop n (take k (drop a xs))) whole

pub returns : goal.returns
returns c =
    let fields = c.self.inside in
    let within : c.args.count ≤ length (slice_range fields.chunk fields.start fields.end) = rw c.self.view_is c.requires in
    slice_range-later fields.chunk fields.start fields.end c.args.count within ∙ ap (drop c.args.count) c.self.view_is
