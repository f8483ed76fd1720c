use Rattle.std.proofs.Common.{◌≡◌, ℕ, ◌+◌, ◌-◌, List, ◌++◌, Option, None, Some, take, drop, slice_range, sym, ap, subst, ◌∙◌, arith, append_assoc}
use Rattle.std.proofs.Math.Seq.{take-add}
use Rattle.std.specs.Io.KnownBytes.{Consumes, Keeps, prepend_known}
use Rattle.line_prompt.proofs.by_line.Kept.read_more.Goals as goal

-- what a reader gave now stands behind what stood before it
prepend_known-more : (a b : Option (List ℕ)) (front more : List ℕ) → Consumes a b more → Keeps (prepend_known front a) (prepend_known (front ++ more) b)
prepend_known-more None b front more given = tt
prepend_known-more (Some x) None front more given = absurd given
prepend_known-more (Some x) (Some y) front more given = append_assoc front more y ∙ ap (λ l. front ++ l) (sym given)

-- the front and what stands behind it
slice_range-front : (xs : List ℕ) (n m : ℕ) → take n xs ++ slice_range xs n (n + m) ≡ slice_range xs 0 (n + m)
slice_range-front xs n m =
    let count : n + m - n ≡ m = omega arith in
    let all : n + m ≡ n + m - 0 = omega arith in
    ap (λ k. take n xs ++ take k (drop n xs)) count ∙ sym (take-add n m xs) ∙ ap (λ k. take k xs) all

pub returns-clause-bytes : goal.returns-clause-bytes
returns-clause-bytes g c =
    let n = c.move_to_front-self-inside.result in
    let count = c.in_ok-count.count in
    let chunk = c.read_behind.new.chunk in
    let rest = g.R.Read.remaining c.read_behind.new.lines in
    let before : take n chunk ≡ c.args.self.now = c.read_behind.ensures.before ∙ c.move_to_front-self-inside.ensures.moved ∙ c.self.view_is in
    let whole : c.args.self.now ++ slice_range chunk n (n + count) ≡ slice_range chunk 0 (n + count) =
    ap (λ l. l ++ slice_range chunk n (n + count)) (sym before) ∙ slice_range-front chunk n count in
    subst (λ (l : List ℕ). Keeps (prepend_known c.args.self.now (g.R.Read.remaining c.args.lines.now)) (prepend_known l rest)) whole
    (prepend_known-more (g.R.Read.remaining c.args.lines.now) rest c.args.self.now (slice_range chunk n (n + count)) c.in_ok-count.ensures.bytes)
