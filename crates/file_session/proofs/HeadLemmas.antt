-- The first line of a log of commits.
use Rattle.std.proofs.Common.{ℕ, ◌+◌, ◌%◌, ◌^◌, ◌<◌, ◌≤◌, List, [], ◌∷◌, ◌++◌, length, codes, refl, arith, length-append}
use Rattle.std.proofs.lemmas.Fmt.{decimal_by_steps, length-decimal-le}
use Rattle.std.specs.Fmt.{decimal}
use Rattle.commit_paper.specs.Text.{IsLine, IsUnit}
use Rattle.command_text.proofs.UnitLemmas.{is_line}
use Rattle.file_session.specs.LogOver.{head_text}

line_append : (xs ys : List ℕ) → IsLine xs → IsLine ys → IsLine (xs ++ ys)
line_append [] ys first second = second
line_append (x ∷ xs) ys first second = (first.0, first.1, line_append xs ys first.2 second)

digit_line : (b : ℕ) → 48 ≤ b → IsLine (b ∷ [])
digit_line b least = (λ is. absurd (omega (arith, is, least)), λ is. absurd (omega (arith, is, least)), tt)

decimal_line : (n : ℕ) → n < 2 ^ 64 → IsLine (decimal n)
decimal_line = decimal_by_steps (λ m ds. IsLine ds) (λ m l. digit_line (48 + m) (omega arith)) (λ m ds l h. line_append ds ((48 + m % 10) ∷ []) h (digit_line (48 + m % 10) (omega arith)))

version_line : IsLine (codes "commits 1 ")
version_line = is_line (codes "commits 1 ") refl

pub head_unit : (pages sum : ℕ) → pages < 2 ^ 64 → sum < 2 ^ 64 → IsUnit (head_text pages sum ∷ [])
head_unit pages sum few small = (
  line_append (codes "commits 1 ") (decimal pages ++ 32 ∷ decimal sum) version_line (line_append (decimal pages) (32 ∷ decimal sum) (decimal_line pages few) (λ is. absurd (cc is), λ is. absurd (cc is), decimal_line sum small)),
  refl,
)

pub head_short : (pages sum : ℕ) → pages < 2 ^ 64 → sum < 2 ^ 64 → length (head_text pages sum) ≤ 64
head_short pages sum few small =
    omega (arith, length-decimal-le 20 pages (omega (arith, few)) (omega arith), length-decimal-le 20 sum (omega (arith, small)) (omega arith), length-append (codes "commits 1 ") (decimal pages ++ 32 ∷ decimal sum), length-append (decimal pages) (32 ∷ decimal sum))
