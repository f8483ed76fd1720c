-- Padding to a width.
use Rattle.std.proofs.Common.{◌≡◌, ℕ, ◌≤◌, ◌+◌, ◌-◌, List, ◌++◌, length, take, drop, replicate, ap, sym, ◌∙◌, arith, append_assoc, length-append}
use Rattle.std.proofs.lemmas.List.{length-replicate, drop-replicate, take-replicate, replicate-append-replicate}
use Rattle.std.proofs.Math.Seq.{take-append_seam, take-append-add}
use Rattle.rec_types.specs.Padded.{padded}

-- a padded list has the width
pub length-padded : (width : ℕ) (bytes : List ℕ) → length bytes ≤ width → length (padded width bytes) ≡ width
unfolding padded
length-padded width bytes fits = omega (arith, length-append {A = ℕ}, length-replicate {A = ℕ})

-- and begins with the bytes
pub take-padded : (width : ℕ) (bytes : List ℕ) → take (length bytes) (padded width bytes) ≡ bytes
unfolding padded
take-padded width bytes = take-append_seam bytes _

-- bytes written over the front of zeros
pub over_zeros : (width : ℕ) (bytes : List ℕ) → length bytes ≤ width → bytes ++ drop (length bytes) (replicate width 0) ≡ padded width bytes
unfolding padded
over_zeros width bytes fits = ap (λ zeros. bytes ++ zeros) (drop-replicate (length bytes) width 0)

-- the front of what was written, padded again, is the whole
pub padded-front : (width : ℕ) (bytes cells : List ℕ) → cells ≡ padded width bytes → padded width (take (length bytes) cells) ≡ cells
padded-front width bytes cells is = ap (padded width) (ap (take (length bytes)) is ∙ take-padded width bytes) ∙ sym is

-- a front written over zeros: the whole is the front padded
pub written : (width : ℕ) (bytes front : List ℕ) → front ≡ bytes → length bytes ≤ width → front ++ drop (length bytes) (replicate width 0) ≡ padded width bytes
written width bytes front is fits = ap (λ (xs : List ℕ). xs ++ drop (length bytes) (replicate width 0)) is ∙ over_zeros width bytes fits

-- zeros cut off behind the bytes
pub cut-padded : (narrow width : ℕ) (bytes : List ℕ) → length bytes ≤ narrow → narrow ≤ width → take narrow (padded width bytes) ≡ padded narrow bytes
unfolding padded
cut-padded narrow width bytes fits le =
    let rest : length bytes + (narrow - length bytes) ≡ narrow = omega (arith, fits) in
    ap (λ n. take n (bytes ++ replicate (width - length bytes) 0)) (sym rest)
    ∙ take-append-add bytes (replicate (width - length bytes) 0) (narrow - length bytes)
    ∙ ap (λ zeros. bytes ++ zeros) (take-replicate (narrow - length bytes) (width - length bytes) 0 (omega (arith, fits, le)))

-- zeros put behind the bytes
pub grown-padded : (narrow width : ℕ) (bytes : List ℕ) → length bytes ≤ narrow → narrow ≤ width → padded narrow bytes ++ replicate (width - narrow) 0 ≡ padded width bytes
unfolding padded
grown-padded narrow width bytes fits le =
    append_assoc bytes (replicate (narrow - length bytes) 0) (replicate (width - narrow) 0)
    ∙ ap (λ zeros. bytes ++ zeros) (replicate-append-replicate (narrow - length bytes) (width - narrow) 0 ∙ ap (λ n. replicate n 0) (omega (arith, fits, le)))
