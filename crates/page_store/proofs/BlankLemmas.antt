-- Pages of zeros, more of them and one of them written again.
use Rattle.std.proofs.Common.{◌≡◌, ℕ, ◌+◌, ◌-◌, ◌≤◌, ◌++◌, length, ap, sym, ◌∙◌, arith}
use Rattle.std.proofs.lemmas.List.{length-replicate, replicate-append-replicate}
use Rattle.page_store.specs.Blank.{blank, blanks}

-- more blank pages are fewer ones and the rest
pub blanks_more : (few many : ℕ) → few ≤ many → blanks many ≡ blanks few ++ blanks (many - length (blanks few))
blanks_more few many fits =
    let long : few + (many - length (blanks few)) ≡ many = omega (arith, length-replicate few blank) in
    sym (replicate-append-replicate few (many - length (blanks few)) blank ∙ ap blanks long)
