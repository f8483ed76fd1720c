use Rattle.std.proofs.Common.{◌≡◌, ◌-◌, ℕ, Bool, true, false, refl, Some, None, cond, eqb, eq-eqb, sym, ap, ◌∙◌, arith}
use Rattle.std.proofs.lemmas.Grind.{elements}
use Rattle.tx_log.proofs.Chains.{same_number}
use Rattle.tx_log.proofs.KeptLogLemmas.{some_of}
use Rattle.tx_log.proofs.KeyPlaces.{key_read, key_write, taken_there}
use Rattle.tx_log.specs.Holdings.{holdings_in, same_bytes}
use Rattle.tx_log.specs.declared.holding.Holding.{Holding}
use Rattle.tx_log.proofs.holding.lower.Goals as goal

pub returns-then-last : goal.returns-then-last
returns-then-last c = λ h there.
    let m = c.args.holdings.now in
    let k = c.args.key.now in
    let at = c.place_of_key-at.result in
    let e = c.index-2.result.now in
    let w = c.index.result.now in
    let stands = c.place_of_key-at.ensures.stands in
    let read : e ≡ h = some_of e h (sym (key_read m k at e stands c.index-2.ensures) ∙ there) in
    let read_was : w ≡ h = some_of w h (sym (key_read m k at w stands c.index.ensures) ∙ there) in
    let one : h.live ≡ 1 = ap (λ (x : Holding). x.live) (sym read) ∙ c.if-last.true in (
      ap (λ (x : Holding). x.absent) read_was,
      λ q.
          taken_there m c.swap_remove_index.new.self k at c.swap_remove_index.result stands c.swap_remove_index.ensures.entry c.swap_remove_index.ensures.updates q
          ∙ ap (λ (b : Bool). cond (same_bytes k q) (cond b None (Some (record { owner = h.owner; live = h.live - 1; absent = c.args.absent }))) (holdings_in m q)) (sym (eq-eqb h.live 1 one)),
    )

pub returns-else-last : goal.returns-else-last
returns-else-last c = λ h there.
    let m = c.args.holdings.now in
    let k = c.args.key.now in
    let at = c.place_of_key-at.result in
    let d = c.index_mut-holding.result.now in
    let e = c.index-2.result.now in
    let w = c.index.result.now in
    let will = c.args.absent in
    let stands = c.place_of_key-at.ensures.stands in
    let same : d ≡ h = some_of d h (sym (key_read m k at d stands c.index_mut-holding.ensures.value) ∙ there) in
    let read : e ≡ h = some_of e h (sym (key_read m k at e stands c.index-2.ensures) ∙ there) in
    let read_was : w ≡ h = some_of w h (sym (key_read m k at w stands c.index.ensures) ∙ there) in
    let more : eqb h.live 1 ≡ false = ap (λ (x : Holding). eqb x.live 1) (sym read) ∙ differs_from e.live c.if-last.false in (
      ap (λ (x : Holding). x.absent) read_was,
      λ q.
          key_write m k at (record { owner = d.owner; live = d.live - 1; absent = will }) stands q
          ∙ ap (λ (x : Holding). cond (same_bytes k q) (Some (record { owner = x.owner; live = x.live - 1; absent = will })) (holdings_in m q)) same
          ∙ ap (λ (b : Bool). cond (same_bytes k q) (cond b None (Some (record { owner = h.owner; live = h.live - 1; absent = will }))) (holdings_in m q)) (sym more),
    )
  where
    differs_from : (n : ℕ) → (n ≡ 1 → ⊥) → eqb n 1 ≡ false
    differs_from n other = differs_case (eqb n 1) refl
      where
        differs_case : (b : Bool) → eqb n 1 ≡ b → b ≡ false
        differs_case true f = absurd (other (same_number n 1 f))
        differs_case false f = refl

pub overflow_sub-holding : goal.overflow_sub-holding
overflow_sub-holding c = grind (arith, elements)
