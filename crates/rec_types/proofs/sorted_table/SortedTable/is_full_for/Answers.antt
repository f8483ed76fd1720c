use Rattle.std.proofs.Common.{◌≡◌, ℕ, ◌≤◌, ◌<◌, Bool, true, false, not, ◌&&◌, List, Option, Some, None, is_some, is_none, nat_le, refl, sym, ap, ◌∙◌, arith}
use Rattle.std.proofs.lemmas.Bool.Decides.{nat_tests}
use Rattle.std.specs.FinMap as maps
use Rattle.rec_types.specs.Sorted.{SortedState}
use Rattle.rec_types.proofs.HashedLemmas.{at_hash, len_hashed}
use Rattle.rec_types.proofs.sorted_table.SortedTable.is_full_for.Goals as goal

reaches : (a b : ℕ) → a ≤ b → nat_le a b ≡ true
reaches a b le = grind (arith, nat_tests)

stays_below : (a b : ℕ) → b < a → nat_le a b ≡ false
stays_below a b lt = grind (arith, nat_tests)

at_limit : (a r : Bool) (o : Option (List ℕ)) → a ≡ true → r ≡ is_some o → not r ≡ a && is_none o
at_limit true r None is here = ap not here
at_limit true r (Some x) is here = ap not here
at_limit false r o is here = absurd (cc)

below_limit : (a b : Bool) → a ≡ false → a ≡ a && b
below_limit true b is = absurd (cc)
below_limit false b is = refl

pub returns-then-len-self : goal.returns-then-len-self
returns-then-len-self c =
    let counts = c.len.ensures ∙ sym (len_hashed c.self.inside.records c.self.invariant.unique) ∙ ap (λ (s : SortedState). maps.len s.contents) c.self.view_is in
    let stood = sym (at_hash c.self.inside.records c.args.key.now) ∙ ap (λ (s : SortedState). maps.get s.contents c.args.key.now) c.self.view_is in
    at_limit (nat_le c.args.self.now.limit (maps.len c.args.self.now.contents)) c.contains_key.result (maps.get c.args.self.now.contents c.args.key.now)
    (sym (λ i. nat_le (ap (λ (s : SortedState). s.limit) c.self.view_is i) (counts i)) ∙ reaches _ _ c.if-len-self.true)
    (c.contains_key.ensures ∙ ap (λ (o : Option (List ℕ)). is_some o) stood)

pub returns-else-len-self : goal.returns-else-len-self
returns-else-len-self c =
    let counts = c.len.ensures ∙ sym (len_hashed c.self.inside.records c.self.invariant.unique) ∙ ap (λ (s : SortedState). maps.len s.contents) c.self.view_is in
    let reached : nat_le c.self.inside.limit c.len.result ≡ nat_le c.args.self.now.limit (maps.len c.args.self.now.contents) = λ i. nat_le (ap (λ (s : SortedState). s.limit) c.self.view_is i) (counts i) in
    reached ∙ below_limit (nat_le c.args.self.now.limit (maps.len c.args.self.now.contents)) (is_none (maps.get c.args.self.now.contents c.args.key.now)) (sym reached ∙ stays_below _ _ c.if-len-self.false)
