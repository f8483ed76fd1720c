-- A table in a hashed map.
use Rattle.std.specs.Prelude.{◌≡◌, ℕ, ◌==◌, Bool, T, List, [], slice_index_or, refl}
use Rattle.std.specs.Coded.{Coded, code_by, coded×, coded_ℕ}
use Rattle.std.specs.FinMap as maps
use Rattle.std.specs.Ordering.{nat_cmp}
use Rattle.std.specs.Cmp.Lexicographic.{slice_cmp, pointwise}
use Rattle.rec_types.specs.Calls.{coded_calls}
use Rattle.rec_types.specs.Contents.{Contents, coded_contents}
use Rattle.rec_types.specs.declared.table_calls.TableCalls.{TableCalls}

-- the records, how many there are at most, how many growths were refused, and how often the table was called
pub record SortedState : Type 0 where
  pub contents : Contents
  pub limit : ℕ
  pub refusals : ℕ
  pub calls : TableCalls

abbrev pub coded_sorted_state : Coded SortedState
coded_sorted_state = code_by (Contents × (ℕ × (ℕ × TableCalls))) (coded× coded_contents (coded× coded_ℕ (coded× coded_ℕ coded_calls))) (λ s. (s.contents, (s.limit, (s.refusals, s.calls)))) (λ p. record { contents = p.0; limit = p.1.0; refusals = p.1.1.0; calls = p.1.1.1 }) (λ _. refl)

-- nothing of it changes
abbrev pub IsSameTable : SortedState → SortedState → Type 0
IsSameTable old new = new ≡ old

abbrev pub Pairs : Type 0
Pairs = List (List ℕ × List ℕ)

abbrev pub is_sorted : Pairs → Type 0
is_sorted es = T (maps.is_sorted (slice_cmp nat_cmp) es)

-- the test of keys that a hashed map goes by
abbrev pub same_bytes : List ℕ → List ℕ → Bool
same_bytes a b = pointwise ◌==◌ a b

abbrev pub pair_at : Pairs → ℕ → List ℕ × List ℕ
pair_at es place = slice_index_or es place ([], [])
