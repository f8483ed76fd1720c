-- A page that was fetched is in use.
use Rattle.std.proofs.Common.{◌≡◌, ◌↔◌, true, List, ℕ, Option, Some, None, Result, Ok, Err, IsSome, is_ok, refl}
use Rattle.std.proofs.lemmas.Bool.{false≢true}
use Rattle.page_store.specs.declared.page_edit.FetchFault.{FetchFault}
use Rattle.page_store.specs.declared.page_edit.FetchFault.TheVariants.{OutOfRange}

-- a page that is fetched is in use
pub in_use_where_fetched : (r : Result (Unit {0}) FetchFault) (page : Option (List ℕ)) → is_ok r ≡ true → (r ≡ Err OutOfRange) ↔ (page ≡ None) → IsSome page
in_use_where_fetched r (Some bytes) ok when = refl
in_use_where_fetched (Ok x) None ok when = let e = when.1 refl in absurd (cc)
in_use_where_fetched (Err fault) None ok when = absurd (false≢true ok)
