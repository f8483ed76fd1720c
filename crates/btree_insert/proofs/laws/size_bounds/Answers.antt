use Rattle.btree_insert.proofs.SizeLemmas.{keys_bound, most_keys_bound, pages_bound}
use Rattle.btree_insert.proofs.laws.size_bounds.Goals as goal

pub returns-clause-keys : goal.returns-clause-keys
returns-clause-keys c = λ pages t es us some holds. keys_bound pages t es us some holds

pub returns-clause-most_keys : goal.returns-clause-most_keys
returns-clause-most_keys c = λ pages t es us holds. most_keys_bound pages t es us holds

pub returns-clause-pages : goal.returns-clause-pages
returns-clause-pages c = λ pages t es us order some holds. pages_bound pages t es us order some holds
