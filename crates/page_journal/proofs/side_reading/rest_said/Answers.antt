use Rattle.std.proofs.Common.{◌≡◌, ℕ, List, Some, None, Bool, cond, drop, ap, sym, ◌∙◌}
use Rattle.std.proofs.lemmas.Bool.{eq-eqb}
use Rattle.byteorder.specs.Endian.{big_number}
use Rattle.page_journal.specs.SideBytes.{read_rest}
use Rattle.page_journal.proofs.side_reading.rest_said.Goals as goal

version_2 : (bytes : List ℕ) (version : ℕ) → version ≡ big_number 2 (drop 8 bytes) → version ≡ 2 → Some (big_number 8 (drop 24 bytes)) ≡ read_rest bytes
version_2 bytes version is two = sym (ap (λ (b : Bool). cond b (Some (big_number 8 (drop 24 bytes))) None) (eq-eqb (big_number 2 (drop 8 bytes)) 2 (sym is ∙ two)))

pub returns-then-version_said-eq-VERSION : goal.returns-then-version_said-eq-VERSION
returns-then-version_said-eq-VERSION c = ap (λ (n : ℕ). Some n) c.sum_said.ensures ∙ version_2 c.args.bytes.now c.version_said.result c.version_said.ensures c.if-version_said-eq-VERSION.true
