-- The three limits of a session.
use Rattle.std.specs.Prelude.{ℕ, refl}
use Rattle.std.specs.Coded.{Coded, code_by, coded×, coded_ℕ}

pub record Bounds : Type 0 where
  pub records : ℕ
  pub log_records : ℕ
  pub begins : ℕ

-- the greatest of each
abbrev pub most_records : ℕ
most_records = 1000000

abbrev pub most_log_records : ℕ
most_log_records = 4000000

abbrev pub most_begins : ℕ
most_begins = 1000000

abbrev pub coded_bounds : Coded Bounds
coded_bounds = code_by (ℕ × (ℕ × ℕ)) (coded× coded_ℕ (coded× coded_ℕ coded_ℕ)) (λ b. (b.records, (b.log_records, b.begins))) (λ p. record { records = p.0; log_records = p.1.0; begins = p.1.1 }) (λ _. refl)
