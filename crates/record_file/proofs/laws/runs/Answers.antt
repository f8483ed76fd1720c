use Rattle.std.proofs.Common.{◌≡◌, ℕ, ◌≤◌, ◌+◌, Bool, true, false, ◌&&◌, nat_le, is_none, List, refl, sym, ap, ◌∙◌, arith}
use Rattle.std.proofs.lemmas.Bool.Decides.{nat_tests}
use Rattle.std.specs.FinMap as maps
use Rattle.std.specs.FinMap.{len-empty}
use Rattle.std.specs.Ordering.{nat_cmp}
use Rattle.std.specs.Cmp.Lexicographic.{slice_cmp}
use Rattle.rec_types.specs.LimitBounds.{Bounds}
use Rattle.tx_log.specs.Transactions.{Transactions, fresh}
use Rattle.record_file.specs.Abstract.{File, new_file, is_full, charged_of}
use Rattle.record_file.specs.Runs.{Seen}
use Rattle.record_file.proofs.LogGrowthLemmas.{tells_none}
use Rattle.record_file.proofs.FirstStepLemmas.{start_kept_seen, first_kept}
use Rattle.record_file.proofs.laws.runs.Goals as goal

pub returns-clause-starts : goal.returns-clause-starts
returns-clause-starts c = start_kept_seen

pub returns-clause-begins : goal.returns-clause-begins
returns-clause-begins c = λ old limits kept some is tx one.
    let none = ap (λ (f : File). f.begun) is in
    let begun : old.file.begun + 1 ≡ 1 = ap (λ n. n + 1) none in
    let txs : maps.insert old.file.txs (old.file.begun + 1) fresh ≡ maps.insert maps.empty 1 fresh = λ i. maps.insert (ap (λ (f : File). f.txs) is i) (begun i) fresh in
    let new : Seen = record old { file = record old.file { begun = 1; txs = maps.insert maps.empty 1 fresh } } in
    let limit = ap (λ (f : File). f.limits.begins) is in (
      new,
      record {
        kept = kept;
        keeps = first_kept old limits kept some is;
        happens = record {
          undamaged = λ sound page named. absurd (cc named);
          failures = refl;
          refusals = refl;
          sound = refl;
          logged = refl;
          commits = λ _. refl;
          told = tells_none old.sound old.records old.records old.log old.log refl refl;
          answer = (
            (refl, refl, refl),
            (omega (arith, none, limit, some), one ∙ sym begun, λ i. record old.file { begun = sym begun i; txs = sym txs i }),
          );
        };
      },
      refl,
    )

both : (a b : Bool) → a && b ≡ true → b ≡ true
both true b is = is
both false b is = absurd (cc)

not_full : (f : File) (limits : Bounds) (key : List ℕ) (begun : ℕ) (txs : Transactions) → f ≡ record (new_file maps.empty limits) { begun = begun; txs = txs } → 1 ≤ limits.records → is_full f key ≡ true → ⊥
not_full f limits key begun txs is some full =
    let started : File = record (new_file maps.empty limits) { begun = begun; txs = txs } in
    let reached : nat_le limits.records (maps.len (maps.empty {K = List ℕ} {X = List ℕ} {R = slice_cmp nat_cmp})) ≡ true = both (is_none (maps.get (charged_of started) key)) (nat_le limits.records (maps.len (maps.empty {K = List ℕ} {X = List ℕ} {R = slice_cmp nat_cmp}))) (sym (ap (λ (g : File). is_full g key) is) ∙ full) in
    let none = len-empty (slice_cmp nat_cmp) (List ℕ) in
    absurd (omega (arith, some, at_most limits.records (maps.len (maps.empty {K = List ℕ} {X = List ℕ} {R = slice_cmp nat_cmp})) reached, none))
  where
    at_most : (a b : ℕ) → nat_le a b ≡ true → a ≤ b
    at_most a b is = grind (arith, nat_tests)

pub returns-clause-room : goal.returns-clause-room
returns-clause-room c = λ old new limits tx key value failed refused also_failed also_refused sound zero some is run.
    let first = run.1 in
    let then = run.2.1 in
    let mid_is = first.happens.answer.1.2 ∙ ap (λ (f : File). let g : File = record f { begun = old.file.begun + 1; txs = maps.insert old.file.txs (old.file.begun + 1) fresh } in g) is in
    let few = ap (λ (s : Seen). s.failures) first.happens.answer.0.2 ∙ zero in
    not_full run.0.file limits key (old.file.begun + 1) (maps.insert old.file.txs (old.file.begun + 1) fresh) mid_is some
    (then.happens.answer.1.step (first.happens.sound ∙ sound) (omega (arith, few))).0.2
