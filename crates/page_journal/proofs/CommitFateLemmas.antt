-- What a crash leaves of the logs of commits by the fates of the calls is one of what it may leave.
use Rattle.std.proofs.Common.{◌≡◌, inl, inr, ℕ, zero, suc, ◌+◌, ◌-◌, ◌≤◌, List, [], ◌∷◌, ◌++◌, length, take, drop, Option, Some, None, option_map, refl, sym, ◌∙◌, ap, arith, take-append-drop, append_assoc}
use Rattle.std.proofs.lemmas.List.{length-take, length-take-le, length-drop, drop-drop}
use Rattle.commit_paper.specs.Text.{zeros, Mixes}
use Rattle.commit_paper.specs.Steps.{Lengthens, Inks}
use Rattle.commit_paper.proofs.Inked.{lengthens_none, inks_none, inks_all}
use Rattle.page_journal.specs.Files.{CommitFiles}
use Rattle.page_journal.specs.Steps.{OnLog, ChangesLog, bytes_over, zeroed}
use Rattle.page_journal.specs.History.{commits_done, commits_lead}
use Rattle.page_journal.specs.Fates.{commits_torn, CommitsAgree, front_of}
use Rattle.page_journal.specs.declared.commit_call.CommitCall.{CommitCall}
use Rattle.page_journal.specs.declared.commit_call.CommitCall.TheVariants.{Start, SyncFresh, Name, Remove, Lengthen, Write, Sync}

on_log : (step : List ℕ → List ℕ → Type 0) (f : List ℕ → List ℕ) → ((b : List ℕ) → step b (f b)) → (o : Option (List ℕ)) → OnLog step o (option_map f o)
on_log step f does None = refl
on_log step f does (Some b) = (f b, refl, does b)

on_none : (step : List ℕ → List ℕ → Type 0) → ((b : List ℕ) → step b b) → (o : Option (List ℕ)) → OnLog step o o
on_none step does None = refl
on_none step does (Some b) = (b, refl, does b)

-- bytes of which the first are written
mixes_front : (k : ℕ) (olds news : List ℕ) → length olds ≡ length news → Mixes olds news (take k news ++ drop k olds)
mixes_front zero [] [] long = tt
mixes_front (suc k) [] [] long = tt
mixes_front k [] (n ∷ news) long = absurd (omega (arith, long))
mixes_front k (o ∷ olds) [] long = absurd (omega (arith, long))
mixes_front zero (o ∷ olds) (n ∷ news) long = (inl refl, mixes_front zero olds news (omega (arith, long)))
mixes_front (suc k) (o ∷ olds) (n ∷ news) long = (inr refl, mixes_front k olds news (omega (arith, long)))

drop_take : (k n : ℕ) (x : List ℕ) → k ≤ n → drop k (take n x) ++ drop n x ≡ drop k x
drop_take zero n x le = take-append-drop n x
drop_take (suc k) zero x le = absurd (omega (arith, le))
drop_take (suc k) (suc n) [] le = refl
drop_take (suc k) (suc n) (b ∷ x) le = drop_take k n x (omega (arith, le))

inks_front : (at : ℕ) (bytes d : List ℕ) → Inks at bytes d (bytes_over at (front_of bytes) d)
inks_front at bytes d =
    let k = length bytes - 1 in
    let front = take k bytes in
    let rest = drop k (take (length bytes) (drop at d)) in
    let long : length front ≡ k = length-take-le k bytes (omega arith) in
    record {
      mixed = front ++ rest;
      mixes = λ fits. mixes_front k (take (length bytes) (drop at d)) bytes (omega (arith, length-take (length bytes) (drop at d), fits, length-drop at d));
      spelt =
          ap (λ n. take at d ++ front ++ drop (at + n) d) long
          ∙ append_assoc (take at d) front (drop (at + k) d)
          ∙ ap (λ l. take at d ++ (front ++ l)) (sym (drop-drop k at d) ∙ sym (drop_take k (length bytes) (drop at d) (omega arith)) ∙ ap (λ l. rest ++ l) (drop-drop (length bytes) at d))
          ∙ ap (λ l. take at d ++ l) (sym (append_assoc front rest (drop (at + length bytes) d)))
          ∙ sym (append_assoc (take at d) (front ++ rest) (drop (at + length bytes) d));
    }

zeroes : (at n : ℕ) (b : List ℕ) → Lengthens at b (zeroed at n b)
zeroes at n b = record { more = zeros n; spelt = refl }

writes : (at : ℕ) (bytes b : List ℕ) → Inks at bytes b (bytes_over at bytes b)
writes at bytes b = inks_all at bytes b (bytes_over at bytes b) refl

-- what these do to the log of the name
pub zeroed_log : (at n : ℕ) (f : CommitFiles) → ChangesLog (Lengthens at) f (record f { log = option_map (zeroed at n) f.log })
zeroed_log at n f = (refl, on_log (Lengthens at) (zeroed at n) (zeroes at n) f.log)

pub same_log : (at : ℕ) (f : CommitFiles) → ChangesLog (Lengthens at) f f
same_log at f = (refl, on_none (Lengthens at) (lengthens_none at) f.log)

pub written_log : (at : ℕ) (bytes : List ℕ) (f : CommitFiles) → ChangesLog (Inks at bytes) f (record f { log = option_map (bytes_over at bytes) f.log })
written_log at bytes f = (refl, on_log (Inks at bytes) (bytes_over at bytes) (writes at bytes) f.log)

pub unwritten_log : (at : ℕ) (bytes : List ℕ) (f : CommitFiles) → ChangesLog (Inks at bytes) f f
unwritten_log at bytes f = (refl, on_none (Inks at bytes) (inks_none at bytes) f.log)

-- a call that is done, lost or torn
pub commits_fated : (call : CommitCall) (seen d : CommitFiles) → CommitsAgree call (commits_done call seen) d → commits_lead call seen d (commits_done call d) × commits_lead call seen d d × commits_lead call seen d (commits_torn call d)
commits_fated (Start bytes) seen d agree = (refl, refl, refl)
commits_fated SyncFresh seen d agree = ((refl, agree), (refl, agree), (refl, agree))
commits_fated Name seen d agree = (inr refl, inl refl, inl refl)
commits_fated Remove seen d agree = (inr refl, inl refl, inl refl)
commits_fated (Lengthen at n) seen d agree = (zeroed_log at n d, same_log at d, same_log at d)
commits_fated (Write at bytes) seen d agree = (
  written_log at bytes.items d,
  unwritten_log at bytes.items d,
  (refl, on_log (Inks at bytes.items) (bytes_over at (front_of bytes.items)) (inks_front at bytes.items) d.log),
)
commits_fated Sync seen d agree = ((refl, agree), (refl, agree), (refl, agree))

pub commits_itself : (call : CommitCall) (f : CommitFiles) → CommitsAgree call (commits_done call f) f
commits_itself (Start bytes) f = tt
commits_itself SyncFresh f = refl
commits_itself Name f = tt
commits_itself Remove f = tt
commits_itself (Lengthen at n) f = tt
commits_itself (Write at bytes) f = tt
commits_itself Sync f = inr refl
