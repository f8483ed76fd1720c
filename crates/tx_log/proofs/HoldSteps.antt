-- Holdings along the calls of a log.
use Rattle.std.proofs.Common.{◌≡◌, ℕ, ◌+◌, ◌-◌, ◌<◌, Bool, true, false, cond, eqb, List, [], Option, Some, None, IfSome, is_some, refl, sym, ap, subst, ◌∙◌, arith, eq-eqb}
use Rattle.std.specs.List.{list_any}
use Rattle.std.proofs.lemmas.Bool.Decides.{nat_tests}
use Rattle.tx_log.proofs.HoldingLemmas.{held_begun, held_ended, Freed, same_bytes-key}
use Rattle.rec_types.proofs.ContentsLemmas.{same_key-of}
use Rattle.tx_log.proofs.OpenTxLemmas.{opens-put, opens-remove, begun_of}
use Rattle.tx_log.specs.Finds.{Txs, PutsAt}
use Rattle.tx_log.specs.Fits.{AllFit}
use Rattle.tx_log.specs.Holdings.{HoldsKey, same_bytes, Places, lowered, IsHeld, AllBusy}
use Rattle.tx_log.specs.Log.{stack}
use Rattle.tx_log.specs.OpenTxs.{opens}
use Rattle.tx_log.specs.Walks.{is_at}
use Rattle.tx_log.specs.declared.holding.Holding.{Holding}
use Rattle.tx_log.specs.declared.log_record.LogRecord.{LogRecord}
use Rattle.tx_log.specs.declared.open_tx.OpenTx.{OpenTx}

-- a transaction whose numbers change stays open
pub held_put : (rs : List LogRecord) (old new : Txs) (holds : HoldsKey) (t : ℕ) (e d : OpenTx) → PutsAt old new t (Some d) → old t ≡ Some e → IsHeld rs (opens old) holds → IsHeld rs (opens new) holds
held_put rs old new holds t e d puts there is = subst (λ (o : ℕ → Bool). IsHeld rs o holds) (sym (opens-put t old new d e puts there)) is

-- it ends, and its keys are freed
held_closed : (rs : List LogRecord) (old new : Txs) (holds holds_new : HoldsKey) (t : ℕ) (e : OpenTx) → PutsAt old new t None → old t ≡ Some e → Freed holds holds_new (stack t rs) → IsHeld rs (opens old) holds → IsHeld rs (opens new) holds_new
held_closed rs old new holds holds_new t e puts there freed is = subst (λ (o : ℕ → Bool). IsHeld rs o holds_new) (sym (opens-remove t old new puts)) (held_ended rs (opens old) holds holds_new t is (ap is_some there) freed)

-- with the last one all keys are forgotten

nothing_held : (rs : List LogRecord) (is_open : ℕ → Bool) (holds : HoldsKey) → ((t : ℕ) → is_open t ≡ false) → ((q : List ℕ) → holds q ≡ None) → IsHeld rs is_open holds
nothing_held rs is_open holds closed none = record {
  counted = λ t k opened. absurd (let no : false ≡ true = sym (closed t) ∙ opened in cc);
  marked = λ t k opened. absurd (let no : false ≡ true = sym (closed t) ∙ opened in cc);
  owned = λ k. subst (λ (o : Option Holding). IfSome o (λ h. 0 < h.live → is_open h.owner.0 ≡ true)) (sym (none k)) tt;
  idle_there = λ k. subst (λ (o : Option Holding). IfSome o (λ h. h.live ≡ 0 → h.absent ≡ false)) (sym (none k)) tt;
}

-- a transaction ends, whether or not it is the last that is open
pub held_after : (b : Bool) (rs : List LogRecord) (old new : Txs) (holds holds_new : HoldsKey) (t : ℕ) (e : OpenTx) → PutsAt old new t None → old t ≡ Some e → (b ≡ true → (u : ℕ) → opens new u ≡ false) → (b ≡ true → (q : List ℕ) → holds_new q ≡ None) → (b ≡ false → Freed holds holds_new (stack t rs)) → IsHeld rs (opens old) holds → IsHeld rs (opens new) holds_new
held_after true rs old new holds holds_new t e puts there closed none freed is = nothing_held rs (opens new) holds_new (closed refl) (none refl)
held_after false rs old new holds holds_new t e puts there closed none freed is = held_closed rs old new holds holds_new t e puts there (freed refl) is

-- a new one has no key
pub held_more : (rs : List LogRecord) (old new : Txs) (holds : HoldsKey) (n : ℕ) (e : OpenTx) → AllFit rs n old → PutsAt old new (n + 1) (Some e) → stack (n + 1) rs ≡ [] → IsHeld rs (opens old) holds → IsHeld rs (opens new) holds
held_more rs old new holds n e fit puts none is = held_begun rs (opens old) (opens new) holds n is (λ t h. (begun_of rs n t old fit h).1) (λ t apart. ap is_some (puts t) ∙ ap (λ (b : Bool). is_some (cond b (Some e) (old t))) apart) (ap is_some (puts (n + 1)) ∙ ap (λ (b : Bool). is_some (cond b (Some e) (old (n + 1)))) (eq-eqb (n + 1) (n + 1) refl)) none

-- ---- keys at which no change is live

busy_case : (b : Bool) (w o : Option Holding) (P : Holding → Type 0) → IfSome w P → IfSome o P → IfSome (cond b w o) P
busy_case true w o P this other = this
busy_case false w o P this other = other

-- a key with a live change is put in: still only the key left over has none
pub busy_placed : (old new : HoldsKey) (k : List ℕ) (w : Option Holding) (over : Option (List ℕ)) → Places old new k w → IfSome w (λ h. 0 < h.live) → AllBusy old over → AllBusy new over
busy_placed old new k w over places some is = λ q. subst (λ (o : Option Holding). IfSome o (λ h. h.live ≡ 0 → over ≡ Some q)) (sym (places q)) (busy_case (same_bytes k q) w (old q) (λ h. h.live ≡ 0 → over ≡ Some q) (never w some q) (is q))
  where
    never : (o : Option Holding) → IfSome o (λ h. 0 < h.live) → (q : List ℕ) → IfSome o (λ h. h.live ≡ 0 → over ≡ Some q)
    never None h q = tt
    never (Some x) h q = λ none. absurd (omega (arith, h, none))

-- the key left over has a live change then: none is left over
pub busy_now : (old new : HoldsKey) (k : List ℕ) (h : Holding) (over : Option (List ℕ)) → over ≡ Some k → Places old new k (Some h) → 0 < h.live → AllBusy old over → AllBusy new None
busy_now old new k h over at places some is = λ q. subst (λ (o : Option Holding). IfSome o (λ x. x.live ≡ 0 → None ≡ Some q)) (sym (places q)) (of q (same_bytes k q) refl)
  where
    other : (q : List ℕ) → same_bytes k q ≡ false → (o : Option Holding) → IfSome o (λ x. x.live ≡ 0 → over ≡ Some q) → IfSome o (λ x. x.live ≡ 0 → None ≡ Some q)
    other q apart None known = tt
    other q apart (Some x) known = λ none.
        let same : k ≡ q = cc (sym at ∙ known none) in
        let met : same_bytes k k ≡ true = same_bytes-key k k ∙ same_key-of k k refl in
        absurd (cc (sym met ∙ ap (same_bytes k) same ∙ apart))

    of : (q : List ℕ) (b : Bool) → same_bytes k q ≡ b → IfSome (cond b (Some h) (old q)) (λ x. x.live ≡ 0 → None ≡ Some q)
    of q true met = λ none. absurd (omega (arith, some, none))
    of q false apart = other q apart (old q) (is q)

-- keys are taken out: still only the key left over has no live change
busy_freed : (old new : HoldsKey) (us : List LogRecord) (over : Option (List ℕ)) → Freed old new us → AllBusy old over → AllBusy new over
busy_freed old new us over freed is = λ q. subst (λ (o : Option Holding). IfSome o (λ h. h.live ≡ 0 → over ≡ Some q)) (sym (freed q)) (busy_case (list_any (is_at q) us) None (old q) (λ h. h.live ≡ 0 → over ≡ Some q) tt (is q))

-- the same where a transaction ends
pub busy_after : (b : Bool) (old new : HoldsKey) (us : List LogRecord) (over : Option (List ℕ)) → (b ≡ true → (q : List ℕ) → new q ≡ None) → (b ≡ false → Freed old new us) → AllBusy old over → AllBusy new over
busy_after true old new us over none freed is = λ q. subst (λ (o : Option Holding). IfSome o (λ h. h.live ≡ 0 → over ≡ Some q)) (sym (none refl q)) tt
busy_after false old new us over none freed is = busy_freed old new us over (freed refl) is

-- a key that keeps a live change stays
pub lowered_busy : (h : Holding) (n : ℕ) (absent : Bool) → h.live ≡ n + 1 → IfSome (lowered h absent) (λ x. 0 < x.live)
lowered_busy h n absent live = lowered_case (eqb h.live 1) refl
  where
    lowered_case : (b : Bool) → eqb h.live 1 ≡ b → IfSome {T = Holding} (cond b None (Some (record { owner = h.owner; live = h.live - 1; absent = absent }))) (λ x. 0 < x.live)
    lowered_case true f = tt
    lowered_case false f = more h.live live f
      where
        more : (m : ℕ) → m ≡ n + 1 → eqb m 1 ≡ false → 0 < m - 1
        more m e f = grind (arith, nat_tests)
