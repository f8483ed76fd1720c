-- `unseal` gives the pointer its type again, and what it owns goes with it.
use mathlib.Core.Path.{◌≡◌, refl, sym, subst, ap, ◌∙◌}
use mathlib.Core.List.{List, [], ◌∷◌, ◌++◌}
use seplogic.Ra.Ura.{Ura}
use mir.Val.{Val, vptr}
use mir.Raw.{raw as bare}
use base.Logic.{SProp, ent, never, fst∗}
use base.Fml.{ftrue, fsep}
use prog.Memory.{Memory}
use prog.Routine.{Routine}
use prog.Wp.{WpFn, Tables}
use types.Logic.{Logic, sem}
use contract.Monad.{Fun, fact}
use contract.Running.{tables, tables_of}
use sound.WpLaws.{WpFn-mono}
use types.Kit.{Item, ‵, raw, ◌⊛◌, ◌$◌, ◌∵◌, !, qed, by, move, keep, drop, use0, use1, join, split, fsplit, fjoin, rewrite, suffices, done}
use types.Part.{whole, sub, agg}
use types.Run.{stop, fld, no_more, and_then, of_opd, returns, enter}
use types.ByLocal.{alloc_all, pass_all, free_all, look_at, get, get_in, sets}
use denote.Exit.{yes}
use denote.RawPtr.{Ptr, ptr_val, block_ptr, null_ptr, in_a_block}
use denote.Memory.{lone}
use denote.Signature.{plain}
use denote.Steps.{nothing, heard}
use denote.Triple.Spec.{triple_of}
use denote.Triple.Table.{entered}
use denote.Triple.Walked.{says, Stays, stay_dropped, walk_of, ends_at, Goes-dropped, walk_Meets}
use Rattle.std.specs.Prelude.{Option, Some, IsSome}
use Rattle.std.specs.contracts.alloc.Global as heap
use Rattle.std.specs.contracts.impls.GlobalAllocator.TheImpl.{ghosts}
use Rattle.std.proofs.alloc.Global.TheLaws as heap_laws
use Rattle.std.proofs.alloc.Calls.{handle_tells}
use Rattle.recfile_c.specs.Roots.{root_owns}
use Rattle.recfile_c.specs.declared.handle.RecFile.{RecFile as Handle}
use Rattle.recfile_c.specs.contracts.handle.RecFile as handle
use Rattle.recfile_c.specs.contracts.handle.root.Root as root
use Rattle.recfile_c.proofs.Values.{both, alone, HandleLoose, loose_good, loose_in, root_out, al, some_of, some_is}
use Rattle.recfile_c.specs.contracts.handle.root.Root.unseal as F
use Rattle.recfile_c.specs.contracts.handle.root.Root.unseal.Key.{name as #self}
use Rattle.recfile_c.proofs.handle.root.Root.unseal.Statement as stated
use Rattle.recfile_c.proofs.handle.root.Root.unseal.Code as code

abbrev stayed : Stays (F.ended).signature.params (F.ended).kept
stayed = (stay_dropped (plain (λ _. root.the_row)) yes, (stay_dropped (plain (λ _. heap.the_row)) yes, tt))

module _ {M : Type 1} {𝓤 : Ura M} (𝓛 : Logic 𝓤) (at_mem : Memory → SProp 𝓤) (run : Routine → Fun 𝓤) (𝓣 : Tables 𝓤 𝓛.H) where
  open 𝓛 use {H}

  walk : (z : (walk_of 𝓛 F.ended stayed (F.clauses 𝓛 at_mem run)).Ghost)
      → ent 𝓤 ((walk_of 𝓛 F.ended stayed (F.clauses 𝓛 at_mem run)).pre z) (WpFn 𝓤 H 𝓣.C 𝓣.Λ code.function (z.0.4.0 ++ (z.0.4.1.0 ++ [])) ((walk_of 𝓛 F.ended stayed (F.clauses 𝓛 at_mem run)).post z))
  walk z =
      let Post = (walk_of 𝓛 F.ended stayed (F.clauses 𝓛 at_mem run)).post z in
      let v = z.0.3.0 in let a = z.0.3.1.0 in let vs = z.0.4.0 in let gs = z.0.4.1.0 in let R = handle.the_row in let Z = heap.the_row in let LZ = heap_laws.the_row_laws in
      qed 𝓛 ((‵ ftrue ⊛ ‵ (fsep (root.the_row.own_val v vs) (fsep (Z.own_val a gs) ftrue))) ∷ raw (fact 𝓤 (IsSome v.value)) ∷ []) ∵ split ! $ drop ! $ fsplit ! $
      move ! (2 ∷ []) $ heard ! (IsSome v.value) (λ some. root_out ! v vs (λ ev.
      rewrite ! 0 (λ (x : Option Handle). ‵ (root_owns v.at x)) (some_is v.value some) refl $
      let x : Handle = some_of v.value some in
      in_a_block ! v.at (λ p. root_owns p (Some x)) (fst∗ 𝓤 (never 𝓤) (sem 𝓛 (ghosts.dealloc_token (record { memory = record { seal = tt } }) (bare (lone R.mir)) null_ptr))) (λ b o e.
      move ! (1 ∷ []) $ fsplit ! $ handle_tells (al R Z LZ ghosts) ! a gs (λ h eh fits.
      keep ! (2 ∷ 0 ∷ []) $ loose_in R Z LZ ghosts ! b o h a x $
      let w : Val = alone (vptr b o) in let made : HandleLoose.Denot = record { at = block_ptr b o; alloc = a; value = x } in
      let Γ : List (Item 𝓤) = ‵ (HandleLoose.own_val made (both (vptr b o) h ∷ [])) ∷ [] in
      let ew : vs ≡ w ∷ [] = ev ∙ ap (λ (p : Ptr). alone (ptr_val p) ∷ []) e in
      by ! (subst (λ (us : List Val). ent 𝓤 (types.Kit.⋆ 𝓛 Γ) (WpFn 𝓤 H 𝓣.C 𝓣.Λ code.function (us ++ (gs ++ [])) Post)) (sym ew)
      (subst (λ (us : List Val). ent 𝓤 (types.Kit.⋆ 𝓛 Γ) (WpFn 𝓤 H 𝓣.C 𝓣.Λ code.function (w ∷ (us ++ [])) Post)) (sym eh)
      (qed 𝓛 Γ ∵ enter ! 𝓣.C 𝓣.Λ code.function (w ∷ h ∷ []) _ $ alloc_all ! (λ ls. pass_all ! refl ((tt, (tt, tt)), (fits, tt)) $
      sets ! (of_opd ! (get_in ! (fld ! refl (stop !)) (sub ! 0 refl (whole !)))) refl (tt, tt) $
      sets ! (agg ! (and_then ! (get ! refl) (and_then ! (get ! refl) (no_more !)))) refl (loose_good R Z LZ ghosts b o h fits) $ returns ! (look_at ! 0 refl) $ free_all ! refl $
      suffices ! _ (ends_at 𝓛 F.ended stayed (F.clauses 𝓛 at_mem run) z (both (vptr b o) h) made (tt, (tt, tt)) (tt, (tt, tt))) $ says ! (some_is v.value some) $
      nothing ! $ nothing ! $ fjoin ! $ nothing ! $ fjoin ! $ join ! $ nothing ! $ join ! $ done !))))))))

pub unseal_spec : {M : Type 1} → stated.statement M
unfolding tables_of
unseal_spec 𝓤 𝓛 𝓜 𝓡 wired =
    let 𝓣 : Tables 𝓤 𝓛.H = tables_of 𝓤 𝓛.H 𝓜 (tables 𝓤 𝓛.H 𝓜 𝓡 𝓡.env) in
    entered 𝓤 𝓛.H (triple_of 𝓛 F.signature (F.spec 𝓛 𝓜.mem 𝓡.returns)) 𝓣.C 𝓣.Λ #self code.function (code.unfolded 𝓤 𝓛.H 𝓜 𝓡 wired)
    (walk_Meets 𝓛 F.ended stayed (Goes-dropped 𝓛 0 (plain (λ _. root.the_row)) yes (λ κs x f. refl), (Goes-dropped 𝓛 0 (plain (λ _. heap.the_row)) yes (λ κs x f. refl), tt)) (F.clauses 𝓛 𝓜.mem 𝓡.returns) (WpFn 𝓤 𝓛.H 𝓣.C 𝓣.Λ code.function) (WpFn-mono 𝓤 𝓛.H 𝓛.laws 𝓣 code.function)
    (walk 𝓛 𝓜.mem 𝓡.returns 𝓣))
