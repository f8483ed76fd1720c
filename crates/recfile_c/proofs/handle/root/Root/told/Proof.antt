-- `told` shows the pointer beside what it belongs to.
use mathlib.Core.Path.{refl, sym, subst}
use mathlib.Core.List.{List, [], ◌∷◌, ◌++◌}
use seplogic.Ra.Ura.{Ura}
use mir.Val.{Val}
use base.Logic.{SProp, ent, emp}
use base.Fml.{ftrue, fsep}
use prog.Memory.{Memory}
use prog.Routine.{Routine}
use prog.Wp.{WpFn, Tables}
use types.Logic.{Logic}
use contract.Monad.{Fun}
use contract.Running.{tables, tables_of}
use sound.WpLaws.{WpFn-mono}
use types.Kit.{Item, ‵, raw, ◌⊛◌, ◌$◌, ◌∵◌, !, qed, by, move, keep, drop, join, split, fsplit, fjoin, feq_i, fpack, suffices, done}
use types.Part.{whole, sub, agg}
use types.Run.{stop, fld, no_more, and_then, of_opd, returns, enter}
use types.ByLocal.{alloc_all, pass_all, free_all, look_at, get, get_in, sets}
use denote.Builtin.{RawPtr}
use denote.Exit.{yes}
use denote.RattleType.{Valss}
use denote.RawPtr.{Ptr, ptr_val}
use denote.Signature.{plain}
use denote.Steps.{nothing}
use denote.Struct.Struct.{within}
use denote.Struct.Declared.{shape}
use denote.Struct.Tuple.{tuple_type}
use denote.Triple.Spec.{triple_of}
use denote.Triple.Table.{entered}
use denote.Triple.Walked.{says, Stays, stay_dropped, walk_of, ends_at, Goes-dropped, walk_Meets}
use Rattle.recfile_c.specs.contracts.handle.root.Root as root
use Rattle.recfile_c.proofs.Values.{both, alone, root_out, root_in, pointer_good, alone_good, told_good}
use Rattle.recfile_c.specs.contracts.handle.root.Root.told as F
use Rattle.recfile_c.specs.contracts.handle.root.Root.told.Key.{name as #self}
use Rattle.recfile_c.proofs.handle.root.Root.told.Statement as stated
use Rattle.recfile_c.proofs.handle.root.Root.told.Code as code

abbrev stayed : Stays (F.ended).signature.params (F.ended).kept
stayed = (stay_dropped (plain (λ _. root.the_row)) yes, tt)

module _ {M : Type 1} {𝓤 : Ura M} (𝓛 : Logic 𝓤) (at_mem : Memory → SProp 𝓤) (run : Routine → Fun 𝓤) (𝓣 : Tables 𝓤 𝓛.H) where
  open 𝓛 use {H}

  walk : (z : (walk_of 𝓛 F.ended stayed (F.clauses 𝓛 at_mem run)).Ghost)
      → ent 𝓤 ((walk_of 𝓛 F.ended stayed (F.clauses 𝓛 at_mem run)).pre z) (WpFn 𝓤 H 𝓣.C 𝓣.Λ code.function (z.0.4.0 ++ []) ((walk_of 𝓛 F.ended stayed (F.clauses 𝓛 at_mem run)).post z))
  walk z =
      let Post = (walk_of 𝓛 F.ended stayed (F.clauses 𝓛 at_mem run)).post z in
      let v = z.0.3.0 in let vs = z.0.4.0 in let p : Ptr = v.at in
      qed 𝓛 ((‵ ftrue ⊛ ‵ (fsep (root.the_row.own_val v vs) ftrue)) ∷ raw (emp 𝓤) ∷ []) ∵ split ! $ drop ! $ fsplit ! $
      root_out ! v vs (λ ev. root_in ! v $ keep ! (0 ∷ []) $
      let w : Val = alone (ptr_val p) in let out : Val = both (ptr_val p) w in
      let Γ : List (Item 𝓤) = ‵ (root.the_row.own_val v (w ∷ [])) ∷ [] in
      by ! (subst (λ (us : List Val). ent 𝓤 (types.Kit.⋆ 𝓛 Γ) (WpFn 𝓤 H 𝓣.C 𝓣.Λ code.function (us ++ []) Post)) (sym ev)
      (qed 𝓛 Γ ∵ enter ! 𝓣.C 𝓣.Λ code.function (w ∷ []) _ $ alloc_all ! (λ ls. pass_all ! refl (alone_good p, tt) $
      sets ! (of_opd ! (get_in ! (fld ! refl (stop !)) (sub ! 0 refl (whole !)))) refl (pointer_good p) $
      sets ! (agg ! (and_then ! (get ! refl) (no_more !))) refl (alone_good p) $
      sets ! (agg ! (and_then ! (get ! refl) (and_then ! (get ! refl) (no_more !)))) refl (told_good p) $ returns ! (look_at ! 0 refl) $ free_all ! refl $
      suffices ! _ (ends_at 𝓛 F.ended stayed (F.clauses 𝓛 at_mem run) z out (p, v) (tt, tt) (tt, tt)) $ says ! (refl, v.handed) $
      nothing ! $ move ! (1 ∷ 0 ∷ []) $ fjoin ! $ feq_i ! (List Val) (ptr_val p ∷ []) (ptr_val p ∷ []) refl $ fjoin ! $ feq_i ! (List Val) (out ∷ []) (out ∷ []) refl $ fjoin ! $
      fpack ! (Valss (RawPtr ∷ root.the_row ∷ [])) (within (shape (tuple_type (RawPtr ∷ root.the_row ∷ []))) (p, (v, tt)) (out ∷ [])) (ptr_val p ∷ [], (w ∷ [], tt)) $
      nothing ! $ nothing ! $ fjoin ! $ join ! $ nothing ! $ join ! $ done !))))

pub told_spec : {M : Type 1} → stated.statement M
unfolding tables_of
told_spec 𝓤 𝓛 𝓜 𝓡 wired =
    let 𝓣 : Tables 𝓤 𝓛.H = tables_of 𝓤 𝓛.H 𝓜 (tables 𝓤 𝓛.H 𝓜 𝓡 𝓡.env) in
    entered 𝓤 𝓛.H (triple_of 𝓛 F.signature (F.spec 𝓛 𝓜.mem 𝓡.returns)) 𝓣.C 𝓣.Λ #self code.function (code.unfolded 𝓤 𝓛.H 𝓜 𝓡 wired)
    (walk_Meets 𝓛 F.ended stayed (Goes-dropped 𝓛 0 (plain (λ _. root.the_row)) yes (λ κs x f. refl), tt) (F.clauses 𝓛 𝓜.mem 𝓡.returns) (WpFn 𝓤 𝓛.H 𝓣.C 𝓣.Λ code.function) (WpFn-mono 𝓤 𝓛.H 𝓛.laws 𝓣 code.function)
    (walk 𝓛 𝓜.mem 𝓡.returns 𝓣))
