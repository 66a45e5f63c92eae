-- `vacant` puts the two fields together, which owns nothing.
use mathlib.Core.Path.{refl, sym, subst}
use mathlib.Core.List.{List, [], ◌∷◌, ◌++◌}
use lib.Dec.{T}
use mir.Syntax.{ty_ptr}
use mir.Val.{Val, has_ty, WT}
use base.Logic.{SProp, ent, emp, id⊢}
use base.Fml.{ftrue}
use prog.Wp.{WpFn}
use types.Kit.{‵, raw, ◌⊛◌, ◌$◌, ◌∵◌, !, qed, move, drop, join, split, fsplit, fjoin, feq_l, rewrite, suffices, done}
use types.Part.{agg}
use types.Run.{no_more, and_then, returns, enter}
use types.ByLocal.{alloc_all, pass_all, free_all, look_at, get, sets}
use contract.Running.{tables}
use denote.Exit.{yes}
use denote.RawPtr.{RawPtr, ptr_val, rawptr_Lawful}
use denote.RattleType.{owns}
use denote.Param.{layout}
use denote.Signature.{types_at, type_at, plain}
use denote.Steps.{nothing}
use denote.Triple.Walked.{says, Stays, stay_dropped, walk_of, ends_at, Goes-dropped}
use Rattle.std.proofs.raw_atomic.Walks.{proved_at}
use Rattle.std.specs.Prelude.{None}
use Rattle.jser_ffi.proofs.AsFilterBox.{E, Z, both_tt, handle, handle_in, one, pair}
use Rattle.jser_ffi.specs.contracts.held_filter.HeldFilter.vacant as F
use Rattle.jser_ffi.specs.contracts.held_filter.HeldFilter.vacant.Key.{name as #self}
use Rattle.jser_ffi.proofs.held_filter.HeldFilter.vacant.Statement.{statement}
use Rattle.jser_ffi.proofs.held_filter.HeldFilter.vacant.Code as code

abbrev stayed : Stays (F.ended).signature.params (F.ended).kept
stayed = (stay_dropped (plain (λ _. RawPtr)) yes, (stay_dropped (plain (λ _. Z)) yes, tt))

pub vacant_spec : {M : Type 1} → statement M
vacant_spec 𝓤 𝓛 𝓜 𝓡 wired =
    let H = 𝓛.H in let 𝓣 = tables 𝓤 H 𝓜 𝓡 𝓡.env in let c = F.clauses 𝓛 𝓜.mem 𝓡.returns in
    proved_at 𝓛 F.ended stayed c 𝓜 𝓡 (Goes-dropped 𝓛 0 (plain (λ _. RawPtr)) yes (λ κs x f. refl), (Goes-dropped 𝓛 0 (plain (λ _. Z)) yes (λ κs x f. refl), tt))
    #self code.function (code.unfolded 𝓤 H 𝓜 𝓡 wired) (λ z are.
    let κs = z.0.0 in let Post : Val → SProp 𝓤 = (walk_of 𝓛 F.ended stayed c).post z in let Run : List Val → SProp 𝓤 = λ ws. WpFn 𝓤 H 𝓣.C 𝓣.Λ code.function ws Post in
    let at = z.0.3.0 in let a = z.0.3.1.0 in let To = type_at (F.signature).result tt in
    let h = one (layout Z) z.0.4.1.0 ((E.al.laws.lawful 𝓛).typed a z.0.4.1.0 are.1.0) in
    let p = ((rawptr_Lawful 𝓛).typed at (ptr_val at ∷ []) refl).0 in
    let w : Val = pair (ptr_val at) h.0 in
    let made : To.Denot = handle at a None in
    let good : T (has_ty (layout To) w) × WT w = (both_tt (has_ty ty_ptr (ptr_val at)) (has_ty (layout Z) h.0) p.0 h.2.0, (p.1, (h.2.1, tt))) in
    qed 𝓛 ((‵ ftrue ⊛ ‵ (owns (types_at (F.signature).params κs) z.0.3 z.0.4)) ∷ raw (emp 𝓤) ∷ []) ∵ split ! $ drop ! $ fsplit ! $ feq_l ! (λ ep. fsplit ! $
    rewrite ! 0 (λ (us : List Val). ‵ (Z.own_val a us)) h.1 refl $ move ! (1 ∷ 2 ∷ []) $ drop ! $ drop ! $
    nothing ! $ handle_in ! at a None h.0 $
    suffices ! (Run (ptr_val at ∷ h.0 ∷ [])) (subst (λ (us : List Val). ent 𝓤 (Run (ptr_val at ∷ h.0 ∷ [])) (Run us)) (sym (λ i. ep i ++ (h.1 i ++ []))) (id⊢ 𝓤 (Run (ptr_val at ∷ h.0 ∷ [])))) $
    enter ! 𝓣.C 𝓣.Λ code.function (ptr_val at ∷ h.0 ∷ []) Post $ alloc_all ! (λ l. pass_all ! refl (p, (h.2, tt)) $
    sets ! (agg ! (and_then ! (get ! refl) (and_then ! (get ! refl) (no_more !)))) refl good $ returns ! (look_at ! 0 refl) $ free_all ! refl $
    suffices ! _ (ends_at 𝓛 F.ended stayed c z w made (tt, (tt, tt)) (tt, (tt, tt))) $ says ! refl $
    nothing ! $ nothing ! $ fjoin ! $ nothing ! $ fjoin ! $ join ! $ nothing ! $ join ! $ done !)))
