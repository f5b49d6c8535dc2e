-- `into_loose` hands out the block of an open handle.
use Rattle.std.proofs.Common.{◌≡◌, List, [], ◌∷◌, ◌++◌, refl, sym, ap, ◌∙◌, subst, lit<}
use Rattle.std.proofs.raw_atomic.Walks.{proved_at}
use mathlib.Core.Bool.{Bool, true, false}
use lib.Dec.{T}
use mir.Val.{Val, vptr, vnil, vcons, has_ty, WT}
use base.Logic.{SProp, ent, id⊢}
use base.Fml.{ftrue}
use prog.Wp.{WpFn}
use types.Kit.{‵, ◌⊛◌, at_ret, ◌$◌, ◌∵◌, !, qed, done, move, keep, drop, use0, use1, split, join, fsplit, suffices}
use types.Kit.{group}
use types.Match.{live}
use types.Run.{enter, of_opd, lit, stop, fld, no_more, and_then, first, branches, exec, returns}
use types.ByLocal.{alloc_all, pass_all, free_all, look_at, get, get_in, sets, sets_last, env}
use types.Part.{agg, sub, whole}
use contract.Running.{tables}
use denote.Exit.{yes}
use denote.Param.{layout}
use denote.RattleType.{RattleType, owns}
use denote.RawPtr.{Ptr, block_ptr}
use denote.Signature.{types_at, type_at, plain}
use denote.Steps.{nothing}
use denote.Triple.Walked.{Stays, stay_dropped, Goes-dropped, walk_of, says, ends_at}
use Rattle.core.proofs.alloc.Calls.{Goes-blank, handle_tells}
use Rattle.core.proofs.alloc.Shapes.{after}
use Rattle.core.proofs.atomic.Steps.{Ptr-Good}
use Rattle.core.proofs.cell.Inside.{Good}
use Rattle.core.proofs.option.Made.{Some-of, none_of}
use Rattle.std.specs.Prelude.{None, Some}
use Rattle.std.specs.contracts.alloc.Global as heap
use Rattle.std.proofs.alloc.Global.TheLaws as heap_laws
use Rattle.std.specs.contracts.impls.GlobalAllocator.TheImpl.{ghosts}
use Rattle.std_alloc.proofs.ResultValues.{and_tt}
use Rattle.lsp_judge_c.proofs.LooseValues.{both, Loose, al, loose_good, loose_in}
use Rattle.lsp_judge_c.proofs.Values.{word, handle_out, held_cases}
use Rattle.lsp_judge_c.specs.contracts.session.Session as session
use Rattle.lsp_judge_c.specs.contracts.handle.LspJudgeSession as handle
use Rattle.lsp_judge_c.specs.contracts.handle.LspJudgeSession.into_loose as f
use Rattle.lsp_judge_c.proofs.handle.LspJudgeSession.into_loose.Statement.{statement}
use Rattle.lsp_judge_c.proofs.handle.LspJudgeSession.into_loose.Code as code

pub into_loose_spec : {M : Type 1} → statement M
into_loose_spec 𝓤 𝓛 𝓜 𝓡 wired =
    let H = 𝓛.H in let 𝓣 = tables 𝓤 H 𝓜 𝓡 𝓡.env in let c = f.clauses 𝓛 𝓜.mem 𝓡.returns in let fn = code.function in
    let R : RattleType = session.the_row in let Z : RattleType = heap.the_row in let LZ = heap_laws.the_row_laws in
    let Lo : RattleType = Loose R Z LZ ghosts in
    let hs : Stays f.ended.signature.params f.ended.kept =
    (stay_dropped (plain (λ _. handle.the_row)) yes, (stay_dropped (plain (λ _. Z)) yes, tt)) in
    proved_at 𝓛 f.ended hs c 𝓜 𝓡 (
      Goes-blank 𝓛 0 (plain (λ _. handle.the_row)) yes (λ κs x w.
          tt),
      (Goes-dropped 𝓛 0 (plain (λ _. Z)) yes (λ κs x w. refl), tt),
    )
    f.Key.name fn (code.unfolded 𝓤 H 𝓜 𝓡 wired) (λ z are.
    let d = z.0.3.0 in let a = z.0.3.1.0 in let Out : RattleType = type_at f.ended.signature.result z.0.0 in
    let Post : Val → SProp 𝓤 = (walk_of 𝓛 f.ended hs c).post z in let Run : List Val → SProp 𝓤 =
    λ ws. WpFn 𝓤 H 𝓣.C 𝓣.Λ fn ws Post in
    qed 𝓛 ((‵ ftrue ⊛ ‵ (owns (types_at f.ended.signature.params z.0.0) z.0.3 z.0.4)) ∷ ‵ ftrue ∷ []) ∵
    split ! $ move ! (1 ∷ []) $ fsplit ! $ move ! (1 ∷ []) $ fsplit ! $ handle_tells (al R Z LZ ghosts) ! a z.0.4.1.0
    (λ h eh fits.
    move ! (2 ∷ []) $ handle_out ! d z.0.4.0 (λ ew. keep ! (0 ∷ 1 ∷ []) $
    let goes : (p : Ptr) (y : Bool) → d.at ≡ p → d.is_open ≡ y → ent 𝓤 (Run (word p y ∷ h ∷ []))
    (Run (z.0.4.0 ++ (z.0.4.1.0 ++ []))) =
    λ p y ep ey. let ws : z.0.4.0 ≡ word p y ∷ [] = ew ∙ (λ i. word (ep i) (ey i) ∷ []) in
    subst (λ (us : List Val). ent 𝓤 (Run (word p y ∷ h ∷ [])) (Run us)) (sym (λ i. ws i ++ (eh i ++ [])))
    (id⊢ 𝓤 (Run (word p y ∷ h ∷ []))) in
    held_cases ! d.is_open d.at d.value
    (λ shut none.
    let w : Val = word d.at false in let v : Val = live 0 vnil in let made : Good (layout Out) v =
    (tt, (record { fits = lit< tt }, tt)) in
    suffices ! (Run (w ∷ h ∷ [])) (goes d.at false refl shut) $ drop ! $ drop ! $
    enter ! 𝓣.C 𝓣.Λ fn (w ∷ h ∷ []) Post $ alloc_all !
    (λ l. pass_all ! refl ((and_tt _ (Ptr-Good d.at).0, ((Ptr-Good d.at).1, (tt, tt))), (fits, tt)) $ let Ev =
    env fn.locals l in
    sets ! (of_opd ! (get_in ! (fld ! refl (stop !)) (sub ! 0 refl (whole !)))) refl (Ptr-Good d.at) $
    sets ! (of_opd ! (get_in ! (fld ! refl (stop !)) (sub ! 1 refl (whole !)))) refl (tt, tt) $
    sets ! (of_opd ! (get ! refl)) refl (tt, tt) $
    first ! $ branches ! (get ! refl) (λ wrong. absurd wrong) (λ _.
    sets_last ! (agg ! (and_then ! (lit ! tt) (no_more !))) refl made $ exec ! 𝓣.C 𝓣.Λ Ev (after 4 fn.body)
    (at_ret Ev Post) $
    sets ! (of_opd ! (get ! refl)) refl made $ returns ! (look_at ! 0 refl) $ free_all ! refl $
    suffices ! _ (ends_at 𝓛 f.ended hs c z v None (tt, (tt, tt)) (tt, (tt, tt))) $ says ! none $
    use0 𝓛 (‵ (Out.own_val None (v ∷ []))) (none_of 𝓛 Lo) $ nothing ! $ nothing ! $ join ! $ nothing ! $ join ! $
    nothing ! $ group ! 3 $ done !)))
    (λ b o x opened at is.
    let p : Ptr = block_ptr b o in let w : Val = word p true in let m : Val = both (vptr b o) h in let typed =
    loose_good R Z LZ ghosts b o h fits in
    let v : Val = live 1 (vcons m vnil) in let made : Good (layout Out) v =
    (and_tt _ typed.0, (record { fits = lit< tt }, (typed.1, tt))) in
    let r : Lo.Denot = record { at = p; alloc = a; value = x } in
    suffices ! (Run (w ∷ h ∷ [])) (goes p true at opened) $
    enter ! 𝓣.C 𝓣.Λ fn (w ∷ h ∷ []) Post $ alloc_all ! (λ l. pass_all ! refl ((tt, (tt, (tt, tt))), (fits, tt)) $
    let Ev = env fn.locals l in
    -- [the block; the allocator; the locals]
    sets ! (of_opd ! (get_in ! (fld ! refl (stop !)) (sub ! 0 refl (whole !)))) refl (tt, tt) $
    sets ! (of_opd ! (get_in ! (fld ! refl (stop !)) (sub ! 1 refl (whole !)))) refl (tt, tt) $
    sets ! (of_opd ! (get ! refl)) refl (tt, tt) $
    first ! $ branches ! (get ! refl) (λ _.
    sets ! (of_opd ! (get ! refl)) refl (tt, tt) $
    sets ! (agg ! (and_then ! (get ! refl) (and_then ! (get ! refl) (no_more !)))) refl typed $
    sets_last ! (agg ! (and_then ! (lit ! tt) (and_then ! (get ! refl) (no_more !)))) refl made $
    exec ! 𝓣.C 𝓣.Λ Ev (after 4 fn.body) (at_ret Ev Post) $
    sets ! (of_opd ! (get ! refl)) refl made $ returns ! (look_at ! 0 refl) $ free_all ! refl $
    suffices ! _ (ends_at 𝓛 f.ended hs c z v (Some r) (tt, (tt, tt)) (tt, (tt, tt))) $ says ! is $
    loose_in R Z LZ ghosts ! b o h a x $ use1 𝓛 (‵ (Out.own_val (Some r) (v ∷ []))) (Some-of 𝓛 Lo r m) $
    nothing ! $ nothing ! $ join ! $ nothing ! $ join ! $ nothing ! $ group ! 3 $ done !) (λ wrong. absurd wrong))))))
