-- `so_far` makes a value of no bytes, at the same lists.
use Rattle.std.proofs.Common.{List, [], ◌∷◌, ◌++◌, refl}
use seplogic.Ra.Ura.{Ura}
use mir.Val.{Val, vptr, vstruct, vcons, vnil}
use base.Logic.{SProp, ent}
use prog.Memory.{Memory}
use prog.Routine.{Routine}
use prog.Wp.{Calls, Loops, WpFn, Tables}
use contract.Monad.{Fun}
use contract.Running.{tables, tables_of}
use sound.WpLaws.{WpFn-mono}
use types.Logic.{Logic}
use types.Kit.{‵, raw, ◌⊛◌, prop, ◌$◌, ◌∵◌, !, qed, move, keep, drop, split, fsplit, fjoin, feq_l, regoal, suffices}
use types.Kit.{done}
use types.Part.{agg}
use types.Run.{enter, returns, and_then, no_more}
use types.ByLocal.{alloc_all, pass_all, free_all, look_at, get, sets}
use denote.Exit.{yes}
use denote.RattleType.{owns}
use denote.Builtin.{RefOf}
use denote.Shadow.{pure_i}
use denote.Signature.{plain, types_at}
use denote.Steps.{nothing}
use denote.Triple.Entry.{alive}
use denote.Triple.Spec.{Meets, triple_of}
use denote.Triple.Table.{entered}
use denote.Triple.Walked.{says, on_exit, Stays, stay_dropped, walk_of, ends_at, walk_Meets, Goes-dropped}
use Rattle.lsp_message.specs.declared.frame.byte_trace.ByteTrace.{ByteTrace}
use Rattle.lsp_message.specs.contracts.frame.byte_trace.ByteTrace as T
use Rattle.lsp_message.specs.contracts.frame.byte_trace.ByteTrace.so_far.Key.{name as #it}
use Rattle.lsp_message.specs.contracts.frame.byte_trace.ByteTrace.so_far as it
use Rattle.lsp_message.proofs.Facts.{and_fact}
use Rattle.lsp_message.proofs.frame.byte_trace.ByteTrace.so_far.Statement as stated
use Rattle.lsp_message.proofs.frame.byte_trace.ByteTrace.so_far.Code as code

abbrev v : Val
v = vstruct (vcons (vstruct vnil) vnil)

abbrev stayed : Stays (it.ended).signature.params (it.ended).kept
stayed = (stay_dropped (RefOf (0 ∷ []) tt (plain (λ _. T.the_row)) (λ _. tt)) yes, tt)

module _ {M : Type 1} {𝓤 : Ura M} (𝓛 : Logic 𝓤) (at_mem : Memory → SProp 𝓤) (run : Routine → Fun 𝓤) where
  open 𝓛 use {H}

  module _ (C : Calls 𝓤 H) (Λ : Loops 𝓤 H) (z : (walk_of 𝓛 it.ended stayed (it.clauses 𝓛 at_mem run)).Ghost) where
    abbrev Post : Val → SProp 𝓤
    Post = (walk_of 𝓛 it.ended stayed (it.clauses 𝓛 at_mem run)).post z

    abbrev toks : SProp 𝓤
    toks = alive 𝓛 (it.ended).signature z.0.0 z.0.1

    walks : ent 𝓤 ((walk_of 𝓛 it.ended stayed (it.clauses 𝓛 at_mem run)).pre z) (WpFn 𝓤 H C Λ code.function
        ((walk_of 𝓛 it.ended stayed (it.clauses 𝓛 at_mem run)).args z) Post)
    walks =
        let a = z.0.3 in
        let vss = z.0.4 in
        let made : ByteTrace = record {
          marker = record {};
          parts = a.0.now.parts;
          failed =
              a.0.now.failed;
        } in
        qed 𝓛 ((raw toks ⊛ ‵ (owns (types_at (it.ended).signature.params z.0.0) a vss))
        ∷ raw ((it.clauses 𝓛 at_mem run z.0.0 a).requires z.1) ∷ []) ∵
        keep ! (0 ∷ []) $ split ! $ move ! (1 ∷ []) $
        fsplit ! $ fsplit ! $ feq_l ! (λ is₀. drop ! $ drop ! $
        let p = vptr a.0.ref_ptr.0 a.0.ref_ptr.1 in
        regoal ! (λ (us : List Val). prop (WpFn 𝓤 H C Λ code.function (us ++ []) Post)) is₀ refl $
        enter ! C Λ code.function (p ∷ []) Post $ alloc_all ! (λ l. pass_all ! refl ((tt, tt), tt) $
        sets ! (agg ! (no_more !)) refl (tt, tt) $
        sets ! (agg ! (and_then ! (get ! refl) (no_more !))) refl (tt, (tt, tt)) $
        returns ! (look_at ! 0 refl) $ free_all ! refl $
        pure_i ! ((T.the_row).own_val made (v ∷ [])) (
          (λ vss. (tt, ((λ uss. (tt, tt)), tt))),
          tt,
        ) (((vstruct vnil ∷ [], tt), (refl, ((tt, (refl, tt)), tt))), tt) $
        suffices ! _ (ends_at 𝓛 it.ended stayed (it.clauses 𝓛 at_mem run) z v made (tt, tt) (tt, tt)) $ suffices ! _
        (and_fact 𝓤 (on_exit 𝓛 it.ended stayed z.0.0 z.0.1 z.0.4 v made z.0.3 (tt, tt)) refl) $ says ! refl $
        nothing ! $ nothing ! $ fjoin ! $ move ! (2 ∷ 0 ∷ 1 ∷ []) $ done !))

  meets : (𝓣 : Tables 𝓤 H) → Meets 𝓛 it.signature (WpFn 𝓤 H 𝓣.C 𝓣.Λ code.function) (it.spec 𝓛 at_mem run)
  meets 𝓣 =
      walk_Meets 𝓛 it.ended stayed (
        Goes-dropped 𝓛 1 (RefOf (0 ∷ []) tt (plain (λ _. T.the_row)) (λ _. tt)) yes
            (λ κs x f. refl),
        tt,
      )
      (it.clauses 𝓛 at_mem run) (WpFn 𝓤 H 𝓣.C 𝓣.Λ code.function) (WpFn-mono 𝓤 H 𝓛.laws 𝓣 code.function) (walks 𝓣.C 𝓣.Λ)

pub so_far_spec : {M : Type 1} → stated.statement M
unfolding tables_of
so_far_spec 𝓤 𝓛 𝓜 𝓡 wired =
    let 𝓣 : Tables 𝓤 𝓛.H = tables_of 𝓤 𝓛.H 𝓜 (tables 𝓤 𝓛.H 𝓜 𝓡 𝓡.env) in
    entered 𝓤 𝓛.H (triple_of 𝓛 it.signature (it.spec 𝓛 𝓜.mem 𝓡.returns)) 𝓣.C 𝓣.Λ #it code.function
    (code.unfolded 𝓤 𝓛.H 𝓜 𝓡 wired) (meets 𝓛 𝓜.mem 𝓡.returns 𝓣)
