-- A closed handle owns nothing beside its fields.
use Rattle.std.proofs.Common.{[], ◌∷◌, refl, lit<}
use Rattle.std.proofs.raw_atomic.Walks.{proved}
use mathlib.Core.Bool.{false}
use Rattle.std.specs.Prelude.{None}
use base.Fml.{ftrue}
use mir.Val.{Val}
use types.Kit.{‵, raw, ◌$◌, ◌∵◌, !, qed, done, drop, suffices, group}
use types.Run.{enter, lit, false_lit, no_more, and_then, returns}
use types.ByLocal.{alloc_all, pass_all, free_all, look_at, sets}
use types.Part.{agg}
use contract.Running.{tables}
use denote.RawPtr.{null_ptr}
use denote.Steps.{nothing}
use denote.Triple.Entry.{on_entry}
use denote.Triple.Walked.{walk_of, says, ends_at}
use Rattle.lsp_judge_c.proofs.Values.{word, handle_in}
use Rattle.lsp_judge_c.specs.contracts.handle.LspJudgeSession.closed as f
use Rattle.lsp_judge_c.specs.declared.handle.LspJudgeSession.{LspJudgeSession}
use Rattle.lsp_judge_c.proofs.handle.LspJudgeSession.closed.Statement.{statement}
use Rattle.lsp_judge_c.proofs.handle.LspJudgeSession.closed.Code as code

pub closed_spec : {M : Type 1} → statement M
closed_spec 𝓤 𝓛 𝓜 𝓡 wired =
    let c = f.clauses 𝓛 𝓜.mem 𝓡.returns in let W = walk_of 𝓛 f.ended tt c in let 𝓣 = tables 𝓤 𝓛.H 𝓜 𝓡 𝓡.env in
    proved 𝓛 f.ended tt c 𝓜 𝓡 tt f.Key.name code.function (code.unfolded 𝓤 𝓛.H 𝓜 𝓡 wired)
    (λ κs. tt) (λ κs. tt) (λ κs qs bounds a g are.
    let y : W.Ghost = ((κs, qs, bounds, a, tt), g) in let w : Val = word null_ptr false in
    qed 𝓛 (raw (on_entry 𝓛 f.signature κs qs a tt) ∷ ‵ ftrue ∷ []) ∵ drop ! $ drop ! $
    enter ! _ _ _ _ _ $ alloc_all ! (λ l. pass_all ! refl tt $
    sets ! (agg ! (and_then ! (lit ! tt) (and_then ! (false_lit !) (no_more !)))) refl
    (tt, (record { fits = lit< tt }, (tt, tt))) $
    returns ! (look_at ! 0 refl) $ free_all ! refl $
    suffices ! _ (ends_at 𝓛 f.ended tt c y w (record { at = null_ptr; is_open = false; value = None }) tt tt) $
    says ! refl $
    nothing ! $ handle_in ! null_ptr false None $ nothing ! $ nothing ! $ group ! 3 $ done !))
