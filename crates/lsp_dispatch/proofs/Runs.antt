-- A list of calls goes on by one.
use Rattle.std.proofs.Common.{◌≡◌, ℕ, ◌+◌, ◌≤◌, List, [], ◌∷◌, ◌++◌, length, Option, None, Some, refl, sym, ap, ◌∙◌}
use Rattle.std.proofs.Common.{subst, append_assoc, append-nil, arith, map as each}
use Rattle.std.proofs.lemmas.List.{map-append, length-map}
use Rattle.std.specs.FinMap as map
use Rattle.std.specs.List.{cons_option}
use Rattle.lsp_message.specs.Id.{Id}
use Rattle.lsp_queue.specs.Queue.{count_of}
use Rattle.lsp_dispatch.specs.DispatchAnswers.{Answer, answer_view, call_view}
use Rattle.lsp_dispatch.specs.DispatchCalls.{Call, asked_by}
use Rattle.lsp_dispatch.specs.declared.answer.Answer as code
use Rattle.lsp_dispatch.specs.declared.calls.Call as code_call
use Rattle.lsp_dispatch.proofs.Agreement.{Agrees}
use Rattle.lsp_dispatch.specs.Dispatch.{asked, CallAnswer, Dispatches}
use Rattle.lsp_dispatch.specs.DispatchPending.{Held, answered, no_work, answers_from}
use Rattle.lsp_dispatch.proofs.Cases.{call_case, new_agrees}

dispatches_push : (start calls : List Call) (answers : List Answer) (c : Call) (a : Answer) → Dispatches start calls
    answers → CallAnswer (start ++ calls) c a → Dispatches start (calls ++ c ∷ []) (answers ++ a ∷ [])
dispatches_push start [] [] c a run right = (subst (λ (l : List Call). CallAnswer l c a) (append-nil start) right, tt)
dispatches_push start [] (b ∷ answers) c a run right = absurd run
dispatches_push start (d ∷ calls) [] c a run right = absurd run
dispatches_push start (d ∷ calls) (b ∷ answers) c a run right = (
  run.0,
  dispatches_push (start ++ d ∷ []) calls answers
      c a run.1 (subst (λ (l : List Call). CallAnswer l c a) (sym (append_assoc start (d ∷ []) calls)) right),
)

-- the calls so far, with their answers, and what is pending
pub record Replayed (calls : List code_call.Call) (answers : List code.Answer) (held : Held) : Type 0 where
  pub run : Dispatches [] (each call_view calls) (each answer_view answers)
  pub agrees : Agrees (each call_view calls) held

pub replayed_push : (calls : List code_call.Call) (answers : List code.Answer) (old new : Held) (c : code_call.Call)
    (a : code.Answer) (more : List code.Answer) → Replayed calls answers old → (answer_view a, new)
    ≡ answered old (call_view c) → more ≡ answers ++ a ∷ [] → Replayed (calls ++ c ∷ []) more new
replayed_push calls answers old new c a more so made pushed =
    let r = call_case (each call_view calls) old so.agrees (call_view c) in
    let cs : each call_view calls ++ call_view c ∷ [] ≡ each call_view (calls ++ c ∷ []) = sym (map-append call_view
    calls (c ∷ [])) in
    let xs : each answer_view answers ++ answer_view a ∷ [] ≡ each answer_view more = sym (ap (each answer_view) pushed
    ∙ map-append answer_view answers (a ∷ [])) in
    record {
      run = subst (λ (l : List Call). Dispatches [] l (each answer_view more)) cs
          (subst (λ (l : List Answer). Dispatches [] (each call_view calls ++ call_view c ∷ []) l) xs
          (dispatches_push [] (each call_view calls) (each answer_view answers) (call_view c) (answer_view a) so.run
          (subst (λ (x : Answer × Held). CallAnswer (each call_view calls) (call_view c) x.0) (sym made) r.right)));
      agrees = subst (λ (l : List Call). Agrees l new) cs (subst (λ (x : Answer × Held). Agrees (each call_view calls
          ++ call_view c ∷ []) x.1) (sym made) r.agrees);
    }

cons_most : (o : Option Id) (ids : List Id) (n : ℕ) → length ids ≤ n → length (cons_option o ids) ≤ n + 1
cons_most None ids n most = omega (arith, most)
cons_most (Some id) ids n most = omega (arith, most)

-- no more tickets than calls
asked_most : (calls : List Call) → length (asked calls) ≤ length calls
asked_most [] = omega arith
asked_most (c ∷ calls) = omega (arith, cons_most (asked_by c) (asked calls) (length calls) (asked_most calls))

pub tickets_most : (calls : List code_call.Call) (answers : List code.Answer) (held : Held) → Replayed calls answers
    held → count_of held ≤ length calls
tickets_most calls answers held so = omega (
  arith,
  so.agrees.count,
  asked_most (each call_view calls),
  length-map calls call_view,
)

pub replayed_new : (answers : List code.Answer) (held : Held) → answers ≡ [] → held ≡ (map.empty, 0)
    → Replayed [] answers held
replayed_new answers held none new = record {
  run = subst (λ (l : List code.Answer). Dispatches [] [] (each answer_view l)) (sym none) tt;
  agrees = new_agrees held new;
}

-- the answers by the table are right for their places
pub dispatches_from : (before : List Call) (held : Held) → Agrees before held → (calls : List Call) → Dispatches before
    calls (answers_from held calls)
dispatches_from before held agrees [] = tt
dispatches_from before held agrees (c ∷ calls) = let r = call_case before held agrees c in (
  r.right,
  dispatches_from (before ++ c ∷ []) (answered held c).1 r.agrees calls,
)

pub dispatches_all : (calls : List Call) → Dispatches [] calls (answers_from no_work calls)
dispatches_all calls = dispatches_from [] no_work (new_agrees no_work refl) calls
