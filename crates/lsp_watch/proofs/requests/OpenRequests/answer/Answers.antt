use Rattle.std.proofs.Common.{ap, ◌∙◌, refl}
use Rattle.std.specs.BTreeMap.{get}
use Rattle.std.specs.Map.{values_of}
use Rattle.std.specs.Ordering.{nat_cmp}
use Rattle.std.specs.Prelude.{option_and_then}
use Rattle.lsp_watch.proofs.Indexing.{nobody, first_leaves, left}
use Rattle.lsp_watch.proofs.requests.OpenRequests.answer.Goals as goal

pub returns-in_default-clause-is : goal.returns-in_default-clause-is
returns-in_default-clause-is c = λ h. nobody c.args.self.now c.args.direction c.args.id.now h
    (ap (option_and_then (λ n. get nat_cmp c.args.self.now.requests n)) c.in_default.ensures)

pub returns-in_default-remove-clause-is : goal.returns-in_default-remove-clause-is
returns-in_default-remove-clause-is c = λ h. ap values_of c.in_default-remove.ensures.unchanged
    ∙ nobody c.args.self.now c.args.direction c.args.id.now h (c.in_default-remove.ensures.value
    ∙ ap (option_and_then (λ n. get nat_cmp c.args.self.now.requests n)) c.in-Some.ensures)

pub returns-clause-is : goal.returns-clause-is
returns-clause-is c = λ h. ap values_of c.remove.ensures.entries
    ∙ first_leaves c.args.self.now c.args.direction c.args.id.now c.in-Some.number h c.in-Some.ensures

pub returns-clause-indexed : goal.returns-clause-indexed
returns-clause-indexed c = λ h. left c.args.self.now
    (record { requests = c.remove.new.self; numbers = c.remove-2.new.self; next = c.args.self.now.next })
    c.in-Some.number c.in-Some-remove.asked h c.in-Some-remove.ensures.value c.remove.ensures.entries
    c.remove-2.ensures refl
