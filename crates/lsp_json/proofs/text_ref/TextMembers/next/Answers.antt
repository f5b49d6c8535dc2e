use Rattle.std.proofs.Common.{ℕ, List, Bor}
use Rattle.json.specs.Token.{Token}
use Rattle.lsp_json.proofs.Looks.{after_next_member, no_next_member, next_member}
use Rattle.lsp_json.proofs.text_ref.TextMembers.next.Goals as goal

pub invariant_of-self : goal.invariant_of-self
invariant_of-self c =
    let f : Bor (List ℕ) × List Token → List ℕ × List Token = λ m. (m.0.now, m.1) in
    record {
      stands = after_next_member f c.args.self.now.members c.next.result c.next.new.self c.args.self.now.stands
          c.next.ensures.value c.next.ensures.stays;
    }

pub invariant_of-result : goal.invariant_of-result
invariant_of-result c =
    record {
      stands = (next_member c.args.self.now.members c.in-Some.key.now c.in-Some.element c.next.new.self
          c.args.self.now.stands c.in-Some.ensures.value).here;
    }

pub returns-in-Some-clause-value : goal.returns-in-Some-clause-value
returns-in-Some-clause-value c =
    (next_member c.args.self.now.members c.in-Some.key.now c.in-Some.element c.next.new.self c.args.self.now.stands
    c.in-Some.ensures.value).value

pub returns-in-Some-clause-deep : goal.returns-in-Some-clause-deep
returns-in-Some-clause-deep c =
    (next_member c.args.self.now.members c.in-Some.key.now c.in-Some.element c.next.new.self c.args.self.now.stands
    c.in-Some.ensures.value).deep

pub returns-in-Some-clause-deep_later : goal.returns-in-Some-clause-deep_later
returns-in-Some-clause-deep_later c =
    (next_member c.args.self.now.members c.in-Some.key.now c.in-Some.element c.next.new.self c.args.self.now.stands
    c.in-Some.ensures.value).deep_later

pub returns-in-None-clause-value : goal.returns-in-None-clause-value
returns-in-None-clause-value c found =
    no_next_member c.args.self.now.members c.next.new.self found c.args.self.now.stands c.in-None.ensures.value
