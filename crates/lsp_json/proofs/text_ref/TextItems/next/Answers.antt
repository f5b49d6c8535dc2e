use Rattle.std.proofs.Common.{◌∙◌, ap}
use Rattle.lsp_json.specs.Text.{text_items}
use Rattle.lsp_json.proofs.Looks.{after_next_item, no_next_item, next_item}
use Rattle.lsp_json.proofs.text_ref.TextItems.next.Goals as goal

pub invariant_of-self : goal.invariant_of-self
invariant_of-self c =
    record {
      stands = after_next_item c.args.self.now.items c.next.result c.next.new.self c.args.self.now.stands
          c.next.ensures.value c.next.ensures.stays;
    }

pub returns-in_err-element-clause-value : goal.returns-in_err-element-clause-value
returns-in_err-element-clause-value c =
    let old = c.args.self.now.items in
    let none = no_next_item old c.next.new.self c.args.self.now.stands c.in_err-element.ensures.value in
    rw c.from_residual.ensures (none, ap text_items c.in_err-element.ensures.stays ∙ none)

pub invariant_of-result : goal.invariant_of-result
invariant_of-result c =
    record {
      stands = (next_item c.args.self.now.items c.in_ok-element.element c.next.new.self c.args.self.now.stands
          c.in_ok-element.ensures.value).here;
    }

pub returns-clause-value : goal.returns-clause-value
returns-clause-value c =
    (next_item c.args.self.now.items c.in_ok-element.element c.next.new.self c.args.self.now.stands
    c.in_ok-element.ensures.value).value

pub returns-clause-deep : goal.returns-clause-deep
returns-clause-deep c =
    (next_item c.args.self.now.items c.in_ok-element.element c.next.new.self c.args.self.now.stands
    c.in_ok-element.ensures.value).deep

pub returns-clause-deep_later : goal.returns-clause-deep_later
returns-clause-deep_later c =
    (next_item c.args.self.now.items c.in_ok-element.element c.next.new.self c.args.self.now.stands
    c.in_ok-element.ensures.value).deep_later
