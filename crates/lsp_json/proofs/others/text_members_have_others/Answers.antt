use Rattle.std.proofs.Common.{◌∙◌, map, refl, sym}
use Rattle.serde_json.specs.Data.{no_members}
use Rattle.lsp_json.specs.Text.{text_data}
use Rattle.lsp_json.proofs.OtherKeys.{found_another, one_more}
use Rattle.lsp_json.proofs.others.text_members_have_others.Goals as goal

pub members-init : goal.members-init
members-init c = (no_members, refl, refl)

pub returns-then-is_other : goal.returns-then-is_other
returns-then-is_other c all is =
    sym (found_another (map (λ key. key.now) c.args.keys.now) c.args.members.members c.members.members.members
    c.next.new.self.members c.in-Some.key.now (text_data c.in-Some.field-0-1.element) all c.members.invariant
    c.in-Some.ensures.value (sym c.is_other.ensures ∙ c.if-is_other.true) is)

pub members-preserved : goal.members-preserved
members-preserved c =
    one_more (map (λ key. key.now) c.args.keys.now) c.args.members.members c.members.members.members
    c.next.new.self.members c.in-Some.key.now (text_data c.in-Some.field-0-1.element) c.members.invariant
    c.in-Some.ensures.value (sym c.is_other.ensures ∙ c.if-is_other.false)
