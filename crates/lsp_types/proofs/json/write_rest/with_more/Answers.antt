use Rattle.std.proofs.Common.{◌≡◌, ◌∙◌, ap, ap₂, sym, unwrap_or}
use Rattle.serde_json.specs.Data.{no_members, object}
use Rattle.serde_json.specs.Find.{as_object}
use Rattle.serde_json.specs.View.{members_view, view}
use Rattle.serde_json.proofs.Views.{view-Object}
use Rattle.lsp_types.specs.Json.{with_members, with_object}
use Rattle.lsp_types.proofs.JsonLemmas.{each_members}
use Rattle.lsp_types.proofs.json.write_rest.with_more.Goals as goal

pub returns-in_ok-put_each-in-Object : goal.returns-in_ok-put_each-in-Object
returns-in_ok-put_each-in-Object c members is =
    let own : members_view c.in-Object.members.entries ≡ members = ap (λ d. unwrap_or (as_object d) no_members)
    (sym (view-Object c.in-Object.members) ∙ sym (ap view c.in-Object.is) ∙ is) in
    view-Object c.put_each.new.members ∙ ap object (c.in_ok-put_each-in-Object.ensures
    ∙ ap₂ with_members own (sym (each_members c.in-Some.more.now.entries)) ∙ ap (with_object members) c.in-Some.ensures)
