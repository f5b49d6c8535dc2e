use Rattle.std.proofs.Common.{◌∙◌, ◌&&◌, ◌||◌, ap}
use Rattle.lsp_watch.specs.Documents.{params_in}
use Rattle.lsp_watch.specs.Entries.{entry_view}
use Rattle.lsp_watch.specs.Log.{passed}
use Rattle.lsp_capabilities.specs.Registrations.{any_item, is_registration, is_unregistration, registrations_in}
use Rattle.lsp_capabilities.proofs.Items.{registered_after, unconfirmed_after}
use Rattle.lsp_capabilities.proofs.registrations.Registrations.keep.Goals as goal

pub returns : goal.returns
returns c = λ log saw holds.
    let m = entry_view c.args.message.now in
    let p = passed c.args.direction c.args.place m in
    let at_is = c.replied_at.ensures log c.args.place saw in
    record {
      registered_are = λ such. c.in_ok-ask.ensures.registered such
          ∙ ap (λ b. b || (is_registration c.args.direction m
          && any_item (such c.args.place) (registrations_in (params_in m))))
          (c.settle.ensures.registered such
          ∙ registered_after c.args.self.now log p c.replied_at.result c.is_success.result at_is
          c.is_success.ensures holds such);
      unconfirmed_are = λ such. c.in_ok-ask.ensures.unconfirmed such
          ∙ ap (λ b. b || (is_unregistration c.args.direction m && such c.args.place (params_in m)))
          (c.settle.ensures.unconfirmed such
          ∙ unconfirmed_after c.args.self.now log p c.replied_at.result c.is_success.result at_is
          c.is_success.ensures holds such);
    }
