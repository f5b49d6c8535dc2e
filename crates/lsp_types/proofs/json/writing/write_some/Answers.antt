use Rattle.std.proofs.Common.{OnOk, option_map, subst, sym}
use Rattle.lsp_types.specs.Writes.{WritesMember}
use Rattle.lsp_types.proofs.WriteLemmas.{no_more}
use Rattle.lsp_types.proofs.json.writing.write_some.Goals as goal

pub returns-in-Some : goal.returns-in-Some
returns-in-Some g c = subst (λ found. OnOk c.write_member.result (WritesMember g.S.JsonSink.holds
    c.args.key.now (option_map g.T.ToJson.stands found) c.args.out.now c.write_member.new.out))
    (sym c.in-Some.is) c.write_member.ensures

pub returns-in-None : goal.returns-in-None
returns-in-None g c = subst (λ found. WritesMember g.S.JsonSink.holds
    c.args.key.now (option_map g.T.ToJson.stands found) c.args.out.now c.args.out.now)
    (sym c.in-None.is) (no_more g.S.JsonSink.holds c.args.key.now c.args.out.now)
