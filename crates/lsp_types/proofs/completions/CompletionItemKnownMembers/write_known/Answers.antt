use Rattle.std.proofs.Common.{refl}
use Rattle.lsp_types.proofs.WriteLemmas.{◌then◌, whole}
use Rattle.lsp_types.proofs.completions.CompletionItemKnownMembers.write_known.Goals as goal

pub returns : goal.returns
returns g c = whole g.S.JsonSink.holds c.args.out.now c.begin_object.new.self _ c.end_object.new.self _ refl
    c.in_ok-begin_object.ensures c.end_object.ensures (λ outer has. has then c.in_ok-write_some.ensures then
    c.in_ok-write_some-2.ensures then c.in_ok-write_some-3.ensures then c.in_ok-write_some-4.ensures then
    c.in_ok-write_some-5.ensures then c.in_ok-write_some-6.ensures then c.in_ok-write_some-7.ensures then
    c.in_ok-write_some-8.ensures then c.in_ok-write_some-9.ensures then c.in_ok-write_some-10.ensures then
    c.in_ok-write_some-11.ensures then c.in_ok-write_some-12.ensures then c.in_ok-write_member.ensures then
    c.in_ok-write_some-13.ensures then c.in_ok-write_some-14.ensures then c.in_ok-write_some-15.ensures then
    c.in_ok-write_some-16.ensures then c.in_ok-write_some-17.ensures then c.in_ok-write_some-18.ensures)
