use Rattle.std.proofs.Common.{refl}
use Rattle.std.proofs.lemmas.Result.{err_from_is_err_and}
use Rattle.lsp_threads.proofs.Taken.{gives_nothing, gives_then}
use Rattle.lsp_threads.specs.Passing.{noted}
use Rattle.lsp_server.proofs.Gathering.{gathered_none, gathered_more, last_broken, rest_unmade, rest_written}
use Rattle.lsp_server.proofs.writing.write_behind.Goals as goal

pub loop-init : goal.loop-init
loop-init g c = record {
  gathered = gathered_none _ _ (noted c.args.given.now);
  given = gives_nothing c.args.given.now.parts (g.W.Write.contents c.args.writer.now);
}

pub loop-preserved : goal.loop-preserved
loop-preserved g c = record {
  gathered = gathered_more _ _ _ _ (noted c.args.given.now) (noted c.loop.given) (noted c.join.new.given)
      c.loop.invariant.gathered _ _ _ _ c.in-Some.ensures.some c.in-Ok.ensures
      c.in_ok-gathered.ensures.ok;
  given = gives_then _ _ _ _ _ _ c.loop.invariant.given c.in_ok-gathered.ensures.given;
}

pub returns-in-None-clause-written : goal.returns-in-None-clause-written
returns-in-None-clause-written g c =
    rest_written _ _ _ _ (noted c.args.given.now) (noted c.loop.given) (noted c.write_text.new.given)
    c.loop.invariant.gathered c.write_text.result _ c.in-None.ensures.none
    c.write_text.ensures.ok c.write_text.ensures.fault c.write_text.ensures.begun

pub returns-in-None-clause-given : goal.returns-in-None-clause-given
returns-in-None-clause-given g c = gives_then _ _ _ _ _ _ c.loop.invariant.given c.write_text.ensures.given

pub returns-in_default-clause-written : goal.returns-in_default-clause-written
returns-in_default-clause-written g c =
    rest_unmade _ _ _ _ (noted c.args.given.now) (noted c.loop.given) (noted c.fail_behind.new.given)
    c.loop.invariant.gathered c.fail_behind.result _ _ c.in-Some.ensures.some
    c.fail_behind.ensures.written

pub returns-in_default-clause-given : goal.returns-in_default-clause-given
returns-in_default-clause-given g c = gives_then _ _ _ _ _ _ c.loop.invariant.given c.fail_behind.ensures.given

pub returns-in_err-gathered-clause-written : goal.returns-in_err-gathered-clause-written
returns-in_err-gathered-clause-written g c =
    let p = err_from_is_err_and c.from_residual.result c.from_residual.ensures.1 in
    rw (p.1, p.2) (last_broken _ _ _ _ (noted c.args.given.now) (noted c.loop.given) (noted c.join.new.given)
    c.loop.invariant.gathered _ _ _ c.in-Some.ensures.some
    c.in_err-gathered.ensures.fault c.in_err-gathered.ensures.err)

pub returns-in_err-gathered-clause-given : goal.returns-in_err-gathered-clause-given
returns-in_err-gathered-clause-given g c = gives_then _ _ _ _ _ _ c.loop.invariant.given c.in_err-gathered.ensures.given

pub returns-clause-written : goal.returns-clause-written
returns-clause-written g c =
    rest_written _ _ _ _ (noted c.args.given.now) (noted c.loop.given) (noted c.write_text-2.new.given)
    c.loop.invariant.gathered c.write_text-2.result _ refl
    c.write_text-2.ensures.ok c.write_text-2.ensures.fault c.write_text-2.ensures.begun

pub returns-clause-given : goal.returns-clause-given
returns-clause-given g c = gives_then _ _ _ _ _ _ c.loop.invariant.given c.write_text-2.ensures.given
