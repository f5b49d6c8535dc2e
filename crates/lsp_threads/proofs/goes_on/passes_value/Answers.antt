use Rattle.std.proofs.Common.{◌≡◌, ◌∙◌, true, sym}
use Rattle.lsp_threads.proofs.GoesOn.{other_passed, value_passed}
use Rattle.lsp_threads.proofs.goes_on.passes_value.Goals as goal

pub returns-then-eq : goal.returns-then-eq
returns-then-eq c = λ yes.
    let other : c.passes_other.result ≡ true = cc (yes) in
    other_passed c.args.name.now c.args.reader.now c.passes_other.new.reader (c.passes_other.ensures other)

pub returns : goal.returns
returns c = λ yes.
    value_passed c.args.name.now c.args.reader.now c.skip_value.new.self (sym c.eq.ensures ∙ c.if-eq.false)
    c.in_ok-skip_value.ensures.value c.in_ok-skip_value.ensures.shorter
