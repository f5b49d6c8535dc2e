use Rattle.std.proofs.Common.{rules}
use Rattle.lsp_json.proofs.Digits.{number_if_parsed}
use Rattle.lsp_json.proofs.numbers.from_digits.Goals as goal

pub returns-in-Some-48-to-57 : goal.returns-in-Some-48-to-57
returns-in-Some-48-to-57 c =
    rw c.ok.ensures.value
    (number_if_parsed c.args.text.now c.parse_u64.result (search rules) (search rules) c.parse_u64.ensures)
