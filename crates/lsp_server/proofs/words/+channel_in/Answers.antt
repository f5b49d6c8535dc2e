use Rattle.std.proofs.Common.{◌∙◌}
use Rattle.lsp_server.proofs.WordCases.{passed_words}
use Rattle.lsp_server.proofs.words.+channel_in.Goals as goal

pub returns-in_default-name : goal.returns-in_default-name
returns-in_default-name t c =
    let other = c.in_default-name in
    c.channel_in-in_default-name.ensures ∙ passed_words c.args.words.now c.word-item.result c.as_str-word.result.now
    c.parts_of.result.0.now
    c.in-len1-up.len_at_least c.word-item.is c.as_str-word.ensures.value c.parts_of.ensures.name
    c.if-not-is_option.ensures
    other.not-text other.not-text-2 other.not-text-3 other.not-text-4 other.not-text-5
