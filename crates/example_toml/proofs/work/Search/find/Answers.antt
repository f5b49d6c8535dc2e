use Rattle.std.proofs.Common.{◌≡◌, ◌∙◌, sym, ap, subst, ℕ, List, take, ◌+◌, ◌<◌, ◌∷◌, ◌++◌, [], length, arith}
use Rattle.std.proofs.Common.{string_bytes}
use Rattle.std.proofs.lemmas.Grind.{take_at_read}
use Rattle.std.proofs.lemmas.List.{map-append}
use Rattle.std.specs.Arc.{arc_value}
use Rattle.lsp_text.specs.Lines.{LinedText}
use Rattle.lsp_documents.specs.Known.{copied}
use Rattle.lsp_documents.specs.declared.known.DocumentSnapshot.{DocumentSnapshot}
use Rattle.example_toml.proofs.Symbols.{found_more}
use Rattle.example_toml.specs.Searches.{AreFound}
use Rattle.example_toml.proofs.work.Search.find.Goals as goal

pub loop-number-preserved : goal.loop-number-preserved
loop-number-preserved g c =
    let i = c.loop-number.number in
    let encoding = c.args.self.now.encoding in
    let word = string_bytes c.args.self.now.query in
    let sources = c.as_slice-sources.result.now in
    let x = c.index-sources-number.result in
    let t : List ℕ × LinedText = (string_bytes x.uri, arc_value x.text) in
    let found = c.loop-number.found.items in
    let keys = c.in_ok-keys.keys.items in
    let below : i < length sources = omega arith in
    let taken : copied (take (i + 1) sources) ≡ copied (take i sources) ++ t ∷ [] =
    ap copied ((take_at_read sources i x below).1 ∙ ap (λ (y : DocumentSnapshot). take i sources ++ y ∷ [])
    (sym c.index-sources-number.is)) ∙ map-append (λ (copy : DocumentSnapshot).
    (string_bytes copy.uri, arc_value copy.text))
    (take i sources) (x ∷ []) in
    rw c.in_ok-append.ensures.items
    (subst (λ (ts : List (List ℕ × LinedText)). AreFound encoding word ts (found ++ keys)) (sym taken)
    (found_more encoding word (copied (take i sources)) t found keys c.loop-number.invariant c.in_ok-keys.ensures))
