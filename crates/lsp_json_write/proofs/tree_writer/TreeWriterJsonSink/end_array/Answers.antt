use Rattle.std.proofs.Common.{◌∷◌, ◌++◌, ◌∙◌, [], ap, fold, refl, subst, IfSome}
use Rattle.std.proofs.lemmas.Result.{on_ok_weaker}
use Rattle.serde_json.proofs.Views.{view-Array}
use Rattle.lsp_json_write.specs.declared.tree_writer.Level.TheVariants.{Array}
use Rattle.lsp_json_write.specs.Taken.{with_value, array_ended}
use Rattle.lsp_json_write.specs.Tree.{root_taken, within, HasMade}
use Rattle.lsp_json_write.proofs.Trees.{innermost_taken}
use Rattle.lsp_json_write.proofs.tree_writer.TreeWriterJsonSink.end_array.Goals as goal

pub returns-in-Some-Array : goal.returns-in-Some-Array
returns-in-Some-Array c =
    let root = root_taken c.args.self.now.root in
    let rest = c.pop.new.self.items in
    let outer = fold within root rest in
    let level = Array c.in-Some-Array.items in
    let split = c.in-Some-Array.ensures.items ∙ ap (λ level. rest ++ level ∷ []) c.in-Some-Array.field-0-is in
    on_ok_weaker c.put.result (λ done t h. subst (λ s. IfSome (array_ended s) (HasMade c.put.new.self))
    (innermost_taken root _ rest level t split h) (subst (λ d. IfSome (with_value d outer) (HasMade c.put.new.self))
    (view-Array c.in-Some-Array.items) (done outer refl))) c.put.ensures
