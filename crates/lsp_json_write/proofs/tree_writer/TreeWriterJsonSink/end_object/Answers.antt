use Rattle.std.proofs.Common.{◌∷◌, ◌++◌, ◌∙◌, [], ap, fold, refl, subst, IfSome}
use Rattle.std.proofs.lemmas.Result.{on_ok_weaker}
use Rattle.serde_json.proofs.Views.{view-Object}
use Rattle.lsp_json_write.specs.declared.tree_writer.Level.TheVariants.{Object}
use Rattle.lsp_json_write.specs.Taken.{with_value, object_ended}
use Rattle.lsp_json_write.specs.Tree.{root_taken, within, HasMade}
use Rattle.lsp_json_write.proofs.Trees.{innermost_taken}
use Rattle.lsp_json_write.proofs.tree_writer.TreeWriterJsonSink.end_object.Goals as goal

pub returns-in-Some-Object : goal.returns-in-Some-Object
returns-in-Some-Object c =
    let root = root_taken c.args.self.now.root in
    let rest = c.pop.new.self.items in
    let outer = fold within root rest in
    let level = Object c.in-Some-Object.members in
    let split = c.in-Some-Object.ensures.items ∙ ap (λ level. rest ++ level ∷ []) c.in-Some-Object.field-0-is in
    on_ok_weaker c.put.result (λ done t h. subst (λ s. IfSome (object_ended s) (HasMade c.put.new.self))
    (innermost_taken root _ rest level t split h) (subst (λ d. IfSome (with_value d outer) (HasMade c.put.new.self))
    (view-Object c.in-Some-Object.members) (done outer refl))) c.put.ensures
