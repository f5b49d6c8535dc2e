-- The methods of a model.
use Rattle.std.specs.Prelude.{ℕ, Bool, true, false, ◌&&◌, List, Option, find}
use Rattle.std.specs.Str.{bytes_eq}
use Rattle.lsp_watch.specs.declared.direction.Direction.{Direction}
use Rattle.lsp_watch.specs.declared.direction.Direction.TheVariants.{ToServer, ToClient}
use Rattle.lsp_model.specs.declared.model.Method.{Method}
use Rattle.lsp_model.specs.declared.model.Model.{Model}
use Rattle.lsp_model.specs.declared.model.Receiver.{Receiver}
use Rattle.lsp_model.specs.declared.model.Receiver.TheVariants.{Server, Client, Both}

-- who receives what goes in this direction
abbrev pub takes : Receiver → Direction → Bool
takes Both direction = true
takes Server ToServer = true
takes Server ToClient = false
takes Client ToServer = false
takes Client ToClient = true

abbrev pub is_method : Direction → List ℕ → Method → Bool
is_method direction name method = bytes_eq method.name.now name && takes method.receiver direction

-- the method of this name that may go in this direction
abbrev pub method_named : Direction → List ℕ → Model → Option Method
method_named direction name model = find (is_method direction name) model.methods.items
