-- The replies that the server sends at once.
use Rattle.serde_json.specs.Data.{Data}
use Rattle.serde_json.specs.Find.{as_str, get}
use Rattle.std.proofs.Common.{◌≡◌, ◌∙◌, refl, sym, ap, subst, inl, inr, ℕ, Bool, true, false, List, [], ◌∷◌}
use Rattle.std.proofs.Common.{Option, Some, None, Result, Ok, Err, codes, map, string_bytes}
use Rattle.std.proofs.lemmas.Slice.Eq.{bytes_eq-Decides}
use Rattle.std.specs.Prelude.{◌||◌, IfOk, IfSome, MatchOption, option_and_then}
use Rattle.std.specs.Str.{bytes_eq}
use Rattle.lsp_acts.specs.Acts.{Act, replies}
use Rattle.lsp_acts.specs.declared.server.Act as rust
use Rattle.lsp_documents.specs.Params.{text_in, uri_from}
use Rattle.lsp_jobs.specs.Ends.{Outcome}
use Rattle.lsp_message.specs.Id.{Id}
use Rattle.lsp_text.specs.Lines.{LinedText}
use Rattle.lsp_text.specs.declared.position.PositionEncoding.{PositionEncoding}
use Rattle.lsp_types.specs.Reads as reads
use Rattle.lsp_types.specs.Reads.{ReadsSome, Required, is_named}
use Rattle.lsp_types.specs.contracts.documents.TextDocumentIdentifierFromJson.TheImpl as identifier
use Rattle.lsp_types.specs.declared.documents.TextDocumentIdentifier.{TextDocumentIdentifier}
use Rattle.lsp_types.specs.declared.symbols.WorkspaceSymbol.{WorkspaceSymbol}
use Rattle.example_toml.specs.Reactions.{act_seen}
use Rattle.example_toml.specs.Searches.{AnswersOrRefuses, FindsSymbols, no_query, word_in}

some_read : {T : Type 0} (reads : Data → T → Type 0) (found : Option Data) (it : T) → ReadsSome reads found (Some it)
    → (json : Data) × (found ≡ Some json) × reads json it
some_read reads None it never = absurd never
some_read reads (Some json) it read = (json, refl, read)

-- the params that are read name the document that is read
pub uri_read : (params : Data) (it : TextDocumentIdentifier)
    → Required identifier.ghosts.reads (codes "textDocument") params it
    → uri_from params ≡ Some (string_bytes it.uri)
unfolding reads.Required
uri_read params it read =
    let document = some_read identifier.ghosts.reads (get (codes "textDocument") params) it read in
    let uri = some_read (λ json text. as_str json ≡ Some (string_bytes text)) (get (codes "uri") document.0) it.uri
    document.2.1 in
    ap (option_and_then (text_in (codes "uri"))) document.1 ∙ ap (option_and_then as_str) uri.1 ∙ uri.2

-- ---- methods

step : (key : List ℕ) (keys : List (List ℕ)) (method : List ℕ) → (method ≡ key → ⊥)
    → is_named (key ∷ keys) method ≡ true → is_named keys method ≡ true
step key keys method differs named = by (bytes_eq key method) refl
  where
    by : (b : Bool) → bytes_eq key method ≡ b → is_named keys method ≡ true
    by true e = absurd (differs (sym ((bytes_eq-Decides key method).0 e)))
    by false e = subst (λ (b : Bool). (b || is_named keys method) ≡ true) e named

-- the method is none of these
abbrev pub Differs : List (List ℕ) → List ℕ → Type 0
Differs [] method = Unit {0}
Differs (key ∷ keys) method = (method ≡ key → ⊥) × Differs keys method

pub none_named : {A : Type 0} (keys : List (List ℕ)) (method : List ℕ) → Differs keys method
    → is_named keys method ≡ true → A
none_named [] method differ among = let wrong : false ≡ true = among in absurd (cc (wrong))
none_named (key ∷ keys) method differ among =
    none_named keys method differ.1 (step key keys method differ.0 among)

module _ {A E : Type 0} where
  pub if_ok : (P : A → Type 0) (result : Result A E) → ((it : A) → P it) → IfOk result P
  if_ok P (Ok it) all = all it
  if_ok P (Err fault) all = tt

  pub if_ok_to : (P Q : A → Type 0) (result : Result A E) → ((it : A) → P it → Q it) → IfOk result P
      → IfOk result Q
  if_ok_to P Q (Ok it) to is = to it is
  if_ok_to P Q (Err fault) to is = tt

-- one reply is one of those for its outcome
pub replied : {A E : Type 0} (items : A → List (rust.Act (Unit {0}))) (result : Result A E)
    (act : rust.Act (Unit {0})) (id : Id) (outcome : Outcome) (May : Outcome → Type 0)
    → act_seen act ≡ replies id outcome → May outcome → IfOk result (λ acts. items acts ≡ act ∷ [])
    → IfOk result (λ acts. (o : Outcome) × (map act_seen (items acts) ≡ replies id o ∷ []) × May o)
replied items (Ok acts) act id outcome May says may is =
    (outcome, ap (map act_seen) is ∙ ap (λ (seen : Act (Unit {0})). seen ∷ []) says, may)
replied items (Err fault) act id outcome May says may is = tt

-- ---- a search at once

pub match_some : {A : Type 0} (N : Type 0) (P : A → Type 0) (o : Option A) (x : A) → o ≡ Some x
    → MatchOption o N P → P x
match_some {A} N P o x is matched = subst (λ (it : Option A). MatchOption it N P) is matched

pub match_none : {A : Type 0} (N : Type 0) (P : A → Type 0) (o : Option A) → o ≡ None → MatchOption o N P → N
match_none {A} N P o is matched = subst (λ (it : Option A). MatchOption it N P) is matched

pub if_some : {A : Type 0} (P : A → Type 0) (o : Option A) (x : A) → o ≡ Some x → IfSome o P → P x
if_some {A} P o x is holds = subst (λ (it : Option A). IfSome it P) is holds

pub finds_now : (written : WorkspaceSymbol → Data) (encoding : PositionEncoding)
    (texts held : List (List ℕ × LinedText)) (word : List ℕ) (params tree : Data) → word_in params ≡ Some word
    → held ≡ texts → FindsSymbols written encoding word held tree → AnswersOrRefuses written texts params (Ok tree)
finds_now written encoding texts held word params tree asked whole finds = inl (
  encoding,
  word,
  tree,
  asked,
  refl,
  subst (λ (t : List (List ℕ × LinedText)). FindsSymbols written encoding word t tree) whole finds,
)

pub refuses_now : (written : WorkspaceSymbol → Data) (texts : List (List ℕ × LinedText)) (params : Data)
    → word_in params ≡ None → AnswersOrRefuses written texts params (Err no_query)
refuses_now written texts params none = inr (none, refl)
