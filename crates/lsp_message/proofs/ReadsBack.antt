-- A message's content part is read back as that message.
use Rattle.std.proofs.Common.{◌≡◌, ℕ, suc, ◌<◌, ◌≤◌, max, List, [], ◌++◌, Bool, true, false, Option, Some, None, Result}
use Rattle.std.proofs.Common.{Ok, Err, IfOk, OnOk, option_map, option_and_then, codes, refl, sym, ap, ap₂, ◌∙◌, arith}
use Rattle.std.proofs.Common.{lit≤, append_assoc, append-nil, ◌^◌, pos, negsuc, decimal, ℤ}
use Rattle.std.specs.Prelude.{fold}
use Rattle.std.proofs.lemmas.List.Sums.{fold-append}
use Rattle.json.specs.Token.{Token}
use Rattle.json.specs.Lex.{tokens}
use Rattle.json.specs.Print.{print, print_from, quoted, escape_byte, ends}
use Rattle.json.specs.Json as json
use Rattle.json.specs.Tree as tree
use Rattle.json.specs.Tree.{json_tokens, items_tokens, members_tokens, HasNumbers}
use Rattle.json.proofs.Numbered.{value-HasNumbers, ArePrintableOrBad-tokens}
use Rattle.json.proofs.Printed.Tokens.{tokens-print, print_from-append}
use Rattle.json.proofs.Printed.Trees.{value-json_tokens, ArePrintable-json_tokens}
use Rattle.serde_json.specs.Data.{Data, null, boolean, number, string, array, object, Items, no_items, item, Members}
use Rattle.serde_json.specs.Data.{no_members, member, depth, items_depth, members_depth}
use Rattle.serde_json.specs.Read.{read, max_depth, of_json}
use Rattle.serde_json.specs.Written.{outline, items_outline, members_outline, blank, blank_items, blank_members}
use Rattle.serde_json.specs.Written.{compact_text}
use Rattle.json.proofs.Printed.Decimals.{IsNumber-decimal, IsNumber-signed_decimal}
use Rattle.serde_json.proofs.Numbers.{number_of-decimal, number_of-negative}
use Rattle.std.specs.Fmt.{signed_decimal}
use borrow.Author.Tests.{ltb-true}
use Rattle.lsp_message.specs.Id as id
use Rattle.lsp_message.specs.Id.{Id}
use Rattle.serde_json.specs.Find.{of_integer}
use Rattle.std.specs.Option.{ok_or}
use Rattle.std.specs.Str.{IsUtf8}
use Rattle.lsp_message.specs.Frame.{body_means, no_message, tree_means}
use Rattle.lsp_message.proofs.Contents.{body_means-text}
use Rattle.lsp_message.proofs.Ids.{id_flat}
use Rattle.lsp_message.specs.Tree.{id_tree, error_tree, without_null_details}
use Rattle.lsp_message.proofs.TreeLaws.{as_error-error_tree}
use Rattle.lsp_message.specs.Meaning.{is_i32, as_i32, as_id, code_of, meaning, unless_null}
use Rattle.lsp_message.specs.Message.{ErrorObject, Message, request, notification, response}
use Rattle.lsp_message.specs.Ranges.{IsIdInRange, IsInRange, nesting}
use Rattle.lsp_message.specs.Text.{IsValueText, IsLaterMember, IsErrorText, IsBodyOf, named}

mutual
  depth-blank : (j : json.Json) → tree.depth (blank j) ≡ tree.depth j
  depth-blank json.null = refl
  depth-blank (json.boolean b) = refl
  depth-blank (json.number s) = refl
  depth-blank (json.string s) = refl
  depth-blank (json.array js) = ap suc (depth-blank_items js)
  depth-blank (json.object ms) = ap suc (depth-blank_members ms)

  depth-blank_items : (js : json.Items) → tree.items_depth (blank_items js) ≡ tree.items_depth js
  depth-blank_items json.no_items = refl
  depth-blank_items (json.item j js) = ap₂ max (depth-blank j) (depth-blank_items js)

  depth-blank_members : (ms : json.Members) → tree.members_depth (blank_members ms) ≡ tree.members_depth ms
  depth-blank_members json.no_members = refl
  depth-blank_members (json.member k j ms) = ap₂ max (depth-blank j) (depth-blank_members ms)

mutual
  depth-outline : (d : Data) → tree.depth (outline d) ≡ depth d
  depth-outline null = refl
  depth-outline (boolean b) = refl
  depth-outline (number n) = refl
  depth-outline (string s) = refl
  depth-outline (array ds) = ap suc (depth-outline_items ds)
  depth-outline (object ms) = ap suc (depth-outline_members ms)

  depth-outline_items : (ds : Items) → tree.items_depth (items_outline ds) ≡ items_depth ds
  depth-outline_items no_items = refl
  depth-outline_items (item d ds) = ap₂ max (depth-outline d) (depth-outline_items ds)

  depth-outline_members : (ms : Members) → tree.members_depth (members_outline ms) ≡ members_depth ms
  depth-outline_members no_members = refl
  depth-outline_members (member k d ms) = ap₂ max (depth-outline d) (depth-outline_members ms)

-- the JSON that reads as the data
pub record IsJsonOf (d : Data) (j : json.Json) : Type 0 where
  pub numbers : HasNumbers j
  pub reads : of_json j ≡ Some d
  pub nests : tree.depth j ≡ depth d

-- what is read, of a text's first value and the rest
abbrev whole : Option (json.Json × List Token) → Option Data
whole o = option_and_then of_json (option_and_then (λ p. json.if_last p.0 p.1) o)

pub value_json : (d : Data) (text : List ℕ) → IsValueText d text → depth d ≤ max_depth → (j : json.Json) × IsJsonOf d j
    × (text ≡ print (json_tokens j))
value_json d text h shallow =
    let j = h.in_order.0 in
    let nests : tree.depth j ≡ depth d = sym (depth-blank j) ∙ ap tree.depth h.in_order.2 ∙ depth-outline d in
    let found : json.value max_depth (tokens text) ≡ Some (j, []) = ap (json.value max_depth) (h.in_order.1
    ∙ sym (append-nil _)) ∙ value-json_tokens j max_depth [] (omega (arith, nests)) in (
      j,
      record {
        numbers = value-HasNumbers max_depth (tokens text) [] j (ArePrintableOrBad-tokens text) found;
        reads = sym (ap whole found) ∙ h.reads_back shallow;
        nests = nests;
      },
      h.compact ∙ ap print h.in_order.1,
    )

-- JSON that was printed is read as its data
pub read-print : (d : Data) (j : json.Json) → IsJsonOf d j → depth d ≤ max_depth → read (print (json_tokens j)) ≡ Some d
read-print d j h shallow =
    ap whole (ap (json.value max_depth) (tokens-print (json_tokens j) (ArePrintable-json_tokens j h.numbers)
    ∙ sym (append-nil _)) ∙ value-json_tokens j max_depth [] (omega (arith, h.nests)))
    ∙ h.reads

-- ---- the text of an object, from those of its values

abbrev after : Bool → List Token → Bool
after c ts = fold (λ _ t. ends t) c ts

mutual
  after-json_tokens : (c : Bool) (j : json.Json) → after c (json_tokens j) ≡ true
  after-json_tokens c json.null = refl
  after-json_tokens c (json.boolean b) = refl
  after-json_tokens c (json.number s) = refl
  after-json_tokens c (json.string s) = refl
  after-json_tokens c (json.array js) = after-items_tokens false js
  after-json_tokens c (json.object ms) = after-members_tokens false ms

  after-items_tokens : (c : Bool) (js : json.Items) → after c (items_tokens js) ≡ true
  after-items_tokens c json.no_items = refl
  after-items_tokens c (json.item j js) = fold-append (λ _ t. ends t) c (json_tokens j) (items_tokens js)
      ∙ after-items_tokens _ js

  after-members_tokens : (c : Bool) (ms : json.Members) → after c (members_tokens ms) ≡ true
  after-members_tokens c json.no_members = refl
  after-members_tokens c (json.member k j ms) = fold-append (λ _ t. ends t) false (json_tokens j) (members_tokens ms)
      ∙ after-members_tokens _ ms

-- what follows a value in a text
print-value : (j : json.Json) (ts : List Token) → print_from false (json_tokens j ++ ts) ≡ print (json_tokens j)
    ++ print_from true ts
print-value j ts = print_from-append false (json_tokens j) ts ∙ ap (λ c. print (json_tokens j) ++ print_from c ts)
    (after-json_tokens false j)

-- the members of an object, with a comma before each
abbrev text_of_members : json.Members → List ℕ
text_of_members json.no_members = codes "}"
text_of_members (json.member k j ms) = codes "," ++ (quoted k ++ codes ":" ++ print (json_tokens j)) ++ text_of_members
    ms

print-members : (ms : json.Members) → print_from true (members_tokens ms) ≡ text_of_members ms
unfolding print_from
print-members json.no_members = refl
print-members (json.member k j ms) =
    ap (λ s. codes "," ++ ((quoted k ++ codes ":") ++ s)) (print-value j (members_tokens ms)
    ∙ ap (λ s. print (json_tokens j) ++ s) (print-members ms))
    ∙ simp append_assoc

-- the whole object
print-object : (k : List ℕ) (j : json.Json) (ms : json.Members) → print (json_tokens (json.object (json.member k j ms)))
    ≡ codes "{" ++ (quoted k ++ codes ":" ++ print (json_tokens j)) ++ text_of_members ms
unfolding print_from
print-object k j ms =
    ap (λ s. codes "{" ++ ((quoted k ++ codes ":") ++ s)) (print-value j (members_tokens ms)
    ∙ ap (λ s. print (json_tokens j) ++ s) (print-members ms))
    ∙ simp append_assoc

print-string : (s : List ℕ) → print (json_tokens (json.string s)) ≡ quoted s
unfolding print_from
print-string s = append-nil (quoted s)

-- ---- a notification

abbrev noted : List ℕ → json.Members → json.Json
noted method more = json.object (json.member (codes "jsonrpc") (json.string (codes "2.0")) (json.member (codes "method")
    (json.string method) more))

noted_text : (method : List ℕ) (more : json.Members) → print (json_tokens (noted method more))
    ≡ named (codes "{\"jsonrpc\":\"2.0\",") (codes "method") (quoted method) ++ text_of_members more
unfolding escape_byte
noted_text method more =
    print-object (codes "jsonrpc") (json.string (codes "2.0")) (json.member (codes "method") (json.string method) more)
    ∙ rw (print-string method, print-string (codes "2.0")) (simp append_assoc)

-- the tree of the content part
abbrev noted_tree : List ℕ → Members → Data
noted_tree method more = object (member (codes "jsonrpc") (string (codes "2.0")) (member (codes "method")
    (string method) more))

bare_json : (method : List ℕ) → IsJsonOf (noted_tree method no_members) (noted method json.no_members)
bare_json method = record { numbers = (tt, (tt, tt)); reads = refl; nests = refl }

nothing_between : (front back : List ℕ) → front ++ [] ++ back ≡ front ++ back
nothing_between front back = ap (λ s. s ++ back) (append-nil front)

bare_notification : (method body : List ℕ) → IsBodyOf (notification method null) body → read body
    ≡ Some (noted_tree method no_members)
bare_notification method body h =
    let text : body ≡ print (json_tokens (noted method json.no_members)) =
    h.2 ∙ ap (λ more. named (codes "{\"jsonrpc\":\"2.0\",") (codes "method") (quoted method) ++ more ++ codes "}") h.1
    ∙ nothing_between (named (codes "{\"jsonrpc\":\"2.0\",") (codes "method") (quoted method)) (codes "}")
    ∙ sym (noted_text method json.no_members) in
    ap read text ∙ read-print (noted_tree method no_members) (noted method json.no_members) (bare_json method) (lit≤ tt)

-- with params
noted_json : (method : List ℕ) (params : Data) (j : json.Json) → IsJsonOf params j
    → IsJsonOf (noted_tree method (member (codes "params") params no_members))
    (noted method (json.member (codes "params") j json.no_members))
noted_json method params j h = record {
  numbers = (tt, (tt, (h.numbers, tt)));
  reads = rw h.reads refl;
  nests = rw
      h.nests refl;
}

params_text : (j : json.Json) (value more : List ℕ) → more ≡ named (codes ",") (codes "params") value → value
    ≡ print (json_tokens j)
    → text_of_members (json.member (codes "params") j json.no_members) ≡ more ++ codes "}"
unfolding escape_byte
params_text j value more is printed = rw (is, printed) (simp append_assoc)

full_notification : (method : List ℕ) (params : Data) (more body : List ℕ) → suc (depth params) ≤ max_depth
    → IsLaterMember (codes "params") (Some params) more
    → body ≡ named (codes "{\"jsonrpc\":\"2.0\",") (codes "method") (compact_text (string method)) ++ more ++ codes "}"
    → read body ≡ Some (noted_tree method (member (codes "params") params no_members))
unfolding escape_byte
full_notification method params more body shallow later is =
    let value = value_json params later.0 later.1 (omega arith) in
    let j = value.0 in
    let after_method : text_of_members (json.member (codes "params") j json.no_members) ≡ more
    ++ codes "}" = params_text j later.0 more later.2 value.2 in
    let text : body ≡ print (json_tokens (noted method (json.member (codes "params") j json.no_members))) =
    is ∙ append_assoc (named (codes "{\"jsonrpc\":\"2.0\",") (codes "method") (quoted method)) more (codes "}")
    ∙ sym (noted_text method (json.member (codes "params") j json.no_members)
    ∙ ap (λ s. named (codes "{\"jsonrpc\":\"2.0\",") (codes "method") (quoted method) ++ s) after_method) in
    ap read text ∙ read-print _ _ (noted_json method params j value.1) (omega arith)

-- the reader finds in the text a tree that means the message
abbrev pub IsReadAs : List ℕ → Message → Type 0
IsReadAs body m = (d : Data) × (read body ≡ Some d) × (meaning d ≡ Some m)

pub notification_reads_back : (method : List ℕ) (params : Data) (body : List ℕ) → suc (depth params) ≤ max_depth
    → IsBodyOf (notification method params) body → IsReadAs body (notification method params)
notification_reads_back method null body shallow h = (_, bare_notification method body h, refl)
notification_reads_back method (boolean b) body shallow h = (
  _,
  full_notification method (boolean b) h.0 body shallow
      h.1 h.2,
  refl,
)
notification_reads_back method (number n) body shallow h = (
  _,
  full_notification method (number n) h.0 body shallow h.1
      h.2,
  refl,
)
notification_reads_back method (string s) body shallow h = (
  _,
  full_notification method (string s) h.0 body shallow h.1
      h.2,
  refl,
)
notification_reads_back method (array ds) body shallow h = (
  _,
  full_notification method (array ds) h.0 body shallow h.1
      h.2,
  refl,
)
notification_reads_back method (object ms) body shallow h = (
  _,
  full_notification method (object ms) h.0 body shallow
      h.1 h.2,
  refl,
)

-- ---- a request

print-number : (s : List ℕ) → print (json_tokens (json.number s)) ≡ s
unfolding print_from
print-number s = append-nil s

print-id : (i : Id) → print (json_tokens (outline (id_tree i))) ≡ compact_text (id_tree i)
print-id (id.number (pos n)) = print-number (decimal n)
print-id (id.number (negsuc n)) = print-number (signed_decimal (negsuc n))
print-id (id.text s) = print-string s

id_json : (i : Id) → IsIdInRange i → IsJsonOf (id_tree i) (outline (id_tree i))
id_json (id.number (pos n)) good = let below : n < 2 ^ 31 = ltb-true n (2 ^ 31) good in record {
  numbers = IsNumber-decimal n (omega arith);
  reads = ap (option_map number) (number_of-decimal n (omega arith));
  nests = refl;
}
id_json (id.number (negsuc n)) good = let below : n < 2 ^ 31 = ltb-true n (2 ^ 31) good in record {
  numbers = IsNumber-signed_decimal (negsuc n) (omega arith);
  reads = ap (option_map number) (number_of-negative n
      (omega arith));
  nests = refl;
}
id_json (id.text s) good = record { numbers = tt; reads = refl; nests = refl }

-- an object that begins with the version
abbrev versioned : json.Members → json.Json
versioned ms = json.object (json.member (codes "jsonrpc") (json.string (codes "2.0")) ms)

versioned_text : (ms : json.Members) → print (json_tokens (versioned ms)) ≡ codes "{\"jsonrpc\":\"2.0\""
    ++ text_of_members ms
unfolding escape_byte
versioned_text ms = print-object (codes "jsonrpc") (json.string (codes "2.0")) ms ∙ rw (print-string (codes "2.0"))
    (simp append_assoc)

-- the id, and then others
abbrev with_id : Id → json.Members → json.Json
with_id i more = versioned (json.member (codes "id") (outline (id_tree i)) more)

id_text : (i : Id) (more : json.Members) → print (json_tokens (with_id i more)) ≡ named (codes "{\"jsonrpc\":\"2.0\",")
    (codes "id") (compact_text (id_tree i)) ++ text_of_members more
unfolding escape_byte
id_text i more = versioned_text (json.member (codes "id") (outline (id_tree i)) more)
    ∙ rw (print-id i) (simp append_assoc)

-- ---- a reply with a result

abbrev result_tree : Id → Data → Data
result_tree i result = object (member (codes "id") (id_tree i) (member (codes "jsonrpc") (string (codes "2.0"))
    (member (codes "result") result no_members)))

result_json : (i : Id) (result : Data) (j : json.Json) → IsIdInRange i → IsJsonOf result j
    → IsJsonOf (result_tree i result) (with_id i (json.member (codes "result") j json.no_members))
result_json i result j good h = let known = id_json i good in record {
  numbers = (tt, (known.numbers, (h.numbers, tt)));
  reads = rw (known.reads, h.reads) refl;
  nests = rw (known.nests, h.nests) (omega arith);
}

result_text : (j : json.Json) (value : List ℕ) → value ≡ print (json_tokens j)
    → text_of_members (json.member (codes "result") j json.no_members) ≡ named (codes ",") (codes "result") value
    ++ codes "}"
unfolding escape_byte
result_text j value printed = rw printed (simp append_assoc)

pub result_reads_back : (i : Id) (result : Data) (body : List ℕ) → IsIdInRange i → as_id (id_tree i) ≡ Some i
    → suc (depth result) ≤ max_depth → IsBodyOf (response i (Ok result)) body → IsReadAs body (response i (Ok result))
result_reads_back i result body good same shallow h =
    let flat = id_flat i in
    let value = value_json result h.0 h.1 (omega arith) in
    let j = value.0 in
    let front = named (codes "{\"jsonrpc\":\"2.0\",") (codes "id") (compact_text (id_tree i)) in
    let text : body ≡ print (json_tokens (with_id i (json.member (codes "result") j json.no_members))) =
    h.2 ∙ append_assoc front (named (codes ",") (codes "result") h.0) (codes "}")
    ∙ sym (id_text i (json.member (codes "result") j json.no_members) ∙ ap (λ s. front ++ s) (result_text j h.0
    value.2)) in (
      result_tree i result,
      ap read text ∙ read-print _ _ (result_json i result j good value.1) (omega (arith, flat)),
      rw same refl,
    )

-- ---- a request

abbrev request_tree : Id → List ℕ → Members → Data
request_tree i method more = object (member (codes "id") (id_tree i) (member (codes "jsonrpc") (string (codes "2.0"))
    (member (codes "method") (string method) more)))

abbrev asked : Id → List ℕ → json.Members → json.Json
asked i method more = with_id i (json.member (codes "method") (json.string method) more)

method_text : (method : List ℕ) (more : json.Members) → text_of_members (json.member (codes "method")
    (json.string method) more) ≡ named (codes ",") (codes "method") (quoted method) ++ text_of_members more
unfolding escape_byte
method_text method more = rw (print-string method) (simp append_assoc)

asked_text : (i : Id) (method : List ℕ) (more : json.Members) → print (json_tokens (asked i method more))
    ≡ named (codes "{\"jsonrpc\":\"2.0\",") (codes "id") (compact_text (id_tree i)) ++ named (codes ",")
    (codes "method") (quoted method) ++ text_of_members more
asked_text i method more =
    let front = named (codes "{\"jsonrpc\":\"2.0\",") (codes "id") (compact_text (id_tree i)) in
    id_text i (json.member (codes "method") (json.string method) more) ∙ ap (λ s. front ++ s) (method_text method more)
    ∙ sym (append_assoc front (named (codes ",") (codes "method") (quoted method)) (text_of_members more))

bare_request : (i : Id) (method body : List ℕ) → IsIdInRange i → IsBodyOf (request i method null) body → read body
    ≡ Some (request_tree i method no_members)
bare_request i method body good h =
    let flat = id_flat i in
    let known = id_json i good in
    let front = named (codes "{\"jsonrpc\":\"2.0\",") (codes "id") (compact_text (id_tree i)) ++ named (codes ",")
    (codes "method") (quoted method) in
    let text : body ≡ print (json_tokens (asked i method json.no_members)) = h.2 ∙ ap (λ more. front ++ more
    ++ codes "}") h.1 ∙ nothing_between front (codes "}") ∙ sym (asked_text i method json.no_members) in
    let is : IsJsonOf (request_tree i method no_members) (asked i method json.no_members) = record {
      numbers = (
        tt,
        (known.numbers, (tt, tt)),
      );
      reads = rw known.reads refl;
      nests = rw known.nests (omega arith);
    } in
    ap read text ∙ read-print _ _ is (omega (arith, flat))

full_request : (i : Id) (method : List ℕ) (params : Data) (more body : List ℕ) → IsIdInRange i → suc (depth params) ≤
    max_depth → IsLaterMember (codes "params") (Some params) more
    → body ≡ named (codes "{\"jsonrpc\":\"2.0\",") (codes "id") (compact_text (id_tree i)) ++ named (codes ",")
    (codes "method") (compact_text (string method)) ++ more ++ codes "}"
    → read body ≡ Some (request_tree i method (member (codes "params") params no_members))
full_request i method params more body good shallow later is =
    let flat = id_flat i in
    let known = id_json i good in
    let value = value_json params later.0 later.1 (omega arith) in
    let j = value.0 in
    let front = named (codes "{\"jsonrpc\":\"2.0\",") (codes "id") (compact_text (id_tree i)) ++ named (codes ",")
    (codes "method") (quoted method) in
    let text : body ≡ print (json_tokens (asked i method (json.member (codes "params") j json.no_members))) =
    is ∙ append_assoc front more (codes "}")
    ∙ sym (asked_text i method (json.member (codes "params") j json.no_members) ∙ ap (λ s. front ++ s) (params_text j
    later.0 more later.2 value.2)) in
    let h = value.1 in
    let whole_json : IsJsonOf (request_tree i method (member (codes "params") params no_members)) (asked i method
    (json.member (codes "params") j json.no_members)) =
    record {
      numbers = (tt, (known.numbers, (tt, (h.numbers, tt))));
      reads = rw (known.reads, h.reads) refl;
      nests = rw
          (known.nests, h.nests) (omega arith);
    } in
    ap read text ∙ read-print _ _ whole_json (omega (arith, flat))

pub request_reads_back : (i : Id) (method : List ℕ) (params : Data) (body : List ℕ) → IsIdInRange i → as_id (id_tree i)
    ≡ Some i → suc (depth params) ≤ max_depth → IsBodyOf (request i method params) body
    → IsReadAs body (request i method params)
request_reads_back i method null body good same shallow h = (_, bare_request i method body good h, rw same refl)
request_reads_back i method (boolean b) body good same shallow h = (
  _,
  full_request i method (boolean b) h.0 body good
      shallow h.1 h.2,
  rw same refl,
)
request_reads_back i method (number n) body good same shallow h = (
  _,
  full_request i method (number n) h.0 body good
      shallow h.1 h.2,
  rw same refl,
)
request_reads_back i method (string s) body good same shallow h = (
  _,
  full_request i method (string s) h.0 body good
      shallow h.1 h.2,
  rw same refl,
)
request_reads_back i method (array ds) body good same shallow h = (
  _,
  full_request i method (array ds) h.0 body good
      shallow h.1 h.2,
  rw same refl,
)
request_reads_back i method (object ms) body good same shallow h = (
  _,
  full_request i method (object ms) h.0 body good
      shallow h.1 h.2,
  rw same refl,
)

-- ---- a reply with an error

abbrev code_json : ℤ → json.Json
code_json z = outline (number (of_integer z))

code_is : (z : ℤ) → is_i32 z ≡ true → IsJsonOf (number (of_integer z)) (code_json z)
code_is z good = id_json (id.number z) good

code_text : (z : ℤ) → print (json_tokens (code_json z)) ≡ compact_text (number (of_integer z))
code_text z = print-id (id.number z)

abbrev failed : ℤ → List ℕ → json.Members → json.Json
failed code message more = json.object (json.member (codes "code") (code_json code) (json.member (codes "message")
    (json.string message) more))

two_members : (first second rest : List ℕ) → codes "{" ++ (quoted (codes "code") ++ codes ":" ++ first)
    ++ (codes "," ++ (quoted (codes "message") ++ codes ":" ++ second) ++ rest)
    ≡ named (codes "{") (codes "code") first ++ named (codes ",") (codes "message") second ++ rest
unfolding escape_byte
two_members first second rest = sym (append_assoc (named (codes "{") (codes "code") first) (named (codes ",")
    (codes "message") second) rest)

failed_text : (code : ℤ) (message : List ℕ) (more : json.Members) → print (json_tokens (failed code message more))
    ≡ named (codes "{") (codes "code") (compact_text (number (of_integer code))) ++ named (codes ",") (codes "message")
    (quoted message) ++ text_of_members more
failed_text code message more =
    let rest = text_of_members more in
    print-object (codes "code") (code_json code) (json.member (codes "message") (json.string message) more)
    ∙ ap (λ c. codes "{" ++ (quoted (codes "code") ++ codes ":" ++ c) ++ (codes "," ++ (quoted (codes "message")
    ++ codes ":" ++ print (json_tokens (json.string message))) ++ rest)) (code_text code)
    ∙ ap (λ m. codes "{" ++ (quoted (codes "code") ++ codes ":" ++ compact_text (number (of_integer code)))
    ++ (codes "," ++ (quoted (codes "message") ++ codes ":" ++ m) ++ rest)) (print-string message)
    ∙ two_members (compact_text (number (of_integer code))) (quoted message) rest

data_text : (j : json.Json) (value more : List ℕ) → more ≡ named (codes ",") (codes "data") value → value
    ≡ print (json_tokens j)
    → text_of_members (json.member (codes "data") j json.no_members) ≡ more ++ codes "}"
unfolding escape_byte
data_text j value more is printed = rw (is, printed) (simp append_assoc)

-- how deep an error's data nests
abbrev pub details_depth : Option Data → ℕ
details_depth None = 0
details_depth (Some d) = depth d

error_json : (code : ℤ) (message : List ℕ) (details : Option Data) (value : List ℕ) → is_i32 code ≡ true
    → suc (suc (details_depth details)) ≤ max_depth
    → IsErrorText (record { code = code; message = message; details = details }) value
    → (j : json.Json) × IsJsonOf (error_tree (record { code = code; message = message; details = details })) j
    × (value ≡ print (json_tokens j))
error_json code message None value good shallow h =
    let known = code_is code good in
    let front = named (codes "{") (codes "code") (compact_text (number (of_integer code))) ++ named (codes ",")
    (codes "message") (quoted message) in (
      failed code message json.no_members,
      record { numbers = (known.numbers, (tt, tt)); reads = rw known.reads refl; nests = refl },
      h.2 ∙ ap (λ more. front ++ more ++ codes "}") h.1 ∙ nothing_between front (codes "}")
          ∙ sym (failed_text code message json.no_members),
    )
error_json code message (Some d) value good shallow h =
    let known = code_is code good in
    let code_flat = id_flat (id.number code) in
    let front = named (codes "{") (codes "code") (compact_text (number (of_integer code))) ++ named (codes ",")
    (codes "message") (quoted message) in
    let inner = value_json d h.1.0 h.1.1 (omega arith) in
    let k = inner.1 in (
      failed code message (json.member (codes "data") inner.0 json.no_members),
      record {
        numbers = (known.numbers, (tt, (k.numbers, tt)));
        reads = rw (known.reads, k.reads) refl;
        nests = rw
            k.nests (omega (arith, code_flat));
      },
      h.2 ∙ append_assoc front h.0 (codes "}") ∙ sym (failed_text code message (json.member (codes "data") inner.0
          json.no_members) ∙ ap (λ s. front ++ s) (data_text inner.0 h.1.0 h.0 h.1.2 inner.2)),
    )

abbrev failure_tree : Id → Data → Data
failure_tree i e = object (member (codes "error") e (member (codes "id") (id_tree i) (member (codes "jsonrpc")
    (string (codes "2.0")) no_members)))

failure_json : (i : Id) (e : Data) (j : json.Json) → IsIdInRange i → IsJsonOf e j → IsJsonOf (failure_tree i e)
    (with_id i (json.member (codes "error") j json.no_members))
failure_json i e j good h = let known = id_json i good in record {
  numbers = (tt, (known.numbers, (h.numbers, tt)));
  reads = rw (known.reads, h.reads) refl;
  nests = rw (known.nests, h.nests) (omega arith);
}

error_text : (j : json.Json) (value : List ℕ) → value ≡ print (json_tokens j)
    → text_of_members (json.member (codes "error") j json.no_members) ≡ named (codes ",") (codes "error") value
    ++ codes "}"
unfolding escape_byte
error_text j value printed = rw printed (simp append_assoc)

error_shallow : (code : ℤ) (message : List ℕ) (details : Option Data) → suc (suc (details_depth details)) ≤ max_depth
    → suc (depth (error_tree (record { code = code; message = message; details = details }))) ≤ max_depth
error_shallow (pos n) message None h = lit≤ tt
error_shallow (negsuc n) message None h = lit≤ tt
error_shallow (pos n) message (Some d) h = omega arith
error_shallow (negsuc n) message (Some d) h = omega arith

pub error_reads_back : (i : Id) (code : ℤ) (message : List ℕ) (details : Option Data) (body : List ℕ) → IsIdInRange i
    → as_id (id_tree i) ≡ Some i
    → is_i32 code ≡ true → code_of (number (of_integer code)) ≡ Some code → suc (suc (details_depth details)) ≤
    max_depth
    → IsBodyOf (response i (Err (record { code = code; message = message; details = details }))) body
    → IsReadAs body (response i (Err (record { code = code; message = message; details = unless_null details })))
error_reads_back i code message details body good same fits is_code shallow h =
    let flat = id_flat i in
    let e = error_tree (record { code = code; message = message; details = details }) in
    let value = error_json code message details h.0 fits shallow h.1 in
    let j = value.0 in
    let front = named (codes "{\"jsonrpc\":\"2.0\",") (codes "id") (compact_text (id_tree i)) in
    let text : body ≡ print (json_tokens (with_id i (json.member (codes "error") j json.no_members))) =
    h.2 ∙ append_assoc front (named (codes ",") (codes "error") h.0) (codes "}")
    ∙ sym (id_text i (json.member (codes "error") j json.no_members) ∙ ap (λ s. front ++ s) (error_text j h.0 value.2))
    in
    let fine = error_shallow code message details shallow in (
      failure_tree i e,
      ap read text ∙ read-print _ _ (failure_json i e j good value.1) (omega (arith, flat, fine)),
      rw (same, as_error-error_tree code message details is_code) refl,
    )

-- ---- any message

as_i32-of_integer : (z : ℤ) → is_i32 z ≡ true → as_i32 (of_integer z) ≡ Some z
as_i32-of_integer (pos n) fits = rw fits refl
as_i32-of_integer (negsuc n) fits = rw fits refl

as_id-id_tree : (i : Id) → IsIdInRange i → as_id (id_tree i) ≡ Some i
as_id-id_tree (id.number z) fits = ap (option_map id.number) (as_i32-of_integer z fits)
as_id-id_tree (id.text s) fits = refl

shallow_params : (i : Id) (method : List ℕ) (params : Data) → nesting (request i method params) ≤ max_depth
    → suc (depth params) ≤ max_depth
shallow_params i method null h = lit≤ tt
shallow_params i method (boolean b) h = lit≤ tt
shallow_params i method (number n) h = lit≤ tt
shallow_params i method (string s) h = lit≤ tt
shallow_params i method (array ds) h = omega arith
shallow_params i method (object ms) h = omega arith

shallow_notification : (method : List ℕ) (params : Data) → nesting (notification method params) ≤ max_depth
    → suc (depth params) ≤ max_depth
shallow_notification method null h = lit≤ tt
shallow_notification method (boolean b) h = lit≤ tt
shallow_notification method (number n) h = lit≤ tt
shallow_notification method (string s) h = lit≤ tt
shallow_notification method (array ds) h = omega arith
shallow_notification method (object ms) h = omega arith

shallow_details : (i : Id) (e : ErrorObject) → nesting (response i (Err e)) ≤ max_depth
    → suc (suc (details_depth e.details)) ≤ max_depth
shallow_details i e h = at e.details h
  where
    at : (details : Option Data)
        → nesting (response i (Err (record { code = e.code; message = e.message; details = details }))) ≤ max_depth
        → suc (suc (details_depth details)) ≤ max_depth
    at None h = lit≤ tt
    at (Some d) h = omega arith

-- what is written is read back
pub message_reads_back : (m : Message) (body : List ℕ) → IsInRange m → nesting m ≤ max_depth → IsBodyOf m body
    → IsReadAs body (without_null_details m)
message_reads_back (request i method params) body range shallow is =
    request_reads_back i method params body range (as_id-id_tree i range) (shallow_params i method params shallow) is
message_reads_back (notification method params) body range shallow is =
    notification_reads_back method params body (shallow_notification method params shallow) is
message_reads_back (response i (Ok result)) body range shallow is =
    result_reads_back i result body range (as_id-id_tree i range) (omega arith) is
message_reads_back (response i (Err e)) body range shallow is =
    error_reads_back i e.code e.message e.details body range.0 (as_id-id_tree i range.0) range.1 (as_i32-of_integer
    e.code range.1) (shallow_details i e shallow) is

pub body_reads_back : (m : Message) (body : List ℕ) → IsUtf8 body → IsInRange m → nesting m ≤ max_depth
    → IsBodyOf m body → body_means body ≡ Ok (without_null_details m)
body_reads_back m body text range shallow is =
    let back = message_reads_back m body range shallow is in
    body_means-text body text ∙ ap tree_means back.1 ∙ ap (λ o. ok_or o (no_message back.0)) back.2

pub result_reads : {X E : Type 0} (bytes : X → List ℕ) → ((x : X) → IsUtf8 (bytes x)) → (m : Message) (r : Result X E)
    → IfOk r (λ x. IsBodyOf m (bytes x)) → OnOk r (IsInRange m)
    → IfOk r (λ x. nesting m ≤ max_depth → body_means (bytes x) ≡ Ok (without_null_details m))
result_reads bytes text m (Ok x) is range = λ shallow. body_reads_back m (bytes x) (text x) range shallow is
result_reads bytes text m (Err e) is range = tt
