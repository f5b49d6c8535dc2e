-- A look at the members of a content part tells that it is not the message `exit`.
use Rattle.json.proofs.Grammar.{left_some, members_end, members_more, value_is, value-begin_object}
use Rattle.json.specs.Json as json
use Rattle.json.specs.Json.{Json, Parse, members, parse_map, read_key, skip_value, string, value}
use Rattle.json.specs.Lex.{tokens}
use Rattle.json.specs.Token.{Token}
use Rattle.json.specs.Token as token
use Rattle.serde_json.proofs.Views.{get_member-put, get_member-put_other}
use Rattle.serde_json.specs.Data.{Data, object, Members, no_members, put}
use Rattle.serde_json.specs.Find.{as_str, get_member}
use Rattle.serde_json.specs.Read.{of_json, of_members, read}
use Rattle.std.proofs.Common.{◌≡◌, ◌∙◌, ◌≤◌, ◌<◌, ◌-◌, ℕ, Bool, true, false, List, [], ◌∷◌, length, Option, Some, None}
use Rattle.std.proofs.Common.{option_and_then, option_map, Result, Ok, Err, ap, refl, sym, subst, true≢false, codes}
use Rattle.std.proofs.Common.{bytes_eq, if◌then◌else◌, arith}
use Rattle.std.proofs.lemmas.Slice.Eq.{bytes_eq-Decides}
use Rattle.std.specs.Option.{ok_or}
use Rattle.std.specs.Str.{is_utf8}
use Rattle.lsp_message.specs.Frame.{no_message, tree_means}
use Rattle.lsp_message.specs.Id.{Id}
use Rattle.lsp_message.specs.Meaning.{as_id, meaning, message_of, outcome_of, unless_null}
use Rattle.lsp_message.specs.Message.{ErrorObject, Message, response}
use Rattle.lsp_message.specs.Methods.{is_exit}
use Rattle.lsp_message.specs.declared.frame.ReadFault.{ReadFault}
use Rattle.lsp_message.specs.declared.frame.ReadFault.TheVariants.{BodyNotText}
use Rattle.lsp_threads.specs.GoesOn.{BeginsNoExit, HasNoExit, IsNoExit, IsOtherText, ObjectNoExit, PassesOther}
use Rattle.lsp_threads.specs.GoesOn.{PassesValue}

-- ---- a message, by its method

abbrev OtherName : Option (List ℕ) → Type 0
OtherName None = Unit {0}
OtherName (Some s) = bytes_eq s (codes "exit") ≡ false

abbrev method_of : Members → Option (List ℕ)
method_of ms = option_and_then as_str (get_member (codes "method") ms)

abbrev exits : Option Message → Bool
exits None = false
exits (Some m) = is_exit m

abbrev exits_at : Result Message ReadFault → Bool
exits_at (Ok m) = is_exit m
exits_at (Err fault) = false

exits_or : (o : Option Message) (fault : ReadFault) → exits o ≡ false → exits_at (ok_or o fault) ≡ false
exits_or None fault stays = refl
exits_or (Some m) fault stays = stays

no_response : (i : Id) (outcome : Option (Result Data ErrorObject)) → exits (option_map (response i) outcome) ≡ false
no_response i None = refl
no_response i (Some o) = refl

other_message : (name : Option (List ℕ)) (i : Option Id) (params : Data) (outcome : Option (Result Data ErrorObject))
    → OtherName name → exits (message_of name i params outcome) ≡ false
other_message (Some s) (Some i) params outcome other = refl
other_message (Some s) None params outcome other = other
other_message None (Some i) params outcome other = no_response i outcome
other_message None None params outcome other = refl

-- ---- members that are put in one after another

abbrev OtherIn : Option Members → Type 0
OtherIn None = Unit {0}
OtherIn (Some ms) = OtherName (method_of ms)

each_of : (f : Data → Option Members) (x : Option Data) → ((d : Data) → x ≡ Some d → OtherIn (f d))
    → OtherIn (option_and_then f x)
each_of f None each = tt
each_of f (Some d) each = each d refl

other_text : (j : Json) (d : Data) → of_json j ≡ Some d → IsOtherText j → OtherName (option_and_then as_str (Some d))
other_text (string s) d is other = subst (λ o. OtherName (option_and_then as_str o)) is other
other_text j d is other = absurd other

put_at : (b : Bool) (name : List ℕ) (j : Json) (d : Data) (found : Members) → bytes_eq name (codes "method") ≡ b
    → of_json j ≡ Some d → (name ≡ codes "method" → IsOtherText j)
    → OtherName (method_of found) → OtherName (method_of (put name d found))
put_at true name j d found same is other kept =
    let named : name ≡ codes "method" = (bytes_eq-Decides name (codes "method")).0 same in
    subst (λ o. OtherName (option_and_then as_str o)) (sym (ap (λ q. get_member q (put name d found)) (sym named)
    ∙ get_member-put name d found)) (other_text j d is (other named))
put_at false name j d found same is other kept =
    let apart : codes "method" ≡ name → ⊥ = λ named. true≢false (sym ((bytes_eq-Decides name (codes "method")).1
    (sym named)) ∙ same) in
    subst (λ o. OtherName (option_and_then as_str o)) (sym (get_member-put_other (codes "method") name d found
    apart)) kept

members_kept : (ms : json.Members) (found : Members) → HasNoExit ms → OtherName (method_of found)
    → OtherIn (of_members ms found)
members_kept json.no_members found clean kept = kept
members_kept (json.member name j ms) found clean kept =
    each_of (λ d. of_members ms (put name d found)) (of_json j) (λ d is. members_kept ms (put name d found) clean.1
    (put_at _ name j d found refl is clean.0 kept))

-- ---- the whole text

abbrev whole : Option (Json × List Token) → Option Data
whole o = option_and_then of_json (option_and_then (λ (p : Json × List Token). json.if_last p.0 p.1) o)

object_means : (x : Option Members) → OtherIn x → exits_at (tree_means (option_map object x)) ≡ false
object_means None other = refl
object_means (Some ms) other =
    exits_or (meaning (object ms)) (no_message (object ms)) (other_message (method_of ms) (option_and_then as_id
    (get_member (codes "id") ms)) _ (outcome_of (get_member (codes "result") ms)
    (unless_null (get_member (codes "error") ms))) other)

text_means : (x : Option (json.Members × List Token)) → ((ms : json.Members) (rest : List Token) → x ≡ Some (ms, rest)
    → HasNoExit ms)
    → exits_at (tree_means (whole (parse_map json.object x))) ≡ false
text_means None clean = refl
text_means (Some (ms, [])) clean = object_means (of_members ms no_members) (members_kept ms no_members
    (clean ms [] refl) tt)
text_means (Some (ms, t ∷ rest)) clean = refl

read_no_exit : (text : List ℕ) → ObjectNoExit (tokens text) → exits_at (tree_means (read text)) ≡ false
read_no_exit text (rest, begins, clean) =
    ap (λ ts. exits_at (tree_means (whole (value 127 ts)))) begins
    ∙ ap (λ x. exits_at (tree_means (whole x))) (value-begin_object 127 rest (omega arith))
    ∙ text_means (members (value 126) (length rest) rest) clean

body_no_exit : (text : List ℕ) → exits_at (tree_means (read text)) ≡ false → (b : Bool) → exits_at (if b then tree_means
    (read text) else Err BodyNotText) ≡ false
body_no_exit text stays true = stays
body_no_exit text stays false = refl

pub text_no_exit : (text : List ℕ) → ObjectNoExit (tokens text) → IsNoExit text
text_no_exit text begins m means = sym (ap exits_at means) ∙ body_no_exit text (read_no_exit text begins) (is_utf8 text)

-- ---- members, one after another

abbrev first : json.Members → Option (json.Members × List Token) → json.Members
first ms None = ms
first ms (Some p) = p.0

one_more : (name : List ℕ) (j : Json) (x : Option (json.Members × List Token)) → (name ≡ codes "method" → IsOtherText j)
    → ((ms : json.Members) (rest : List Token) → x ≡ Some (ms, rest) → HasNoExit ms)
    → (ms : json.Members) (rest : List Token) → parse_map (json.member name j) x ≡ Some (ms, rest) → HasNoExit ms
one_more name j None other clean ms rest is = absurd (cc (is))
one_more name j (Some p) other clean ms rest is =
    subst HasNoExit (ap (first json.no_members) is) (other, clean p.0 p.1 refl)

-- the members end
pub no_more_members : (n : ℕ) (ts rest : List Token) → length ts ≤ n → read_key ts ≡ Some (None, rest)
    → BeginsNoExit n ts
no_more_members n ts rest enough key ms left is =
    subst HasNoExit (ap (first json.no_members) (sym (members_end (value 126) n ts rest enough key) ∙ is)) tt

-- a member more
pub more_members : (n : ℕ) (name : List ℕ) (ts mid rest : List Token) → 0 < n → read_key ts ≡ Some (Some name, mid)
    → PassesValue name mid rest
    → BeginsNoExit (n - 1) rest → BeginsNoExit n ts
more_members n name ts mid rest some key passes clean ms left is =
    one_more name passes.0 (members (value 126) (n - 1) rest) passes.2 clean ms left (sym (members_more (value 126) n
    name ts mid rest passes.0 some key passes.1) ∙ is)

-- ---- the value of a member

pub other_passed : (name : List ℕ) (old new : List Token) → PassesOther old new → PassesValue name old new
other_passed name old new passes = (
  string passes.0,
  ap (value 126) passes.1 ∙ value_is 126 (token.string passes.0
      ∷ new),
  λ named. passes.2,
  omega (arith, ap length passes.1),
)

pub value_passed : (name : List ℕ) (old new : List Token) → bytes_eq name (codes "method") ≡ false → skip_value 126 old
    ≡ Some new → length new < length old → PassesValue name old new
value_passed name old new apart skipped shorter =
    let value_at = left_some (value 126 old) new skipped in (
      value_at.0,
      value_at.1,
      λ named. absurd (true≢false (sym ((bytes_eq-Decides name (codes "method")).1 named)
          ∙ apart)),
      shorter,
    )
