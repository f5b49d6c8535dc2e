-- A content that was read breaks no rule that says it was not; and what a line of a recording shows to a judgement.
use Rattle.std.proofs.Common.{◌≡◌, ◌⊎◌, inl, inr, Bool, true, false, true≢false, not, cond, ◌&&◌, ◌||◌, List, [], ◌∷◌}
use Rattle.std.proofs.Common.{◌++◌, ℕ}
use Rattle.std.proofs.Common.{Option, Some, None, refl, sym, ap, subst, ◌∙◌}
use Rattle.std.proofs.lemmas.Str.{IsUtf8-from_is_utf8, is_utf8-from_IsUtf8}
use Rattle.std.specs.List.{list_any}
use Rattle.std.specs.Prelude.{drop, is_some, option_map, option_and_then, codes}
use Rattle.std.specs.Str.{IsUtf8, is_utf8}
use Rattle.serde_json.specs.Data.{Data, null, boolean, number, string, array, object}
use Rattle.serde_json.specs.Find.{get, as_str, as_null}
use Rattle.serde_json.specs.Read.{read}
use Rattle.serde_json.specs.View.{view}
use Rattle.lsp_message.specs.Meaning.{unless_null}
use Rattle.lsp_watch.specs.Methods.{is_request, is_notification}
use Rattle.lsp_watch.specs.Entries.{entry_view, entry_in}
use Rattle.lsp_watch.specs.Shape.{when, has, faults_of, named_faults, call_faults, reply_faults, method_faults}
use Rattle.lsp_watch.specs.Shape.{outcome_faults}
use Rattle.lsp_watch.specs.Shape.{is_id, is_wide, is_structure, is_error, is_version}
use Rattle.lsp_watch.specs.Shape.{ReadsAs, IsReadAs, NoUtf8, IsNoText}
use Rattle.lsp_watch.specs.declared.breach.Verdict.TheVariants.{Breach}
use Rattle.lsp_watch.specs.declared.breach.Verdict.{Verdict}
use Rattle.lsp_watch.specs.declared.direction.Direction.{Direction}
use Rattle.lsp_watch.specs.declared.logged.LoggedMessage.{LoggedMessage}
use Rattle.lsp_watch.specs.declared.rule.Rule.TheVariants.{BadVersion, BadId, WideId, BadParams, BothOutcomes}
use Rattle.lsp_watch.specs.declared.rule.Rule.TheVariants.{NoOutcome, BadError}
use Rattle.lsp_watch.specs.declared.rule.Rule.TheVariants.{NeedsId, TakesNoId, NotJson, Unreadable}
use Rattle.lsp_watch.specs.declared.rule.Rule.{Rule}
use Rattle.lsp_judge.specs.Judged.{Judged, Judges, seen}
use Rattle.lsp_judge.specs.Recording.{says_unread, direction_of, tree_in, line_tree, is_read, is_empty_line, with_line}
use Rattle.lsp_judge.specs.declared.choice.Choice.{Choice}
use Rattle.lsp_judge.specs.declared.judgement.Judgement.{Judgement}
use Rattle.lsp_judge.specs.declared.passed.Order.TheVariants.{Known}
use Rattle.lsp_judge.specs.declared.passed.Order.{Order}
use Rattle.lsp_judge.specs.declared.passed.Passing.{Passing}

none_more : (xs ys : List Rule) → list_any says_unread xs ≡ false → list_any says_unread ys ≡ false
    → list_any says_unread (xs ++ ys) ≡ false
none_more [] ys e f = f
none_more (x ∷ xs) ys e f = at (says_unread x) refl (λ later. none_more xs ys later f)
  where
    at : (t : Bool) → says_unread x ≡ t → (list_any says_unread xs ≡ false → list_any says_unread (xs ++ ys) ≡ false)
        → (says_unread x || list_any says_unread (xs ++ ys)) ≡ false
    at true is behind = absurd (true≢false (sym (ap (λ t. t || list_any says_unread xs) is) ∙ e))
    at false is behind = ap (λ t. t || list_any says_unread (xs ++ ys)) is
        ∙ behind (sym (ap (λ t. t || list_any says_unread xs) is) ∙ e)

none_when : (b : Bool) (r : Rule) → says_unread r ≡ false → list_any says_unread (when b r) ≡ false
none_when true r e = ap (λ t. t || false) e
none_when false r e = refl

none_first : (b : Bool) (r : Rule) (ys : List Rule) → says_unread r ≡ false → list_any says_unread ys ≡ false
    → list_any says_unread (when b r ++ ys) ≡ false
none_first b r ys e f = none_more (when b r) ys (none_when b r e) f

none_of_three : (a b c : Bool) (r s t : Rule) (ys : List Rule) → says_unread r ≡ false → says_unread s ≡ false
    → says_unread t ≡ false → list_any says_unread ys ≡ false
    → list_any says_unread (when a r ++ (when b s ++ (when c t ++ ys))) ≡ false
none_of_three a b c r s t ys er es et e = none_first a r (when b s ++ (when c t ++ ys)) er
    (none_first b s (when c t ++ ys) es (none_first c t ys et e))

of_method : (id : Option Data) (text : Option (List ℕ)) → list_any says_unread (method_faults id text) ≡ false
of_method id None = refl
of_method id (Some text) = none_first (not (is_some id) && is_request text) NeedsId
    (when (is_some id && is_notification text) TakesNoId) refl
    (none_when (is_some id && is_notification text) TakesNoId refl)

of_call : (d method : Data) → list_any says_unread (call_faults d method) ≡ false
of_call d method = let id : Option Data = get (codes "id") d in
    none_of_three (has (λ i. not (is_id i)) id) (has is_wide id)
    (has (λ params. not (is_structure params)) (get (codes "params") d))
    BadId WideId BadParams (method_faults id (as_str method)) refl refl refl (of_method id (as_str method))

of_outcome : (id : Data) (result error : Option Data) → list_any says_unread (outcome_faults id result error) ≡ false
of_outcome id result error =
    let failure : Option Data = unless_null error in
    let none : Bool = not (is_some result) && not (is_some failure) in
    let bad : Bool = has (λ e. not (is_error e)) failure in
    none_of_three (not (is_some (as_null id) && (is_some failure && not (is_some result))) && not (is_id id))
    (is_wide id)
    (is_some result && is_some error) BadId WideId BothOutcomes (when none NoOutcome ++ when bad BadError) refl refl
    refl
    (none_first none NoOutcome (when bad BadError) refl (none_when bad BadError refl))

of_reply : (d : Data) (id : Option Data) → list_any says_unread (reply_faults d id) ≡ false
of_reply d None = refl
of_reply d (Some id) = of_outcome id (get (codes "result") d) (get (codes "error") d)

of_named : (d : Data) (method : Option Data) → list_any says_unread (named_faults d method) ≡ false
of_named d None = of_reply d (get (codes "id") d)
of_named d (Some method) = of_call d method

pub none_says_unread : (d : Data) → list_any says_unread (faults_of d) ≡ false
none_says_unread (object ms) = none_first (not (is_version (object ms))) BadVersion
    (named_faults (object ms) (get (codes "method") (object ms)))
    refl (of_named (object ms) (get (codes "method") (object ms)))
none_says_unread (array ds) = refl
none_says_unread null = refl
none_says_unread (boolean b) = refl
none_says_unread (number n) = refl
none_says_unread (string s) = refl

-- ---- a content

-- a content was read, and what it was read as
abbrev pub Reads : LoggedMessage → Bool → Option Data → Type 0
Reads m t None = t ≡ false
Reads m t (Some d) = (t ≡ true) × IsReadAs m d

module _ (m : LoggedMessage) (u : Bool) (is : u ≡ list_any says_unread m.faults.items) where
  by_tree : (o : Option Data) → ReadsAs m o → Reads m (not u) o
  by_tree None r = of_why r.why
    where
      of_why : (m.faults.items ≡ NotJson ∷ []) ⊎ (m.faults.items ≡ Unreadable ∷ []) → not u ≡ false
      of_why (inl e) = ap not (is ∙ ap (list_any says_unread) e)
      of_why (inr e) = ap not (is ∙ ap (list_any says_unread) e)
  by_tree (Some d) r = (ap not (is ∙ ap (list_any says_unread) r.faults_are ∙ none_says_unread d), r)

  pub content_reads : (content : List ℕ) → (IsUtf8 content → ReadsAs m (read content)) → (NoUtf8 content → IsNoText m)
      → Reads m (not u) (tree_in content)
  content_reads content text bytes = at (is_utf8 content) refl
    where
      at : (t : Bool) → is_utf8 content ≡ t → Reads m (not u) (cond t (read content) None)
      at true e = by_tree (read content) (text (IsUtf8-from_is_utf8 content e))
      at false e =
          let none : IsNoText m = bytes (λ utf8. true≢false (sym (is_utf8-from_IsUtf8 content utf8) ∙ e)) in
          ap not (is ∙ ap (list_any says_unread) none.why)

-- ---- a line

-- the judgement after a message
abbrev seen_as : Choice → Bool → ℕ → Judged → Order → Option Verdict → Direction → LoggedMessage → Judged
seen_as choice late n j o v w x = seen choice late o v j n w x.faults.items (option_map entry_view x.entry)
    (option_map (λ e. view e.tree) x.entry)

module _ (line content : List ℕ) (direction : Direction) (m : LoggedMessage) (t : Bool) (marked : direction_of line
    ≡ Some direction)
    (content_is : content ≡ drop 3 line) (reads : Reads m t (tree_in content)) where
  abbrev of_tree : Option Data → Option (Direction × Data)
  of_tree o = option_map (λ tree. (direction, tree)) o

  tree_is : line_tree line ≡ of_tree (tree_in content)
  tree_is = ap (λ w. option_and_then (λ direction. option_map (λ tree. (direction, tree)) (tree_in (drop 3 line))) w)
      marked
      ∙ ap (λ bytes. of_tree (tree_in bytes)) (sym content_is)

  pub line_read : t ≡ is_read line
  line_read = at (tree_in content) reads ∙ sym (ap (λ o. is_some o || is_empty_line (direction_of line) line) tree_is
      ∙ ap (λ w. is_some (of_tree (tree_in content)) || is_empty_line w line) marked)
    where
      at : (o : Option Data) → Reads m t o → t ≡ (is_some (of_tree o) || false)
      at None r = r
      at (Some d) r = r.0

  pub line_sees : (choice : Choice) (late : Bool) (n : ℕ) (j : Judged) (k : Judgement) (p : Passing) → p.direction
      ≡ direction →
      p.message ≡ m
      → p.order ≡ Known → p.types ≡ Some Breach → t ≡ true
      → Judges k (seen choice late p.order p.types j n p.direction p.message.faults.items
      (option_map entry_view p.message.entry)
      (option_map (λ e. view e.tree) p.message.entry))
      → Judges k (with_line choice late n j (line_tree line))
  line_sees choice late n j k p direction_is message_is order_is types_are is_true sees =
      subst (λ o. Judges k (with_line choice late n j o)) (sym tree_is) (at (tree_in content) reads)
    where
      plain : Judges k (seen_as choice late n j Known (Some Breach) direction m)
      plain = subst (λ x. Judges k (seen_as choice late n j Known (Some Breach) direction x)) message_is
          (subst (λ w. Judges k (seen_as choice late n j Known (Some Breach) w p.message)) direction_is
          (subst (λ v. Judges k (seen_as choice late n j Known v p.direction p.message)) types_are
          (subst (λ o. Judges k (seen_as choice late n j o p.types p.direction p.message)) order_is sees)))

      at : (o : Option Data) → Reads m t o → Judges k (with_line choice late n j (of_tree o))
      at None r = absurd (true≢false (sym is_true ∙ r))
      at (Some d) r =
          subst (λ it. Judges k (seen choice late Known (Some Breach) j n direction (faults_of d) (entry_in d) it))
          r.1.tree_is
          (subst (λ fs. Judges k (seen choice late Known (Some Breach) j n direction fs (entry_in d)
          (option_map (λ e. view e.tree) m.entry))) r.1.faults_are
          (subst (λ e. Judges k (seen choice late Known (Some Breach) j n direction m.faults.items e
          (option_map (λ e. view e.tree) m.entry))) r.1.entry_is plain))
