-- What a content shows to a session.
use Rattle.std.proofs.Common.{◌≡◌, ◌⊎◌, inl, inr, Bool, true, false, true≢false, not, cond, ◌&&◌, List, [], ◌∷◌}
use Rattle.std.proofs.Common.{ℕ, Option, Some, None, refl, sym, ap, subst, ◌∙◌}
use Rattle.std.proofs.lemmas.Str.{IsUtf8-from_is_utf8, is_utf8-from_IsUtf8}
use Rattle.std.specs.List.{list_any}
use Rattle.std.specs.Prelude.{is_some, option_map, ◌==◌, if◌then◌else◌}
use Rattle.std.specs.Str.{IsUtf8, is_utf8}
use Rattle.serde_json.specs.Data.{Data}
use Rattle.serde_json.specs.Read.{read}
use Rattle.serde_json.specs.View.{view}
use Rattle.lsp_message.specs.Message.{Message}
use Rattle.lsp_watch.specs.Entries.{entry_view, entry_in}
use Rattle.lsp_watch.specs.Shape.{faults_of}
use Rattle.lsp_watch.specs.Shape.{ReadsAs, IsReadAs, NoUtf8, IsNoText}
use Rattle.lsp_watch.specs.declared.breach.Verdict.TheVariants.{Breach}
use Rattle.lsp_watch.specs.declared.breach.Verdict.{Verdict}
use Rattle.lsp_watch.specs.declared.direction.Direction.{Direction}
use Rattle.lsp_watch.specs.declared.logged.LoggedMessage.{LoggedMessage}
use Rattle.lsp_watch.specs.declared.rule.Rule.TheVariants.{NotUtf8, NotJson, Unreadable}
use Rattle.lsp_watch.specs.declared.rule.Rule.{Rule}
use Rattle.lsp_judge.specs.Judged.{Judged, Judges, seen}
use Rattle.lsp_judge.specs.Recording.{says_unread, tree_in}
use Rattle.lsp_judge.specs.declared.choice.Choice.{Choice}
use Rattle.lsp_judge.specs.declared.judgement.Judgement.{Judgement}
use Rattle.lsp_judge.specs.declared.passed.Order.TheVariants.{Known}
use Rattle.lsp_judge.specs.declared.passed.Order.{Order}
use Rattle.lsp_judge.specs.declared.passed.Passing.{Passing}
use Rattle.lsp_judge.proofs.Unread.{none_says_unread}
use Rattle.lsp_judge_c.specs.Messages.{SaysUnread, SawUnread, SawNext, unread_after}

-- ---- a report of a session

pub by_report : (k : Judgement) (x y : Choice) (late now : Bool) (o : Order) (v : Option Verdict) (j : Judged) (n : ℕ)
    (w : Direction) (fs : List Rule) (m : Option Message) (d : Option Data) → x ≡ y → late ≡ now
    → y.ignored.items ≡ [] → (x.ignored.items ≡ [] → Judges k (seen x late o v j n w fs m d))
    → Judges k (seen y now o v j n w fs m d)
by_report k x y late now o v j n w fs m d same start none judges =
    subst (λ l. Judges k (seen y l o v j n w fs m d)) start
    (subst (λ c. Judges k (seen c late o v j n w fs m d)) same (judges (ap (λ c. c.ignored.items) same ∙ none)))

-- ---- a content

-- a content was not read: it breaks this rule alone
record NotRead (utf8 : Bool) (m : LoggedMessage) : Type 0 where
  pub rule : Rule
  pub why : SaysUnread utf8 rule
  pub no_entry : m.entry ≡ None
  pub faults_are : m.faults.items ≡ rule ∷ []

-- what a content was read as
abbrev Reads : Bool → LoggedMessage → Option Data → Type 0
Reads utf8 m None = NotRead utf8 m
Reads utf8 m (Some d) = IsReadAs m d

says : (utf8 : Bool) (rule : Rule) → SaysUnread utf8 rule → list_any says_unread (rule ∷ []) ≡ true
says false rule e = ap (λ r. list_any says_unread (r ∷ [])) e
says true rule (inl e) = ap (λ r. list_any says_unread (r ∷ [])) e
says true rule (inr e) = ap (λ r. list_any says_unread (r ∷ [])) e

module _ (m : LoggedMessage) where
  of_why : m.entry ≡ None → (m.faults.items ≡ NotJson ∷ []) ⊎ (m.faults.items ≡ Unreadable ∷ []) → NotRead true m
  of_why none (inl e) = record { rule = NotJson; why = inl refl; no_entry = none; faults_are = e }
  of_why none (inr e) = record { rule = Unreadable; why = inr refl; no_entry = none; faults_are = e }

  of_text : (o : Option Data) → ReadsAs m o → Reads true m o
  of_text None r = of_why r.no_entry r.why
  of_text (Some d) r = r

  of_bytes : IsNoText m → NotRead false m
  of_bytes r = record { rule = NotUtf8; why = refl; no_entry = r.no_entry; faults_are = r.why }

  module _ (content : List ℕ) (text : IsUtf8 content → ReadsAs m (read content)) (bytes : NoUtf8 content → IsNoText m)
    where
      reads : Reads (is_utf8 content) m (tree_in content)
      reads = at (is_utf8 content) refl
        where
          at : (t : Bool) → is_utf8 content ≡ t → Reads t m (cond t (read content) None)
          at true e = of_text (read content) (text (IsUtf8-from_is_utf8 content e))
          at false e = of_bytes (bytes (λ utf8. true≢false (sym (is_utf8-from_IsUtf8 content utf8) ∙ e)))

      is_unread : list_any says_unread m.faults.items ≡ not (is_some (tree_in content))
      is_unread = at (tree_in content) reads
        where
          at : (o : Option Data) → Reads (is_utf8 content) m o → list_any says_unread m.faults.items ≡ not (is_some o)
          at None r = ap (list_any says_unread) r.faults_are ∙ says (is_utf8 content) r.rule r.why
          at (Some d) r = ap (list_any says_unread) r.faults_are ∙ none_says_unread d

      pub goes_unread : (unread place new : ℕ)
          → new ≡ (if unread == 0 && list_any says_unread m.faults.items then place else unread)
          → new ≡ unread_after unread place content
      goes_unread unread place new e = e ∙ ap (λ b. if unread == 0 && b then place else unread) is_unread

      -- ---- the judgement after it

      abbrev seen_as : Choice → Bool → ℕ → Judged → Order → Option Verdict → Direction → LoggedMessage → Judged
      seen_as choice late n j o v w x = seen choice late o v j n w x.faults.items (option_map entry_view x.entry)
          (option_map (λ e. view e.tree) x.entry)

      pub sees : (choice : Choice) (late : Bool) (n : ℕ) (j : Judged) (direction : Direction) (k : Judgement)
          (p : Passing)
          → p.direction ≡ direction → p.message ≡ m → p.order ≡ Known → p.types ≡ Some Breach
          → Judges k (seen choice late p.order p.types j n p.direction p.message.faults.items
          (option_map entry_view p.message.entry) (option_map (λ e. view e.tree) p.message.entry))
          → SawNext choice late n j direction content (tree_in content) k
      sees choice late n j direction k p direction_is message_is order_is types_are judges = at (tree_in content) reads
        where
          plain : Judges k (seen_as choice late n j Known (Some Breach) direction m)
          plain = subst (λ x. Judges k (seen_as choice late n j Known (Some Breach) direction x)) message_is
              (subst (λ w. Judges k (seen_as choice late n j Known (Some Breach) w p.message)) direction_is
              (subst (λ v. Judges k (seen_as choice late n j Known v p.direction p.message)) types_are
              (subst (λ o. Judges k (seen_as choice late n j o p.types p.direction p.message)) order_is judges)))

          unread : NotRead (is_utf8 content) m → SawUnread choice late n j direction content k
          unread r = record {
            rule = r.rule;
            why = r.why;
            judges = subst (λ fs. Judges k (seen choice late Known (Some Breach) j n direction fs None None))
                r.faults_are
                (subst (λ e. Judges k (seen choice late Known (Some Breach) j n direction m.faults.items
                (option_map entry_view e) (option_map (λ e. view e.tree) e))) r.no_entry plain);
          }

          at : (o : Option Data) → Reads (is_utf8 content) m o → SawNext choice late n j direction content o k
          at None r = unread r
          at (Some d) r =
              subst (λ it. Judges k (seen choice late Known (Some Breach) j n direction (faults_of d) (entry_in d) it))
              r.tree_is
              (subst (λ fs. Judges k (seen choice late Known (Some Breach) j n direction fs (entry_in d)
              (option_map (λ e. view e.tree) m.entry))) r.faults_are
              (subst (λ e. Judges k (seen choice late Known (Some Breach) j n direction m.faults.items e
              (option_map (λ e. view e.tree) m.entry))) r.entry_is plain))
