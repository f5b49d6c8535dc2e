use Rattle.std.proofs.Common.{◌≡◌, refl, sym, ap, subst, ◌∙◌, ◌++◌, List, ℕ, append-nil, Ok, Err, take_all, le_refl}
use Rattle.std.proofs.Common.{inr}
use Rattle.lsp_message.specs.declared.frame.ReadFault.TheVariants.{Memory}
use Rattle.lsp_message.specs.declared.frame.input.Place.TheVariants.{Header, Refused, Fault}
use Rattle.std.specs.List.{concat}
use Rattle.lsp_message.specs.FrameInput.{BeginsWithFault, ReadsContent}
use Rattle.lsp_message.specs.FramePlace.{IsFaultOf, IsHeader, AtHeader}
use Rattle.lsp_message.specs.declared.frame.input.Next.TheVariants.{Header as More, Content as Begun}
use Rattle.lsp_message.proofs.FramePlaces.{begins_with}
use Rattle.lsp_message.proofs.FrameInputs.{Holds, awaits_line, header_unread, in_header, in_part, in_refused, in_fault}
use Rattle.lsp_message.proofs.FrameInputs.{Shown, line_shown, ok_same, seen_more}
use Rattle.lsp_message.proofs.frame.input.FrameInput.receive_line.Goals as goal

pub invariant_of-self-in-Ok-Err : goal.invariant_of-self-in-Ok-Err
invariant_of-self-in-Ok-Err c =
    let self = c.args.self.now in
    let old = concat self.seen.parts in
    let shown = c.args.shown.now in
    let is : c.in-Ok-Err.field-0 ≡ Err c.in-Ok-Err.fault = cc (c.in-Ok-Err.field-0-is) in
    let s = subst (λ r. Shown self.limits (old ++ shown) c.less-left.result r c.line_with.new.line.items) is
    (line_shown self.limits old self.line.items c.args.room c.args.given
    (self.header c.args.room c.args.given c.requires.here) shown c.requires.fits c.less-left.result c.less-left.ensures
    c.requires.line c.in-Ok-Err.field-0 c.line_with.new.line.items c.in-Ok-Err.ensures.part
    c.in-Ok-Err.ensures.whole) in
    let seen = seen_more self.seen.parts c.add.new.self.parts shown c.add.ensures.parts in
    let text = concat c.add.new.self.parts in
    let tail = c.line_with.new.line.items in
    let part = self.content.items in
    let holds : Holds self.limits text (Fault c.in-Ok-Err.fault) tail part = subst (λ (l : List ℕ). IsFaultOf
    self.limits l c.in-Ok-Err.fault) (sym seen) s in
    record {
      header = in_header self.limits text (Fault c.in-Ok-Err.fault) tail part holds;
      part = in_part self.limits text (Fault c.in-Ok-Err.fault) tail part holds;
      reserved = λ size is. absurd (cc (is));
      refused = in_refused self.limits text (Fault c.in-Ok-Err.fault) tail part holds;
      fault = in_fault self.limits text (Fault c.in-Ok-Err.fault) tail part holds;
    }

pub invariant_of-self-in-Ok-Ok-Content : goal.invariant_of-self-in-Ok-Ok-Content
invariant_of-self-in-Ok-Ok-Content c =
    let self = c.args.self.now in
    let old = concat self.seen.parts in
    let shown = c.args.shown.now in
    let is : c.in-Ok-Ok-Content.field-0 ≡ Ok (Begun c.in-Ok-Ok-Content.size) = cc (
      c.in-Ok-Ok-Content.field-0-is,
      c.in-Ok-Ok-Content.field-0-0-is,
    ) in
    let s = subst (λ r. Shown self.limits (old ++ shown) c.less-left.result r c.line_with.new.line.items) is
    (line_shown self.limits old self.line.items c.args.room c.args.given
    (self.header c.args.room c.args.given c.requires.here) shown c.requires.fits c.less-left.result c.less-left.ensures
    c.requires.line c.in-Ok-Ok-Content.field-0 c.line_with.new.line.items c.in-Ok-Ok-Content.ensures.part
    c.in-Ok-Ok-Content.ensures.whole) in
    let seen = seen_more self.seen.parts c.add-in-Ok-Ok-Content.new.self.parts shown
    c.add-in-Ok-Ok-Content.ensures.parts in
    let text = concat c.add-in-Ok-Ok-Content.new.self.parts in
    let tail = c.line_with.new.line.items in
    let part = self.content.items in
    let holds : Holds self.limits text (Refused c.in-Ok-Ok-Content.size) tail part = subst (λ (l : List ℕ). IsHeader
    self.limits c.in-Ok-Ok-Content.size l) (sym seen) s.0 in
    record {
      header = in_header self.limits text (Refused c.in-Ok-Ok-Content.size) tail part holds;
      part = in_part self.limits text (Refused c.in-Ok-Ok-Content.size) tail part holds;
      reserved = λ size is. absurd (cc (is));
      refused = in_refused self.limits text (Refused c.in-Ok-Ok-Content.size) tail part holds;
      fault = in_fault self.limits text (Refused c.in-Ok-Ok-Content.size) tail part holds;
    }

pub begin_content-requires-clause-line : goal.begin_content-requires-clause-line
begin_content-requires-clause-line c =
    let self = c.args.self.now in
    let old = concat self.seen.parts in
    let shown = c.args.shown.now in
    let is : c.in-Ok-Ok-Content.field-0 ≡ Ok (Begun c.in-Ok-Ok-Content.size) = cc (
      c.in-Ok-Ok-Content.field-0-is,
      c.in-Ok-Ok-Content.field-0-0-is,
    ) in
    let s = subst (λ r. Shown self.limits (old ++ shown) c.less-left.result r c.line_with.new.line.items) is
    (line_shown self.limits old self.line.items c.args.room c.args.given
    (self.header c.args.room c.args.given c.requires.here) shown c.requires.fits c.less-left.result c.less-left.ensures
    c.requires.line c.in-Ok-Ok-Content.field-0 c.line_with.new.line.items c.in-Ok-Ok-Content.ensures.part
    c.in-Ok-Ok-Content.ensures.whole) in
    s.1

pub invariant_of-self-in-Ok-Ok-Header : goal.invariant_of-self-in-Ok-Ok-Header
invariant_of-self-in-Ok-Ok-Header c =
    let self = c.args.self.now in
    let old = concat self.seen.parts in
    let shown = c.args.shown.now in
    let is : c.in-Ok-Ok-Header.field-0 ≡ Ok (More c.in-Ok-Ok-Header.given) = cc (
      c.in-Ok-Ok-Header.field-0-is,
      c.in-Ok-Ok-Header.field-0-0-is,
    ) in
    let s = subst (λ r. Shown self.limits (old ++ shown) c.less-left.result r c.line_with.new.line.items) is
    (line_shown self.limits old self.line.items c.args.room c.args.given
    (self.header c.args.room c.args.given c.requires.here) shown c.requires.fits c.less-left.result c.less-left.ensures
    c.requires.line c.in-Ok-Ok-Header.field-0 c.line_with.new.line.items c.in-Ok-Ok-Header.ensures.part
    c.in-Ok-Ok-Header.ensures.whole) in
    let seen = seen_more self.seen.parts c.add-in-Ok-Ok-Header.new.self.parts shown
    c.add-in-Ok-Ok-Header.ensures.parts in
    let text = concat c.add-in-Ok-Ok-Header.new.self.parts in
    let tail = c.line_with.new.line.items in
    let part = self.content.items in
    let holds : Holds self.limits text (Header c.less-left.result c.in-Ok-Ok-Header.given) tail part = subst
    (λ (l : List ℕ). AtHeader self.limits l c.less-left.result c.in-Ok-Ok-Header.given tail) (sym seen) s in
    record {
      header = in_header self.limits text (Header c.less-left.result c.in-Ok-Ok-Header.given) tail part holds;
      part = in_part self.limits text (Header c.less-left.result c.in-Ok-Ok-Header.given) tail part holds;
      reserved = λ size is. absurd (cc (is));
      refused = in_refused self.limits text (Header c.less-left.result c.in-Ok-Ok-Header.given) tail part holds;
      fault = in_fault self.limits text (Header c.less-left.result c.in-Ok-Ok-Header.given) tail part holds;
    }

pub returns-in-Err-clause-read : goal.returns-in-Err-clause-read
returns-in-Err-clause-read c =
    let self = c.args.self.now in
    let old = concat self.seen.parts in
    let none = sym (append-nil old) in (
      none,
      subst (λ (l : List ℕ). BeginsWithFault self.limits l Memory) none (awaits_line self.limits old self.line.items
          c.args.room c.args.given (self.header c.args.room c.args.given c.requires.here)).within,
    )

pub returns-in-Err-clause-memory : goal.returns-in-Err-clause-memory
returns-in-Err-clause-memory c = λ is.
    let self = c.args.self.now in
    inr (
      refl,
      header_unread self.limits (concat self.seen.parts) self.line.items c.args.room c.args.given
          (self.header c.args.room c.args.given c.requires.here),
    )

pub returns-in-Ok-Err-clause-read : goal.returns-in-Ok-Err-clause-read
returns-in-Ok-Err-clause-read c =
    let self = c.args.self.now in
    let old = concat self.seen.parts in
    let shown = c.args.shown.now in
    let is : c.in-Ok-Err.field-0 ≡ Err c.in-Ok-Err.fault = cc (c.in-Ok-Err.field-0-is) in
    let s = subst (λ r. Shown self.limits (old ++ shown) c.less-left.result r c.line_with.new.line.items) is
    (line_shown self.limits old self.line.items c.args.room c.args.given
    (self.header c.args.room c.args.given c.requires.here) shown c.requires.fits c.less-left.result c.less-left.ensures
    c.requires.line c.in-Ok-Err.field-0 c.line_with.new.line.items c.in-Ok-Err.ensures.part
    c.in-Ok-Err.ensures.whole) in
    let seen = seen_more self.seen.parts c.add.new.self.parts shown c.add.ensures.parts in
    let all = seen ∙ ap (λ l. old ++ l) (sym (take_all _ shown (le_refl _))) in (
      all,
      subst (λ (l : List ℕ). BeginsWithFault self.limits l c.in-Ok-Err.fault) (sym seen ∙ all)
          (begins_with self.limits (old ++ shown) c.in-Ok-Err.fault s),
    )

pub returns-in-Ok-Ok-Content-clause-some : goal.returns-in-Ok-Ok-Content-clause-some
returns-in-Ok-Ok-Content-clause-some c = ok_same _ c.begin_content.result

pub returns-in-Ok-Ok-Content-clause-read : goal.returns-in-Ok-Ok-Content-clause-read
returns-in-Ok-Ok-Content-clause-read c =
    let self = c.args.self.now in
    let old = concat self.seen.parts in
    let shown = c.args.shown.now in
    let is : c.in-Ok-Ok-Content.field-0 ≡ Ok (Begun c.in-Ok-Ok-Content.size) = cc (
      c.in-Ok-Ok-Content.field-0-is,
      c.in-Ok-Ok-Content.field-0-0-is,
    ) in
    let s = subst (λ r. Shown self.limits (old ++ shown) c.less-left.result r c.line_with.new.line.items) is
    (line_shown self.limits old self.line.items c.args.room c.args.given
    (self.header c.args.room c.args.given c.requires.here) shown c.requires.fits c.less-left.result c.less-left.ensures
    c.requires.line c.in-Ok-Ok-Content.field-0 c.line_with.new.line.items c.in-Ok-Ok-Content.ensures.part
    c.in-Ok-Ok-Content.ensures.whole) in
    let seen = seen_more self.seen.parts c.add-in-Ok-Ok-Content.new.self.parts shown
    c.add-in-Ok-Ok-Content.ensures.parts in
    let all = seen ∙ ap (λ l. old ++ l) (sym (take_all _ shown (le_refl _))) in
    subst (λ (l : List ℕ). ReadsContent self.limits l c.begin_content.result
    (concat c.begin_content.new.self.seen.parts)) all c.begin_content.ensures.read

pub returns-in-Ok-Ok-Header-clause-read : goal.returns-in-Ok-Ok-Header-clause-read
returns-in-Ok-Ok-Header-clause-read c =
    let self = c.args.self.now in
    let old = concat self.seen.parts in
    let shown = c.args.shown.now in
    let is : c.in-Ok-Ok-Header.field-0 ≡ Ok (More c.in-Ok-Ok-Header.given) = cc (
      c.in-Ok-Ok-Header.field-0-is,
      c.in-Ok-Ok-Header.field-0-0-is,
    ) in
    let s = subst (λ r. Shown self.limits (old ++ shown) c.less-left.result r c.line_with.new.line.items) is
    (line_shown self.limits old self.line.items c.args.room c.args.given
    (self.header c.args.room c.args.given c.requires.here) shown c.requires.fits c.less-left.result c.less-left.ensures
    c.requires.line c.in-Ok-Ok-Header.field-0 c.line_with.new.line.items c.in-Ok-Ok-Header.ensures.part
    c.in-Ok-Ok-Header.ensures.whole) in
    let seen = seen_more self.seen.parts c.add-in-Ok-Ok-Header.new.self.parts shown
    c.add-in-Ok-Ok-Header.ensures.parts in
    let all = seen ∙ ap (λ l. old ++ l) (sym (take_all _ shown (le_refl _))) in
    all

pub returns-in-Ok-Ok-Header-clause-awaits : goal.returns-in-Ok-Ok-Header-clause-awaits
returns-in-Ok-Ok-Header-clause-awaits c =
    let self = c.args.self.now in
    let old = concat self.seen.parts in
    let shown = c.args.shown.now in
    let is : c.in-Ok-Ok-Header.field-0 ≡ Ok (More c.in-Ok-Ok-Header.given) = cc (
      c.in-Ok-Ok-Header.field-0-is,
      c.in-Ok-Ok-Header.field-0-0-is,
    ) in
    let s = subst (λ r. Shown self.limits (old ++ shown) c.less-left.result r c.line_with.new.line.items) is
    (line_shown self.limits old self.line.items c.args.room c.args.given
    (self.header c.args.room c.args.given c.requires.here) shown c.requires.fits c.less-left.result c.less-left.ensures
    c.requires.line c.in-Ok-Ok-Header.field-0 c.line_with.new.line.items c.in-Ok-Ok-Header.ensures.part
    c.in-Ok-Ok-Header.ensures.whole) in
    let seen = seen_more self.seen.parts c.add-in-Ok-Ok-Header.new.self.parts shown
    c.add-in-Ok-Ok-Header.ensures.parts in
    awaits_line self.limits (concat c.add-in-Ok-Ok-Header.new.self.parts) c.line_with.new.line.items c.less-left.result
    c.in-Ok-Ok-Header.given (subst (λ (l : List ℕ). AtHeader self.limits l c.less-left.result c.in-Ok-Ok-Header.given
    c.line_with.new.line.items) (sym seen) s)
