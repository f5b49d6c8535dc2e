use Rattle.std.proofs.Common.{[], ◌++◌, arith, append-nil, refl, sym, ap, ◌∙◌}
use Rattle.std.specs.Prelude.{string_bytes}
use Rattle.test_laws.proofs.messages.frames_of_two.Goals as goal

pub returns : goal.returns
returns c = λ behind.
    let joined = c.in_ok-push_str.ensures.bytes
    ∙ ap (λ frame. string_bytes c.in_ok-text.text ++ frame) c.as_str.ensures.value in
    c.frames_are_read_back.ensures _ _ behind
    (_, _, c.in_ok-text.ensures, (_, [], c.in_ok-frame.ensures, refl, sym (append-nil _)), joined)
    (omega (arith, c.push_str.new.self.bytes.ok, c.push_str.new.self.bytes.small))
