use Rattle.std.proofs.Common.{ap, inl, refl}
use Rattle.example_toml.proofs.Laws.{answers_so, none_no_reply, notified, replied, requested, shows_no_reply}
use Rattle.example_toml.specs.Reactions.{documents_in}
use Rattle.example_toml.proofs.sessions.searches_are_of_open_texts.Goals as goal

pub returns : goal.returns
returns g c = λ first last exchanges stop answer empty lawful.
    c.jobs_answer_from_open_texts.ensures documents_in first stop exchanges (record {
      keeps = record {
        initializes = λ old params outcome new h. h.0;
        begins = λ old acts new h. inl (ap documents_in h.0);
        requested = λ old id method params acts new h. requested old new acts _ h;
        notified = λ old method params acts new h. notified old new acts _ method params h;
        replied = λ old payload outcome acts new h. replied old new acts _ h;
        took_back = λ old payload new h. ap documents_in h;
        commanded = λ old taken new h. h.2;
        finds = λ old name found acts new h. ap documents_in h.1;
        ends = λ old name end acts new h. ap documents_in h.1;
      };
      answers_so = λ server id method params job reply found long gives is_for ran.
          answers_so _ server.texts.documents method params job reply found (long refl) gives is_for ran;
      quiet = record {
        found = λ old name found acts new h. shows_no_reply _ _ _ acts h.0;
        ended = λ old name end acts new h. none_no_reply acts h.0;
      };
    }) empty lawful.jobs
