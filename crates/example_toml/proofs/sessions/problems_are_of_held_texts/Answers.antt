use Rattle.std.proofs.Common.{ap, inl}
use Rattle.example_toml.proofs.Laws.{no_source, notified, notified_follows, replied, replied_follows, requested}
use Rattle.example_toml.proofs.Laws.{requested_follows, runs, shows_none, unchanged}
use Rattle.example_toml.specs.Reactions.{commands_in, documents_in}
use Rattle.example_toml.proofs.sessions.problems_are_of_held_texts.Goals as goal

pub returns : goal.returns
returns g c = λ first last exchanges stop answer none empty lawful.
    c.diagnostics_are_of_held_texts.ensures documents_in commands_in first stop exchanges (record {
      keeps = record {
        initializes = λ old params outcome new h. h.0;
        begins = λ old acts new h. inl (ap documents_in h.0);
        requested = λ old id method params acts new h. requested old new acts _ h;
        notified = λ old method params acts new h. notified old new acts _ method params h;
        replied = λ old payload outcome acts new h. replied old new acts _ h;
        took_back = λ old payload new h. ap documents_in h;
        commanded = λ old taken new h. h.2;
        finds = λ old name found acts new h. ap documents_in h.1;
        ends = λ old name end acts new h. ap documents_in h.1;
      };
      initializes = λ old params outcome new h. ap (λ it. it.items) h.1;
      begins = λ old acts new h. unchanged old new h.0;
      requested = λ old id method params acts new h. requested_follows old new acts _ h;
      notified = λ old method params acts new h. notified_follows old new acts _ method params h;
      replied = λ old payload outcome acts new h. replied_follows old new acts _ h;
      took_back = λ old payload new h. ap commands_in h;
      commanded = λ old taken new h. (h.0, h.1);
      finds = λ old name found acts new h. (h.0, ap commands_in h.1);
      ends = λ old name end acts new h. (h.0, ap commands_in h.1);
      answers = λ job method params h. no_source job params h;
      runs = λ job reply found h. runs _ job reply found h;
      reports = λ job params h. shows_none h.1;
    }) none empty lawful.jobs
