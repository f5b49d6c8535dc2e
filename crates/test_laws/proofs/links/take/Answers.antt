use Rattle.std.proofs.Common.{[], ◌∷◌, ap}
use Rattle.lsp_peers.specs.Sides.{side_of}
use Rattle.test_laws.proofs.Results.{if_ok}
use Rattle.test_laws.proofs.links.take.Goals as goal

pub returns : goal.returns
returns c = λ handed before after. if_ok c.step.result (λ outcome stepped.
    let entry = stepped.0 in
    let is = stepped.1 in
    let now = stepped.3 in (
      entry,
      stepped.2,
      now,
      record {
        places = c.each_request_is_in_one_place.ensures before
            (c.a_beginning_is_a_history.ensures before (entry ∷ []) now.lawful) c.args.side;
        facts = c.a_history_has_its_facts.ensures _ now.lawful;
        shallow = c.a_history_is_shallow.ensures _ now.lawful;
        last = c.a_take_gives_the_last_message.ensures _ _ handed before entry after now c.args.side 0 is;
        arrived = λ id out. c.requests_arrive_in_order.ensures before entry now.lawful c.args.side 0 id is out;
        returned_once = λ id payload out.
            c.a_reply_gives_back_its_payload_once.ensures before entry now.lawful c.args.side 0 id payload is out;
        answered = λ id payload out. c.a_reply_is_the_answer_of_the_other_side.ensures _ _ handed before entry after now
            c.args.side 0 id payload is out;
        moved = λ id. (c.an_entry_moves_its_request.ensures before entry now.lawful c.args.side (ap side_of is) id).0;
      },
    )) (c.step.ensures.exchanged handed before after)
