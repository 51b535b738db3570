use Rattle.std.proofs.Common.{rules, ◌≡◌, ◌∙◌, Some, refl, sym, ap, arith}
use Rattle.std.specs.Option.{option_copied}
use Rattle.ba_live.proofs.AskLemmas.{query_moves, question_fits}
use Rattle.ba_live.proofs.LiveLemmas.{counts_live, fresh_line, leaves_live, live_more, notes_live, shuts_live}
use Rattle.ba_live.specs.Books.{open_at}
use Rattle.ba_live.proofs.live.Live.ask.Goals as goal

pub returns-in-Err-Fault-clause-live : goal.returns-in-Err-Fault-clause-live
returns-in-Err-Fault-clause-live g c =
    let old = c.args.self.now in
    let asker = c.in-Some.open.now in
    let is : open_at old c.args.name.now ≡ Some asker = sym c.get.ensures ∙ ap option_copied c.in-Some.is in
    live_more c.args.line _
    (counts_live c.args.line 1 c.args.name.now asker old _ c.requires.live (record { policy = refl; budget = refl; target = refl }) is (omega arith) (c.count.ensures.counts asker is) (record { each = λ line. refl }) c.count.ensures.many)

pub judge-requires-clause-fits : goal.judge-requires-clause-fits
judge-requires-clause-fits g c =
    let old = c.args.self.now in
    let asker = c.in-Some.open.now in
    let is : open_at old c.args.name.now ≡ Some asker = sym c.get.ensures ∙ ap option_copied c.in-Some.is in
    question_fits old c.args.name.now asker c.in_ok-query-in-Ok.query c.requires.live.sound is
    (query_moves old.policy c.deref.result.now c.deref-2.result.now _ c.in-Ok.query c.in_ok-query-in-Ok.query c.deref.ensures c.deref-2.ensures c.deref-3.ensures c.in_ok-query-in-Ok.ensures c.in-Ok.ensures.query)

pub returns-in_err-judgement-clause-live : goal.returns-in_err-judgement-clause-live
returns-in_err-judgement-clause-live g c =
    let old = c.args.self.now in
    live_more c.args.line _
    (leaves_live c.args.line old _ c.requires.live (record { policy = refl; budget = refl; target = refl }) (record { requests = record { each = λ name. refl }; questions = record { each = λ line. refl } }) refl)

pub returns-in_err-expect-in-Allowed-clause-live : goal.returns-in_err-expect-in-Allowed-clause-live
returns-in_err-expect-in-Allowed-clause-live g c =
    let old = c.args.self.now in
    let same = c.expect.ensures.same in
    let leaves = c.in_err-expect-in-Allowed.ensures.err in
    live_more c.args.line _
    (leaves_live c.args.line old _ c.requires.live (record { policy = same.policy; budget = same.budget; target = same.target }) (record { requests = leaves.requests; questions = leaves.questions }) c.expect.ensures.many)

pub returns-in_ok-expect-in-Allowed-clause-live : goal.returns-in_ok-expect-in-Allowed-clause-live
returns-in_ok-expect-in-Allowed-clause-live g c =
    let old = c.args.self.now in
    let asker = c.in-Some.open.now in
    let is : open_at old c.args.name.now ≡ Some asker = sym c.get.ensures ∙ ap option_copied c.in-Some.is in
    let same = c.expect.ensures.same in
    notes_live c.args.line c.args.name.now c.in_ok-query-in-Ok.query asker old _ c.requires.live (record { policy = same.policy; budget = same.budget; target = same.target })
    (record {
      was_open = is;
      opens = c.in_ok-expect-in-Allowed.ensures.opens asker is;
      fresh = fresh_line c.args.line old c.requires.live;
      expects = c.in_ok-expect-in-Allowed.ensures.expects;
      fits = query_moves old.policy c.deref.result.now c.deref-2.result.now _ c.in-Ok.query c.in_ok-query-in-Ok.query c.deref.ensures c.deref-2.ensures c.deref-3.ensures c.in_ok-query-in-Ok.ensures c.in-Ok.ensures.query;
      few = omega arith;
    })
    c.expect.ensures.many

pub returns-then-is_contradiction-clause-live : goal.returns-then-is_contradiction-clause-live
returns-then-is_contradiction-clause-live g c =
    let old = c.args.self.now in
    let asker = c.in-Some.open.now in
    let is : open_at old c.args.name.now ≡ Some asker = sym c.get.ensures ∙ ap option_copied c.in-Some.is in
    live_more c.args.line _
    (shuts_live c.args.line c.args.name.now asker old _ c.requires.live (record { policy = refl; budget = refl; target = refl }) is (c.shut.ensures.closes asker is) (record { each = λ line. refl }) c.shut.ensures.many)

pub returns-else-is_contradiction-clause-live : goal.returns-else-is_contradiction-clause-live
returns-else-is_contradiction-clause-live g c =
    let old = c.args.self.now in
    let asker = c.in-Some.open.now in
    let is : open_at old c.args.name.now ≡ Some asker = sym c.get.ensures ∙ ap option_copied c.in-Some.is in
    live_more c.args.line _
    (counts_live c.args.line 1 c.args.name.now asker old _ c.requires.live (record { policy = refl; budget = refl; target = refl }) is (omega arith) (c.count-in-Blocked.ensures.counts asker is) (record { each = λ line. refl }) c.count-in-Blocked.ensures.many)

pub returns-else-is_contradiction-clause-decides : goal.returns-else-is_contradiction-clause-decides
returns-else-is_contradiction-clause-decides g c =
    record {
      asker = c.in-Some.open.now;
      counts = search rules;
      query = c.in_ok-query-in-Ok.query;
      reads = search rules;
      of_question = search rules;
      blocked = search rules;
      prefers = rw c.in-Blocked.is at c.in_ok-judgement.ensures.prefers;
    }
