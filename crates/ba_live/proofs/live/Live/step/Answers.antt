use Rattle.std.proofs.Common.{◌+◌, subst, sym}
use Rattle.ba_judge.specs.Shelves.{Learns}
use Rattle.ba_live.proofs.LiveLemmas.{kept_shelves, live_more}
use Rattle.ba_live.specs.Wellformed.{IsLive}
use Rattle.ba_live.specs.declared.live.Live.{Live}
use Rattle.ba_live.proofs.live.Live.step.Goals as goal
use Rattle.ba_live.proofs.live.Live.step.Goals.{in-Begin, in-Ask, in-Read, in-Told, in-End}

pub returns-in-Ok-clause-live : goal.returns-in-Ok-clause-live
returns-in-Ok-clause-live g c =
    elim c.match-event.branch [
      | in-Begin w ↦ subst (IsLive (c.args.line + 1)) (sym w.self-is) (live_more c.args.line _ (w.begin-decided.ensures.live c.args.line c.requires.live))
      | in-Ask w ↦ subst (IsLive (c.args.line + 1)) (sym w.self-is) w.ask-decided.ensures.live
      | in-Read w ↦ subst (IsLive (c.args.line + 1)) (sym w.self-is) (live_more c.args.line _ (w.read-decided.ensures.live c.args.line c.requires.live))
      | in-Told w ↦ subst (IsLive (c.args.line + 1)) (sym w.self-is) (live_more c.args.line _ (w.told-decided.ensures.live c.args.line c.requires.live))
      | in-End w ↦ subst (IsLive (c.args.line + 1)) (sym w.self-is) (live_more c.args.line _ (w.end.ensures.live c.args.line c.requires.live))
    ]

pub returns-in-Err-clause-live : goal.returns-in-Err-clause-live
returns-in-Err-clause-live g c =
    elim c.match-event.branch [
      | in-Begin w ↦ subst (IsLive (c.args.line + 1)) (sym w.self-is) (live_more c.args.line _ (w.begin-decided.ensures.live c.args.line c.requires.live))
      | in-Ask w ↦ subst (IsLive (c.args.line + 1)) (sym w.self-is) w.ask-decided.ensures.live
      | in-Read w ↦ subst (IsLive (c.args.line + 1)) (sym w.self-is) (live_more c.args.line _ (w.read-decided.ensures.live c.args.line c.requires.live))
      | in-Told w ↦ subst (IsLive (c.args.line + 1)) (sym w.self-is) (live_more c.args.line _ (w.told-decided.ensures.live c.args.line c.requires.live))
      | in-End w ↦ subst (IsLive (c.args.line + 1)) (sym w.self-is) (live_more c.args.line _ (w.end.ensures.live c.args.line c.requires.live))
    ]

pub returns-in-Ok-clause-learns : goal.returns-in-Ok-clause-learns
returns-in-Ok-clause-learns g c =
    let old = c.args.self.now.shelves in
    elim c.match-event.branch [
      | in-Begin w ↦ subst (λ (it : Live). Learns old it.shelves) (sym w.self-is) (kept_shelves old _ w.begin-decided.ensures.shelves)
      | in-Ask w ↦ subst (λ (it : Live). Learns old it.shelves) (sym w.self-is) w.ask-decided.ensures.learns
      | in-Read w ↦ subst (λ (it : Live). Learns old it.shelves) (sym w.self-is) w.read-decided.ensures.learns
      | in-Told w ↦ subst (λ (it : Live). Learns old it.shelves) (sym w.self-is) (kept_shelves old _ w.told-decided.ensures.shelves)
      | in-End w ↦ subst (λ (it : Live). Learns old it.shelves) (sym w.self-is) (kept_shelves old _ w.end.ensures.shelves)
    ]

pub returns-in-Err-clause-learns : goal.returns-in-Err-clause-learns
returns-in-Err-clause-learns g c =
    let old = c.args.self.now.shelves in
    elim c.match-event.branch [
      | in-Begin w ↦ subst (λ (it : Live). Learns old it.shelves) (sym w.self-is) (kept_shelves old _ w.begin-decided.ensures.shelves)
      | in-Ask w ↦ subst (λ (it : Live). Learns old it.shelves) (sym w.self-is) w.ask-decided.ensures.learns
      | in-Read w ↦ subst (λ (it : Live). Learns old it.shelves) (sym w.self-is) w.read-decided.ensures.learns
      | in-Told w ↦ subst (λ (it : Live). Learns old it.shelves) (sym w.self-is) (kept_shelves old _ w.told-decided.ensures.shelves)
      | in-End w ↦ subst (λ (it : Live). Learns old it.shelves) (sym w.self-is) (kept_shelves old _ w.end.ensures.shelves)
    ]
