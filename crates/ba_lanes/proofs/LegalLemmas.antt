-- What all lanes did is a legal journal.
use Rattle.std.proofs.Common.{◌≡◌, ◌∙◌, refl, sym, subst, List, ℕ}
use Rattle.ba_input.specs.Inputs.{IsInput}
use Rattle.ba_input.specs.declared.input.Input.{Input}
use Rattle.ba_session.specs.Passing.{AreClosed, AreOf, AreWhole}
use Rattle.ba_session.specs.declared.service.Closed.{Closed}
use Rattle.ba_session.specs.declared.service.Passes.{Passes}
use Rattle.ba_session.specs.declared.service.Service.{Service}
use Rattle.ba_lanes.proofs.HistoryLemmas.{are_whole, has_shelves, has_versions}
use Rattle.ba_lanes.proofs.MergeLemmas.{all_entries, all_lines}
use Rattle.ba_lanes.specs.Legal.{HasShelves, HasVersions, Legal}
use Rattle.ba_lanes.specs.Working.{AreGathered, AreMerged}
use Rattle.ba_lanes.specs.declared.journal.Entry.{Entry}
use Rattle.ba_lanes.specs.declared.journal.Journal.{Journal}
use Rattle.ba_turn.specs.Passes.{start_of}
use Rattle.ba_versions.specs.Reads.{opening_of}

module _ (input : Input) (service : Service) (entries_of : ℕ → List Entry) (p : Passes) (gathered : AreGathered input entries_of p) where
  -- the passes have come back
  pub whole : AreOf service p → AreWhole service p
  whole of = are_whole service gathered.loads input.workers gathered.done p gathered.joined gathered.sums of

  pub legal : IsInput input → (entries : List Entry) → AreMerged input entries_of entries → (closed : Closed) → AreClosed service p closed → opening_of (start_of service.versions) ≡ input.tables →
      (journal : Journal) → journal.entries ≡ entries → journal.histories ≡ closed → Legal input journal
  legal is entries merged closed is_closed opening journal entries_are histories_are =
      let some = is.workers.0 in
      let all = all_lines input some gathered.done gathered.lines in record {
        input_fits = is;
        loads = gathered.loads;
        loaded = gathered.loaded;
        served = all.its;
        entries = entries_are ∙ all_entries input some gathered.done gathered.lines entries_of entries merged gathered.entries;
        lines = all.served;
        versions = subst (HasVersions input all.its) (sym histories_are)
            (has_versions service gathered.loads input.workers gathered.done p gathered.joined input refl all.its (λ k low. sym (all.each k low)) closed is_closed opening);
        shelves = subst (HasShelves input gathered.loads all.its) (sym histories_are)
            (has_shelves service gathered.loads input.workers gathered.done p gathered.joined input refl all.its (λ k low. sym (all.each k low)) closed is_closed opening);
      }
