-- The histories that the passes of all lanes leave, once they were split off and joined.
use Rattle.std.proofs.Common.{◌≡◌, ◌∙◌, ap, subst, ℕ, ◌+◌, ◌<◌, ◌≤◌, List, [], ◌++◌, add-one, arith}
use Rattle.std.specs.Prelude.{slice_index_or, sum_by}
use Rattle.ba_cache.specs.Passes as cache
use Rattle.ba_cache.specs.Passes.{ClosedShelf, known_on}
use Rattle.ba_cache.specs.Reads as shelf
use Rattle.ba_script.specs.declared.entry.ScriptEntry.{ScriptEntry}
use Rattle.ba_session.specs.Passing.{AreClosed, AreJoined, AreOf, AreOpening, AreSplit, AreWhole, CanBeSplit, CanSplit, MakesCalls}
use Rattle.ba_session.specs.declared.service.Closed.{Closed}
use Rattle.ba_session.specs.declared.service.Passes.{Passes}
use Rattle.ba_session.specs.declared.service.Service.{Service}
use Rattle.ba_lanes.proofs.JoinLemmas.{joined_calls, joined_more, joined_none, joined_whole, of_lanes_same, sees_none, sees_split, sees_still, split_more}
use Rattle.ba_lanes.proofs.LoadLemmas.{left_of, loaded_few}
use Rattle.ba_lanes.proofs.LineLemmas.{counts_sum, sums_sum, total_front, total_twice}
use Rattle.ba_lanes.specs.Lanes.{AreOfLanes, HasSplit, total}
use Rattle.ba_lanes.specs.Legal.{HasShelf, HasShelves, HasVersions, LineDone, Load, admits_on, done_in, lane_of, made_on, versions_made}
use Rattle.ba_lanes.specs.Serving.{AreUnused, CanServe, HasLeft, HasMade, HaveDealt, HaveJoined, HaveSplit, IsUnused, SeeLoads, SeeMore, SumUp, calls_versions, lines_in, questions_of, shelf_calls, version_calls}
use Rattle.ba_input.specs.declared.input.Input.{Input}
use Rattle.ba_turn.specs.Passes.{known_by, start_of}
use Rattle.ba_turn.specs.declared.known.Known.{Known}
use Rattle.ba_versions.specs.Calls as versions
use Rattle.ba_versions.specs.Reads.{calls_of, opening_of, versions_of}

-- ---- splits

module _ (input : Input) (low : (line : ScriptEntry) → lane_of input.workers line < input.workers) (n : ℕ) (below : n < input.workers) (few : input.workers ≤ 16) where
  abbrev own_lines : List ScriptEntry
  own_lines = lines_in input n input.script.entries

  versions_sum : total (λ k. version_calls (lines_in input k input.script.entries)) n + version_calls own_lines ≤ version_calls input.script.entries
  versions_sum =
      let front = total_front (λ k. version_calls (lines_in input k input.script.entries)) n input.workers below in
      let all = counts_sum (lane_of input.workers) calls_versions input.workers input.script.entries low in
      omega (arith, front, all)

  shelves_sum : total (λ k. shelf_calls (lines_in input k input.script.entries)) n + shelf_calls own_lines ≤ shelf_calls input.script.entries
  shelves_sum =
      let front = total_front (λ k. shelf_calls (lines_in input k input.script.entries)) n input.workers below in
      let twice = total_twice (λ k. sum_by questions_of (lines_in input k input.script.entries)) input.workers in
      let all = sums_sum (lane_of input.workers) questions_of input.workers input.script.entries low in
      omega (arith, front, twice, all)

  can_be_split : {S E : Type 0} (opening : List E) (v : Known S E) (a : ℕ) → HasSplit opening n v → a ≤ v.left → CanBeSplit a v
  can_be_split opening v a h left = record { opening = h.number; splits = let s = h.splits_are in omega (arith, s, below, few); left = left }

  module _ (calls looks : ℕ) (calls_are : calls ≡ version_calls own_lines) (looks_are : looks ≡ shelf_calls own_lines) (loads : List Load) (old : Passes) (dealt : HaveDealt input loads n old) where
    left : HasLeft input loads n old
    left = dealt.left

    h : HaveSplit loads n old
    h = dealt.split

    versions_left : calls ≤ (known_by old.versions).left
    versions_left = let l = left.versions in omega (arith, l, calls_are, versions_sum)

    shelves_left : (i : ℕ) → i < 8 → looks ≤ (known_on old.cache i).left
    shelves_left i inside =
        let l = left.shelves i inside in
        let few = loaded_few input loads i dealt.loaded in
        omega (arith, l, few, looks_are, shelves_sum)

    pub can_split : CanSplit calls looks old
    can_split = record {
      versions = can_be_split [] (known_by old.versions) calls h.versions versions_left;
      shelves = record {
        each = λ i inside.
            let c = can_be_split (admits_on i loads) (known_on old.cache i) looks (h.shelves i inside) (shelves_left i inside) in
            record { opening = c.opening; splits = c.splits; left = c.left };
      };
    }

    module _ (new own : Passes) (split : AreSplit calls looks old new own) where
      have_split_more : HaveSplit loads (n + 1) new
      have_split_more = record {
        versions = split_more [] n calls (known_by old.versions) (known_by new.versions) h.versions split.versions;
        shelves = λ i inside. split_more (admits_on i loads) n looks (known_on old.cache i) (known_on new.cache i) (h.shelves i inside) (split.shelves.each i inside).known;
      }

      has_left_more : HasLeft input loads (n + 1) new
      has_left_more = record {
        versions =
            let l = left.versions in
            let cut = ap left_of split.versions in
            let sum = ap (total (λ k. version_calls (lines_in input k input.script.entries))) (add-one n) in
            omega (arith, l, cut, sum, calls_are, versions_left);
        shelves = λ i inside.
            let l = left.shelves i inside in
            let cut = ap left_of (split.shelves.each i inside).known in
            let sum = ap (total (λ k. shelf_calls (lines_in input k input.script.entries))) (add-one n) in
            let most = shelves_left i inside in
            omega (arith, l, cut, sum, looks_are, most);
      }

      pub dealt_more : HaveDealt input loads (n + 1) new
      dealt_more = record { loaded = dealt.loaded; split = have_split_more; left = has_left_more }

      -- the lane's passes have seen the admits
      pub see_loads : SeeLoads loads own
      see_loads = record {
        shelves = λ i inside. sees_split (admits_on i loads) n looks (known_on old.cache i) (known_on own.cache i) (h.shelves i inside) (split.shelves.each i inside).other_known;
      }

      pub are_unused : AreUnused n own
      are_unused = record {
        versions = record { number = ap (λ (v : Known _ _). v.number) split.split_off ∙ ap (λ k. k + 1) h.versions.splits_are; made = ap (λ (v : Known _ _). v.made) split.split_off };
        shelves = λ i inside. record {
          number = ap (λ (v : Known _ _). v.number) (split.shelves.each i inside).other_known ∙ ap (λ k. k + 1) (h.shelves i inside).splits_are;
          made = ap (λ (v : Known _ _). v.made) (split.shelves.each i inside).other_known;
        };
      }

      pub own_can : CanServe own_lines own
      own_can = record {
        versions = let l = ap left_of split.split_off in omega (arith, l, calls_are);
        shelves = record { each = λ i inside. let l = ap left_of (split.shelves.each i inside).other_known in omega (arith, l, looks_are) };
      }

-- what was seen in front of all others, is still seen so
pub still_see : (loads : List Load) (old new : Passes) → SeeMore old new → SeeLoads loads old → SeeLoads loads new
still_see loads old new more see = record { shelves = λ i low. sees_still (admits_on i loads) (known_on old.cache i) (known_on new.cache i) (see.shelves i low) (more.shelves i low) }

-- ---- what a lane has done

pub has_made : {S E : Type 0} (k : ℕ) (calls : List E) (v w : Known S E) → IsUnused k v → MakesCalls v w calls → HasMade k calls w
has_made k calls v w unused makes = record { number = makes.number ∙ unused.number; made = makes.made ∙ ap (λ z. z ++ calls) unused.made }

-- ---- joins

pub have_joined_none : (loads : List Load) (splits : ℕ) (done : ℕ → List LineDone) (p : Passes) → HaveSplit loads splits p → HaveJoined loads splits 0 done p
have_joined_none loads splits done p h = record {
  versions = joined_none [] (λ k. versions_made (done k)) splits (known_by p.versions) h.versions;
  shelves = λ i low. joined_none (admits_on i loads) (λ k. made_on i (done k)) splits (known_on p.cache i) (h.shelves i low);
}

pub are_opening : (loads : List Load) (splits joined : ℕ) (done : ℕ → List LineDone) (p : Passes) → HaveJoined loads splits joined done p → AreOpening p
are_opening loads splits joined done p h = record { versions = h.versions.number; shelves = record { each = λ i low. (h.shelves i low).number } }

module _ (loads : List Load) (splits k : ℕ) (done : ℕ → List LineDone) (old other new : Passes) (joined : AreJoined old other new) where
  pub have_joined_more : HaveJoined loads splits k done old → HasMade k (versions_made (done k)) (known_by other.versions) → ((i : ℕ) → i < 8 → HasMade k (made_on i (done k)) (known_on other.cache i)) →
      SeeLoads loads other → HaveJoined loads splits (k + 1) done new
  have_joined_more h versions shelves see = record {
    versions =
        joined_more [] (λ j. versions_made (done j)) splits k (known_by old.versions) (known_by other.versions) (known_by new.versions) h.versions versions.number versions.made (sees_none (known_by other.versions))
        joined.versions;
    shelves = λ i low.
        joined_more (admits_on i loads) (λ j. made_on i (done j)) splits k (known_on old.cache i) (known_on other.cache i) (known_on new.cache i) (h.shelves i low) (shelves i low).number (shelves i low).made
        (see.shelves i low) (joined.shelves.each i low).known;
  }

  pub sum_up : SumUp new
  sum_up = record { versions = joined.sums; shelves = λ i low. (joined.shelves.each i low).sums }

-- ---- the histories of a run

module _ (service : Service) (loads : List Load) (lanes : ℕ) (done : ℕ → List LineDone) (p : Passes) (h : HaveJoined loads lanes lanes done p) where
  pub are_whole : SumUp p → AreOf service p → AreWhole service p
  are_whole sums of = record {
    versions = joined_whole [] (λ k. versions_made (done k)) lanes (known_by p.versions) h.versions sums.versions ∙ of.versions.of.allowance;
    shelves = record { each = λ i low. joined_whole (admits_on i loads) (λ k. made_on i (done k)) lanes (known_on p.cache i) (h.shelves i low) (sums.shelves i low) };
  }

  module _ (input : Input) (workers : lanes ≡ input.workers) (served : List LineDone) (done_are : (k : ℕ) → k < lanes → done k ≡ done_in input served k) (closed : Closed) (is : AreClosed service p closed)
      (opening : opening_of (start_of service.versions) ≡ input.tables) where
    pub has_versions : HasVersions input served closed
    has_versions = record {
      calls = subst (λ n. AreOfLanes [] n (λ k. versions_made (done_in input served k)) (calls_of closed.versions) closed.numbers.items) workers
          (of_lanes_same [] lanes (λ k. versions_made (done k)) (λ k. versions_made (done_in input served k)) (calls_of closed.versions) closed.numbers.items (λ k low. ap versions_made (done_are k low))
          (joined_calls [] (λ k. versions_made (done k)) lanes (known_by p.versions) h.versions is.own is.joined is.whole (calls_of closed.versions) closed.numbers.items is.history is.numbers));
      legal = subst (λ z. ∥ versions.Legal z (calls_of closed.versions) (versions_of closed.versions) ∥₁) (is.opening ∙ opening) is.legal;
    }

    has_shelf : (i : ℕ) (it : ClosedShelf) → i < 8 → cache.IsClosed (known_on p.cache i) it.0 it.1.items → HasShelf input loads served i it
    has_shelf i it low c = record {
      calls = subst (λ n. AreOfLanes (admits_on i loads) n (λ k. made_on i (done_in input served k)) (shelf.calls_of it.0) it.1.items) workers
          (of_lanes_same (admits_on i loads) lanes (λ k. made_on i (done k)) (λ k. made_on i (done_in input served k)) (shelf.calls_of it.0) it.1.items (λ k inside. ap (made_on i) (done_are k inside))
          (joined_calls (admits_on i loads) (λ k. made_on i (done k)) lanes (known_on p.cache i) (h.shelves i low) c.own c.joined c.whole (shelf.calls_of it.0) it.1.items c.history c.numbers_are));
      legal = c.legal;
    }

    pub has_shelves : HasShelves input loads served closed
    has_shelves = record {
      eight = is.shelves.eight;
      each = λ i d low. has_shelf i (slice_index_or closed.shelves.items i d) low (is.shelves.each i d low);
    }
