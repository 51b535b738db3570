-- What the lines of a lane take.
use Rattle.std.proofs.Common.{◌≡◌, ℕ, ◌+◌, ◌*◌, ◌<◌, ◌≤◌, ◌==◌, Bool, true, false, List, [], ◌∷◌, ◌++◌, cond, get_or, length, length-append, arith, subst, sym, take}
use Rattle.std.proofs.lemmas.List.Sums.{count_by-le-length, sum_by-cons, sum_by_push}
use Rattle.std.proofs.lemmas.List.Elements.{All-cons, All-from_recursion, All-get_or, All-head, All-nil, All-tail, All-take, recursion_from_All}
use Rattle.std.specs.List.{AllByRecursion}
use Rattle.std.specs.Prelude.{All, sum_by}
use Rattle.ba_input.specs.Inputs.{IsInput}
use Rattle.ba_input.specs.declared.input.Input.{Input}
use Rattle.ba_model.specs.Limits.{most_asks}
use Rattle.ba_script.specs.Scripts.{EntriesFit, EntryFits}
use Rattle.ba_script.specs.declared.entry.ScriptEntry.{ScriptEntry}
use Rattle.ba_script.specs.declared.entry.ScriptEntry.TheVariants as said
use Rattle.ba_lanes.specs.Lanes.{lines_of}
use Rattle.ba_lanes.specs.Legal.{context_in, contexts_of}
use Rattle.ba_lanes.specs.Serving.{IsShare, calls_versions, questions_of}
use Rattle.ba_lanes.specs.declared.share.Share.{Share}

-- one line more
pub share_more : (lines : List ScriptEntry) (line : ScriptEntry) (old new : Share) → IsShare lines old → new.lines ≡ old.lines + 1 → new.calls ≡ old.calls + cond (calls_versions line) 1 0 → new.looks ≡ old.looks + 2 * questions_of line →
    IsShare (lines ++ line ∷ []) new
share_more lines line old new h long calls looks = record {
  lines_are = let so_far = h.lines_are in omega (arith, so_far, long, length-append lines (line ∷ []));
  calls_are = let so_far = h.calls_are in omega (arith, so_far, calls, sum_by_push (λ y. cond (calls_versions y) 1 0) lines line);
  looks_are = let so_far = h.looks_are in omega (arith, so_far, looks, sum_by_push questions_of lines line);
}

-- each line asks few questions
abbrev pub AsksFew : ScriptEntry → Type 0
AsksFew line = questions_of line ≤ most_asks

few_at : (before : List ScriptEntry) (line : ScriptEntry) → EntryFits before line → AsksFew line
unfolding questions_of
few_at before (said.Begin r name c) h = omega arith
few_at before (said.Ask r name text) h = omega arith
few_at before (said.Read r name key args qs) h = let small = h.2 in omega (arith, small)
few_at before (said.End r name) h = omega arith
few_at before (said.Publish n set) h = omega arith

few_from : (before lines : List ScriptEntry) → EntriesFit before lines → AllByRecursion AsksFew lines
few_from before [] h = tt
few_from before (line ∷ lines) h = (few_at before line h.0, few_from (before ++ line ∷ []) lines h.1)

pub few_asks : (input : Input) → IsInput input → All AsksFew input.script.entries
few_asks input is = All-from_recursion AsksFew input.script.entries (few_from [] input.script.entries is.script.fit)

pub few_here : (lines : List ScriptEntry) (i : ℕ) (line : ScriptEntry) → i < length lines → line ≡ get_or lines i line → All AsksFew lines → AsksFew line
few_here lines i line below at all = subst AsksFew (sym at) (All-get_or AsksFew lines i line below all)

pub few_before : (lines : List ScriptEntry) (i : ℕ) → All AsksFew lines → All AsksFew (take i lines)
few_before lines i all = All-take AsksFew i lines all

pub few_of_lane : (lane : ScriptEntry → ℕ) (k : ℕ) (lines : List ScriptEntry) → All AsksFew lines → All AsksFew (lines_of lane k lines)
few_of_lane lane k [] all = All-nil AsksFew
few_of_lane lane k (line ∷ lines) all = by (lane line == k) (few_of_lane lane k lines (All-tail AsksFew line lines all))
  where
    by : (t : Bool) → All AsksFew (lines_of lane k lines) → All AsksFew (cond t (line ∷ lines_of lane k lines) (lines_of lane k lines))
    by true rest = All-cons AsksFew line (lines_of lane k lines) (All-head AsksFew line lines all) rest
    by false rest = rest

few_questions : (lines : List ScriptEntry) → AllByRecursion AsksFew lines → sum_by questions_of lines ≤ most_asks * length lines
few_questions [] h = omega arith
few_questions (line ∷ lines) h = let rest = few_questions lines h.1 in let one = h.0 in omega (arith, rest, one, sum_by-cons questions_of line lines)

-- lines that ask few questions take little
pub share_small : (lines : List ScriptEntry) (share : Share) → IsShare lines share → All AsksFew lines → (share.calls ≤ share.lines) × (share.looks ≤ 2 * most_asks * share.lines)
share_small lines share h few =
    let long = h.lines_are in
    let calls = h.calls_are in
    let looks = h.looks_are in (
      omega (arith, long, calls, count_by-le-length calls_versions lines),
      omega (arith, long, looks, few_questions lines (recursion_from_All AsksFew lines few)),
    )

-- how many of the first lines begin a request
pub begin_most : (line : ScriptEntry) → length (context_in line) ≤ 1
begin_most (said.Begin r name c) = omega arith
begin_most (said.Ask r name text) = omega arith
begin_most (said.Read r name key args qs) = omega arith
begin_most (said.End r name) = omega arith
begin_most (said.Publish n set) = omega arith

pub begun_short : (lines : List ScriptEntry) → length (contexts_of lines) ≤ length lines
begun_short [] = omega arith
begun_short (line ∷ lines) = let rest = begun_short lines in let one = begin_most line in omega (arith, rest, one, length-append (context_in line) (contexts_of lines))
