-- How far an audit has come.
use Rattle.std.proofs.Common.{◌≡◌, ◌∙◌, refl, sym, ap, subst, ℕ, ◌+◌, ◌<◌, inl, inr, List, [], ◌∷◌, ◌++◌, length, drop, Bool, Option, Some, None, Result, Ok, Err, map, count_by, IsTrue, length-append, arith}
use Rattle.std.proofs.lemmas.List.{at_drop_more}
use Rattle.std.proofs.lemmas.Option.{get_or_from_slice_get, slice_get_within}
use Rattle.std.specs.BTreeMap.{get}
use Rattle.std.specs.List.{All}
use Rattle.std.specs.Ordering.{nat_cmp}
use Rattle.std.specs.Prelude.{nat_lt, slice_get}
use Rattle.ba_script.specs.Scripts.{BeginFits}
use Rattle.ba_script.specs.declared.entry.ScriptEntry.{ScriptEntry}
use Rattle.ba_printed.specs.Reading.{printed_of}
use Rattle.ba_audit.specs.Audits.{AllPass, AllShow, FailsAt, IsAudited, IsFirstFault, IsSet, IsSound, Output, ShowsEntry, ShowsPlace, basis_of, feeds, places, readings, unaudited_of}
use Rattle.ba_audit.specs.Keeping.{BegunFits, IsEnded, MeetsTaken, Moves, Reached, ShowsKept, Takes, Tracks, known_in}
use Rattle.ba_audit.specs.Lines.{Basis, Line, Place, Reading, entry, is_unaudited, line_at, numbered_at, request_by, said_by, total, unaudited_in, used_in}
use Rattle.ba_audit.specs.Tests.{IsFirstUnmet, MeetsAll, MeetsReading, MeetsSaid, held_by, request_in}
use Rattle.ba_wire.specs.declared.audit.AuditReason.{AuditReason as Reason}
use Rattle.ba_wire.specs.declared.audit.AuditReason.TheVariants.{Count}
use Rattle.ba_audit.specs.declared.told.Told.{Told}
use Rattle.ba_audit.proofs.CountLemmas.{unaudited-cons, unaudited-push, used-push}
use Rattle.ba_audit.proofs.TestLemmas.{all_as, first_as}
use Rattle.ba_audit.proofs.RequestLemmas.{known_is, request_fits, request_from-push}

-- ---- what is kept against the lines before

module _ (basis : Basis) (before : List Line) (told : Told) (tracks : Tracks basis before told) (ended : Bool) (e : ScriptEntry) where
  abbrev pub Kept : Reading → Reason → Type 0
  Kept reading reason = MeetsTaken basis ended (length before + 1) told e reading reason

  abbrev pub Asked : Reading → Reason → Type 0
  Asked reading reason = MeetsReading ended basis before (entry e) reading reason

  pub to_lines : (reading : Reading) (reason : Reason) → Kept reading reason → Asked reading reason
  to_lines (Ok line) reason (form, said) = (
    form,
    subst (λ used. MeetsSaid basis (length before + 1) used (held_by basis before e) e line reason) tracks.used
        (subst (λ held. MeetsSaid basis (length before + 1) told.used.items held e line reason) (known_is basis before told tracks (request_in e)) said),
  )
  to_lines (Err why) reason (form, said) = (form, tt)

  pub from_lines : (reading : Reading) (reason : Reason) → Asked reading reason → Kept reading reason
  from_lines (Ok line) reason (form, said) = (
    form,
    subst (λ used. MeetsSaid basis (length before + 1) used (known_in told (request_in e)) e line reason) (sym tracks.used)
        (subst (λ held. MeetsSaid basis (length before + 1) (used_in before) held e line reason) (sym (known_is basis before told tracks (request_in e))) said),
  )
  from_lines (Err why) reason (form, said) = (form, tt)

pub shows_as : (basis : Basis) (before : List Line) (told : Told) → Tracks basis before told → (e : ScriptEntry) (reading : Reading) → ShowsKept basis.policy told e reading → ShowsPlace basis before (entry e) reading
shows_as basis before told tracks e (Ok line) h = subst (λ held. ShowsEntry basis.policy held e line) (known_is basis before told tracks (request_in e)) h
shows_as basis before told tracks e (Err why) h = h

regroup : (a b c : ℕ) → (a + b) + c ≡ a + (b + c)
regroup a b c = omega arith

-- what is kept follows one more line
pub tracks_more : (basis : Basis) → All (IsSet basis.policy) basis.sets → (before : List Line) (ended : Bool) (number : ℕ) (e : ScriptEntry) (reading : Reading) (old new : Told) → BeginFits basis.policy.params e →
    Tracks basis before old → Takes basis ended number e reading old new → Tracks basis (before ++ line_at (entry e) reading ∷ []) new
tracks_more basis sets before ended number e reading old new begins tracks takes =
    let moves = takes.moves in
    let counts = takes.counts in
    let is : (k : ℕ) → get nat_cmp new.requests k ≡ request_by basis k (get nat_cmp old.requests k) e reading = λ k. ap (λ m. get nat_cmp m k) counts.requests ∙ moves.requests k in
    record {
      requests = λ k. is k ∙ ap (λ held. request_by basis k held e reading) (tracks.requests k) ∙ sym (request_from-push basis k None before (line_at (entry e) reading));
      fit = λ k. subst (BegunFits basis.policy) (sym (is k)) (request_fits basis sets k (get nat_cmp old.requests k) e reading begins takes.fitting (tracks.fit k));
      used = ap (λ u. u.items) counts.used ∙ moves.used ∙ ap (λ u. u ++ numbered_at e reading) tracks.used ∙ sym (used-push before (line_at (entry e) reading));
      summary = counts.summary before (moves.summary ∙ tracks.summary);
      unaudited = counts.unaudited ∙ ap (λ n. n + count_by is_unaudited (said_by reading)) (moves.unaudited ∙ tracks.unaudited) ∙ sym (unaudited-push before (line_at (entry e) reading));
    }

-- ---- the places that are left

pub drop_places : (es : List ScriptEntry) (i : ℕ) (e : ScriptEntry) → slice_get es i ≡ Some e → places (drop i es) ≡ entry e ∷ places (drop (i + 1) es)
drop_places es i e h = at_drop_more places es i e (slice_get_within es i e h) ∙ ap (λ x. places (x ∷ drop (i + 1) es)) (get_or_from_slice_get es i e e h)

begin_at : (it : Output) → All (BeginFits it.policy.params) it.script → (i : ℕ) (e : ScriptEntry) → slice_get it.script i ≡ Some e → BeginFits it.policy.params e
begin_at it all i e h = subst (BeginFits it.policy.params) (get_or_from_slice_get it.script i e e h) (all i e (slice_get_within it.script i e h))

module _ (it : Output) (sets : All (IsSet it.policy) it.sets) (begins : All (BeginFits it.policy.params) it.script) (i : ℕ) (e : ScriptEntry) (here : slice_get it.script i ≡ Some e)
    (bytes : List ℕ) (all left : List (List ℕ)) (next : all ≡ bytes ∷ left) (old : Told) (reached : Reached it i all old) where
  abbrev pub at_it : Reading
  at_it = printed_of it.policy bytes

  abbrev pub AllLeft : List Place → List (List ℕ) → Type 0
  AllLeft ps ls = AllPass (basis_of it) (feeds it.bytes) reached.before ps (map (printed_of it.policy) ls)

  abbrev pub FailsLeft : ℕ → Reason → List Place → List (List ℕ) → Type 0
  FailsLeft m reason ps ls = FailsAt (basis_of it) (feeds it.bytes) reached.before ps (map (printed_of it.policy) ls) m reason

  passes_here : MeetsAll (MeetsReading (nat_lt (length reached.before) (feeds it.bytes)) (basis_of it) reached.before (entry e) at_it) →
      AllPass (basis_of it) (feeds it.bytes) (reached.before ++ line_at (entry e) at_it ∷ []) (places (drop (i + 1) it.script)) (map (printed_of it.policy) left) → IsAudited it
  passes_here meets rest =
      reached.passes (subst (λ ps. AllLeft ps all) (sym (drop_places it.script i e here)) (subst (AllLeft (entry e ∷ places (drop (i + 1) it.script))) (sym next) (meets, rest)))

  shows_here : ShowsPlace (basis_of it) reached.before (entry e) at_it → AllShow (basis_of it) (reached.before ++ line_at (entry e) at_it ∷ []) (places (drop (i + 1) it.script)) (map (printed_of it.policy) left) → IsSound it
  shows_here shows rest =
      reached.shows (subst (λ ps. AllShow (basis_of it) reached.before ps (map (printed_of it.policy) all)) (sym (drop_places it.script i e here)) (subst (λ ls. AllShow (basis_of it) reached.before (entry e ∷ places (drop (i + 1) it.script)) (map (printed_of it.policy) ls)) (sym next) (shows, rest)))

  fails_by : (m : ℕ) (reason : Reason) → FailsLeft m reason (entry e ∷ places (drop (i + 1) it.script)) (bytes ∷ left) → IsFirstFault it m reason
  fails_by m reason h =
      reached.fails m reason (subst (λ ps. FailsLeft m reason ps all) (sym (drop_places it.script i e here)) (subst (FailsLeft m reason (entry e ∷ places (drop (i + 1) it.script))) (sym next) h))

  -- the line passes
  pub reached_more : (new : Told) → Takes (basis_of it) (nat_lt i (feeds it.bytes)) (i + 1) e at_it old new → Reached it (i + 1) left new
  reached_more new takes =
      let here_takes : Takes (basis_of it) (nat_lt (length reached.before) (feeds it.bytes)) (length reached.before + 1) e at_it old new =
      subst (λ n. Takes (basis_of it) (nat_lt n (feeds it.bytes)) (n + 1) e at_it old new) (sym reached.count) takes in
      let ended = nat_lt (length reached.before) (feeds it.bytes) in
      let meets = all_as (Kept (basis_of it) reached.before old reached.tracks ended e at_it) (Asked (basis_of it) reached.before old reached.tracks ended e at_it)
      (to_lines (basis_of it) reached.before old reached.tracks ended e at_it) here_takes.meets in
      record {
        before = reached.before ++ line_at (entry e) at_it ∷ [];
        tracks = tracks_more (basis_of it) sets reached.before ended (length reached.before + 1) e at_it old new (begin_at it begins i e here) reached.tracks here_takes;
        count = omega (arith, length-append reached.before (line_at (entry e) at_it ∷ []), reached.count);
        passes = passes_here meets;
        shows = shows_here (shows_as (basis_of it) reached.before old reached.tracks e at_it here_takes.shows);
        fails = λ m reason h. fails_by m reason (inr (meets, h));
        unaudited = ap (λ n. n + unaudited_of (map (printed_of it.policy) left)) (unaudited-push reached.before (line_at (entry e) at_it))
            ∙ regroup (unaudited_in reached.before) (count_by is_unaudited (said_by at_it)) (unaudited_of (map (printed_of it.policy) left))
            ∙ ap (λ n. unaudited_in reached.before + n) (sym (unaudited-cons at_it (map (printed_of it.policy) left)) ∙ sym (ap (λ ls. unaudited_of (map (printed_of it.policy) ls)) next))
            ∙ reached.unaudited;
      }

  -- or is the first that fails
  pub fails_here : (reason : Reason) → IsFirstUnmet (MeetsTaken (basis_of it) (nat_lt i (feeds it.bytes)) (i + 1) old e at_it) reason → IsFirstFault it (i + 1) reason
  fails_here reason unmet =
      let ended = nat_lt (length reached.before) (feeds it.bytes) in
      let kept : IsFirstUnmet (MeetsTaken (basis_of it) ended (length reached.before + 1) old e at_it) reason =
      subst (λ n. IsFirstUnmet (MeetsTaken (basis_of it) (nat_lt n (feeds it.bytes)) (n + 1) old e at_it) reason) (sym reached.count) unmet in
      let first = first_as (Kept (basis_of it) reached.before old reached.tracks ended e at_it) (Asked (basis_of it) reached.before old reached.tracks ended e at_it)
      (to_lines (basis_of it) reached.before old reached.tracks ended e at_it) (from_lines (basis_of it) reached.before old reached.tracks ended e at_it) reason kept in
      fails_by (i + 1) reason (inl (ap (λ n. n + 1) (sym reached.count), first))
