-- Why a line that was written meets the tests of an audit.
use Rattle.std.proofs.Common.{◌≡◌, ◌∙◌, ℕ, suc, ◌<◌, ◌≤◌, ◌==◌, ◌&&◌, ◌||◌, ◌⊎◌, inl, inr, Bool, true, false, is_some, nat_lt, List, [], ◌∷◌, All, map, Option, Some, Result, Ok, Err, ap, arith, length, refl, slice_get, subst, sym}
use Rattle.std.proofs.lemmas.Bool.{lt-ltb}
use Rattle.std.proofs.lemmas.List.Elements.{All-cons, All-head, All-nil, All-tail}
use Rattle.std.proofs.lemmas.Option.{same_Some}
use Rattle.std.specs.List.{AllZip}
use Rattle.std.specs.Str.{bytes_eq}
use Rattle.ba_audit.specs.Lines.{Basis, begun_over, is_memory, published_as, reading_of, tables_of, unread_in}
use Rattle.ba_audit.specs.Lines.{asked_over, asker_in, begin_in, end_in, key_at, key_in, number_in, queries_behind, reader_in, set_in}
use Rattle.ba_audit.specs.Tests.{IsProved, IsRefuted, IsRightlyBy, MeetsAll, MeetsAsked, MeetsBehind, MeetsKeyBlock, MeetsQueries, MeetsQuery, MeetsReader, MeetsSaid, MeetsTotal, has_form, is_key, is_kind, is_number, is_version, is_within, may_follow, may_publish}
use Rattle.ba_audit.specs.declared.numbered.Numbered.{Numbered}
use Rattle.ba_audit.specs.declared.request.Asker.{Asker}
use Rattle.ba_audit.specs.declared.request.Begun.{Begun}
use Rattle.ba_audit.specs.declared.request.Begun.TheVariants.{Asking}
use Rattle.ba_direct.proofs.CoverLemmas.{cover_covers}
use Rattle.ba_direct.specs.Cover.{Covered}
use Rattle.ba_evidence.specs.Evidence.{Evidence as Ground, EvidenceHasBits}
use Rattle.ba_kernel.specs.Problems.{problem_of}
use Rattle.ba_kernel.specs.Replays.{Closes}
use Rattle.ba_kernel.specs.declared.problem.Problem.{Problem}
use Rattle.ba_kernel.specs.declared.step.Step.{Step}
use Rattle.ba_keys.specs.Literals.{key_queries}
use Rattle.ba_model.specs.Limits.{most_budget, most_steps}
use Rattle.ba_model.specs.Meaning.{IsAnswer}
use Rattle.ba_model.specs.declared.policy.CacheKey.{CacheKey}
use Rattle.ba_model.specs.declared.policy.Context.{Context}
use Rattle.ba_model.specs.declared.policy.Policy.{Policy}
use Rattle.ba_model.specs.declared.query.Query.{Query}
use Rattle.ba_model.specs.declared.value.Value.{Value}
use Rattle.ba_match.specs.Instances.{instance_of}
use Rattle.ba_printed.specs.ReadBack.{meant}
use Rattle.ba_printed.specs.declared.line.Evidence.{Evidence}
use Rattle.ba_printed.specs.declared.line.PrintedBlock.{PrintedBlock}
use Rattle.ba_printed.specs.declared.line.PrintedLine.{PrintedLine}
use Rattle.ba_printed.specs.declared.line.PrintedLine.TheVariants as printed
use Rattle.ba_proof.proofs.PutLemmas.{text_itself}
use Rattle.ba_script.specs.declared.entry.ScriptEntry.{ScriptEntry}
use Rattle.ba_script.specs.declared.entry.ScriptEntry.TheVariants as said
use Rattle.ba_session.specs.Asking.{IsGround, IsReason}
use Rattle.ba_session.specs.KeyReads.{AreGrounds}
use Rattle.ba_session.specs.Passing.{ShelfCalls}
use Rattle.ba_session.specs.declared.reply.By.{By}
use Rattle.ba_session.specs.declared.reply.By.TheVariants as by
use Rattle.ba_session.specs.declared.reply.Why.{Why}
use Rattle.ba_session.specs.declared.reply.Why.TheVariants as why
use Rattle.ba_session.specs.declared.request.Request.{Request}
use Rattle.ba_settle.proofs.SearchLemmas.{runs_of}
use Rattle.ba_settle.specs.Dues.{EndsProved}
use Rattle.ba_settle.specs.Settling.{Effort, FindsNone, Settles}
use Rattle.ba_settle.specs.declared.ends.Settled.TheVariants as settled
use Rattle.ba_settle.specs.declared.order.Pick.{Pick}
use Rattle.ba_settle.specs.declared.order.Pick.TheVariants.{First, Last}
use Rattle.ba_sql_query.specs.declared.fault.ReadQueryFault.{ReadQueryFault}
use Rattle.ba_top.proofs.HistoryLemmas.{same_true}
use Rattle.ba_top.proofs.SaidLemmas.{said_block}
use Rattle.ba_top.specs.Audited.{GroundHasBits, IsFew}
use Rattle.ba_top.specs.Evidence.{GroundCloses, GroundsClose, evidence_of}
use Rattle.ba_wire.specs.declared.audit.AuditReason.{AuditReason as Reason}
use Rattle.ba_wire.specs.declared.audit.AuditReason.TheVariants.{Count, Json, Shape, Kind, Version, Unread, By as ByReason, Covered as CoveredReason, Rows, Proof, Pair, Summary as SummaryReason}
use Rattle.ba_wire.specs.declared.summary.Summary.{Summary}

-- ---- kind

true_true : (a b : Bool) → a ≡ true → b ≡ true → (a && b) ≡ true
true_true true true e f = refl
true_true true false e f = f
true_true false b e f = e

named_same : (name : List ℕ) (b : Bool) → (b || true) ≡ true
named_same name true = refl
named_same name false = refl

or_true : (a b : Bool) → b ≡ true → (a || b) ≡ true
or_true true b e = refl
or_true false b e = e

kind_met : (policy : Policy) (e : ScriptEntry) (number line : ℕ) (held : Option Begun) (it : PrintedLine) → has_form policy e it ≡ true → number_in it ≡ Some line → line ≡ number → may_follow e held it ≡ true →
    is_kind policy e number held it ≡ true
kind_met policy e number line held it form at same follow =
    true_true (is_memory it || has_form policy e it) _ (or_true (is_memory it) (has_form policy e it) form)
    (true_true _ (may_follow e held it) (ap (λ o. is_number o number) at ∙ ap (λ z. z == number) same ∙ same_true number) follow)

-- ---- questions

answer_met : (policy : Policy) (a : Asker) (q : Query) (it : Evidence) (number : ℕ) (name : List ℕ) (rows : List (List Value)) (version : ℕ) → IsRightlyBy policy a q it →
    IsAnswer q a.context a.tables.rows rows → IsProved policy a q it → (reason : Reason) → MeetsAsked policy (Some (Asking a)) (Ok q) (printed.Answer it number name rows version) reason
unfolding MeetsQuery unread_in
answer_met policy a q it number name rows version rightly answer proved Count = tt
answer_met policy a q it number name rows version rightly answer proved Json = tt
answer_met policy a q it number name rows version rightly answer proved Shape = tt
answer_met policy a q it number name rows version rightly answer proved Kind = tt
answer_met policy a q it number name rows version rightly answer proved Version = tt
answer_met policy a q it number name rows version rightly answer proved Unread = inr refl
answer_met policy a q it number name rows version rightly answer proved ByReason = rightly
answer_met policy a q it number name rows version rightly answer proved CoveredReason = tt
answer_met policy a q it number name rows version rightly answer proved Rows = answer
answer_met policy a q it number name rows version rightly answer proved Proof = proved
answer_met policy a q it number name rows version rightly answer proved Pair = tt
answer_met policy a q it number name rows version rightly answer proved SummaryReason = tt

block_met : (policy : Policy) (a : Asker) (q : Query) (it : PrintedBlock) (number : ℕ) (name : List ℕ) (version : ℕ) → (Covered policy a.context q → ⊥) → IsRefuted policy a q it →
    (reason : Reason) → MeetsAsked policy (Some (Asking a)) (Ok q) (printed.Block it number name version) reason
unfolding MeetsQuery unread_in
block_met policy a q it number name version uncovered refuted Count = tt
block_met policy a q it number name version uncovered refuted Json = tt
block_met policy a q it number name version uncovered refuted Shape = tt
block_met policy a q it number name version uncovered refuted Kind = tt
block_met policy a q it number name version uncovered refuted Version = tt
block_met policy a q it number name version uncovered refuted Unread = inr refl
block_met policy a q it number name version uncovered refuted ByReason = tt
block_met policy a q it number name version uncovered refuted CoveredReason = uncovered
block_met policy a q it number name version uncovered refuted Rows = tt
block_met policy a q it number name version uncovered refuted Proof = tt
block_met policy a q it number name version uncovered refuted Pair = refuted
block_met policy a q it number name version uncovered refuted SummaryReason = tt

unread_met : (policy : Policy) (a : Asker) (fault : ReadQueryFault) (number : ℕ) (name : List ℕ) (version : ℕ) (reason : Reason) →
    MeetsAsked policy (Some (Asking a)) (Err fault) (printed.Unread number name fault version) reason
unfolding unread_in
unread_met policy a fault number name version Count = tt
unread_met policy a fault number name version Json = tt
unread_met policy a fault number name version Shape = tt
unread_met policy a fault number name version Kind = tt
unread_met policy a fault number name version Version = tt
unread_met policy a fault number name version Unread = inr refl
unread_met policy a fault number name version ByReason = tt
unread_met policy a fault number name version CoveredReason = tt
unread_met policy a fault number name version Rows = tt
unread_met policy a fault number name version Proof = tt
unread_met policy a fault number name version Pair = tt
unread_met policy a fault number name version SummaryReason = tt

-- ---- reads

read_reasons : (policy : Policy) (a : Asker) (qs : List Query) (its : List Evidence) (key : List ℕ) (line : ℕ) (name : List ℕ) (version : ℕ) → AllZip (IsRightlyBy policy a) qs its → AllZip (IsProved policy a) qs its →
    (reason : Reason) → MeetsQueries policy a qs (printed.Read its key line name version) reason
unfolding MeetsQueries
read_reasons policy a qs its key line name version rightly proved Count = tt
read_reasons policy a qs its key line name version rightly proved Json = tt
read_reasons policy a qs its key line name version rightly proved Shape = tt
read_reasons policy a qs its key line name version rightly proved Kind = tt
read_reasons policy a qs its key line name version rightly proved Version = tt
read_reasons policy a qs its key line name version rightly proved Unread = tt
read_reasons policy a qs its key line name version rightly proved ByReason = rightly
read_reasons policy a qs its key line name version rightly proved CoveredReason = tt
read_reasons policy a qs its key line name version rightly proved Rows = tt
read_reasons policy a qs its key line name version rightly proved Proof = proved
read_reasons policy a qs its key line name version rightly proved Pair = tt
read_reasons policy a qs its key line name version rightly proved SummaryReason = tt

barred_reasons : (policy : Policy) (a : Asker) (q : Query) (it : PrintedBlock) → (Covered policy a.context q → ⊥) → IsRefuted policy a q it → (reason : Reason) → MeetsKeyBlock policy a (Some q) it reason
barred_reasons policy a q it uncovered refuted Count = tt
barred_reasons policy a q it uncovered refuted Json = tt
barred_reasons policy a q it uncovered refuted Shape = tt
barred_reasons policy a q it uncovered refuted Kind = tt
barred_reasons policy a q it uncovered refuted Version = tt
barred_reasons policy a q it uncovered refuted Unread = tt
barred_reasons policy a q it uncovered refuted ByReason = tt
barred_reasons policy a q it uncovered refuted CoveredReason = uncovered
barred_reasons policy a q it uncovered refuted Rows = tt
barred_reasons policy a q it uncovered refuted Proof = tt
barred_reasons policy a q it uncovered refuted Pair = refuted
barred_reasons policy a q it uncovered refuted SummaryReason = tt

read_block_reasons : (policy : Policy) (a : Asker) (qs : List Query) (it : PrintedBlock) (key : List ℕ) (line index : ℕ) (name : List ℕ) (version : ℕ) (q : Query) → slice_get qs index ≡ Some q →
    (Covered policy a.context q → ⊥) → IsRefuted policy a q it → (reason : Reason) → MeetsQueries policy a qs (printed.ReadBlock it key line index name version) reason
unfolding MeetsQueries
read_block_reasons policy a qs it key line index name version q at uncovered refuted reason =
    subst (λ o. MeetsKeyBlock policy a o it reason) (sym at) (barred_reasons policy a q it uncovered refuted reason)

-- ---- all tests of a line

module _ (basis : Basis) (number : ℕ) (used : List Numbered) (held : Option Begun) where
  said_met : (e : ScriptEntry) (it : PrintedLine) → is_kind basis.policy e number held it ≡ true → is_version basis used held e it ≡ true → ((reason : Reason) → MeetsBehind basis.policy held e it reason) →
      MeetsAll (MeetsSaid basis number used held e it)
  said_met e it kind version behind = record { meets = met }
    where
      met : (reason : Reason) → MeetsSaid basis number used held e it reason
      met Count = (tt, behind Count)
      met Json = (tt, behind Json)
      met Shape = (tt, behind Shape)
      met Kind = (kind, behind Kind)
      met Version = (version, behind Version)
      met Unread = (tt, behind Unread)
      met ByReason = (tt, behind ByReason)
      met CoveredReason = (tt, behind CoveredReason)
      met Rows = (tt, behind Rows)
      met Proof = (tt, behind Proof)
      met Pair = (tt, behind Pair)
      met SummaryReason = (tt, behind SummaryReason)

  pub begin_met : (request : ℕ) (name : List ℕ) (context : Context) (line version : ℕ) → line ≡ number → is_some (tables_of basis version) ≡ true →
      MeetsAll (MeetsSaid basis number used held (said.Begin request name context) (printed.Begin name line version))
  unfolding has_form number_in may_follow is_version MeetsBehind begin_in begun_over
  begin_met request name context line version same there =
      said_met (said.Begin request name context) (printed.Begin name line version)
      (kind_met basis.policy (said.Begin request name context) number line held (printed.Begin name line version) (text_itself name) refl same refl) there (λ reason. tt)

  pub publish_met : (place : ℕ) (name : List ℕ) (line version : ℕ) → line ≡ number → may_publish basis.numbered used (Some version) ≡ true →
      MeetsAll (MeetsSaid basis number used held (said.Publish place name) (printed.Publish line name version))
  unfolding has_form number_in may_follow is_version MeetsBehind set_in published_as
  publish_met place name line version same may =
      said_met (said.Publish place name) (printed.Publish line name version)
      (kind_met basis.policy (said.Publish place name) number line held (printed.Publish line name version) (text_itself name) refl same refl) may (λ reason. tt)

  pub end_met : (request : ℕ) (name : List ℕ) (line : ℕ) (a : Asker) → held ≡ Some (Asking a) → line ≡ number →
      MeetsAll (MeetsSaid basis number used held (said.End request name) (printed.End name line))
  unfolding has_form number_in may_follow is_version MeetsBehind end_in
  end_met request name line a is same =
      said_met (said.End request name) (printed.End name line)
      (kind_met basis.policy (said.End request name) number line held (printed.End name line) (text_itself name) refl same (ap (λ h. may_follow (said.End request name) h (printed.End name line)) is)) refl (λ reason. tt)

  -- a question's, of a form that says who asked and over which version
  module _ (request : ℕ) (name text : List ℕ) (a : Asker) (is : held ≡ Some (Asking a)) where
    abbrev asks : ScriptEntry
    asks = said.Ask request name text

    behind_met : (it : PrintedLine) (reading : Result Query ReadQueryFault) → reading_of basis.policy text ≡ reading → ((reason : Reason) → MeetsAsked basis.policy (Some (Asking a)) reading it reason) →
        (reason : Reason) → MeetsBehind basis.policy held asks it reason
    unfolding MeetsBehind
    behind_met it reading reads met reason =
        subst (λ r. MeetsAsked basis.policy held r it reason) (sym reads) (subst (λ h. MeetsAsked basis.policy h reading it reason) (sym is) (met reason))

    pub asked_answer_met : (it : Evidence) (line : ℕ) (rows : List (List Value)) (version : ℕ) (q : Query) → line ≡ number → a.version ≡ version → reading_of basis.policy text ≡ Ok q →
        IsRightlyBy basis.policy a q it → IsAnswer q a.context a.tables.rows rows → IsProved basis.policy a q it →
        MeetsAll (MeetsSaid basis number used held asks (printed.Answer it line name rows version))
    unfolding has_form number_in may_follow is_version asker_in asked_over
    asked_answer_met it line rows version q same over reads rightly answer proved =
        said_met asks (printed.Answer it line name rows version)
        (kind_met basis.policy asks number line held (printed.Answer it line name rows version) (text_itself name) refl same (ap (λ h. may_follow asks h (printed.Answer it line name rows version)) is))
        (ap (λ h. is_version basis used h asks (printed.Answer it line name rows version)) is ∙ ap (λ z. a.version == z) (sym over) ∙ same_true a.version)
        (behind_met (printed.Answer it line name rows version) (Ok q) reads (answer_met basis.policy a q it line name rows version rightly answer proved))

    pub asked_block_met : (it : PrintedBlock) (line version : ℕ) (q : Query) → line ≡ number → a.version ≡ version → reading_of basis.policy text ≡ Ok q → (Covered basis.policy a.context q → ⊥) →
        IsRefuted basis.policy a q it → MeetsAll (MeetsSaid basis number used held asks (printed.Block it line name version))
    unfolding has_form number_in may_follow is_version asker_in asked_over
    asked_block_met it line version q same over reads uncovered refuted =
        said_met asks (printed.Block it line name version)
        (kind_met basis.policy asks number line held (printed.Block it line name version) (text_itself name) refl same (ap (λ h. may_follow asks h (printed.Block it line name version)) is))
        (ap (λ h. is_version basis used h asks (printed.Block it line name version)) is ∙ ap (λ z. a.version == z) (sym over) ∙ same_true a.version)
        (behind_met (printed.Block it line name version) (Ok q) reads (block_met basis.policy a q it line name version uncovered refuted))

    pub asked_unread_met : (fault : ReadQueryFault) (line version : ℕ) → line ≡ number → a.version ≡ version → reading_of basis.policy text ≡ Err fault →
        MeetsAll (MeetsSaid basis number used held asks (printed.Unread line name fault version))
    unfolding has_form number_in may_follow is_version asker_in asked_over
    asked_unread_met fault line version same over reads =
        said_met asks (printed.Unread line name fault version)
        (kind_met basis.policy asks number line held (printed.Unread line name fault version) (text_itself name) refl same (ap (λ h. may_follow asks h (printed.Unread line name fault version)) is))
        (ap (λ h. is_version basis used h asks (printed.Unread line name fault version)) is ∙ ap (λ z. a.version == z) (sym over) ∙ same_true a.version)
        (behind_met (printed.Unread line name fault version) (Err fault) reads (unread_met basis.policy a fault line name version))

  -- a read's, of the key of the policy at a place, by a request that asks
  module _ (request place questions : ℕ) (name : List ℕ) (arguments : Context) (key : CacheKey) (there : key_at basis.policy place ≡ Some key) (a : Asker) (is : held ≡ Some (Asking a)) where
    abbrev reads : ScriptEntry
    reads = said.Read request name place arguments questions

    abbrev behind : List Query
    behind = key_queries basis.policy key arguments

    reader_met : (it : PrintedLine) → ((reason : Reason) → MeetsQueries basis.policy a behind it reason) → (reason : Reason) → MeetsBehind basis.policy held reads it reason
    unfolding MeetsBehind
    reader_met it met reason =
        subst (λ qs. MeetsReader basis.policy held qs it reason) (sym (ap (queries_behind basis.policy arguments) there))
        (subst (λ h. MeetsReader basis.policy h behind it reason) (sym is) (met reason))

    pub read_met : (its : List Evidence) (line version : ℕ) → line ≡ number → a.version ≡ version → length its ≡ length key.queries →
        AllZip (IsRightlyBy basis.policy a) behind its → AllZip (IsProved basis.policy a) behind its →
        MeetsAll (MeetsSaid basis number used held reads (printed.Read its key.name line name version))
    unfolding has_form reader_in key_in is_within number_in may_follow is_version asked_over
    read_met its line version same over many rightly proved =
        said_met reads (printed.Read its key.name line name version)
        (kind_met basis.policy reads number line held (printed.Read its key.name line name version)
        (true_true (bytes_eq name name) (is_key (key_at basis.policy place) (printed.Read its key.name line name version)) (text_itself name)
        (ap (λ o. is_key o (printed.Read its key.name line name version)) there
        ∙ true_true (bytes_eq key.name key.name) (length its == length key.queries) (text_itself key.name) (ap (λ n. n == length key.queries) many ∙ same_true (length key.queries))))
        refl same (ap (λ h. may_follow reads h (printed.Read its key.name line name version)) is))
        (ap (λ h. is_version basis used h reads (printed.Read its key.name line name version)) is ∙ ap (λ z. a.version == z) (sym over) ∙ same_true a.version)
        (reader_met (printed.Read its key.name line name version) (read_reasons basis.policy a behind its key.name line name version rightly proved))

    pub read_block_met : (it : PrintedBlock) (line index version : ℕ) (q : Query) → line ≡ number → a.version ≡ version → index < length key.queries → slice_get behind index ≡ Some q →
        (Covered basis.policy a.context q → ⊥) → IsRefuted basis.policy a q it →
        MeetsAll (MeetsSaid basis number used held reads (printed.ReadBlock it key.name line index name version))
    unfolding has_form reader_in key_in is_within number_in may_follow is_version asked_over
    read_block_met it line index version q same over low at uncovered refuted =
        said_met reads (printed.ReadBlock it key.name line index name version)
        (kind_met basis.policy reads number line held (printed.ReadBlock it key.name line index name version)
        (true_true (bytes_eq name name) (is_key (key_at basis.policy place) (printed.ReadBlock it key.name line index name version)) (text_itself name)
        (ap (λ o. is_key o (printed.ReadBlock it key.name line index name version)) there
        ∙ true_true (bytes_eq key.name key.name) (nat_lt index (length key.queries)) (text_itself key.name) (lt-ltb index (length key.queries) low)))
        refl same (ap (λ h. may_follow reads h (printed.ReadBlock it key.name line index name version)) is))
        (ap (λ h. is_version basis used h reads (printed.ReadBlock it key.name line index name version)) is ∙ ap (λ z. a.version == z) (sym over) ∙ same_true a.version)
        (reader_met (printed.ReadBlock it key.name line index name version) (read_block_reasons basis.policy a behind it key.name line index name version q at uncovered refuted))

-- the summary's line
pub total_met : (counted : Summary) (summary : Summary) → summary ≡ counted → MeetsAll (MeetsTotal counted (printed.Summary summary))
unfolding MeetsTotal
total_met counted summary same = record { meets = met }
  where
    met : (reason : Reason) → MeetsTotal counted (printed.Summary summary) reason
    met Count = tt
    met Json = tt
    met Shape = tt
    met Kind = tt
    met Version = tt
    met Unread = tt
    met ByReason = tt
    met CoveredReason = tt
    met Rows = tt
    met Proof = tt
    met Pair = tt
    met SummaryReason = same

-- ---- grounds

-- the steps are few, and close the problem
pub record IsShort (p : Problem) (steps : List Step) : Type 0 where
  pub few : length steps ≤ most_steps
  pub closes : Closes p steps

proved_short : (pick : Pick) (p : Problem) (budget : ℕ) (steps : List Step) → budget ≤ most_budget → EndsProved pick p budget (record { problem = p; steps = steps }) → IsShort p steps
proved_short pick p budget steps most h =
    let few = h.few in
    record { few = omega (arith, few, most); closes = record { slots = h.slots; runs = runs_of pick p steps h.slots h.searches; closed = h.closed } }

pub settled_short : (effort : Effort) (p : Problem) (steps : List Step) → effort.budget ≤ most_budget → Settles effort p (settled.Proved (record { problem = p; steps = steps })) → IsShort p steps
settled_short effort p steps most (inl h) = proved_short First p effort.budget steps most h.1
settled_short effort p steps most (inr h) = by h.1
  where
    by : EndsProved First p effort.budget (record { problem = p; steps = steps }) ⊎ (FindsNone First p effort.budget × EndsProved Last p effort.budget (record { problem = p; steps = steps })) → IsShort p steps
    by (inl one) = proved_short First p effort.budget steps most one
    by (inr other) = proved_short Last p effort.budget steps most other.1

-- the request as an audit knows it
abbrev pub asker_of : Request → Asker
asker_of asker = record { context = asker.context; version = asker.version; tables = asker.tables; trace = asker.trace }

pub rightly : (policy : Policy) (asker : Request) (effort : Effort) (q : Query) (it : By) (made : ShelfCalls) → IsGround policy asker effort q it made → IsRightlyBy policy (asker_of asker) q (meant (evidence_of asker.trace it))
rightly policy asker effort q (by.Cover cover) made h = cover_covers policy asker.context q cover h.0
rightly policy asker effort q (by.Template shard id template found) made h = h.uncovered
rightly policy asker effort q (by.Proof steps keeping) made h = h.uncovered

-- a template's instance closes the problem of the request's question, and is not too long
pub record IsInstanceOf (policy : Policy) (asker : Request) (q : Query) (steps : List Step) : Type 0 where
  pub few : length steps ≤ most_steps
  pub closes : Closes (problem_of policy asker.context asker.trace q) steps

abbrev pub GroundIsClosed : Policy → Request → Query → By → Type 0
GroundIsClosed policy asker q (by.Cover cover) = Unit {0}
GroundIsClosed policy asker q (by.Template shard id template found) = IsInstanceOf policy asker q (instance_of found asker.trace template.steps)
GroundIsClosed policy asker q (by.Proof steps keeping) = Unit {0}

pub proved_by : (policy : Policy) (asker : Request) (effort : Effort) (q : Query) (it : By) (made : ShelfCalls) → effort.budget ≤ most_budget → IsGround policy asker effort q it made → GroundIsClosed policy asker q it →
    IsProved policy (asker_of asker) q (meant (evidence_of asker.trace it))
proved_by policy asker effort q (by.Cover cover) made most h closed = h.0
proved_by policy asker effort q (by.Template shard id template found) made most h closed = record { few = closed.few; closes = closed.closes }
proved_by policy asker effort q (by.Proof steps keeping) made most h closed =
    let short = settled_short effort (problem_of policy asker.context asker.trace q) steps most h.proof in
    record { few = short.few; closes = short.closes }

pub ground_closed : (policy : Policy) (contexts : List Context) (asker : Request) (request : ℕ) (q : Query) (it : By) → slice_get contexts request ≡ Some asker.context →
    GroundCloses policy contexts asker.trace request q it → IsFew (evidence_of asker.trace it) → GroundIsClosed policy asker q it
ground_closed policy contexts asker request q (by.Cover cover) has closes few = tt
ground_closed policy contexts asker request q (by.Template shard id template found) has closes few =
    let same : closes.context ≡ asker.context = same_Some closes.context asker.context (sym closes.has ∙ has) in
    record { few = few; closes = subst (λ c. Closes (problem_of policy c asker.trace q) (instance_of found asker.trace template.steps)) same closes.closes }
ground_closed policy contexts asker request q (by.Proof steps keeping) has closes few = tt

-- ---- blocks

pub refuted_by : (policy : Policy) (asker : Request) (effort : Effort) (q : Query) (it : Why) → IsReason policy asker effort q it → IsRefuted policy (asker_of asker) q (said_block it)
refuted_by policy asker effort q (why.Refuted pair) h = h.refutes
refuted_by policy asker effort q (why.Spent steps) h = tt
refuted_by policy asker effort q (why.Stuck leaf clause) h = tt

-- ---- the queries of a read

module _ (policy : Policy) (asker : Request) (effort : Effort) where
  -- what is known of a query that has a ground, whose line is written
  pub record HasGround (q : Query) (it : By) : Type 0 where
    pub calls : ShelfCalls
    pub ground : IsGround policy asker effort q it calls
    pub closed : GroundIsClosed policy asker q it
    pub bits : EvidenceHasBits (evidence_of asker.trace it)

  pub have_grounds : (contexts : List Context) (request : ℕ) → slice_get contexts request ≡ Some asker.context → (qs : List Query) (bys : List By) (made : List ShelfCalls) →
      AreGrounds policy asker effort qs bys made → GroundsClose policy contexts asker.trace request qs bys → All (GroundHasBits asker.trace) bys → AllZip HasGround qs bys
  have_grounds contexts request has [] [] [] h closes bits = tt
  have_grounds contexts request has [] [] (m ∷ made) h closes bits = absurd h
  have_grounds contexts request has [] (it ∷ bys) made h closes bits = absurd h
  have_grounds contexts request has (q ∷ qs) [] made h closes bits = absurd h
  have_grounds contexts request has (q ∷ qs) (it ∷ bys) [] h closes bits = absurd h
  have_grounds contexts request has (q ∷ qs) (it ∷ bys) (m ∷ made) h closes bits =
      let own = All-head (GroundHasBits asker.trace) it bys bits in (
        record { calls = m; ground = h.0.0; closed = ground_closed policy contexts asker request q it has (closes 0 q it refl refl) own.few; bits = own.bits },
        have_grounds contexts request has qs bys made h.1 (λ place x y asked by. closes (suc place) x y asked by) (All-tail (GroundHasBits asker.trace) it bys bits),
      )

  -- what follows of each query and its evidence
  pub each_meant : (S : Query → Evidence → Type 0) → ((q : Query) (it : By) → HasGround q it → S q (meant (evidence_of asker.trace it))) → (qs : List Query) (bys : List By) → AllZip HasGround qs bys →
      AllZip S qs (map meant (map (evidence_of asker.trace) bys))
  each_meant S go [] [] h = tt
  each_meant S go [] (it ∷ bys) h = absurd h
  each_meant S go (q ∷ qs) [] h = absurd h
  each_meant S go (q ∷ qs) (it ∷ bys) h = (go q it h.0, each_meant S go qs bys h.1)

  pub each_of : (Q : Query → Type 0) (S : Ground → Type 0) → ((q : Query) (it : By) → Q q → HasGround q it → S (evidence_of asker.trace it)) → (qs : List Query) (bys : List By) → All Q qs → AllZip HasGround qs bys →
      All S (map (evidence_of asker.trace) bys)
  each_of Q S go [] [] all h = All-nil S
  each_of Q S go [] (it ∷ bys) all h = absurd h
  each_of Q S go (q ∷ qs) [] all h = absurd h
  each_of Q S go (q ∷ qs) (it ∷ bys) all h =
      All-cons S (evidence_of asker.trace it) (map (evidence_of asker.trace) bys) (go q it (All-head Q q qs all) h.0) (each_of Q S go qs bys (All-tail Q q qs all) h.1)

  pub as_many : (qs : List Query) (bys : List By) → AllZip HasGround qs bys → length (map meant (map (evidence_of asker.trace) bys)) ≡ length qs
  as_many [] [] h = refl
  as_many [] (it ∷ bys) h = absurd h
  as_many (q ∷ qs) [] h = absurd h
  as_many (q ∷ qs) (it ∷ bys) h = let e = as_many qs bys h.1 in omega (arith, e)

  -- so many queries have a ground as there are grounds
  pub grounds_long : (qs : List Query) (bys : List By) (made : List ShelfCalls) → AreGrounds policy asker effort qs bys made → length bys ≡ length qs
  grounds_long [] [] [] h = refl
  grounds_long [] [] (m ∷ made) h = absurd h
  grounds_long [] (it ∷ bys) made h = absurd h
  grounds_long (q ∷ qs) [] made h = absurd h
  grounds_long (q ∷ qs) (it ∷ bys) [] h = absurd h
  grounds_long (q ∷ qs) (it ∷ bys) (m ∷ made) h = let e = grounds_long qs bys made h.1 in omega (arith, e)
