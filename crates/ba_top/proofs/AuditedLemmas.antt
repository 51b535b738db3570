-- What is told with proofs is audited.
use mathlib.Core.List.{map-append}
use Rattle.std.proofs.Common.{◌≡◌, ◌≢◌, ◌∙◌, ℕ, ◌+◌, ◌<◌, ◌||◌, inl, inr, All, Bool, true, false, true≢false, is_some, nat_lt, List, [], ◌∷◌, ◌++◌, Contains, None, Option, Some, option_map, unwrap_or, Ok, Err, ap, append-nil, append_assoc, arith, length, map, refl, slice_get, subst, sym}
use Rattle.std.proofs.lemmas.Bool.{lt-ltb}
use Rattle.std.proofs.lemmas.List.{length-map}
use Rattle.std.proofs.lemmas.List.Elements.{All-contains, All-nil, Contains-append_right}
use Rattle.std.proofs.lemmas.Option.{same_Some, slice_get_within}
use Rattle.std.specs.List.{AllZip, concat, list_any}
use Rattle.serde_json.specs.Data.{Data}
use Rattle.serde_json.specs.Written.{compact_text}
use Rattle.ba_audit.proofs.AskLemmas.{added_fits, question_fits}
use Rattle.ba_audit.proofs.TestLemmas.{form_met}
use Rattle.ba_audit.specs.Audits.{AllPass, IsAudited, IsChecked, basis_of, feeds, places, readings}
use Rattle.ba_audit.specs.Keeping.{AskerFits, BegunFits}
use Rattle.ba_audit.specs.Lines.{Basis, Line, Place, Reading, entry, line_at, numbered_at, publications, reading_of, recorded, request_after, rows_in, summary_of, tables_of, total, used_in}
use Rattle.ba_audit.specs.Tests.{IsProved, IsRightlyBy, MeetsAll, MeetsLine, MeetsReading, may_publish, request_in}
use Rattle.ba_audit.specs.declared.request.Begun.TheVariants.{Asking}
use Rattle.ba_evidence.specs.Evidence.{AnswerHasBits, EvidenceHasBits}
use Rattle.ba_input.specs.Inputs.{IsInput, effort_of}
use Rattle.ba_input.specs.declared.input.Input.{Input}
use Rattle.ba_input.specs.declared.task.Told.TheVariants as told
use Rattle.ba_kernel.proofs.AskedLemmas.{answers_are_records}
use Rattle.ba_kernel.specs.Asked.{QuestionFits, RecordFits}
use Rattle.ba_kernel.specs.Problems.{problem_of}
use Rattle.ba_keys.proofs.LiteralLemmas.{key_queries_fit}
use Rattle.ba_keys.specs.Literals.{key_queries, query_with}
use Rattle.ba_lanes.proofs.ServeLemmas.{same_length}
use Rattle.ba_lanes.specs.Legal.{is_memory as wants, AreServed, IsServed, Legal, LineDone, answer_of, asked, begins, contexts_of, lacks_memory, on_versions, read_as, trace_in, trace_of}
use Rattle.ba_lanes.specs.declared.journal.Entry.{Entry}
use Rattle.ba_lanes.specs.declared.journal.Entry.TheVariants.{Ask, Read, End, Publish, Memory}
use Rattle.ba_lanes.specs.declared.journal.Journal.{Journal}
use Rattle.ba_lanes.specs.declared.journal.LineKind.{LineKind}
use Rattle.ba_model.specs.Fit.{ContextFits, IsQuery, KeyFits, kinds_of}
use Rattle.ba_model.specs.SchemaFaults.{AreDistinct}
use Rattle.ba_model.specs.declared.policy.CacheKey.{CacheKey}
use Rattle.ba_model.specs.declared.policy.Context.{Context}
use Rattle.ba_model.specs.declared.query.Query.{Query}
use Rattle.ba_model.specs.declared.value.Value.{Value}
use Rattle.ba_printed.specs.ReadBack.{meant}
use Rattle.ba_printed.specs.Reading.{printed_of}
use Rattle.ba_printed.specs.declared.line.Evidence.{Evidence}
use Rattle.ba_printed.specs.declared.line.PrintedLine.{PrintedLine}
use Rattle.ba_printed.specs.declared.line.PrintedLine.TheVariants as printed
use Rattle.ba_script.specs.Scripts.{ReadFits}
use Rattle.ba_script.specs.declared.entry.ScriptEntry.{ScriptEntry}
use Rattle.ba_script.specs.declared.entry.ScriptEntry.TheVariants as said
use Rattle.ba_session.specs.Asking.{IsGround, IsReason, Replies}
use Rattle.ba_session.specs.KeyReads.{KeyReads}
use Rattle.ba_session.specs.Passing.{ShelfCalls}
use Rattle.ba_session.specs.declared.reply.By.{By}
use Rattle.ba_session.specs.declared.reply.By.TheVariants as by
use Rattle.ba_session.specs.declared.reply.KeyReply.{KeyReply}
use Rattle.ba_session.specs.declared.reply.KeyReply.TheVariants as key_reply
use Rattle.ba_session.specs.declared.reply.Reply.{Reply}
use Rattle.ba_session.specs.declared.reply.Reply.TheVariants as reply
use Rattle.ba_session.specs.declared.reply.Why.{Why}
use Rattle.ba_session.specs.declared.reply.Why.TheVariants as why
use Rattle.ba_session.specs.declared.request.Request.{Request}
use Rattle.ba_sql_query.proofs.ReadingLemmas.{text_complete}
use Rattle.ba_sql_query.specs.declared.fault.ReadQueryFault.{ReadQueryFault}
use Rattle.ba_tables.specs.TableSet.{TableSet}
use Rattle.ba_top.proofs.AskerLemmas.{Between, Follows, basis_in, goes_on, known_as, nothing_yet}
use Rattle.ba_top.proofs.CheckedReading.{reading_is_checked}
use Rattle.ba_top.proofs.CountedLemmas.{CountSame, SaysSame, answer_same, begin_same, block_same, count_more, end_same, none_same, publish_same, read_block_same, read_same, summaries_same, unread_same}
use Rattle.ba_top.proofs.FollowLemmas.{ask_follows, begin_follows, end_follows, publish_follows, read_follows}
use Rattle.ba_top.proofs.HistoryLemmas.{all_at, get_middle, length_push}
use Rattle.ba_top.proofs.MeetsLemmas.{GroundIsClosed, HasGround, as_many, asked_answer_met, asked_block_met, asked_unread_met, asker_of, begin_met, each_meant, each_of, end_met, ground_closed, grounds_long, have_grounds, proved_by, publish_met, read_block_met, read_met, refuted_by, rightly, settled_short, total_met}
use Rattle.ba_top.proofs.NumberLemmas.{KnowsVersions, all_numbered, knows_versions, numbered_all, numbered_of}
use Rattle.ba_top.proofs.SaidLemmas.{EntrySpells, EvidenceSpells, KeySpells, ReplySpells, closing_spells, evident_same, line_read, pair_spells, said_at, said_block, said_key, said_reply, total_read, total_same}
use Rattle.ba_top.proofs.TextLines.{lines_of_values, read_lines, text_feeds}
use Rattle.ba_top.specs.Audited.{AllWritten, EntryHasBits, GroundHasBits, IsFew, LinesAreWritten, OutputIsAudited, evident_value, output_text}
use Rattle.ba_top.specs.Auditing.{output_for}
use Rattle.ba_top.specs.Evidence.{AllClose, EntryCloses, GroundCloses, GroundsClose, evidence_of}
use Rattle.ba_top.specs.Text.{key_name, name_at, name_in, summary_of as counted_over}
use Rattle.ba_top.specs.Told.{told_after, told_lines}
use Rattle.ba_versions.specs.Reads.{published as publication}
use Rattle.ba_wire.specs.Printed.{json_line, summary_json}

-- ---- entries

abbrev entry_of : LineDone → Entry
entry_of it = it.entry

abbrev past_of : List LineDone → List Entry
past_of its = map entry_of its

trace_same : (k : ℕ) (its : List LineDone) → trace_of k its ≡ trace_in k (past_of its)
trace_same k [] = refl
trace_same k (x ∷ xs) = ap (λ z. answer_of k x.entry ++ z) (trace_same k xs)

is_want : (kind : LineKind) (request version : Option ℕ) → wants (Memory kind request version) ≡ true
unfolding wants
is_want kind request version = refl

no_want : (it : Entry) (kind : LineKind) (request version : Option ℕ) → wants it ≡ false → it ≡ Memory kind request version → ⊥
no_want it kind request version none is = true≢false (sym (ap wants is ∙ is_want kind request version) ∙ none)

name_there : (lines front rest : List ScriptEntry) (e : ScriptEntry) (n : ℕ) → lines ≡ front ++ e ∷ rest → n ≡ length front → unwrap_or (option_map name_in (slice_get lines n)) [] ≡ name_in e
name_there lines front rest e n are same = ap (λ z. unwrap_or (option_map name_in (slice_get z n)) []) are ∙ ap (λ z. unwrap_or (option_map name_in (slice_get (front ++ e ∷ rest) z)) []) same ∙ behind front
  where
    behind : (xs : List ScriptEntry) → unwrap_or (option_map name_in (slice_get (xs ++ e ∷ rest) (length xs))) [] ≡ name_in e
    behind [] = refl
    behind (x ∷ xs) = behind xs

is_some_by : {X : Type 0} (o : Option X) (x : X) → o ≡ Some x → is_some o ≡ true
is_some_by o x e = ap is_some e

or_parts : (a b : Bool) → (a || b) ≡ false → (a ≡ false) × (b ≡ false)
or_parts true b e = absurd (true≢false e)
or_parts false b e = (refl, e)

module _ (input : Input) (journal : Journal) (legal : Legal input journal) (params : AreDistinct (map (λ parameter. parameter.name) input.policy.params)) where
  abbrev served : List LineDone
  served = legal.served

  abbrev fits : IsInput input
  fits = legal.input_fits

  abbrev basis : Basis
  basis = basis_in input served

  knows : KnowsVersions input served
  knows = knows_versions input journal legal

  checked : IsChecked input.policy
  checked = record { fits = fits.policy; tables = fits.tables_are; rules = fits.rules }

  -- ---- one line

  module _ (front rest : List ScriptEntry) (earlier : List LineDone) (it : LineDone) (more : List LineDone) (before : List Line)
      (its_are : served ≡ earlier ++ it ∷ more) (b : Between input served front earlier before) (none : wants it.entry ≡ false) where
    abbrev past : List Entry
    past = past_of earlier

    abbrev line : ℕ
    line = length past + 1

    past_long : length past ≡ length front
    past_long = length-map earlier entry_of ∙ b.long

    line_is : line ≡ length before + 1
    line_is = let p = past_long in let m = b.many in omega (arith, p, m)

    abbrev Begins : ScriptEntry → Type 0
    Begins e = input.script.entries ≡ front ++ e ∷ rest

    name_is : (e : ScriptEntry) → Begins e → name_at input.script (length past) ≡ name_in e
    name_is e are = name_there input.script.entries front rest e (length past) are past_long

    -- the line meets its tests, and what is known follows it
    pub record Goes (e : ScriptEntry) (are : Begins e) (p : PrintedLine) : Type 0 where
      pub meets : MeetsAll (MeetsLine basis before (entry e) p)
      pub follows : Follows input served fits front rest e earlier it before p are b
      pub same : SaysSame e it.entry p
      pub spells : EntrySpells input.policy (λ request. trace_in request past) it.entry

    inside : Contains served it
    inside = subst (λ z. Contains z it) (sym its_are) (Contains-append_right earlier (it ∷ more) it (0, omega arith, refl))

    entry_is : (is : LineDone) → it ≡ is → it.entry ≡ is.entry
    entry_is is e = ap entry_of e

    -- what its entry is told as
    abbrev said_here : Entry → PrintedLine
    said_here x = said_at input past x

    abbrev Spells : Entry → Type 0
    Spells x = EntrySpells input.policy (λ request. trace_in request past) x

    begin_goes : (request : ℕ) (name : List ℕ) (context : Context) (are : Begins (said.Begin request name context)) (version : ℕ) (tables : TableSet) → it ≡ begins request version tables →
        Goes (said.Begin request name context) are (said_here it.entry)
    unfolding request_in
    begin_goes request name context are version tables is =
        let there : tables_of basis version ≡ Some tables = knows.there request version tables (subst (Contains served) is inside) in
        let p_is : said_here it.entry ≡ printed.Begin name line version = ap said_here (ap entry_of is) ∙ ap (λ z. printed.Begin z line version) (name_is (said.Begin request name context) are) in
        subst (Goes (said.Begin request name context) are) (sym p_is) (record {
          meets = begin_met basis (length before + 1) (used_in before) None request name context line version line_is (ap is_some there);
          follows = begin_follows input served fits front rest earlier it before b request version line name context tables are is there;
          same = subst (λ x. SaysSame (said.Begin request name context) x (printed.Begin name line version)) (sym (ap entry_of is)) (begin_same request name context line version);
          spells = subst Spells (sym (ap entry_of is)) tt;
        })

    publish_goes : (number : ℕ) (name : List ℕ) (are : Begins (said.Publish number name)) (tables : TableSet) (version : ℕ) →
        it ≡ record { entry = Publish version; made = on_versions (publication tables version ∷ []) } → Goes (said.Publish number name) are (said_here it.entry)
    unfolding request_in
    publish_goes number name are tables version is =
        let entry_here : it.entry ≡ Publish version = ap entry_of is in
        let made : it.made.versions ≡ publication tables version ∷ [] = ap (λ (z : LineDone). z.made.versions) is in
        let may : may_publish (numbered_all input served) (all_numbered front earlier) (Some version) ≡ true = knows.may front earlier version (record {
          number = number;
          set = name;
          rest = rest;
          it = it;
          tables = tables;
          more = more;
          long = b.long;
          lines_are = are;
          its_are = its_are;
          calls_are = made;
        }) in
        let p_is : said_here it.entry ≡ printed.Publish line name version = ap said_here entry_here ∙ ap (λ z. printed.Publish line z version) (name_is (said.Publish number name) are) in
        subst (Goes (said.Publish number name) are) (sym p_is) (record {
          meets = publish_met basis (length before + 1) (used_in before) None number name line version line_is (ap (λ z. may_publish (numbered_all input served) z (Some version)) b.used ∙ may);
          follows = publish_follows input served fits front rest earlier it before b number version line name tables are entry_here made;
          same = subst (λ x. SaysSame (said.Publish number name) x (printed.Publish line name version)) (sym entry_here) (publish_same number name line version);
          spells = subst Spells (sym entry_here) tt;
        })

    end_goes : (request : ℕ) (name : List ℕ) (are : Begins (said.End request name)) (version : ℕ) (tables : TableSet) → Contains earlier (begins request version tables) → it.entry ≡ End request version →
        Goes (said.End request name) are (said_here it.entry)
    unfolding request_in
    end_goes request name are version tables begun entry_here =
        let has = b.has request version tables begun in
        let held : request_after basis request before ≡ known_as has.0 version tables (trace_of request earlier) = b.standing request version tables has.0 begun has.1 in
        let p_is : said_here it.entry ≡ printed.End name line = ap said_here entry_here ∙ ap (λ z. printed.End z line) (name_is (said.End request name) are) in
        subst (Goes (said.End request name) are) (sym p_is) (record {
          meets = end_met basis (length before + 1) (used_in before) (request_after basis request before) request name line
              (record { context = has.0; version = version; tables = tables; trace = trace_of request earlier }) held line_is;
          follows = end_follows input served fits front rest earlier it before b request version line name are entry_here;
          same = subst (λ x. SaysSame (said.End request name) x (printed.End name line)) (sym entry_here) (end_same request name line version);
          spells = subst Spells (sym entry_here) tt;
        })

    -- ---- a request that goes on

    module _ (request : ℕ) (asker : Request) (begun : Contains earlier (begins request asker.version asker.tables))
        (context : slice_get (contexts_of input.script.entries) request ≡ Some asker.context) (traced : asker.trace ≡ trace_of request earlier) where
      held : request_after basis request before ≡ Some (Asking (asker_of asker))
      held = b.standing request asker.version asker.tables asker.context begun context ∙ ap (known_as asker.context asker.version asker.tables) (sym traced)

      same_trace : trace_in request past ≡ asker.trace
      same_trace = sym (traced ∙ trace_same request earlier)

      asker_fits : AskerFits input.policy (asker_of asker)
      asker_fits = subst (BegunFits input.policy) held (b.fit request)

      low : request < length (contexts_of front)
      low = b.counted request asker.version asker.tables begun

      question_of : (query : Query) → IsQuery input.policy.schema (kinds_of input.policy.params) [] query → QuestionFits input.policy asker.context asker.trace query
      question_of query h = question_fits input.policy (asker_of asker) query checked asker_fits h

      ground_spelled : (q : Query) (how : By) (calls : ShelfCalls) → QuestionFits input.policy asker.context asker.trace q → IsGround input.policy asker (effort_of input) q how calls →
          GroundIsClosed input.policy asker q how → EvidenceHasBits (evidence_of asker.trace how) → EvidenceSpells input.policy (evidence_of asker.trace how)
      ground_spelled q (by.Cover cover) calls question ground closed own = tt
      ground_spelled q (by.Template shard id template found) calls question ground closed own = closing_spells input.policy asker.context asker.trace q _ question closed.closes own
      ground_spelled q (by.Proof steps keeping) calls question ground closed own =
          closing_spells input.policy asker.context asker.trace q steps question
          (settled_short (effort_of input) (problem_of input.policy asker.context asker.trace q) steps fits.budget ground.proof).closes own

      -- a question

      module _ (name query_text : List ℕ) (are : Begins (said.Ask request name query_text))
          (closes : EntryCloses input.policy (contexts_of input.script.entries) (λ r. trace_in r past) it.entry) (bits : EntryHasBits (λ r. trace_in r past) it.entry) where
        abbrev asks : ScriptEntry
        asks = said.Ask request name query_text

        line_of : (version : ℕ) (reply : Reply) → it.entry ≡ Ask request version reply → said_here it.entry ≡ said_reply asker.trace name line version reply
        line_of version reply e = ap said_here e ∙ (λ i. said_reply (same_trace i) (name_is asks are i) line version reply)

        spells_by : (version : ℕ) (reply : Reply) → it.entry ≡ Ask request version reply → ReplySpells input.policy asker.trace reply → Spells it.entry
        spells_by version reply e h = subst Spells (sym e) (subst (λ t. ReplySpells input.policy t reply) (sym same_trace) h)

        answered : (query : Query) (rows : List (List Value)) (basis_of_it : By) (calls : ShelfCalls) → it.entry ≡ Ask request asker.version (reply.Answer query rows basis_of_it) →
            Replies input.policy asker (effort_of input) query_text calls (reply.Answer query rows basis_of_it) → Goes asks are (said_here it.entry)
        unfolding request_in rows_in
        answered query rows how calls e h =
            let reads : reading_of input.policy query_text ≡ Ok query = text_complete input.policy.schema input.policy.params query_text query h.reads in
            let question : QuestionFits input.policy asker.context asker.trace query = question_of query (reading_is_checked input.policy query_text query h.reads) in
            let closing : GroundCloses input.policy (contexts_of input.script.entries) asker.trace request query how =
            subst (λ t. GroundCloses input.policy (contexts_of input.script.entries) t request query how) same_trace
            (subst (EntryCloses input.policy (contexts_of input.script.entries) (λ r. trace_in r past)) e closes) in
            let all_bits : AnswerHasBits (evidence_of asker.trace how) rows × IsFew (evidence_of asker.trace how) =
            subst (λ t. AnswerHasBits (evidence_of t how) rows × IsFew (evidence_of t how)) same_trace (subst (EntryHasBits (λ r. trace_in r past)) e bits) in
            let closed : GroundIsClosed input.policy asker query how = ground_closed input.policy (contexts_of input.script.entries) asker request query how context closing all_bits.1 in
            let p : PrintedLine = printed.Answer (meant (evidence_of asker.trace how)) line name rows asker.version in
            subst (Goes asks are) (sym (line_of asker.version (reply.Answer query rows how) e)) (record {
              meets = asked_answer_met basis (length before + 1) (used_in before) (request_after basis request before) request name query_text (asker_of asker) held
                  (meant (evidence_of asker.trace how)) line rows asker.version query line_is refl reads (rightly input.policy asker (effort_of input) query how calls h.ground) h.released.answer
                  (proved_by input.policy asker (effort_of input) query how calls fits.budget h.ground closed);
              follows = ask_follows input served fits front rest earlier it before b request asker.version name query_text (reply.Answer query rows how) p are e low
                  (ap (λ r. recorded r (Some rows)) reads)
                  (added_fits answers_are_records input.policy (asker_of asker) query rows rows refl question asker_fits h.released.answer);
              same = subst (λ x. SaysSame asks x p) (sym e) (answer_same request name query_text line asker.version query rows how (meant (evidence_of asker.trace how)));
              spells = spells_by asker.version (reply.Answer query rows how) e (ground_spelled query how calls question h.ground closed all_bits.0.evidence_has);
            })

        blocked : (query : Query) (reason : Why) (calls : ShelfCalls) → it.entry ≡ Ask request asker.version (reply.Blocked query reason) →
            Replies input.policy asker (effort_of input) query_text calls (reply.Blocked query reason) → Goes asks are (said_here it.entry)
        unfolding request_in rows_in
        blocked query reason calls e h =
            let reads : reading_of input.policy query_text ≡ Ok query = text_complete input.policy.schema input.policy.params query_text query h.reads in
            let p : PrintedLine = printed.Block (said_block reason) line name asker.version in
            subst (Goes asks are) (sym (line_of asker.version (reply.Blocked query reason) e)) (record {
              meets = asked_block_met basis (length before + 1) (used_in before) (request_after basis request before) request name query_text (asker_of asker) held
                  (said_block reason) line asker.version query line_is refl reads h.denied.uncovered (refuted_by input.policy asker (effort_of input) query reason h.denied.reason);
              follows = ask_follows input served fits front rest earlier it before b request asker.version name query_text (reply.Blocked query reason) p are e low
                  (ap (λ r. recorded r None) reads) (All-nil (RecordFits input.policy));
              same = subst (λ x. SaysSame asks x p) (sym e) (block_same request name query_text line asker.version query reason (said_block reason));
              spells = spells_by asker.version (reply.Blocked query reason) e (pair_spelled reason h.denied.reason);
            })
          where
            pair_spelled : (reason : Why) → IsReason input.policy asker (effort_of input) query reason → ReplySpells input.policy asker.trace (reply.Blocked query reason)
            pair_spelled (why.Refuted pair) r = pair_spells input.policy asker.context asker.trace query pair r.refutes
            pair_spelled (why.Spent steps) r = tt
            pair_spelled (why.Stuck leaf clause) r = tt

        unread : (fault : ReadQueryFault) → it.entry ≡ Ask request asker.version (reply.Unread fault) → reading_of input.policy query_text ≡ Err fault → Goes asks are (said_here it.entry)
        unfolding request_in rows_in
        unread fault e reads =
            let p : PrintedLine = printed.Unread line name fault asker.version in
            subst (Goes asks are) (sym (line_of asker.version (reply.Unread fault) e)) (record {
              meets = asked_unread_met basis (length before + 1) (used_in before) (request_after basis request before) request name query_text (asker_of asker) held fault line asker.version line_is refl reads;
              follows = ask_follows input served fits front rest earlier it before b request asker.version name query_text (reply.Unread fault) p are e low
                  (ap (λ r. recorded r None) reads) (All-nil (RecordFits input.policy));
              same = subst (λ x. SaysSame asks x p) (sym e) (unread_same request name query_text line asker.version fault);
              spells = spells_by asker.version (reply.Unread fault) e tt;
            })

        replied : (reply : Reply) (calls : ShelfCalls) → it.entry ≡ asked request asker.version reply → Replies input.policy asker (effort_of input) query_text calls reply → Goes asks are (said_here it.entry)
        replied (reply.Answer query rows how) calls e h = answered query rows how calls e h
        replied (reply.Blocked query reason) calls e h = blocked query reason calls e h
        replied (reply.Unread fault) calls e h = unread fault e h.0
        replied reply.NoMemory calls e h = absurd (no_want it.entry _ _ _ none e)

      -- a read of a cache key

      module _ (place questions : ℕ) (name : List ℕ) (arguments : Context) (are : Begins (said.Read request name place arguments questions)) (key : CacheKey) (key_is : slice_get input.policy.keys place ≡ Some key)
          (closes : EntryCloses input.policy (contexts_of input.script.entries) (λ r. trace_in r past) it.entry) (bits : EntryHasBits (λ r. trace_in r past) it.entry) where
        abbrev reads : ScriptEntry
        reads = said.Read request name place arguments questions

        abbrev behind : List Query
        behind = key_queries input.policy key arguments

        given : ContextFits (kinds_of key.arguments) arguments
        given =
            let line_fits : ReadFits input.policy.keys reads = All-contains (ReadFits input.policy.keys) input.script.entries reads fits.script.reads
            (subst (λ z. Contains z reads) (sym are) (Contains-append_right front (reads ∷ rest) reads (0, omega arith, refl))) in
            subst (λ (k : CacheKey). ContextFits (kinds_of k.arguments) arguments) (same_Some line_fits.0 key (sym line_fits.1 ∙ key_is)) line_fits.2

        behind_fit : All (IsQuery input.policy.schema (kinds_of input.policy.params) []) behind
        behind_fit = key_queries_fit input.policy key arguments (all_at (KeyFits input.policy) input.policy.keys place key fits.policy.keys key_is) given

        behind_long : length behind ≡ length key.queries
        behind_long = length-map key.queries (query_with (length input.policy.params) arguments.values)

        named : key_name input.policy place ≡ key.name
        named = ap (λ o. unwrap_or (option_map CacheKey.name o) []) key_is

        read_line_of : (version : ℕ) (reply : KeyReply) → it.entry ≡ Read request version place reply → said_here it.entry ≡ said_key asker.trace name line version key.name reply
        read_line_of version reply e = ap said_here e ∙ (λ i. said_key (same_trace i) (name_is reads are i) line version (named i) reply)

        read_spells_by : (version : ℕ) (reply : KeyReply) → it.entry ≡ Read request version place reply → KeySpells input.policy asker.trace reply → Spells it.entry
        read_spells_by version reply e h = subst Spells (sym e) (subst (λ t. KeySpells input.policy t reply) (sym same_trace) h)

        let_through : (queries : List Query) (bys : List By) (calls : List ShelfCalls) → it.entry ≡ Read request asker.version place (key_reply.Allowed queries bys) →
            KeyReads input.policy asker (effort_of input) behind calls (key_reply.Allowed queries bys) → Goes reads are (said_here it.entry)
        unfolding request_in rows_in
        let_through queries bys calls e h =
            let closing : GroundsClose input.policy (contexts_of input.script.entries) asker.trace request behind bys =
            subst (λ qs. GroundsClose input.policy (contexts_of input.script.entries) asker.trace request qs bys) h.0
            (subst (λ t. GroundsClose input.policy (contexts_of input.script.entries) t request queries bys) same_trace
            (subst (EntryCloses input.policy (contexts_of input.script.entries) (λ r. trace_in r past)) e closes)) in
            let own : All (GroundHasBits asker.trace) bys = subst (λ t. All (GroundHasBits t) bys) same_trace (subst (EntryHasBits (λ r. trace_in r past)) e bits) in
            let grounds : AllZip (HasGround input.policy asker (effort_of input)) behind bys =
            have_grounds input.policy asker (effort_of input) (contexts_of input.script.entries) request context behind bys calls h.1 closing own in
            let its : List Evidence = map meant (map (evidence_of asker.trace) bys) in
            let p : PrintedLine = printed.Read its key.name line name asker.version in
            subst (Goes reads are) (sym (read_line_of asker.version (key_reply.Allowed queries bys) e)) (record {
              meets = read_met basis (length before + 1) (used_in before) (request_after basis request before) request place questions name arguments key key_is (asker_of asker) held its line asker.version line_is refl
                  (as_many input.policy asker (effort_of input) behind bys grounds ∙ behind_long)
                  (each_meant input.policy asker (effort_of input) (IsRightlyBy input.policy (asker_of asker)) (λ q how g. rightly input.policy asker (effort_of input) q how g.calls g.ground) behind bys grounds)
                  (each_meant input.policy asker (effort_of input) (IsProved input.policy (asker_of asker)) (λ q how g. proved_by input.policy asker (effort_of input) q how g.calls fits.budget g.ground g.closed)
                  behind bys grounds);
              follows = read_follows input served fits front rest earlier it before b request asker.version place questions name arguments (key_reply.Allowed queries bys) p are e;
              same = subst (λ x. SaysSame reads x p) (sym e) (read_same request place questions name key.name arguments line asker.version queries bys its);
              spells = read_spells_by asker.version (key_reply.Allowed queries bys) e
                  (each_of input.policy asker (effort_of input) (IsQuery input.policy.schema (kinds_of input.policy.params) []) (EvidenceSpells input.policy)
                  (λ q how fit g. ground_spelled q how g.calls (question_of q fit) g.ground g.closed g.bits) behind bys behind_fit grounds);
            })

        barred : (queries : List Query) (bys : List By) (reason : Why) (calls : List ShelfCalls) → it.entry ≡ Read request asker.version place (key_reply.Blocked queries bys reason) →
            KeyReads input.policy asker (effort_of input) behind calls (key_reply.Blocked queries bys reason) → Goes reads are (said_here it.entry)
        unfolding request_in rows_in
        barred queries bys reason calls e h =
            let k = h.1 in
            let long : length bys ≡ length k.front = grounds_long input.policy asker (effort_of input) k.front bys k.earlier k.grounds in
            let at : slice_get behind (length bys) ≡ Some k.query =
            ap (slice_get behind) long ∙ ap (λ qs. slice_get qs (length k.front)) k.are ∙ get_middle k.front k.query k.back in
            let within : length bys < length behind = slice_get_within behind (length bys) k.query at in
            let many : length behind ≡ length key.queries = behind_long in
            let p : PrintedLine = printed.ReadBlock (said_block reason) key.name line (length bys) name asker.version in
            subst (Goes reads are) (sym (read_line_of asker.version (key_reply.Blocked queries bys reason) e)) (record {
              meets = read_block_met basis (length before + 1) (used_in before) (request_after basis request before) request place questions name arguments key key_is (asker_of asker) held
                  (said_block reason) line (length bys) asker.version k.query line_is refl (omega (arith, within, many)) at k.denied.uncovered
                  (refuted_by input.policy asker (effort_of input) k.query reason k.denied.reason);
              follows = read_follows input served fits front rest earlier it before b request asker.version place questions name arguments (key_reply.Blocked queries bys reason) p are e;
              same = subst (λ x. SaysSame reads x p) (sym e)
                  (read_block_same request place questions name key.name arguments line asker.version queries bys reason (said_block reason) (length bys));
              spells = read_spells_by asker.version (key_reply.Blocked queries bys reason) e (refuted_spelled k.query reason k.denied.reason);
            })
          where
            refuted_spelled : (query : Query) (reason : Why) → IsReason input.policy asker (effort_of input) query reason → KeySpells input.policy asker.trace (key_reply.Blocked queries bys reason)
            refuted_spelled query (why.Refuted pair) r = pair_spells input.policy asker.context asker.trace query pair r.refutes
            refuted_spelled query (why.Spent steps) r = tt
            refuted_spelled query (why.Stuck leaf clause) r = tt

        read_replied : (reply : KeyReply) (calls : List ShelfCalls) → it.entry ≡ read_as request asker.version place reply → KeyReads input.policy asker (effort_of input) behind calls reply → Goes reads are (said_here it.entry)
        read_replied (key_reply.Allowed queries bys) calls e h = let_through queries bys calls e h
        read_replied (key_reply.Blocked queries bys reason) calls e h = barred queries bys reason calls e h
        read_replied key_reply.NoMemory calls e h = absurd (no_want it.entry _ _ _ none e)

    -- ---- any line

    pub goes : (e : ScriptEntry) (are : Begins e) → IsServed input earlier e it → EntryCloses input.policy (contexts_of input.script.entries) (λ r. trace_in r past) it.entry →
        EntryHasBits (λ r. trace_in r past) it.entry → Goes e are (said_here it.entry)
    goes (said.Begin request name context) are (inl h) closes bits = begin_goes request name context are h.version h.tables h.is
    goes (said.Begin request name context) are (inr h) closes bits = absurd (no_want it.entry _ _ _ none h.entry_is)
    goes (said.Ask request name query_text) are (inl h) closes bits =
        replied request h.asker h.asks.begun h.asks.context h.asks.trace name query_text are closes bits h.reply h.calls (ap entry_of h.is) h.replies
    goes (said.Ask request name query_text) are (inr h) closes bits = absurd (no_want it.entry _ _ _ none (ap entry_of h.unserved))
    goes (said.Read request name place arguments questions) are (inl h) closes bits =
        read_replied request h.asker h.asks.begun h.asks.context h.asks.trace place questions name arguments are h.key h.key_is closes bits h.reply h.calls (ap entry_of h.is) h.reads
    goes (said.Read request name place arguments questions) are (inr h) closes bits = absurd (no_want it.entry _ _ _ none (ap entry_of h.unserved))
    goes (said.End request name) are (inl h) closes bits = end_goes request name are h.version h.tables h.begun (ap entry_of h.is)
    goes (said.End request name) are (inr h) closes bits = absurd (no_want it.entry _ _ _ none (ap entry_of h.unserved))
    goes (said.Publish number set) are (inl h) closes bits = publish_goes number set are h.tables h.version h.is
    goes (said.Publish number set) are (inr h) closes bits = absurd (no_want it.entry _ _ _ none (ap entry_of h))

  -- ---- all lines

  abbrev said_after : List Entry → List Entry → List PrintedLine
  said_after front [] = []
  said_after front (x ∷ xs) = said_at input front x ∷ said_after (front ++ x ∷ []) xs

  abbrev values_after : List Entry → List Entry → List Data
  values_after front [] = []
  values_after front (x ∷ xs) = evident_value input front x ∷ values_after (front ++ x ∷ []) xs

  -- what the lines that are left come to
  record Walks (es : List ScriptEntry) (its earlier : List LineDone) (before : List Line) : Type 0 where
    reads : map (printed_of input.policy) (map compact_text (values_after (past_of earlier) (past_of its))) ≡ map Ok (said_after (past_of earlier) (past_of its))
    numbers : (more : List Reading) → publications es (map Ok (said_after (past_of earlier) (past_of its)) ++ more) ≡ all_numbered es its
    passes : (ended : ℕ) → length before + length es < ended →
        AllPass basis ended before (places es) (map Ok (said_after (past_of earlier) (past_of its)) ++ Ok (printed.Summary (counted_over (past_of served))) ∷ [])

  line_met : (ended : ℕ) (before : List Line) (place : Place) (p : PrintedLine) → length before < ended → MeetsAll (MeetsLine basis before place p) →
      MeetsAll (MeetsReading (nat_lt (length before) ended) basis before place (Ok p))
  line_met ended before place p low h = record { meets = λ reason. (form_met (nat_lt (length before) ended) (lt-ltb (length before) ended low) p reason, h.meets reason) }

  walk_end : (earlier : List LineDone) (before : List Line) → served ≡ earlier ++ [] → CountSame before (past_of earlier) → Walks [] [] earlier before
  walk_end earlier before are count = record {
    reads = refl;
    numbers = λ more. refl;
    passes = λ ended low.
        let whole : served ≡ earlier = are ∙ append-nil earlier in
        let counted : counted_over (past_of served) ≡ summary_of before = ap (λ z. counted_over (past_of z)) whole ∙ summaries_same before (past_of earlier) count in
        (line_met ended before total (printed.Summary (counted_over (past_of served))) (omega (arith, low)) (total_met (summary_of before) (counted_over (past_of served)) counted), tt);
  }

  walk_more : (e : ScriptEntry) (es : List ScriptEntry) (it : LineDone) (its earlier : List LineDone) (before : List Line) → MeetsAll (MeetsLine basis before (entry e) (said_at input (past_of earlier) it.entry)) →
      numbered_at e (Ok (said_at input (past_of earlier) it.entry)) ≡ numbered_of e it.made.versions →
      printed_of input.policy (compact_text (evident_value input (past_of earlier) it.entry)) ≡ Ok (said_at input (past_of earlier) it.entry) →
      Walks es its (earlier ++ it ∷ []) (before ++ line_at (entry e) (Ok (said_at input (past_of earlier) it.entry)) ∷ []) → Walks (e ∷ es) (it ∷ its) earlier before
  walk_more e es it its earlier before meets numbered read rest = record {
    reads = (λ i. read i ∷ subst (λ past. map (printed_of input.policy) (map compact_text (values_after past (past_of its))) ≡ map Ok (said_after past (past_of its))) pushed rest.reads i);
    numbers = λ more.
        (λ i. numbered i ++ subst (λ past. publications es (map Ok (said_after past (past_of its)) ++ more) ≡ all_numbered es its) pushed (rest.numbers more) i);
    passes = λ ended low.
        let l = length_push before (line_at (entry e) (Ok (said_at input (past_of earlier) it.entry))) in (
          line_met ended before (entry e) (said_at input (past_of earlier) it.entry) (omega (arith, low)) meets,
          subst (λ past. AllPass basis ended (before ++ line_at (entry e) (Ok (said_at input (past_of earlier) it.entry)) ∷ []) (places es)
              (map Ok (said_after past (past_of its)) ++ Ok (printed.Summary (counted_over (past_of served))) ∷ [])) pushed (rest.passes ended (omega (arith, low, l))),
        );
  }
    where
      pushed : past_of (earlier ++ it ∷ []) ≡ past_of earlier ++ it.entry ∷ []
      pushed = map-append entry_of earlier (it ∷ [])

  walk : (es : List ScriptEntry) (its : List LineDone) (front : List ScriptEntry) (earlier : List LineDone) (before : List Line) → input.script.entries ≡ front ++ es → served ≡ earlier ++ its →
      AreServed input earlier es its → list_any wants (past_of its) ≡ false → AllClose input (past_of earlier) (past_of its) → AllWritten input (past_of earlier) (past_of its) →
      Between input served front earlier before → CountSame before (past_of earlier) → Walks es its earlier before
  walk [] [] front earlier before are its_are h none closes written b count = walk_end earlier before its_are count
  walk [] (it ∷ its) front earlier before are its_are h none closes written b count = absurd h
  walk (e ∷ es) [] front earlier before are its_are h none closes written b count = absurd h
  walk (e ∷ es) (it ∷ its) front earlier before are its_are h none closes written b count =
      let parts = or_parts (wants it.entry) (list_any wants (past_of its)) none in
      let one = goes front es earlier it its before its_are b parts.0 e are h.0 closes.0 written.0.bits in
      let p : PrintedLine = said_at input (past_of earlier) it.entry in
      let pushed : past_of earlier ++ it.entry ∷ [] ≡ past_of (earlier ++ it ∷ []) = sym (map-append entry_of earlier (it ∷ [])) in
      walk_more e es it its earlier before one.meets one.follows.numbers
      (line_read input (past_of earlier) it.entry params fits.tables_are written.0 one.spells)
      (walk es its (front ++ e ∷ []) (earlier ++ it ∷ []) (before ++ line_at (entry e) (Ok p) ∷ []) (are ∙ sym (append_assoc front (e ∷ []) es)) (its_are ∙ sym (append_assoc earlier (it ∷ []) its))
      h.1 parts.1 (subst (λ past. AllClose input past (past_of its)) pushed closes.1) (subst (λ past. AllWritten input past (past_of its)) pushed written.1)
      (goes_on input served fits front es e earlier it before p are b one.follows)
      (subst (CountSame (before ++ line_at (entry e) (Ok p) ∷ [])) pushed (count_more before (past_of earlier) e it.entry p count one.same)))

  -- ---- the text

  told_values : (front entries : List Entry) → told_after told.Proofs input front entries ≡ map json_line (values_after front entries)
  told_values front [] = refl
  told_values front (x ∷ xs) = (λ i. evident_same input front x i ∷ told_values (front ++ x ∷ []) xs i)

  values_long : (front entries : List Entry) → length (values_after front entries) ≡ length entries
  values_long front [] = refl
  values_long front (x ∷ xs) = let e = values_long (front ++ x ∷ []) xs in omega (arith, e)

  abbrev all_values : List Data
  all_values = values_after [] journal.entries ++ summary_json (counted_over journal.entries) ∷ []

  lines_are : told_lines told.Proofs input journal ≡ lines_of_values all_values
  lines_are =
      (λ i. told_values [] journal.entries i ++ total_same journal.entries i ∷ [])
      ∙ sym (map-append json_line (values_after [] journal.entries) (summary_json (counted_over journal.entries) ∷ []))

  module _ (none : lacks_memory journal ≡ false) (closes : AllClose input [] journal.entries) (written : LinesAreWritten input journal) where
    walked : Walks input.script.entries served [] []
    walked = walk input.script.entries served [] [] [] refl refl legal.lines (subst (λ z. list_any wants z ≡ false) legal.entries none)
        (subst (AllClose input []) legal.entries closes) (subst (AllWritten input []) legal.entries written.entries) (nothing_yet input served) none_same

    abbrev all_read : List Reading
    all_read = map Ok (said_after [] (past_of served)) ++ Ok (printed.Summary (counted_over (past_of served))) ∷ []

    summary_read : printed_of input.policy (compact_text (summary_json (counted_over journal.entries))) ≡ Ok (printed.Summary (counted_over (past_of served)))
    summary_read = total_read input.policy journal.entries written.total ∙ ap (λ z. Ok (printed.Summary (counted_over z))) legal.entries

    values_read : map (printed_of input.policy) (map compact_text (values_after [] journal.entries)) ≡ map Ok (said_after [] (past_of served))
    values_read = ap (λ z. map (printed_of input.policy) (map compact_text (values_after [] z))) legal.entries ∙ walked.reads

    readings_are : readings input.policy (output_text input journal) ≡ all_read
    readings_are =
        ap (λ z. readings input.policy (concat z)) lines_are
        ∙ ap (map (printed_of input.policy)) (read_lines all_values ∙ map-append compact_text (values_after [] journal.entries) (summary_json (counted_over journal.entries) ∷ []))
        ∙ map-append (printed_of input.policy) (map compact_text (values_after [] journal.entries)) (compact_text (summary_json (counted_over journal.entries)) ∷ [])
        ∙ (λ i. values_read i ++ summary_read i ∷ [])

    feeds_are : feeds (output_text input journal) ≡ length input.script.entries + 1
    feeds_are =
        let a = text_feeds all_values in
        let b = length_push (values_after [] journal.entries) (summary_json (counted_over journal.entries)) in
        let c = values_long [] journal.entries in
        let d : length journal.entries ≡ length input.script.entries = ap length legal.entries ∙ length-map served entry_of ∙ same_many in
        ap (λ z. feeds (concat z)) lines_are ∙ a ∙ b ∙ ap (λ n. n + 1) (c ∙ d)
      where
        same_many : length served ≡ length input.script.entries
        same_many = same_length input [] input.script.entries served legal.lines

    basis_is : basis_of (output_for input (output_text input journal)) ≡ basis
    basis_is =
        (λ i. record {
          policy = input.policy;
          sets = input.tables ∷ input.published;
          numbered = record { version = 0; place = 0 } ∷ (ap (publications input.script.entries) readings_are ∙ walked.numbers (Ok (printed.Summary (counted_over (past_of served))) ∷ [])) i;
        })

    audited : IsAudited (output_for input (output_text input journal))
    audited =
        subst (λ z. AllPass z (feeds (output_text input journal)) [] (places input.script.entries) (readings input.policy (output_text input journal))) (sym basis_is)
        (subst (λ z. AllPass basis z [] (places input.script.entries) (readings input.policy (output_text input journal))) (sym feeds_are)
        (subst (AllPass basis (length input.script.entries + 1) [] (places input.script.entries)) (sym readings_are) (walked.passes (length input.script.entries + 1) (omega arith))))

pub output_audited : OutputIsAudited
output_audited input journal legal none params closes written = audited input journal legal params none closes written
