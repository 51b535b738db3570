-- What an audit counts is what a run counts.
use Rattle.std.proofs.Common.{◌≡◌, ◌∙◌, ℕ, ◌+◌, Bool, List, [], ◌∷◌, ◌++◌, Ok, ap, arith, count_by, flat_map, length, refl, sym}
use Rattle.std.proofs.lemmas.List.Concat.{flat_map-append}
use Rattle.std.proofs.lemmas.List.Sums.{sum_by-append}
use Rattle.std.specs.List.{sum_by}
use Rattle.std.specs.Prelude.{cond}
use Rattle.ba_audit.proofs.CountLemmas.{listed-push}
use Rattle.ba_audit.specs.Lines.{Line, begins, entry, is_answer, is_begin, is_block, is_memory, is_unread, line_at, row_count, rows_in, said_by, said_in, summary_of, unread_in}
use Rattle.ba_lanes.specs.Legal.{is_memory as wants}
use Rattle.ba_lanes.specs.declared.journal.Entry.{Entry}
use Rattle.ba_lanes.specs.declared.journal.Entry.TheVariants.{Begin, Ask, Read, End, Publish}
use Rattle.ba_model.specs.declared.policy.Context.{Context}
use Rattle.ba_model.specs.declared.query.Query.{Query}
use Rattle.ba_model.specs.declared.value.Value.{Value}
use Rattle.ba_printed.specs.declared.line.Evidence.{Evidence}
use Rattle.ba_printed.specs.declared.line.PrintedBlock.{PrintedBlock}
use Rattle.ba_printed.specs.declared.line.PrintedLine.{PrintedLine}
use Rattle.ba_printed.specs.declared.line.PrintedLine.TheVariants as printed
use Rattle.ba_script.specs.declared.entry.ScriptEntry.{ScriptEntry}
use Rattle.ba_script.specs.declared.entry.ScriptEntry.TheVariants as said
use Rattle.ba_session.specs.declared.reply.By.{By}
use Rattle.ba_session.specs.declared.reply.KeyReply.TheVariants as key_reply
use Rattle.ba_session.specs.declared.reply.Reply.{Reply}
use Rattle.ba_session.specs.declared.reply.Reply.TheVariants as reply
use Rattle.ba_session.specs.declared.reply.Why.{Why}
use Rattle.ba_sql_query.specs.declared.fault.ReadQueryFault.{ReadQueryFault}
use Rattle.ba_top.proofs.HistoryLemmas.{length_push}
use Rattle.ba_top.specs.Text.{is_allowed as allows, is_answer as answers, is_barred as bars, is_begin as begins_one, is_block as blocks, is_unread as fails, reply_in, row_count as rows_told, summary_of as counted_over}

-- what is counted of one line, in two ways
pub record SaysSame (e : ScriptEntry) (it : Entry) (p : PrintedLine) : Type 0 where
  pub answered : count_by is_answer (p ∷ []) ≡ count_by answers (reply_in it) + count_by allows (it ∷ [])
  pub blocked : count_by is_block (p ∷ []) ≡ count_by blocks (reply_in it) + count_by bars (it ∷ [])
  pub memory : count_by is_memory (p ∷ []) ≡ count_by wants (it ∷ [])
  pub requests : count_by (λ line. begins line.place) (line_at (entry e) (Ok p) ∷ []) ≡ count_by begins_one (it ∷ [])
  pub rows : sum_by row_count (p ∷ []) ≡ sum_by rows_told (reply_in it)
  pub unread : count_by is_unread (p ∷ []) ≡ count_by fails (reply_in it)

pub begin_same : (request : ℕ) (name : List ℕ) (context : Context) (line version : ℕ) → SaysSame (said.Begin request name context) (Begin request version) (printed.Begin name line version)
unfolding is_answer is_block is_memory is_begin rows_in unread_in wants begins_one allows bars
begin_same request name context line version = record { answered = refl; blocked = refl; memory = refl; requests = refl; rows = refl; unread = refl }

pub end_same : (request : ℕ) (name : List ℕ) (line version : ℕ) → SaysSame (said.End request name) (End request version) (printed.End name line)
unfolding is_answer is_block is_memory is_begin rows_in unread_in wants begins_one allows bars
end_same request name line version = record { answered = refl; blocked = refl; memory = refl; requests = refl; rows = refl; unread = refl }

pub publish_same : (number : ℕ) (name : List ℕ) (line version : ℕ) → SaysSame (said.Publish number name) (Publish version) (printed.Publish line name version)
unfolding is_answer is_block is_memory is_begin rows_in unread_in wants begins_one allows bars
publish_same number name line version = record { answered = refl; blocked = refl; memory = refl; requests = refl; rows = refl; unread = refl }

pub answer_same : (request : ℕ) (name query_text : List ℕ) (line version : ℕ) (query : Query) (rows : List (List Value)) (it : By) (evidence : Evidence) →
    SaysSame (said.Ask request name query_text) (Ask request version (reply.Answer query rows it)) (printed.Answer evidence line name rows version)
unfolding is_answer is_block is_memory is_begin rows_in unread_in wants begins_one allows bars answers blocks fails rows_told
answer_same request name query_text line version query rows it evidence = record { answered = refl; blocked = refl; memory = refl; requests = refl; rows = refl; unread = refl }

pub block_same : (request : ℕ) (name query_text : List ℕ) (line version : ℕ) (query : Query) (it : Why) (said_it : PrintedBlock) →
    SaysSame (said.Ask request name query_text) (Ask request version (reply.Blocked query it)) (printed.Block said_it line name version)
unfolding is_answer is_block is_memory is_begin rows_in unread_in wants begins_one allows bars answers blocks fails rows_told
block_same request name query_text line version query it said_it = record { answered = refl; blocked = refl; memory = refl; requests = refl; rows = refl; unread = refl }

pub unread_same : (request : ℕ) (name query_text : List ℕ) (line version : ℕ) (fault : ReadQueryFault) →
    SaysSame (said.Ask request name query_text) (Ask request version (reply.Unread fault)) (printed.Unread line name fault version)
unfolding is_answer is_block is_memory is_begin rows_in unread_in wants begins_one allows bars answers blocks fails rows_told
unread_same request name query_text line version fault = record { answered = refl; blocked = refl; memory = refl; requests = refl; rows = refl; unread = refl }

pub read_same : (request place questions : ℕ) (name key : List ℕ) (arguments : Context) (line version : ℕ) (queries : List Query) (bys : List By) (its : List Evidence) →
    SaysSame (said.Read request name place arguments questions) (Read request version place (key_reply.Allowed queries bys)) (printed.Read its key line name version)
unfolding is_answer is_block is_memory is_begin rows_in unread_in wants begins_one allows bars
read_same request place questions name key arguments line version queries bys its = record { answered = refl; blocked = refl; memory = refl; requests = refl; rows = refl; unread = refl }

pub read_block_same : (request place questions : ℕ) (name key : List ℕ) (arguments : Context) (line version : ℕ) (queries : List Query) (before : List By) (it : Why) (said_it : PrintedBlock) (query : ℕ) →
    SaysSame (said.Read request name place arguments questions) (Read request version place (key_reply.Blocked queries before it)) (printed.ReadBlock said_it key line query name version)
unfolding is_answer is_block is_memory is_begin rows_in unread_in wants begins_one allows bars
read_block_same request place questions name key arguments line version queries before it said_it query =
    record { answered = refl; blocked = refl; memory = refl; requests = refl; rows = refl; unread = refl }

-- and of lines
pub record CountSame (before : List Line) (past : List Entry) : Type 0 where
  pub answered : count_by is_answer (said_in before) ≡ count_by answers (flat_map reply_in past) + count_by allows past
  pub blocked : count_by is_block (said_in before) ≡ count_by blocks (flat_map reply_in past) + count_by bars past
  pub lines : length before ≡ length past
  pub memory : count_by is_memory (said_in before) ≡ count_by wants past
  pub requests : count_by (λ line. begins line.place) before ≡ count_by begins_one past
  pub rows : sum_by row_count (said_in before) ≡ sum_by rows_told (flat_map reply_in past)
  pub unread : count_by is_unread (said_in before) ≡ count_by fails (flat_map reply_in past)

pub none_same : CountSame [] []
none_same = record { answered = refl; blocked = refl; lines = refl; memory = refl; requests = refl; rows = refl; unread = refl }

both_sum : {X Y : Type 0} (f : X → ℕ) (g : Y → ℕ) (us bs cs : List X) (xs ys zs : List Y) → cs ≡ us ++ bs → zs ≡ xs ++ ys → sum_by f us ≡ sum_by g xs → sum_by f bs ≡ sum_by g ys → sum_by f cs ≡ sum_by g zs
both_sum f g us bs cs xs ys zs whole all front back =
    ap (sum_by f) whole ∙ sum_by-append f us bs ∙ (λ i. front i + back i) ∙ sym (sum_by-append g xs ys) ∙ ap (sum_by g) (sym all)

pub count_more : (before : List Line) (past : List Entry) (e : ScriptEntry) (it : Entry) (p : PrintedLine) → CountSame before past → SaysSame e it p → CountSame (before ++ line_at (entry e) (Ok p) ∷ []) (past ++ it ∷ [])
count_more before past e it p h one = record {
  answered = together is_answer answers allows h.answered one.answered;
  blocked = together is_block blocks bars h.blocked one.blocked;
  lines = length_push before (line_at (entry e) (Ok p)) ∙ ap (λ n. n + 1) h.lines ∙ sym (length_push past it);
  memory = both_sum (λ x. cond (is_memory x) 1 0) (λ x. cond (wants x) 1 0) (said_in before) (p ∷ []) (said_in after) past (it ∷ []) (past ++ it ∷ []) said_more refl h.memory one.memory;
  requests = both_sum (λ (x : Line). cond (begins x.place) 1 0) (λ x. cond (begins_one x) 1 0) before (line_at (entry e) (Ok p) ∷ []) after past (it ∷ []) (past ++ it ∷ []) refl refl h.requests one.requests;
  rows = said_sum row_count rows_told h.rows one.rows;
  unread = said_sum (λ x. cond (is_unread x) 1 0) (λ x. cond (fails x) 1 0) h.unread one.unread;
}
  where
    after : List Line
    after = before ++ line_at (entry e) (Ok p) ∷ []

    said_more : said_in after ≡ said_in before ++ p ∷ []
    said_more = listed-push (λ line. said_by line.reading) before (line_at (entry e) (Ok p))

    nothing_more : {X : Type 0} (xs : List X) → xs ++ [] ≡ xs
    nothing_more [] = refl
    nothing_more (x ∷ xs) = ap (λ z. x ∷ z) (nothing_more xs)

    replies_more : flat_map reply_in (past ++ it ∷ []) ≡ flat_map reply_in past ++ reply_in it
    replies_more = flat_map-append reply_in past (it ∷ []) ∙ ap (λ z. flat_map reply_in past ++ z) (nothing_more (reply_in it))

    -- questions and reads are counted together
    together : (f : PrintedLine → Bool) (g : Reply → Bool) (q : Entry → Bool) → count_by f (said_in before) ≡ count_by g (flat_map reply_in past) + count_by q past →
        count_by f (p ∷ []) ≡ count_by g (reply_in it) + count_by q (it ∷ []) →
        count_by f (said_in after) ≡ count_by g (flat_map reply_in (past ++ it ∷ [])) + count_by q (past ++ it ∷ [])
    together f g q front back =
        let a : count_by f (said_in after) ≡ count_by f (said_in before) + count_by f (p ∷ []) =
        ap (count_by f) said_more ∙ sum_by-append (λ x. cond (f x) 1 0) (said_in before) (p ∷ []) in
        let b : count_by g (flat_map reply_in (past ++ it ∷ [])) ≡ count_by g (flat_map reply_in past) + count_by g (reply_in it) =
        ap (count_by g) replies_more ∙ sum_by-append (λ x. cond (g x) 1 0) (flat_map reply_in past) (reply_in it) in
        let c : count_by q (past ++ it ∷ []) ≡ count_by q past + count_by q (it ∷ []) = sum_by-append (λ x. cond (q x) 1 0) past (it ∷ []) in
        omega (arith, a, b, c, front, back)

    said_sum : (f : PrintedLine → ℕ) (g : Reply → ℕ) → sum_by f (said_in before) ≡ sum_by g (flat_map reply_in past) → sum_by f (p ∷ []) ≡ sum_by g (reply_in it) →
        sum_by f (said_in after) ≡ sum_by g (flat_map reply_in (past ++ it ∷ []))
    said_sum f g front back = both_sum f g (said_in before) (p ∷ []) (said_in after) (flat_map reply_in past) (reply_in it) (flat_map reply_in (past ++ it ∷ [])) said_more replies_more front back

pub summaries_same : (before : List Line) (past : List Entry) → CountSame before past → counted_over past ≡ summary_of before
summaries_same before past h = λ i. record {
  answered = sym h.answered i;
  blocked = sym h.blocked i;
  lines = sym h.lines i;
  memory = sym h.memory i;
  requests = sym h.requests i;
  rows = sym h.rows i;
  unread = sym h.unread i;
}
