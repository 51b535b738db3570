-- What is printed says what was meant.
use Rattle.std.proofs.Common.{◌≡◌, ◌∙◌, ℕ, zero, suc, ◌<◌, List, [], ◌∷◌, ◌++◌, All, length, map, take, Bool, true, false, Option, Some, None, Result, Ok, Err, Ordering, Less, Equal, Greater, refl, sym, ap, subst, arith, codes}
use Rattle.std.specs.Cmp.Lexicographic.{slice_cmp}
use Rattle.std.specs.List.{AllByRecursion, AllZip, Any, IsDistinct}
use Rattle.std.specs.Ordering.{nat_cmp, match_ordering}
use Rattle.std.specs.Str.{IsAscii, IsUtf8, bytes_eq}
use Rattle.std.proofs.Math.Seq.{take-append_seam}
use Rattle.std.proofs.lemmas.List.Elements.{recursion_from_All}
use Rattle.std.proofs.lemmas.Str.{IsCharBoundary-at_seam, IsUtf8-from_ascii, IsUtf8-take}
use Rattle.std.proofs.lemmas.Str.Ascii.{IsAscii-nil}
use Rattle.serde_json.proofs.Views.{get_member-put, get_member-put_other}
use Rattle.serde_json.specs.Data.{Data, Members, number, object, string, no_members, member, put, unsigned}
use Rattle.serde_json.specs.Find.{get_member}
use Rattle.ba_model.specs.Readings.{each}
use Rattle.ba_model.specs.SchemaFaults.{AreDistinct, table_names}
use Rattle.ba_model.specs.declared.policy.Parameter.{Parameter}
use Rattle.ba_model.specs.declared.policy.Policy.{Policy}
use Rattle.ba_model.specs.declared.schema.Schema.{Schema}
use Rattle.ba_model.specs.declared.schema.Table.{Table}
use Rattle.ba_model.specs.declared.value.RowSet.{RowSet}
use Rattle.ba_model.specs.declared.value.Value.{Value}
use Rattle.ba_model.specs.declared.value.Value.TheVariants as value
use Rattle.ba_direct.specs.declared.covers.PartCover.{PartCover}
use Rattle.ba_evidence.specs.Evidence.{Evidence as Ground, answer_json, by_name as ground_name, covered, database_json, evidence_json, matched, name_json, pair_json, part_json, proved, read_json, refuted_json, refuted_read_json, with_tables}
use Rattle.ba_kernel.specs.declared.step.Step.{Step}
use Rattle.ba_proof.proofs.EntryLemmas.{all_say}
use Rattle.ba_proof.proofs.PutLemmas.{text_itself}
use Rattle.ba_proof.proofs.StepLemmas.{HasVersion, all_steps}
use Rattle.ba_proof.proofs.StepSaid.{step_is}
use Rattle.ba_proof.specs.ReadBack.{StepSpells, ValueSpells}
use Rattle.ba_proof.specs.Says.{HasField, SaysEach, SaysLong, SaysValue}
use Rattle.ba_proof.specs.Steps.{step_at}
use Rattle.ba_proof.specs.Written.{count as proof_count, list_json, step_json, value_json as proof_value}
use Rattle.ba_proof.specs.declared.version.TheConstants.{LAST_VERSION}
use Rattle.ba_refute.specs.declared.clause.Counterexample.{Counterexample}
use Rattle.ba_script.specs.Script.{IsJson}
use Rattle.ba_wire.specs.Printed.{Printed, begin, end, publish, answer, block, read, read_block, unread, memory, by_name, count, json_of, row_json, rows_json, summary_json, value_json}
use Rattle.ba_wire.specs.declared.line.Block.TheVariants as wire
use Rattle.ba_wire.specs.declared.summary.Summary.{Summary}
use Rattle.ba_printed.proofs.FieldLemmas.{each_zip}
use Rattle.ba_printed.proofs.LineSaid.{prints_said}
use Rattle.ba_printed.specs.Reading.{printed_of}
use Rattle.ba_printed.specs.ReadBack.{AnswerReadsBack, GroundSpells, LineIsJson, PairSpells, PlainReadsBack, ReadReadsBack, RefutedReadReadsBack, RefutedReadsBack, RowsSpell, SetSpells, SummaryReadsBack, meant, plain_line}
use Rattle.ba_printed.specs.Says.{HasTablesAlone, SaysEvidence, SaysLine, SaysOwnStep, SaysPart, SaysRow, SaysRows, SaysTables, by_of}
use Rattle.ba_printed.specs.declared.line.PrintedBlock.TheVariants as blocked
use Rattle.ba_printed.specs.declared.line.PrintedLine.{PrintedLine}
use Rattle.ba_printed.specs.declared.line.PrintedLine.TheVariants as form

some_is : {A : Type 0} (x y : A) → Some x ≡ Some y → x ≡ y
some_is x y e = cc e

long_told : (n : ℕ) → SaysLong (count n) n
long_told n = (unsigned n, refl, refl)

-- ---- rows

same_value : (v : Value) → proof_value v ≡ value_json v
same_value value.Null = refl
same_value (value.Int n) = refl
same_value (value.Text s) = refl

same_values : (vs : List Value) → map proof_value vs ≡ map value_json vs
same_values [] = refl
same_values (v ∷ vs) = rw (same_value v, same_values vs) refl

row_told : (row : List Value) → All ValueSpells row → SaysRow (row_json row) row
row_told row h = record {
  ds = map value_json row;
  is = refl;
  said = subst (λ ds. AllZip SaysValue ds row) (same_values row) (all_say row (recursion_from_All ValueSpells row h));
}

each_row : (rows : List (List Value)) → AllByRecursion (All ValueSpells) rows → AllZip SaysRow (map row_json rows) rows
each_row [] h = tt
each_row (row ∷ rows) h = (row_told row h.0, each_row rows h.1)

rows_told : (rows : List (List Value)) → RowsSpell rows → SaysRows (rows_json rows) rows
rows_told rows h = record { ds = map row_json rows; is = refl; said = each_row rows (recursion_from_All (All ValueSpells) rows h) }

-- ---- covers and steps

longs_told : (ns : List ℕ) → AllZip SaysLong (map count ns) ns
longs_told [] = tt
longs_told (n ∷ ns) = (long_told n, longs_told ns)

part_told : (part : PartCover) → SaysPart (part_json part) part
unfolding part_json
part_told part = record {
  a = list_json (map count part.places);
  b = count part.view;
  is = refl;
  places = record { ds = map count part.places; is = refl; said = longs_told part.places };
  view = long_told part.view;
}

parts_told : (parts : List PartCover) → AllZip SaysPart (map part_json parts) parts
parts_told [] = tt
parts_told (part ∷ parts) = (part_told part, parts_told parts)

-- the last version has steps by rules
any_version : (steps : List Step) → AllByRecursion (HasVersion LAST_VERSION) steps
any_version [] = tt
any_version (step ∷ steps) = (λ rule. refl, any_version steps)

steps_told : (policy : Policy) (steps : List Step) → AreDistinct (map (λ q. q.name) policy.params) → All (StepSpells policy.params 0) steps
    → SaysEach (SaysOwnStep policy) (list_json (map (step_json policy.params 0) steps)) steps
steps_told policy steps apart h = record {
  ds = map (step_json policy.params 0) steps;
  is = refl;
  said = each_zip (step_at policy.params 0 LAST_VERSION) (SaysOwnStep policy) (step_is policy.params 0 LAST_VERSION) (map (step_json policy.params 0) steps) steps
      (all_steps policy.params 0 LAST_VERSION steps apart (recursion_from_All (StepSpells policy.params 0) steps h) (any_version steps));
}

ground_told : (policy : Policy) (it : Ground) → AreDistinct (map (λ q. q.name) policy.params) → GroundSpells policy it → SaysEvidence policy (evidence_json policy.params it) (meant it)
ground_told policy (covered cover) apart h = record { ds = map part_json cover.parts; is = refl; said = parts_told cover.parts }
ground_told policy (matched steps) apart h = steps_told policy steps apart h
ground_told policy (proved steps) apart h = steps_told policy steps apart h

same_by : (it : Ground) → ground_name it ≡ by_name (by_of (meant it))
same_by (covered cover) = refl
same_by (matched steps) = refl
same_by (proved steps) = refl

-- ---- databases

put_alone : (tables : List Table) (k : List ℕ) (d : Data) (ms : Members) → Any (λ (table : Table). table.name ≡ k) tables → HasTablesAlone tables ms → HasTablesAlone tables (put k d ms)
put_alone tables k d no_members this h = (this, tt)
put_alone tables k d (member l e ms) this h = by (slice_cmp nat_cmp k l) (put_alone tables k d ms this h.1)
  where
    by : (o : Ordering) → HasTablesAlone tables (put k d ms) → HasTablesAlone tables (match_ordering o (member k d (member l e ms)) (member l d ms) (member l e (put k d ms)))
    by Less more = (this, h)
    by Equal more = (h.0, h.1)
    by Greater more = (h.0, more)

any_here : {X : Type 0} (P : X → Type 0) (x : X) (xs : List X) → P x → Any P (x ∷ xs)
any_here P x xs h = (0, x, omega arith, refl, h)

any_there : {X : Type 0} (P : X → Type 0) (x : X) (xs : List X) → Any P xs → Any P (x ∷ xs)
any_there P x xs (k, y, below, is, h) = (suc k, y, omega (arith, below), is, h)

abbrev IsIn : List Table → Table → Type 0
IsIn all it = Any (λ (table : Table). table.name ≡ it.name) all

one_more : (table : Table) (all tables : List Table) → AllByRecursion (IsIn all) tables → AllByRecursion (IsIn (table ∷ all)) tables
one_more table all [] h = tt
one_more table all (it ∷ tables) h = (any_there (λ (other : Table). other.name ≡ it.name) table all h.0, one_more table all tables h.1)

each_in : (tables : List Table) → AllByRecursion (IsIn tables) tables
each_in [] = tt
each_in (table ∷ tables) = (any_here (λ (other : Table). other.name ≡ table.name) table tables refl, one_more table tables tables (each_in tables))

tables_alone : (all tables : List Table) (sets : List (List (List Value))) (ms : Members) → AllByRecursion (IsIn all) tables → HasTablesAlone all ms
    → HasTablesAlone all (with_tables tables sets ms)
tables_alone all [] sets ms h alone = alone
tables_alone all (table ∷ tables) [] ms h alone = alone
tables_alone all (table ∷ tables) (rows ∷ sets) ms h alone =
    tables_alone all tables sets (put table.name (rows_json rows) ms) h.1 (put_alone all table.name (rows_json rows) ms h.0 alone)

differs : (a b : List ℕ) → bytes_eq a b ≡ false → a ≡ b → ⊥
differs a b e same = let wrong : true ≡ false = sym (text_itself a) ∙ (ap (bytes_eq a) same ∙ e) in cc wrong

others : (name : List ℕ) (tables : List Table) (sets : List (List (List Value))) (ms : Members) → AllByRecursion (λ other. bytes_eq name other ≡ false) (table_names tables)
    → get_member name (with_tables tables sets ms) ≡ get_member name ms
others name [] sets ms h = refl
others name (table ∷ tables) [] ms h = refl
others name (table ∷ tables) (rows ∷ sets) ms h =
    others name tables sets (put table.name (rows_json rows) ms) h.1 ∙ get_member-put_other name table.name (rows_json rows) ms (differs name table.name h.0)

each_table : (tables : List Table) (sets : List (List (List Value))) (ms : Members) → IsDistinct bytes_eq (table_names tables) → length sets ≡ length tables → AllByRecursion RowsSpell sets
    → AllZip (λ (table : Table) (rows : List (List Value)). HasField SaysRows table.name (object (with_tables tables sets ms)) rows) tables sets
unfolding IsDistinct
each_table [] [] ms apart wide h = tt
each_table [] (rows ∷ sets) ms apart wide h = absurd (omega (arith, wide))
each_table (table ∷ tables) [] ms apart wide h = absurd (omega (arith, wide))
each_table (table ∷ tables) (rows ∷ sets) ms apart wide h = (
  record {
    value = rows_json rows;
    there = others table.name tables sets (put table.name (rows_json rows) ms) apart.0 ∙ get_member-put table.name (rows_json rows) ms;
    says = rows_told rows h.0;
  },
  each_table tables sets (put table.name (rows_json rows) ms) apart.1 (omega (arith, wide)) h.1,
)

set_told : (schema : Schema) (set : RowSet) → AreDistinct (table_names schema.tables) → SetSpells schema.tables set → SaysTables schema.tables (database_json schema set) set
set_told schema set apart h = record {
  members = with_tables schema.tables set.tables no_members;
  is = refl;
  rows = each_table schema.tables set.tables no_members apart h.each (recursion_from_All RowsSpell set.tables h.rows);
  no_other = tables_alone schema.tables schema.tables set.tables no_members (each_in schema.tables) tt;
}

-- ---- the laws

plain_told : (policy : Policy) (p : Printed) (it : PrintedLine) → plain_line p ≡ Some it → SaysLine policy (json_of p) it
unfolding json_of
plain_told policy (begin request line version) it e =
    subst (SaysLine policy (json_of (begin request line version))) (some_is (form.Begin request line version) it e)
    (record { a = count line; b = count version; is = refl; line_is = long_told line; version_is = long_told version })
plain_told policy (end request line) it e =
    subst (SaysLine policy (json_of (end request line))) (some_is (form.End request line) it e) (record { a = count line; is = refl; line_is = long_told line })
plain_told policy (publish line set version) it e =
    subst (SaysLine policy (json_of (publish line set version))) (some_is (form.Publish line set version) it e)
    (record { a = count line; b = count version; is = refl; line_is = long_told line; version_is = long_told version })
plain_told policy (answer by line request rows version) it e = cc e
plain_told policy (block wire.Refuted line request version) it e = cc e
plain_told policy (block (wire.Spent steps) line request version) it e =
    subst (SaysLine policy (json_of (block (wire.Spent steps) line request version))) (some_is (form.Block (blocked.Spent steps) line request version) it e)
    (record { a = count line; b = count steps; c = count version; is = refl; line_is = long_told line; steps_are = long_told steps; version_is = long_told version })
plain_told policy (block (wire.Stuck clause) line request version) it e =
    subst (SaysLine policy (json_of (block (wire.Stuck clause) line request version))) (some_is (form.Block (blocked.Stuck clause) line request version) it e)
    (record { a = count line; b = count version; is = refl; line_is = long_told line; version_is = long_told version })
plain_told policy (read bys key line request version) it e = cc e
plain_told policy (read_block wire.Refuted key line query request version) it e = cc e
plain_told policy (read_block (wire.Spent steps) key line query request version) it e =
    subst (SaysLine policy (json_of (read_block (wire.Spent steps) key line query request version))) (some_is (form.ReadBlock (blocked.Spent steps) key line query request version) it e)
    (record {
      a = count line;
      b = count query;
      c = count steps;
      e = count version;
      is = refl;
      line_is = long_told line;
      query_is = long_told query;
      steps_are = long_told steps;
      version_is = long_told version;
    })
plain_told policy (read_block (wire.Stuck clause) key line query request version) it e =
    subst (SaysLine policy (json_of (read_block (wire.Stuck clause) key line query request version))) (some_is (form.ReadBlock (blocked.Stuck clause) key line query request version) it e)
    (record {
      a = count line;
      b = count query;
      c = count version;
      is = refl;
      line_is = long_told line;
      query_is = long_told query;
      version_is = long_told version;
    })
plain_told policy (unread line request fault version) it e =
    subst (SaysLine policy (json_of (unread line request fault version))) (some_is (form.Unread line request fault version) it e)
    (record { a = count line; b = count version; is = refl; line_is = long_told line; version_is = long_told version })
plain_told policy (memory line) it e =
    subst (SaysLine policy (json_of (memory line))) (some_is (form.Memory line) it e) (record { a = count line; is = refl; line_is = long_told line })

summary_told : (policy : Policy) (it : Summary) → SaysLine policy (summary_json it) (form.Summary it)
unfolding summary_json
summary_told policy it = record {
  a = count it.answered;
  b = count it.blocked;
  c = count it.lines;
  e = count it.memory;
  f = count it.requests;
  g = count it.rows;
  h = count it.unread;
  is = refl;
  answered_is = long_told it.answered;
  blocked_is = long_told it.blocked;
  lines_are = long_told it.lines;
  memory_is = long_told it.memory;
  requests_are = long_told it.requests;
  rows_are = long_told it.rows;
  unread_is = long_told it.unread;
}

answer_told : (policy : Policy) (it : Ground) (line : ℕ) (request : List ℕ) (rows : List (List Value)) (version : ℕ) → AreDistinct (map (λ q. q.name) policy.params) → GroundSpells policy it
    → RowsSpell rows → SaysLine policy (answer_json policy.params it line request rows version) (form.Answer (meant it) line request rows version)
unfolding answer_json
answer_told policy it line request rows version apart ground spelled = record {
  a = count line;
  b = evidence_json policy.params it;
  c = rows_json rows;
  e = count version;
  is = ap (λ by. object (member (codes "by") (string by) (member (codes "line") (count line) (member (codes "proof") (evidence_json policy.params it) (member (codes "request") (string request) (member (codes "rows") (rows_json rows) (member (codes "version") (count version) no_members))))))) (same_by it);
  line_is = long_told line;
  evidence_is = ground_told policy it apart ground;
  rows_are = rows_told rows spelled;
  version_is = long_told version;
}

-- ---- reads

same_names : (its : List Ground) → map name_json its ≡ map (λ by. string (by_name by)) (map by_of (map meant its))
same_names [] = refl
same_names (it ∷ its) =
    ap (λ s. string s ∷ map name_json its) (same_by it) ∙ ap (λ ds. string (by_name (by_of (meant it))) ∷ ds) (same_names its)

grounds_told : (policy : Policy) (its : List Ground) → AreDistinct (map (λ q. q.name) policy.params) → AllByRecursion (GroundSpells policy) its
    → AllZip (SaysEvidence policy) (map (evidence_json policy.params) its) (map meant its)
grounds_told policy [] apart h = tt
grounds_told policy (it ∷ its) apart h = (ground_told policy it apart h.0, grounds_told policy its apart h.1)

read_told : (policy : Policy) (its : List Ground) (key : List ℕ) (line : ℕ) (request : List ℕ) (version : ℕ) → AreDistinct (map (λ q. q.name) policy.params) → All (GroundSpells policy) its
    → SaysLine policy (read_json policy.params its key line request version) (form.Read (map meant its) key line request version)
unfolding read_json
read_told policy its key line request version apart h = record {
  a = count line;
  b = list_json (map (evidence_json policy.params) its);
  c = count version;
  is = ap (λ names. object (member (codes "by") (list_json names) (member (codes "key") (string key) (member (codes "line") (count line) (member (codes "proof") (list_json (map (evidence_json policy.params) its)) (member (codes "read") (string request) (member (codes "version") (count version) no_members))))))) (same_names its);
  line_is = long_told line;
  evidence_is = record { ds = map (evidence_json policy.params) its; is = refl; said = grounds_told policy its apart (recursion_from_All (GroundSpells policy) its h) };
  version_is = long_told version;
}

refuted_told : (policy : Policy) (pair : Counterexample) (line : ℕ) (request : List ℕ) (version : ℕ) → AreDistinct (table_names policy.schema.tables) → PairSpells policy.schema.tables pair
    → SaysLine policy (refuted_json policy.schema pair line request version) (form.Block (blocked.Refuted pair) line request version)
unfolding refuted_json pair_json
refuted_told policy pair line request version apart h = record {
  a = count line;
  b = pair_json policy.schema pair;
  c = count version;
  is = refl;
  line_is = long_told line;
  pair_is = record {
    a = database_json policy.schema pair.one;
    b = row_json pair.row;
    c = database_json policy.schema pair.two;
    is = refl;
    one = set_told policy.schema pair.one apart h.one;
    row = row_told pair.row h.row;
    two = set_told policy.schema pair.two apart h.two;
  };
  version_is = long_told version;
}

refuted_read_told : (policy : Policy) (pair : Counterexample) (key : List ℕ) (line query : ℕ) (request : List ℕ) (version : ℕ) → AreDistinct (table_names policy.schema.tables)
    → PairSpells policy.schema.tables pair
    → SaysLine policy (refuted_read_json policy.schema pair key line query request version) (form.ReadBlock (blocked.Refuted pair) key line query request version)
unfolding refuted_read_json pair_json
refuted_read_told policy pair key line query request version apart h = record {
  a = count line;
  b = pair_json policy.schema pair;
  c = count query;
  e = count version;
  is = refl;
  line_is = long_told line;
  pair_is = record {
    a = database_json policy.schema pair.one;
    b = row_json pair.row;
    c = database_json policy.schema pair.two;
    is = refl;
    one = set_told policy.schema pair.one apart h.one;
    row = row_told pair.row h.row;
    two = set_told policy.schema pair.two apart h.two;
  };
  query_is = long_told query;
  version_is = long_told version;
}

feed_ascii : IsAscii (10 ∷ [])
feed_ascii zero = omega arith
feed_ascii (suc i) = IsAscii-nil i

line_utf8 : (text bytes : List ℕ) → bytes ≡ text ++ 10 ∷ [] → IsUtf8 bytes → IsUtf8 text
line_utf8 text bytes e utf8 =
    let feed : IsUtf8 (10 ∷ []) = IsUtf8-from_ascii (10 ∷ []) feed_ascii in
    subst IsUtf8 (ap (take (length text)) e ∙ take-append_seam text (10 ∷ []))
    (IsUtf8-take bytes (length text) utf8 (IsCharBoundary-at_seam bytes text (10 ∷ []) e feed))

pub line_json : LineIsJson
line_json bytes d utf8 back = (back.text, back.ends, record { utf8 = line_utf8 back.text bytes back.ends utf8; reads = back.reads })

pub plain_back : PlainReadsBack
plain_back policy p it text e is = prints_said policy text it (json_of p, is, plain_told policy p it e)

pub summary_back : SummaryReadsBack
summary_back policy it text is = prints_said policy text (form.Summary it) (summary_json it, is, summary_told policy it)

pub answer_back : AnswerReadsBack
answer_back policy it line request rows version text apart ground spelled is =
    prints_said policy text (form.Answer (meant it) line request rows version)
    (answer_json policy.params it line request rows version, is, answer_told policy it line request rows version apart ground spelled)

pub refuted_back : RefutedReadsBack
refuted_back policy pair line request version text apart h is =
    prints_said policy text (form.Block (blocked.Refuted pair) line request version)
    (refuted_json policy.schema pair line request version, is, refuted_told policy pair line request version apart h)

pub read_back : ReadReadsBack
read_back policy its key line request version text apart h is =
    prints_said policy text (form.Read (map meant its) key line request version)
    (read_json policy.params its key line request version, is, read_told policy its key line request version apart h)

pub refuted_read_back : RefutedReadReadsBack
refuted_read_back policy pair key line query request version text apart h is =
    prints_said policy text (form.ReadBlock (blocked.Refuted pair) key line query request version)
    (refuted_read_json policy.schema pair key line query request version, is, refuted_read_told policy pair key line query request version apart h)
