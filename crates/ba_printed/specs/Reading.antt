-- What a printed line is, over the reading of its bytes as JSON.
use Rattle.std.specs.Prelude.{◌&&◌, ◌==◌, ℕ, Bool, true, false, List, [], ◌∷◌, codes, length, Option, Some, None, Result, Ok, Err, ⊤, if◌then◌else◌}
use Rattle.std.specs.List.{list_any}
use Rattle.std.specs.Str.{bytes_eq, is_utf8}
use Rattle.serde_json.specs.Data.{Data, Members, no_members, member}
use Rattle.serde_json.specs.Find.{as_null, as_object}
use Rattle.serde_json.specs.Read.{read}
use Rattle.ba_model.specs.Readings.{◌>>=◌, each, widened}
use Rattle.ba_model.specs.declared.policy.Parameter.{Parameter}
use Rattle.ba_model.specs.declared.policy.Policy.{Policy}
use Rattle.ba_model.specs.declared.schema.Table.{Table}
use Rattle.ba_model.specs.declared.value.RowSet.{RowSet}
use Rattle.ba_model.specs.declared.value.Value.{Value}
use Rattle.ba_model.specs.declared.value.Value.TheVariants as value
use Rattle.ba_direct.specs.declared.covers.Cover.{Cover}
use Rattle.ba_direct.specs.declared.covers.PartCover.{PartCover}
use Rattle.ba_kernel.specs.declared.step.Step.{Step}
use Rattle.ba_lex.specs.declared.token.LexFault.TheVariants as lex
use Rattle.ba_proof.specs.Steps.{step_at}
use Rattle.ba_proof.specs.declared.fault.ProofFault.{ProofFault}
use Rattle.ba_proof.specs.declared.version.TheConstants.{LAST_VERSION}
use Rattle.ba_refute.specs.declared.clause.Clause.{Clause}
use Rattle.ba_refute.specs.declared.clause.Clause.TheVariants as clause
use Rattle.ba_refute.specs.declared.clause.Counterexample.{Counterexample}
use Rattle.ba_script.specs.Script.{given_of}
use Rattle.ba_script.specs.declared.line.Given.{Given}
use Rattle.ba_script.specs.declared.line.Given.TheVariants as given
use Rattle.ba_sql_query.specs.declared.fault.ReadQueryFault.{ReadQueryFault}
use Rattle.ba_sql_query.specs.declared.fault.ReadQueryFault.TheVariants as query
use Rattle.ba_wire.specs.declared.line.By.{By}
use Rattle.ba_wire.specs.declared.line.By.TheVariants as by
use Rattle.ba_wire.specs.declared.summary.Summary.{Summary}
use Rattle.ba_printed.specs.Shapes.{field, is_true, keys_are, list_of, long_in, long_of, longs_of, only_if, or_form, text_in, text_of, word_in}
use Rattle.ba_printed.specs.declared.line.Evidence.{Evidence}
use Rattle.ba_printed.specs.declared.line.Evidence.TheVariants as evidence
use Rattle.ba_printed.specs.declared.line.LineReason.{LineReason}
use Rattle.ba_printed.specs.declared.line.LineReason.TheVariants.{Json, Shape}
use Rattle.ba_printed.specs.declared.line.PrintedBlock.{PrintedBlock}
use Rattle.ba_printed.specs.declared.line.PrintedBlock.TheVariants as blocked
use Rattle.ba_printed.specs.declared.line.PrintedLine.{PrintedLine}
use Rattle.ba_printed.specs.declared.line.PrintedLine.TheVariants as line
use Rattle.ba_printed.specs.declared.shapes.FormFault.{FormFault}
use Rattle.ba_printed.specs.declared.shapes.FormFault.TheVariants.{NoForm}

-- ---- rows

abbrev pub value_given : Option ⊤ → Given → Result Value FormFault
value_given (Some u) it = Ok value.Null
value_given None (given.Int n) = Ok (value.Int n)
value_given None (given.Text s) = Ok (value.Text s)
value_given None given.Other = Err NoForm

-- NULL of null, a whole number of 64 bits, or a text
unfoldable pub value_of : Data → Result Value FormFault
value_of d = value_given (as_null d) (given_of d)

unfoldable pub row_of : Data → Result (List Value) FormFault
row_of d = list_of d >>= each value_of

unfoldable pub rows_of : Data → Result (List (List Value)) FormFault
rows_of d = list_of d >>= each row_of

-- ---- pairs

abbrev pub is_table : List ℕ → Table → Bool
is_table name table = bytes_eq table.name name

-- each key is a table's name
abbrev pub are_tables : List Table → Members → Bool
are_tables tables no_members = true
are_tables tables (member k d more) = list_any (is_table k) tables && are_tables tables more

-- the rows under the table's name
unfoldable pub table_of : Data → Table → Result (List (List Value)) FormFault
table_of d table = field table.name d >>= rows_of

abbrev pub set_with : List (List (List Value)) → RowSet
set_with sets = record { tables = sets }

abbrev pub set_from : List Table → Data → Members → Result RowSet FormFault
set_from tables d members = if are_tables tables members then (each (table_of d) tables >>= λ sets. Ok (set_with sets)) else Err NoForm

-- the rows of each table, under exactly the tables' names
unfoldable pub set_of : List Table → Data → Result RowSet FormFault
set_of tables d = or_form (as_object d) >>= set_from tables d

abbrev pub set_in : List Table → List ℕ → Data → Result RowSet FormFault
set_in tables name d = field name d >>= set_of tables

abbrev pub row_in : List ℕ → Data → Result (List Value) FormFault
row_in name d = field name d >>= row_of

abbrev pub pair_keys : List (List ℕ)
pair_keys = codes "one" ∷ codes "row" ∷ codes "two" ∷ []

abbrev pub pair_with : RowSet → RowSet → List Value → Counterexample
pair_with one two row = record { one = one; two = two; row = row }

unfoldable pub pair_from : List Table → Data → Result Counterexample FormFault
pair_from tables d =
    row_in (codes "row") d >>= λ row. (set_in tables (codes "one") d >>= λ one. (set_in tables (codes "two") d >>= λ two. Ok (pair_with one two row)))

abbrev pub pair_form : List Table → Data → Members → Result Counterexample FormFault
pair_form tables d members = if keys_are pair_keys members then pair_from tables d else Err NoForm

abbrev pub pair_of : List Table → Data → Result Counterexample FormFault
pair_of tables d = or_form (as_object d) >>= pair_form tables d

-- ---- evidence

abbrev pub part_keys : List (List ℕ)
part_keys = codes "pairing" ∷ codes "view" ∷ []

abbrev pub part_with : ℕ → List ℕ → PartCover
part_with view places = record { view = view; places = places }

unfoldable pub part_from : Data → Result PartCover FormFault
part_from d = long_in (codes "view") d >>= λ view. (field (codes "pairing") d >>= longs_of >>= λ places. Ok (part_with view places))

abbrev pub part_form : Data → Members → Result PartCover FormFault
part_form d members = if keys_are part_keys members then part_from d else Err NoForm

-- a view and the places of its tables
abbrev pub part_of : Data → Result PartCover FormFault
part_of d = or_form (as_object d) >>= part_form d

abbrev pub cover_with : List PartCover → Cover
cover_with parts = record { parts = parts }

-- steps as proof files of the last version have them, without variables
abbrev pub steps_of : List Parameter → List Data → Result (List Step) FormFault
steps_of params ds = widened (λ (fault : ProofFault). NoForm) (each (step_at params 0 LAST_VERSION) ds)

-- by what the answer is
unfoldable pub evidence_named : List Parameter → List ℕ → List Data → Result Evidence FormFault
evidence_named params name ds =
    if bytes_eq name (codes "cover") then (each part_of ds >>= λ parts. Ok (evidence.Cover (cover_with parts)))
    else (if bytes_eq name (codes "template") then (steps_of params ds >>= λ steps. Ok (evidence.Template steps))
    else (if bytes_eq name (codes "proof") then (steps_of params ds >>= λ steps. Ok (evidence.Proof steps))
    else Err NoForm))

unfoldable pub evidence_in : List Parameter → Data → Result Evidence FormFault
evidence_in params d = text_in (codes "by") d >>= λ name. (field (codes "proof") d >>= list_of >>= evidence_named params name)

-- ---- evidence of reads

-- what a query rests on, by its name and its proof
unfoldable pub ground_of : List Parameter → Data → Data → Result Evidence FormFault
ground_of params name proof = text_of name >>= λ s. (list_of proof >>= evidence_named params s)

-- what each query rests on, one after another
abbrev pub grounds_of : List Parameter → List Data → List Data → Result (List Evidence) FormFault
grounds_of params [] proofs = Ok []
grounds_of params (name ∷ names) [] = Ok []
grounds_of params (name ∷ names) (proof ∷ proofs) =
    ground_of params name proof >>= λ it. (grounds_of params names proofs >>= λ more. Ok (it ∷ more))

unfoldable pub by_named : List ℕ → Result By FormFault
by_named s =
    if bytes_eq s (codes "cover") then Ok by.Cover
    else (if bytes_eq s (codes "template") then Ok by.Template
    else (if bytes_eq s (codes "proof") then Ok by.Proof
    else Err NoForm))

unfoldable pub by_at : Data → Result By FormFault
by_at d = text_of d >>= by_named

abbrev pub or_steps : List Parameter → List Data → Result Evidence FormFault → Result Evidence FormFault
or_steps params ds (Ok it) = Ok it
or_steps params ds (Err fault) = evidence_named params (codes "proof") ds

-- a proof that no name stands beside
unfoldable pub unnamed_of : List Parameter → Data → Result Evidence FormFault
unnamed_of params d = list_of d >>= λ ds. or_steps params ds (evidence_named params (codes "cover") ds)

-- ---- names

unfoldable pub clause_named : List ℕ → Result Clause FormFault
clause_named s =
    if bytes_eq s (codes "value") then Ok clause.Value
    else (if bytes_eq s (codes "conform_one") then Ok clause.ConformOne
    else (if bytes_eq s (codes "conform_two") then Ok clause.ConformTwo
    else (if bytes_eq s (codes "within") then Ok clause.Within
    else (if bytes_eq s (codes "shown") then Ok clause.Shown
    else (if bytes_eq s (codes "asked") then Ok clause.Asked
    else (if bytes_eq s (codes "absent") then Ok clause.Absent
    else Err NoForm))))))

-- the faults that a lexer tells
unfoldable pub lex_named : List ℕ → Result ReadQueryFault FormFault
lex_named s =
    if bytes_eq s (codes "too_long") then Ok (query.Lex lex.TooLong)
    else (if bytes_eq s (codes "bad_byte") then Ok (query.Lex lex.BadByte)
    else (if bytes_eq s (codes "open_quote") then Ok (query.Lex lex.OpenQuote)
    else (if bytes_eq s (codes "number_too_large") then Ok (query.Lex lex.NumberTooLarge)
    else Err NoForm)))

-- all but what isn't supported, whose word has a key of its own
unfoldable pub fault_named : List ℕ → Result ReadQueryFault FormFault
fault_named s =
    if bytes_eq s (codes "syntax") then Ok query.Syntax
    else (if bytes_eq s (codes "unknown_table") then Ok query.UnknownTable
    else (if bytes_eq s (codes "unknown_column") then Ok query.UnknownColumn
    else (if bytes_eq s (codes "ambiguous") then Ok query.Ambiguous
    else (if bytes_eq s (codes "unknown_param") then Ok query.UnknownParam
    else (if bytes_eq s (codes "kind_differs") then Ok query.KindDiffers
    else (if bytes_eq s (codes "order_on_text") then Ok query.OrderOnText
    else (if bytes_eq s (codes "head_differs") then Ok query.HeadDiffers
    else (if bytes_eq s (codes "too_many") then Ok query.TooMany
    else lex_named s))))))))

-- ---- the forms, each by its keys

unfoldable pub begin_from : Data → Result PrintedLine FormFault
begin_from d = text_in (codes "begin") d >>= λ begin. (long_in (codes "line") d >>= λ number. (long_in (codes "version") d >>= λ version. Ok (line.Begin begin number version)))

unfoldable pub end_from : Data → Result PrintedLine FormFault
end_from d = text_in (codes "end") d >>= λ end. (long_in (codes "line") d >>= λ number. Ok (line.End end number))

unfoldable pub publish_from : Data → Result PrintedLine FormFault
publish_from d =
    long_in (codes "line") d >>= λ number. (text_in (codes "publish") d >>= λ set. (long_in (codes "version") d >>= λ version. Ok (line.Publish number set version)))

unfoldable pub answer_from : List Parameter → Data → Result PrintedLine FormFault
answer_from params d =
    long_in (codes "line") d >>= λ number. (long_in (codes "version") d >>= λ version. (text_in (codes "request") d >>= λ request.
    (field (codes "rows") d >>= rows_of >>= λ rows. (evidence_in params d >>= λ it. Ok (line.Answer it number request rows version)))))

unfoldable pub refuted_from : List Table → Data → Result PrintedLine FormFault
refuted_from tables d =
    word_in (codes "refuted") (codes "blocked") d >>= λ said. (long_in (codes "line") d >>= λ number. (long_in (codes "version") d >>= λ version.
    (text_in (codes "request") d >>= λ request. (field (codes "pair") d >>= pair_of tables >>= λ pair. Ok (line.Block (blocked.Refuted pair) number request version)))))

unfoldable pub spent_from : Data → Result PrintedLine FormFault
spent_from d =
    word_in (codes "spent") (codes "blocked") d >>= λ said. (long_in (codes "line") d >>= λ number. (long_in (codes "version") d >>= λ version.
    (long_in (codes "steps") d >>= λ steps. (text_in (codes "request") d >>= λ request. Ok (line.Block (blocked.Spent steps) number request version)))))

unfoldable pub stuck_from : Data → Result PrintedLine FormFault
stuck_from d =
    word_in (codes "stuck") (codes "blocked") d >>= λ said. (long_in (codes "line") d >>= λ number. (long_in (codes "version") d >>= λ version.
    (text_in (codes "clause") d >>= clause_named >>= λ it. (text_in (codes "request") d >>= λ request. Ok (line.Block (blocked.Stuck it) number request version)))))

-- of a read whose names and proofs are not equally many
unfoldable pub uneven_from : List Parameter → List Data → List Data → Result PrintedLine FormFault
uneven_from params names proofs = each by_at names >>= λ bys. (each (unnamed_of params) proofs >>= λ its. Ok line.UnevenRead)

unfoldable pub even_from : List Parameter → List Data → List Data → List ℕ → ℕ → List ℕ → ℕ → Result PrintedLine FormFault
even_from params names proofs key number request version =
    grounds_of params names proofs >>= λ its. Ok (line.Read its key number request version)

unfoldable pub read_with : List Parameter → List Data → List Data → List ℕ → ℕ → List ℕ → ℕ → Result PrintedLine FormFault
read_with params names proofs key number request version =
    if length names == length proofs then even_from params names proofs key number request version else uneven_from params names proofs

unfoldable pub read_from : List Parameter → Data → Result PrintedLine FormFault
read_from params d =
    long_in (codes "line") d >>= λ number. (long_in (codes "version") d >>= λ version. (text_in (codes "key") d >>= λ key.
    (text_in (codes "read") d >>= λ request. (field (codes "by") d >>= list_of >>= λ names. (field (codes "proof") d >>= list_of >>= λ proofs.
    read_with params names proofs key number request version)))))

unfoldable pub refuted_read_from : List Table → Data → Result PrintedLine FormFault
refuted_read_from tables d =
    word_in (codes "refuted") (codes "blocked") d >>= λ said. (long_in (codes "line") d >>= λ number. (long_in (codes "version") d >>= λ version.
    (long_in (codes "query") d >>= λ query. (text_in (codes "key") d >>= λ key. (text_in (codes "read") d >>= λ request.
    (field (codes "pair") d >>= pair_of tables >>= λ pair. Ok (line.ReadBlock (blocked.Refuted pair) key number query request version)))))))

unfoldable pub spent_read_from : Data → Result PrintedLine FormFault
spent_read_from d =
    word_in (codes "spent") (codes "blocked") d >>= λ said. (long_in (codes "line") d >>= λ number. (long_in (codes "version") d >>= λ version.
    (long_in (codes "query") d >>= λ query. (long_in (codes "steps") d >>= λ steps. (text_in (codes "key") d >>= λ key.
    (text_in (codes "read") d >>= λ request. Ok (line.ReadBlock (blocked.Spent steps) key number query request version)))))))

unfoldable pub stuck_read_from : Data → Result PrintedLine FormFault
stuck_read_from d =
    word_in (codes "stuck") (codes "blocked") d >>= λ said. (long_in (codes "line") d >>= λ number. (long_in (codes "version") d >>= λ version.
    (long_in (codes "query") d >>= λ query. (text_in (codes "clause") d >>= clause_named >>= λ it. (text_in (codes "key") d >>= λ key.
    (text_in (codes "read") d >>= λ request. Ok (line.ReadBlock (blocked.Stuck it) key number query request version)))))))

unfoldable pub unread_from : Data → Result PrintedLine FormFault
unread_from d =
    long_in (codes "line") d >>= λ number. (long_in (codes "version") d >>= λ version.
    (text_in (codes "request") d >>= λ request. (text_in (codes "unread") d >>= fault_named >>= λ fault. Ok (line.Unread number request fault version))))

unfoldable pub unsupported_from : Data → Result PrintedLine FormFault
unsupported_from d =
    word_in (codes "unsupported") (codes "unread") d >>= λ said. (long_in (codes "line") d >>= λ number. (long_in (codes "version") d >>= λ version.
    (text_in (codes "request") d >>= λ request. (text_in (codes "word") d >>= λ word. Ok (line.Unread number request (query.Unsupported word) version)))))

unfoldable pub memory_from : Data → Result PrintedLine FormFault
memory_from d = long_in (codes "line") d >>= λ number. (field (codes "memory") d >>= is_true >>= λ said. Ok (line.Memory number))

abbrev pub summary_with : ℕ → ℕ → ℕ → ℕ → ℕ → ℕ → ℕ → PrintedLine
summary_with answered stopped lines memory requests rows unread =
    line.Summary (record { answered = answered; blocked = stopped; lines = lines; memory = memory; requests = requests; rows = rows; unread = unread })

unfoldable pub summary_from : Data → Result PrintedLine FormFault
summary_from d =
    long_in (codes "answered") d >>= λ answered. (long_in (codes "blocked") d >>= λ stopped. (long_in (codes "lines") d >>= λ lines.
    (long_in (codes "memory") d >>= λ memory. (long_in (codes "requests") d >>= λ requests. (long_in (codes "rows") d >>= λ rows.
    (long_in (codes "unread") d >>= λ unread. Ok (summary_with answered stopped lines memory requests rows unread)))))))

-- ---- which form

abbrev pub begin_keys : List (List ℕ)
begin_keys = codes "begin" ∷ codes "line" ∷ codes "version" ∷ []

abbrev pub end_keys : List (List ℕ)
end_keys = codes "end" ∷ codes "line" ∷ []

abbrev pub publish_keys : List (List ℕ)
publish_keys = codes "line" ∷ codes "publish" ∷ codes "version" ∷ []

abbrev pub answer_keys : List (List ℕ)
answer_keys = codes "by" ∷ codes "line" ∷ codes "proof" ∷ codes "request" ∷ codes "rows" ∷ codes "version" ∷ []

abbrev pub refuted_keys : List (List ℕ)
refuted_keys = codes "blocked" ∷ codes "line" ∷ codes "pair" ∷ codes "request" ∷ codes "version" ∷ []

abbrev pub spent_keys : List (List ℕ)
spent_keys = codes "blocked" ∷ codes "line" ∷ codes "request" ∷ codes "steps" ∷ codes "version" ∷ []

abbrev pub stuck_keys : List (List ℕ)
stuck_keys = codes "blocked" ∷ codes "clause" ∷ codes "line" ∷ codes "request" ∷ codes "version" ∷ []

abbrev pub unread_keys : List (List ℕ)
unread_keys = codes "line" ∷ codes "request" ∷ codes "unread" ∷ codes "version" ∷ []

abbrev pub unsupported_keys : List (List ℕ)
unsupported_keys = codes "line" ∷ codes "request" ∷ codes "unread" ∷ codes "version" ∷ codes "word" ∷ []

abbrev pub memory_keys : List (List ℕ)
memory_keys = codes "line" ∷ codes "memory" ∷ []

abbrev pub summary_keys : List (List ℕ)
summary_keys = codes "answered" ∷ codes "blocked" ∷ codes "lines" ∷ codes "memory" ∷ codes "requests" ∷ codes "rows" ∷ codes "unread" ∷ []

abbrev pub read_keys : List (List ℕ)
read_keys = codes "by" ∷ codes "key" ∷ codes "line" ∷ codes "proof" ∷ codes "read" ∷ codes "version" ∷ []

abbrev pub refuted_read_keys : List (List ℕ)
refuted_read_keys = codes "blocked" ∷ codes "key" ∷ codes "line" ∷ codes "pair" ∷ codes "query" ∷ codes "read" ∷ codes "version" ∷ []

abbrev pub spent_read_keys : List (List ℕ)
spent_read_keys = codes "blocked" ∷ codes "key" ∷ codes "line" ∷ codes "query" ∷ codes "read" ∷ codes "steps" ∷ codes "version" ∷ []

abbrev pub stuck_read_keys : List (List ℕ)
stuck_read_keys = codes "blocked" ∷ codes "clause" ∷ codes "key" ∷ codes "line" ∷ codes "query" ∷ codes "read" ∷ codes "version" ∷ []

-- of a read of a cache key
unfoldable pub read_of : Policy → Data → Members → Result PrintedLine FormFault
read_of policy d members =
    if keys_are read_keys members then read_from policy.params d
    else (if keys_are refuted_read_keys members then refuted_read_from policy.schema.tables d
    else (if keys_are spent_read_keys members then spent_read_from d
    else (if keys_are stuck_read_keys members then stuck_read_from d
    else Err NoForm)))

-- of a line that isn't a question's
unfoldable pub other_of : Policy → Data → Members → Result PrintedLine FormFault
other_of policy d members =
    if keys_are begin_keys members then begin_from d
    else (if keys_are end_keys members then end_from d
    else (if keys_are publish_keys members then publish_from d
    else (if keys_are memory_keys members then memory_from d
    else (if keys_are summary_keys members then summary_from d
    else read_of policy d members))))

-- of a block
unfoldable pub block_of : Policy → Data → Members → Result PrintedLine FormFault
block_of policy d members =
    if keys_are refuted_keys members then refuted_from policy.schema.tables d
    else (if keys_are spent_keys members then spent_from d
    else (if keys_are stuck_keys members then stuck_from d
    else other_of policy d members))

unfoldable pub form_of : Policy → Data → Members → Result PrintedLine FormFault
form_of policy d members =
    if keys_are answer_keys members then answer_from policy.params d
    else (if keys_are unread_keys members then unread_from d
    else (if keys_are unsupported_keys members then unsupported_from d
    else block_of policy d members))

abbrev pub line_at : Policy → Data → Result PrintedLine FormFault
line_at policy d = or_form (as_object d) >>= form_of policy d

-- ---- bytes

abbrev pub line_or : Policy → Option Data → Result PrintedLine LineReason
line_or policy None = Err Json
line_or policy (Some d) = widened (λ (fault : FormFault). Shape) (line_at policy d)

-- the line that the bytes are
unfoldable pub printed_of : Policy → List ℕ → Result PrintedLine LineReason
printed_of policy bytes = if is_utf8 bytes then line_or policy (read bytes) else Err Json
