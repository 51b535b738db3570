-- A file, by the function and in SQL's terms.
use Rattle.std.proofs.Common.{◌≡◌, ℕ, ◌<◌, ◌≤◌, ◌+◌, Bool, true, false, nat_lt, List, [], ◌∷◌, ◌++◌, length, Option, Some, None, Result, Ok, Err, refl, sym, ap, subst, ◌∙◌, arith}
use Rattle.std.proofs.lemmas.Bool.{ltb-false, ltb-true}
use Rattle.std.proofs.lemmas.List.Elements.{All-from_recursion, recursion_from_All}
use Rattle.ba_grammar.specs.declared.error.Syntax.{Syntax as OfGrammar}
use Rattle.ba_lex.specs.Tokens.{file_tokens_of, lexemes_of}
use Rattle.ba_lex.specs.declared.token.LexFault.{LexFault}
use Rattle.ba_lex.specs.declared.token.Token.{Token}
use Rattle.ba_model.specs.Readings.{◌>>=◌}
use Rattle.ba_model.specs.RuleFaults.{RuleFits}
use Rattle.ba_model.specs.SchemaFaults.{AreTables, IsFirstFault}
use Rattle.ba_model.specs.declared.check_schema.SchemaFault.{SchemaFault}
use Rattle.ba_model.specs.Limits.{most_rules, most_text_bytes}
use Rattle.ba_model.specs.declared.limits.Counted.{Counted}
use Rattle.ba_model.specs.declared.limits.Counted.TheVariants.{Rules}
use Rattle.ba_model.specs.declared.schema.Rule.{Rule}
use Rattle.ba_model.specs.declared.schema.Schema.{Schema}
use Rattle.ba_model.specs.declared.schema.Table.{Table}
use Rattle.ba_sql_ddl.specs.Check.{checked, first_fault}
use Rattle.ba_sql_ddl.specs.Inclusions.{Refuses, and_rules, rules_from, with_rules}
use Rattle.ba_sql_ddl.specs.Laws.{AreWords, HasNoForm, HasRuleFault, HasSchemaFault, HasTooMany, HasUnsupported, IsWrittenSchema, ReadsSchema, of_tables}
use Rattle.ba_sql_ddl.specs.Meaning.{draft_of}
use Rattle.ba_sql_ddl.specs.Reader.{statements_at, text_at}
use Rattle.ba_sql_ddl.specs.Reading.{schema_of, text_of}
use Rattle.ba_sql_ddl.specs.Scan.{scan}
use Rattle.ba_sql_ddl.specs.Written.{AreStatements, InclusionText, StatementText, inclusions_in, tables_in}
use Rattle.ba_sql_ddl.specs.declared.fault.DdlFault.{DdlFault}
use Rattle.ba_sql_ddl.specs.declared.fault.DdlFault.TheVariants.{Lex, Unsupported, Syntax, Schema as SchemaFaulty, TooMany, Rule as RuleFault}
use Rattle.ba_sql_query.specs.declared.fault.ReadQueryFault.{ReadQueryFault}
use Rattle.ba_sql_ddl.proofs.CheckLemmas.{no_fault, the_fault}
use Rattle.ba_sql_ddl.proofs.FaultLemmas.{Told, told}
use Rattle.ba_sql_ddl.proofs.InclusionLemmas.{FirstRefused, are_rules, all_moved, fault_complete as rule_fault_complete, fault_sound as rule_fault_sound, few_rules, few_texts, many_rules, rules_complete, rules_sound}
use Rattle.ba_sql_ddl.proofs.MeaningLemmas.{tables_complete, tables_sound}
use Rattle.ba_sql_ddl.proofs.ScanLemmas.{first_complete, first_sound, supported_complete, supported_sound}
use Rattle.ba_sql_ddl.proofs.StatementLemmas.{statements_complete, statements_sound}

-- ---- what the file gives, case by case

record Words (bytes : List ℕ) (tokens : List Token) : Type 0 where
  read : file_tokens_of most_text_bytes bytes ≡ Ok tokens
  supported : scan (lexemes_of tokens) ≡ None

record Texts (bytes : List ℕ) (statements : List StatementText) : Type 0 where
  tokens : List Token
  words : Words bytes tokens
  parsed : statements_at (lexemes_of tokens) ≡ Ok statements

-- the tables are a schema
record Checked (bytes : List ℕ) (statements : List StatementText) : Type 0 where
  texts : Texts bytes statements
  none : first_fault (draft_of (tables_in statements)) ≡ None

abbrev tables_of : List StatementText → Schema
tables_of statements = of_tables (draft_of (tables_in statements))

gives_lex : (bytes : List ℕ) (f : LexFault) → file_tokens_of most_text_bytes bytes ≡ Err f → schema_of bytes ≡ Err (Lex f)
unfolding schema_of
gives_lex bytes f e = rw e refl

gives_unsupported : (bytes : List ℕ) (tokens : List Token) (k : List ℕ) → file_tokens_of most_text_bytes bytes ≡ Ok tokens → scan (lexemes_of tokens) ≡ Some k → schema_of bytes ≡ Err (Unsupported k)
unfolding schema_of text_of
gives_unsupported bytes tokens k e h = rw (e, h) refl

gives_syntax : (bytes : List ℕ) (tokens : List Token) (s : OfGrammar) → Words bytes tokens → statements_at (lexemes_of tokens) ≡ Err s → schema_of bytes ≡ Err Syntax
unfolding schema_of text_of text_at
gives_syntax bytes tokens s w e = rw (w.read, w.supported, e) refl

gives_checked : (bytes : List ℕ) (statements : List StatementText) → Texts bytes statements → schema_of bytes ≡ (checked (draft_of (tables_in statements)) >>= λ s. with_rules s (inclusions_in statements))
unfolding schema_of text_of text_at
gives_checked bytes statements t = let w = t.words in rw (w.read, w.supported, t.parsed) refl

gives_fault : (bytes : List ℕ) (statements : List StatementText) (f : SchemaFault) → Texts bytes statements → first_fault (draft_of (tables_in statements)) ≡ Some f → schema_of bytes ≡ Err (SchemaFaulty f)
unfolding checked
gives_fault bytes statements f t e = gives_checked bytes statements t ∙ rw e refl

gives_ruled : (bytes : List ℕ) (statements : List StatementText) → Checked bytes statements → schema_of bytes ≡ with_rules (tables_of statements) (inclusions_in statements)
unfolding checked
gives_ruled bytes statements c = gives_checked bytes statements c.texts ∙ rw c.none refl

gives_many : (bytes : List ℕ) (statements : List StatementText) → Checked bytes statements → most_rules < length (inclusions_in statements) → schema_of bytes ≡ Err (TooMany Rules most_rules)
unfolding with_rules
gives_many bytes statements c lt = gives_ruled bytes statements c ∙ rw (many_rules (tables_of statements) (inclusions_in statements) lt) refl

gives_rule : (bytes : List ℕ) (statements : List StatementText) (f : DdlFault) → Checked bytes statements → length (inclusions_in statements) ≤ most_rules → rules_from (tables_of statements) 0 (inclusions_in statements) ≡ Err f → schema_of bytes ≡ Err f
unfolding with_rules
gives_rule bytes statements f c le e = gives_ruled bytes statements c ∙ rw (few_rules (tables_of statements) (inclusions_in statements) le) (rw e refl)

gives_schema : (bytes : List ℕ) (statements : List StatementText) (rules : List Rule) → Checked bytes statements → length (inclusions_in statements) ≤ most_rules → rules_from (tables_of statements) 0 (inclusions_in statements) ≡ Ok rules
    → schema_of bytes ≡ Ok (and_rules (tables_of statements) rules)
unfolding with_rules
gives_schema bytes statements rules c le e = gives_ruled bytes statements c ∙ rw (few_rules (tables_of statements) (inclusions_in statements) le) (rw e refl)

data Outcome (bytes : List ℕ) : Type 0 where
  lex : (f : LexFault) → file_tokens_of most_text_bytes bytes ≡ Err f → Outcome bytes
  unsupported : (tokens : List Token) (k : List ℕ) → file_tokens_of most_text_bytes bytes ≡ Ok tokens → scan (lexemes_of tokens) ≡ Some k → Outcome bytes
  syntax : (tokens : List Token) (s : OfGrammar) → Words bytes tokens → statements_at (lexemes_of tokens) ≡ Err s → Outcome bytes
  fault : (statements : List StatementText) (f : SchemaFault) → Texts bytes statements → first_fault (draft_of (tables_in statements)) ≡ Some f → Outcome bytes
  many : (statements : List StatementText) → Checked bytes statements → most_rules < length (inclusions_in statements) → Outcome bytes
  rule : (statements : List StatementText) (f : DdlFault) → Checked bytes statements → length (inclusions_in statements) ≤ most_rules → rules_from (tables_of statements) 0 (inclusions_in statements) ≡ Err f
      → FirstRefused (tables_of statements) 0 (inclusions_in statements) f → Outcome bytes
  right : (statements : List StatementText) (rules : List Rule) → Checked bytes statements → length (inclusions_in statements) ≤ most_rules → rules_from (tables_of statements) 0 (inclusions_in statements) ≡ Ok rules → Outcome bytes

outcome : (bytes : List ℕ) → Outcome bytes
outcome bytes = of_tokens (file_tokens_of most_text_bytes bytes) refl
  where
    of_rules : (statements : List StatementText) → Checked bytes statements → length (inclusions_in statements) ≤ most_rules → (r : Result (List Rule) DdlFault) → rules_from (tables_of statements) 0 (inclusions_in statements) ≡ r → Outcome bytes
    of_rules statements c le (Ok rules) e = right statements rules c le e
    of_rules statements c le (Err f) e = rule statements f c le e (rule_fault_sound (tables_of statements) 0 (inclusions_in statements) f e)

    of_count : (statements : List StatementText) → Checked bytes statements → (b : Bool) → nat_lt most_rules (length (inclusions_in statements)) ≡ b → Outcome bytes
    of_count statements c true e = many statements c (ltb-true most_rules (length (inclusions_in statements)) e)
    of_count statements c false e = of_rules statements c (ltb-false most_rules (length (inclusions_in statements)) e) (rules_from (tables_of statements) 0 (inclusions_in statements)) refl

    of_fault : (statements : List StatementText) → Texts bytes statements → (o : Option SchemaFault) → first_fault (draft_of (tables_in statements)) ≡ o → Outcome bytes
    of_fault statements t None e = of_count statements (record { texts = t; none = e }) (nat_lt most_rules (length (inclusions_in statements))) refl
    of_fault statements t (Some f) e = fault statements f t e

    of_tables_read : (tokens : List Token) → Words bytes tokens → (r : Result (List StatementText) OfGrammar) → statements_at (lexemes_of tokens) ≡ r → Outcome bytes
    of_tables_read tokens w (Err s) e = syntax tokens s w e
    of_tables_read tokens w (Ok statements) e = of_fault statements (record { tokens = tokens; words = w; parsed = e }) (first_fault (draft_of (tables_in statements))) refl

    of_scan : (tokens : List Token) → file_tokens_of most_text_bytes bytes ≡ Ok tokens → (o : Option (List ℕ)) → scan (lexemes_of tokens) ≡ o → Outcome bytes
    of_scan tokens r (Some k) e = unsupported tokens k r e
    of_scan tokens r None e = of_tables_read tokens (record { read = r; supported = e }) (statements_at (lexemes_of tokens)) refl

    of_tokens : (r : Result (List Token) LexFault) → file_tokens_of most_text_bytes bytes ≡ r → Outcome bytes
    of_tokens (Err f) e = lex f e
    of_tokens (Ok tokens) e = of_scan tokens e (scan (lexemes_of tokens)) refl

-- ---- the parts in SQL's terms

texts_written : (bytes : List ℕ) (statements : List StatementText) → Texts bytes statements → IsWrittenSchema bytes statements
texts_written bytes statements t =
    let w = t.words in
    record {
      words = lexemes_of t.tokens;
      are = record { tokens = t.tokens; read = w.read; say = refl };
      supported = supported_sound (lexemes_of t.tokens) w.supported;
      written = statements_sound (lexemes_of t.tokens) statements t.parsed;
    }

written_texts : (bytes : List ℕ) (statements : List StatementText) → IsWrittenSchema bytes statements → Texts bytes statements
written_texts bytes statements h =
    let a = h.are in
    record {
      tokens = a.tokens;
      words = record { read = a.read; supported = ap scan (sym a.say) ∙ supported_complete h.words h.supported };
      parsed = ap statements_at (sym a.say) ∙ statements_complete h.words statements h.written;
    }

well_formed : (tables : List Table) → first_fault tables ≡ None → AreTables tables
well_formed tables e = subst (λ (o : Option SchemaFault). Told o tables) e (told tables)

has_fault : (tables : List Table) (f : SchemaFault) → first_fault tables ≡ Some f → IsFirstFault f tables
has_fault tables f e = subst (λ (o : Option SchemaFault). Told o tables) e (told tables)

written_checked : (bytes : List ℕ) (statements : List StatementText) → IsWrittenSchema bytes statements → AreTables (draft_of (tables_in statements)) → Checked bytes statements
written_checked bytes statements h are = record { texts = written_texts bytes statements h; none = no_fault (draft_of (tables_in statements)) are }

reads_right : (bytes : List ℕ) (statements : List StatementText) (rules : List Rule) → Checked bytes statements → length (inclusions_in statements) ≤ most_rules → rules_from (tables_of statements) 0 (inclusions_in statements) ≡ Ok rules
    → ReadsSchema bytes (and_rules (tables_of statements) rules)
reads_right bytes statements rules c le e =
    let are = well_formed (draft_of (tables_in statements)) c.none in
    let read = rules_sound (tables_of statements) 0 (inclusions_in statements) rules e in
    record {
      statements = statements;
      written = texts_written bytes statements c.texts;
      tables = tables_sound (tables_in statements) are;
      rules = read.are;
      well_formed = record { tables = are; rules = are_rules (tables_of statements) (inclusions_in statements) rules le read };
    }

-- ---- the laws

schemas : (s t : Schema) → ◌≡◌ {A = Result Schema DdlFault} (Ok s) (Ok t) → s ≡ t
schemas s t e = cc

faults : (f g : DdlFault) → ◌≡◌ {A = Result Schema DdlFault} (Err f) (Err g) → f ≡ g
faults f g e = cc

pub schema_sound : (bytes : List ℕ) (s : Schema) → schema_of bytes ≡ Ok s → ReadsSchema bytes s
schema_sound bytes s e = of (outcome bytes)
  where
    of : Outcome bytes → ReadsSchema bytes s
    of (lex f h) = let wrong = sym (gives_lex bytes f h) ∙ e in cc
    of (unsupported tokens k r h) = let wrong = sym (gives_unsupported bytes tokens k r h) ∙ e in cc
    of (syntax tokens g w h) = let wrong = sym (gives_syntax bytes tokens g w h) ∙ e in cc
    of (fault ss f t h) = let wrong = sym (gives_fault bytes ss f t h) ∙ e in cc
    of (many ss c lt) = let wrong = sym (gives_many bytes ss c lt) ∙ e in cc
    of (rule ss f c le h r) = let wrong = sym (gives_rule bytes ss f c le h) ∙ e in cc
    of (right ss rules c le h) = subst (ReadsSchema bytes) (schemas (and_rules (tables_of ss) rules) s (sym (gives_schema bytes ss rules c le h) ∙ e)) (reads_right bytes ss rules c le h)

pub schema_complete : (bytes : List ℕ) (s : Schema) → ReadsSchema bytes s → schema_of bytes ≡ Ok s
schema_complete bytes s h =
    let formed = h.well_formed in
    let ruled = formed.rules in
    let tables_are : AreTables s.tables = formed.tables in
    let same : s.tables ≡ draft_of (tables_in h.statements) = tables_complete (tables_in h.statements) s.tables tables_are h.tables in
    let c = written_checked bytes h.statements h.written (subst AreTables same tables_are) in
    let few : length (inclusions_in h.statements) ≤ most_rules = few_texts (of_tables s.tables) (inclusions_in h.statements) s.rules h.rules ruled.few in
    let read : rules_from (of_tables s.tables) 0 (inclusions_in h.statements) ≡ Ok s.rules =
    rules_complete (of_tables s.tables) 0 (inclusions_in h.statements) s.rules h.rules (recursion_from_All (RuleFits (of_tables s.tables)) s.rules (all_moved s [] s.rules ruled.fit)) in
    let read_there : rules_from (tables_of h.statements) 0 (inclusions_in h.statements) ≡ Ok s.rules = subst (λ (ts : List Table). rules_from (of_tables ts) 0 (inclusions_in h.statements) ≡ Ok s.rules) same read in
    gives_schema bytes h.statements s.rules c few read_there ∙ (λ i. Ok (record { tables = sym same i; rules = s.rules }))

pub one_schema : (bytes : List ℕ) (s t : Schema) → ReadsSchema bytes s → ReadsSchema bytes t → s ≡ t
one_schema bytes s t a b = schemas s t (sym (schema_complete bytes s a) ∙ schema_complete bytes t b)

-- a fault that isn't of a rule
not_of_rule : (s : Schema) (texts : List InclusionText) (f g : DdlFault) → FirstRefused s 0 texts f → f ≡ g → (n : ℕ) × (told : ReadQueryFault) × (g ≡ RuleFault n told)
not_of_rule s texts f g r e = (0 + length r.before, r.told, sym e ∙ r.is)

pub lex_sound : (bytes : List ℕ) (g : LexFault) → schema_of bytes ≡ Err (Lex g) → file_tokens_of most_text_bytes bytes ≡ Err g
lex_sound bytes g e = of (outcome bytes)
  where
    no_rule : (n : ℕ) (told : ReadQueryFault) → ◌≡◌ {A = DdlFault} (Lex g) (RuleFault n told) → ⊥
    no_rule n told e = cc

    of : Outcome bytes → file_tokens_of most_text_bytes bytes ≡ Err g
    of (lex f h) = let found = sym (gives_lex bytes f h) ∙ e in let same : f ≡ g = cc in h ∙ ap (λ (x : LexFault). Err x) same
    of (unsupported tokens k r h) = let wrong = sym (gives_unsupported bytes tokens k r h) ∙ e in cc
    of (syntax tokens s w h) = let wrong = sym (gives_syntax bytes tokens s w h) ∙ e in cc
    of (fault ss f t h) = let wrong = sym (gives_fault bytes ss f t h) ∙ e in cc
    of (many ss c lt) = let wrong = sym (gives_many bytes ss c lt) ∙ e in cc
    of (rule ss f c le h r) = let n = not_of_rule (tables_of ss) (inclusions_in ss) f (Lex g) r (faults f (Lex g) (sym (gives_rule bytes ss f c le h) ∙ e)) in absurd (no_rule n.0 n.1 n.2)
    of (right ss rules c le h) = let wrong = sym (gives_schema bytes ss rules c le h) ∙ e in cc

pub lex_complete : (bytes : List ℕ) (g : LexFault) → file_tokens_of most_text_bytes bytes ≡ Err g → schema_of bytes ≡ Err (Lex g)
lex_complete bytes g e = gives_lex bytes g e

pub unsupported_sound : (bytes word : List ℕ) → schema_of bytes ≡ Err (Unsupported word) → HasUnsupported bytes word
unsupported_sound bytes word e = of (outcome bytes)
  where
    no_rule : (n : ℕ) (told : ReadQueryFault) → ◌≡◌ {A = DdlFault} (Unsupported word) (RuleFault n told) → ⊥
    no_rule n told e = cc

    of : Outcome bytes → HasUnsupported bytes word
    of (lex f h) = let wrong = sym (gives_lex bytes f h) ∙ e in cc
    of (unsupported tokens k r h) =
        let found = sym (gives_unsupported bytes tokens k r h) ∙ e in
        let same : k ≡ word = cc in
        record { words = lexemes_of tokens; are = record { tokens = tokens; read = r; say = refl }; first = first_sound (lexemes_of tokens) word (h ∙ ap (λ (w : List ℕ). Some w) same) }
    of (syntax tokens s w h) = let wrong = sym (gives_syntax bytes tokens s w h) ∙ e in cc
    of (fault ss f t h) = let wrong = sym (gives_fault bytes ss f t h) ∙ e in cc
    of (many ss c lt) = let wrong = sym (gives_many bytes ss c lt) ∙ e in cc
    of (rule ss f c le h r) =
        let n = not_of_rule (tables_of ss) (inclusions_in ss) f (Unsupported word) r (faults f (Unsupported word) (sym (gives_rule bytes ss f c le h) ∙ e)) in absurd (no_rule n.0 n.1 n.2)
    of (right ss rules c le h) = let wrong = sym (gives_schema bytes ss rules c le h) ∙ e in cc

pub unsupported_complete : (bytes word : List ℕ) → HasUnsupported bytes word → schema_of bytes ≡ Err (Unsupported word)
unsupported_complete bytes word h = let a = h.are in gives_unsupported bytes a.tokens word a.read (ap scan (sym a.say) ∙ first_complete h.words word h.first)

pub syntax_sound : (bytes : List ℕ) → schema_of bytes ≡ Err Syntax → HasNoForm bytes
syntax_sound bytes e = of (outcome bytes)
  where
    no_rule : (n : ℕ) (told : ReadQueryFault) → ◌≡◌ {A = DdlFault} Syntax (RuleFault n told) → ⊥
    no_rule n told e = cc

    of : Outcome bytes → HasNoForm bytes
    of (lex f h) = let wrong = sym (gives_lex bytes f h) ∙ e in cc
    of (unsupported tokens k r h) = let wrong = sym (gives_unsupported bytes tokens k r h) ∙ e in cc
    of (syntax tokens s w h) = record {
      words = lexemes_of tokens;
      are = record { tokens = tokens; read = w.read; say = refl };
      supported = supported_sound (lexemes_of tokens) w.supported;
      none = λ (ss : List StatementText) (a : AreStatements ss (lexemes_of tokens)). refused s ss (sym h ∙ statements_complete (lexemes_of tokens) ss a);
    }
      where
        refused : (s : OfGrammar) (ss : List StatementText) → ◌≡◌ {A = Result (List StatementText) OfGrammar} (Err s) (Ok ss) → ⊥
        refused s ss e = cc
    of (fault ss f t h) = let wrong = sym (gives_fault bytes ss f t h) ∙ e in cc
    of (many ss c lt) = let wrong = sym (gives_many bytes ss c lt) ∙ e in cc
    of (rule ss f c le h r) = let n = not_of_rule (tables_of ss) (inclusions_in ss) f Syntax r (faults f Syntax (sym (gives_rule bytes ss f c le h) ∙ e)) in absurd (no_rule n.0 n.1 n.2)
    of (right ss rules c le h) = let wrong = sym (gives_schema bytes ss rules c le h) ∙ e in cc

pub syntax_complete : (bytes : List ℕ) → HasNoForm bytes → schema_of bytes ≡ Err Syntax
syntax_complete bytes h = of (statements_at (lexemes_of a.tokens)) refl
  where
    a : AreWords bytes h.words
    a = h.are

    w : Words bytes h.are.tokens
    w = record { read = h.are.read; supported = ap scan (sym h.are.say) ∙ supported_complete h.words h.supported }

    of : (r : Result (List StatementText) OfGrammar) → statements_at (lexemes_of h.are.tokens) ≡ r → schema_of bytes ≡ Err Syntax
    of (Err s) e = gives_syntax bytes h.are.tokens s w e
    of (Ok ss) e = absurd (h.none ss (statements_sound h.words ss (ap statements_at h.are.say ∙ e)))

pub fault_sound : (bytes : List ℕ) (g : SchemaFault) → schema_of bytes ≡ Err (SchemaFaulty g) → HasSchemaFault bytes g
fault_sound bytes g e = of (outcome bytes)
  where
    no_rule : (n : ℕ) (told : ReadQueryFault) → ◌≡◌ {A = DdlFault} (SchemaFaulty g) (RuleFault n told) → ⊥
    no_rule n told e = cc

    of : Outcome bytes → HasSchemaFault bytes g
    of (lex f h) = let wrong = sym (gives_lex bytes f h) ∙ e in cc
    of (unsupported tokens k r h) = let wrong = sym (gives_unsupported bytes tokens k r h) ∙ e in cc
    of (syntax tokens s w h) = let wrong = sym (gives_syntax bytes tokens s w h) ∙ e in cc
    of (fault ss f t h) =
        let found = sym (gives_fault bytes ss f t h) ∙ e in
        let same : f ≡ g = cc in
        record { statements = ss; written = texts_written bytes ss t; first = has_fault (draft_of (tables_in ss)) g (h ∙ ap (λ (x : SchemaFault). Some x) same) }
    of (many ss c lt) = let wrong = sym (gives_many bytes ss c lt) ∙ e in cc
    of (rule ss f c le h r) = let n = not_of_rule (tables_of ss) (inclusions_in ss) f (SchemaFaulty g) r (faults f (SchemaFaulty g) (sym (gives_rule bytes ss f c le h) ∙ e)) in absurd (no_rule n.0 n.1 n.2)
    of (right ss rules c le h) = let wrong = sym (gives_schema bytes ss rules c le h) ∙ e in cc

pub fault_complete : (bytes : List ℕ) (g : SchemaFault) → HasSchemaFault bytes g → schema_of bytes ≡ Err (SchemaFaulty g)
fault_complete bytes g h = gives_fault bytes h.statements g (written_texts bytes h.statements h.written) (the_fault g (draft_of (tables_in h.statements)) h.first)

pub many_sound : (bytes : List ℕ) (what : Counted) (limit : ℕ) → schema_of bytes ≡ Err (TooMany what limit) → HasTooMany bytes what limit
many_sound bytes what limit e = of (outcome bytes)
  where
    no_rule : (n : ℕ) (told : ReadQueryFault) → ◌≡◌ {A = DdlFault} (TooMany what limit) (RuleFault n told) → ⊥
    no_rule n told e = cc

    what_is : ◌≡◌ {A = Result Schema DdlFault} (Err (TooMany Rules most_rules)) (Err (TooMany what limit)) → what ≡ Rules
    what_is e = cc

    limit_is : ◌≡◌ {A = Result Schema DdlFault} (Err (TooMany Rules most_rules)) (Err (TooMany what limit)) → limit ≡ most_rules
    limit_is e = cc

    of : Outcome bytes → HasTooMany bytes what limit
    of (lex f h) = let wrong = sym (gives_lex bytes f h) ∙ e in cc
    of (unsupported tokens k r h) = let wrong = sym (gives_unsupported bytes tokens k r h) ∙ e in cc
    of (syntax tokens s w h) = let wrong = sym (gives_syntax bytes tokens s w h) ∙ e in cc
    of (fault ss f t h) = let wrong = sym (gives_fault bytes ss f t h) ∙ e in cc
    of (many ss c lt) =
        let found = sym (gives_many bytes ss c lt) ∙ e in
        record { statements = ss; written = texts_written bytes ss c.texts; tables = well_formed (draft_of (tables_in ss)) c.none; many = lt; of_rules = what_is found; most = limit_is found }
    of (rule ss f c le h r) = let n = not_of_rule (tables_of ss) (inclusions_in ss) f (TooMany what limit) r (faults f (TooMany what limit) (sym (gives_rule bytes ss f c le h) ∙ e)) in absurd (no_rule n.0 n.1 n.2)
    of (right ss rules c le h) = let wrong = sym (gives_schema bytes ss rules c le h) ∙ e in cc

pub many_complete : (bytes : List ℕ) (what : Counted) (limit : ℕ) → HasTooMany bytes what limit → schema_of bytes ≡ Err (TooMany what limit)
many_complete bytes what limit h =
    let is = h.of_rules in
    let most = h.most in
    gives_many bytes h.statements (written_checked bytes h.statements h.written h.tables) h.many ∙ (λ i. Err (TooMany (sym is i) (sym most i)))

pub rule_sound : (bytes : List ℕ) (number : ℕ) (g : ReadQueryFault) → schema_of bytes ≡ Err (RuleFault number g) → HasRuleFault bytes number g
rule_sound bytes number g e = of (outcome bytes)
  where
    numbers : (n : ℕ) (f : ReadQueryFault) → ◌≡◌ {A = DdlFault} (RuleFault n f) (RuleFault number g) → number ≡ n
    numbers n f e = cc

    told_is : (n : ℕ) (f : ReadQueryFault) → ◌≡◌ {A = DdlFault} (RuleFault n f) (RuleFault number g) → f ≡ g
    told_is n f e = cc

    of : Outcome bytes → HasRuleFault bytes number g
    of (lex f h) = let wrong = sym (gives_lex bytes f h) ∙ e in cc
    of (unsupported tokens k r h) = let wrong = sym (gives_unsupported bytes tokens k r h) ∙ e in cc
    of (syntax tokens s w h) = let wrong = sym (gives_syntax bytes tokens s w h) ∙ e in cc
    of (fault ss f t h) = let wrong = sym (gives_fault bytes ss f t h) ∙ e in cc
    of (many ss c lt) = let wrong = sym (gives_many bytes ss c lt) ∙ e in cc
    of (rule ss f c le h r) =
        let is : RuleFault (0 + length r.before) r.told ≡ RuleFault number g = sym r.is ∙ faults f (RuleFault number g) (sym (gives_rule bytes ss f c le h) ∙ e) in
        let n = numbers (0 + length r.before) r.told is in
        record {
          statements = ss;
          written = texts_written bytes ss c.texts;
          tables = well_formed (draft_of (tables_in ss)) c.none;
          few = le;
          before = r.before;
          text = r.text;
          after = r.after;
          are = r.are;
          numbered = omega (arith, n);
          rules = r.rules;
          read = r.read;
          fit = All-from_recursion (RuleFits (tables_of ss)) r.rules r.fit;
          refused = subst (Refuses (tables_of ss) r.text) (told_is (0 + length r.before) r.told is) r.refused;
        }
    of (right ss rules c le h) = let wrong = sym (gives_schema bytes ss rules c le h) ∙ e in cc

pub rule_complete : (bytes : List ℕ) (number : ℕ) (g : ReadQueryFault) → HasRuleFault bytes number g → schema_of bytes ≡ Err (RuleFault number g)
rule_complete bytes number g h =
    let s : Schema = tables_of h.statements in
    let told : rules_from s 0 (h.before ++ h.text ∷ h.after) ≡ Err (RuleFault (0 + length h.before) g) =
    rule_fault_complete s 0 h.before h.text h.after h.rules g h.read (recursion_from_All (RuleFits s) h.rules h.fit) h.refused in
    let numbered = h.numbered in
    let number_is : 0 + length h.before ≡ number = omega (arith, numbered) in
    let read : rules_from s 0 (inclusions_in h.statements) ≡ Err (RuleFault number g) = ap (rules_from s 0) h.are ∙ told ∙ ap (λ (n : ℕ). Err (RuleFault n g)) number_is in
    gives_rule bytes h.statements (RuleFault number g) (written_checked bytes h.statements h.written h.tables) h.few read
