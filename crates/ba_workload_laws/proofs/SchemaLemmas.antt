-- The schema's text reads as the schema: its tokens, its statements, its tables.
use Rattle.std.proofs.Common.{◌≡◌, ℕ, List, [], ◌∷◌, false, true, length, nat_lt, None, Ok, refl, codes}
use Rattle.std.specs.Str.{is_utf8}
use Rattle.std.proofs.lemmas.Str.{is_utf8-from_IsUtf8}
use Rattle.json.proofs.Printed.Utf8.{IsUtf8-are_ascii}
use Rattle.ba_grammar.specs.Front as front
use Rattle.ba_grammar.specs.Items as items
use Rattle.ba_lex.specs.Tokens as lex
use Rattle.ba_lex.specs.Word as word
use Rattle.ba_lex.specs.declared.token.Lexeme.{Lexeme}
use Rattle.ba_lex.specs.declared.token.Lexeme.TheVariants as lexemes
use Rattle.ba_lex.specs.declared.token.Sign.TheVariants as sign
use Rattle.ba_lex.specs.declared.token.Token.{Token}
use Rattle.ba_model.specs.Limits.{most_text_bytes}
use Rattle.ba_sql_ddl.specs.Brackets as brackets
use Rattle.ba_sql_ddl.specs.Check as check
use Rattle.ba_sql_ddl.specs.Inclusions as inclusions
use Rattle.ba_sql_ddl.specs.Meaning as meaning
use Rattle.ba_sql_ddl.specs.Reader as ddl
use Rattle.ba_sql_ddl.specs.Reading as reading
use Rattle.ba_sql_ddl.specs.Scan as scans
use Rattle.ba_sql_ddl.specs.Written.{WrittenSchema}
use Rattle.ba_sql_ddl.specs.declared.written.ColumnRule.TheVariants as rules
use Rattle.ba_sql_ddl.specs.declared.written.ColumnRule.{ColumnRule}
use Rattle.ba_sql_ddl.specs.declared.written.TableItem.{TableItem}
use Rattle.ba_sql_ddl.specs.declared.written.TableItem.TheVariants.{Column, Constraint}
use Rattle.ba_sql_ddl.specs.declared.written.TableRule.TheVariants as table_rules
use Rattle.ba_sql_ddl.specs.declared.written.TypeWord.{TypeWord}
use Rattle.ba_sql_ddl.specs.declared.written.TypeWord.TheVariants as types
use Rattle.ba_workload_laws.specs.Reads.{SchemaReadsBack}
use Rattle.ba_workload.specs.Standard.{schema, schema_text}

abbrev tok : Lexeme → ℕ → ℕ → Token
tok x a b = record { lexeme = x; start = a; end = b }

abbrev schema_tokens : List Token
schema_tokens =
    tok (lexemes.Word (codes "CREATE")) 0 6
    ∷ tok (lexemes.Word (codes "TABLE")) 7 12
    ∷ tok (lexemes.Word (codes "Users")) 13 18
    ∷ tok (lexemes.Sign sign.LeftParen) 19 20
    ∷ tok (lexemes.Word (codes "UId")) 20 23
    ∷ tok (lexemes.Word (codes "INT")) 24 27
    ∷ tok (lexemes.Word (codes "PRIMARY")) 28 35
    ∷ tok (lexemes.Word (codes "KEY")) 36 39
    ∷ tok (lexemes.Sign sign.Comma) 39 40
    ∷ tok (lexemes.Word (codes "Name")) 41 45
    ∷ tok (lexemes.Word (codes "TEXT")) 46 50
    ∷ tok (lexemes.Word (codes "NOT")) 51 54
    ∷ tok (lexemes.Word (codes "NULL")) 55 59
    ∷ tok (lexemes.Sign sign.RightParen) 59 60
    ∷ tok (lexemes.Sign sign.Semicolon) 60 61
    ∷ tok (lexemes.Word (codes "CREATE")) 62 68
    ∷ tok (lexemes.Word (codes "TABLE")) 69 74
    ∷ tok (lexemes.Word (codes "Events")) 75 81
    ∷ tok (lexemes.Sign sign.LeftParen) 82 83
    ∷ tok (lexemes.Word (codes "EId")) 83 86
    ∷ tok (lexemes.Word (codes "INT")) 87 90
    ∷ tok (lexemes.Word (codes "PRIMARY")) 91 98
    ∷ tok (lexemes.Word (codes "KEY")) 99 102
    ∷ tok (lexemes.Sign sign.Comma) 102 103
    ∷ tok (lexemes.Word (codes "Title")) 104 109
    ∷ tok (lexemes.Word (codes "TEXT")) 110 114
    ∷ tok (lexemes.Word (codes "NOT")) 115 118
    ∷ tok (lexemes.Word (codes "NULL")) 119 123
    ∷ tok (lexemes.Sign sign.Comma) 123 124
    ∷ tok (lexemes.Word (codes "Duration")) 125 133
    ∷ tok (lexemes.Word (codes "INT")) 134 137
    ∷ tok (lexemes.Word (codes "NOT")) 138 141
    ∷ tok (lexemes.Word (codes "NULL")) 142 146
    ∷ tok (lexemes.Sign sign.RightParen) 146 147
    ∷ tok (lexemes.Sign sign.Semicolon) 147 148
    ∷ tok (lexemes.Word (codes "CREATE")) 149 155
    ∷ tok (lexemes.Word (codes "TABLE")) 156 161
    ∷ tok (lexemes.Word (codes "Attendances")) 162 173
    ∷ tok (lexemes.Sign sign.LeftParen) 174 175
    ∷ tok (lexemes.Word (codes "UId")) 175 178
    ∷ tok (lexemes.Word (codes "INT")) 179 182
    ∷ tok (lexemes.Word (codes "NOT")) 183 186
    ∷ tok (lexemes.Word (codes "NULL")) 187 191
    ∷ tok (lexemes.Word (codes "REFERENCES")) 192 202
    ∷ tok (lexemes.Word (codes "Users")) 203 208
    ∷ tok (lexemes.Sign sign.LeftParen) 209 210
    ∷ tok (lexemes.Word (codes "UId")) 210 213
    ∷ tok (lexemes.Sign sign.RightParen) 213 214
    ∷ tok (lexemes.Sign sign.Comma) 214 215
    ∷ tok (lexemes.Word (codes "EId")) 218 221
    ∷ tok (lexemes.Word (codes "INT")) 222 225
    ∷ tok (lexemes.Word (codes "NOT")) 226 229
    ∷ tok (lexemes.Word (codes "NULL")) 230 234
    ∷ tok (lexemes.Word (codes "REFERENCES")) 235 245
    ∷ tok (lexemes.Word (codes "Events")) 246 252
    ∷ tok (lexemes.Sign sign.LeftParen) 253 254
    ∷ tok (lexemes.Word (codes "EId")) 254 257
    ∷ tok (lexemes.Sign sign.RightParen) 257 258
    ∷ tok (lexemes.Sign sign.Comma) 258 259
    ∷ tok (lexemes.Word (codes "At")) 260 262
    ∷ tok (lexemes.Word (codes "INT")) 263 266
    ∷ tok (lexemes.Word (codes "NOT")) 267 270
    ∷ tok (lexemes.Word (codes "NULL")) 271 275
    ∷ tok (lexemes.Sign sign.Comma) 275 276
    ∷ tok (lexemes.Word (codes "PRIMARY")) 277 284
    ∷ tok (lexemes.Word (codes "KEY")) 285 288
    ∷ tok (lexemes.Sign sign.LeftParen) 289 290
    ∷ tok (lexemes.Word (codes "UId")) 290 293
    ∷ tok (lexemes.Sign sign.Comma) 293 294
    ∷ tok (lexemes.Word (codes "EId")) 295 298
    ∷ tok (lexemes.Sign sign.RightParen) 298 299
    ∷ tok (lexemes.Sign sign.RightParen) 299 300
    ∷ tok (lexemes.Sign sign.Semicolon) 300 301
    ∷ []

abbrev column : List ℕ → TypeWord → List ColumnRule → TableItem
column name type all = Column (record { name = name; type_text = record { word = type; size = None }; rules = all })

abbrev written : WrittenSchema
written = record {
  tables =
      record { name = codes "Users"; items = column (codes "UId") types.Int (rules.PrimaryKey ∷ []) ∷ column (codes "Name") types.Text (rules.NotNull ∷ []) ∷ [] }
      ∷ record { name = codes "Events"; items = column (codes "EId") types.Int (rules.PrimaryKey ∷ []) ∷ column (codes "Title") types.Text (rules.NotNull ∷ []) ∷ column (codes "Duration") types.Int (rules.NotNull ∷ []) ∷ [] }
      ∷ record {
        name = codes "Attendances";
        items =
            column (codes "UId") types.Int (rules.NotNull ∷ rules.References (codes "Users") (codes "UId" ∷ []) ∷ [])
            ∷ column (codes "EId") types.Int (rules.NotNull ∷ rules.References (codes "Events") (codes "EId" ∷ []) ∷ [])
            ∷ column (codes "At") types.Int (rules.NotNull ∷ [])
            ∷ Constraint (record { label = None; rule = table_rules.PrimaryKey (codes "UId" ∷ codes "EId" ∷ []) })
            ∷ [];
      }
      ∷ [];
  inclusions = [];
}

is_text : is_utf8 schema_text ≡ true
unfolding schema_text
is_text = is_utf8-from_IsUtf8 schema_text (IsUtf8-are_ascii schema_text refl)

lexed : lex.tokens_from schema_text 0 0 ≡ Ok schema_tokens
unfolding schema_text lex.front lex.lexeme_of lex.tokens_from
lexed = refl

few_bytes : nat_lt most_text_bytes (length schema_text) ≡ false
unfolding schema_text
few_bytes = refl

tokens_are : lex.file_tokens_of most_text_bytes schema_text ≡ Ok schema_tokens
unfolding lex.file_tokens_of
tokens_are = rw (few_bytes, is_text) lexed

scanned : scans.scan (lex.lexemes_of schema_tokens) ≡ None
unfolding scans.unsupported_keyword scans.past_queries scans.scan_from scans.scan word.is_word ddl.behind_rule
scanned = refl

parsed : ddl.text_at (lex.lexemes_of schema_tokens) ≡ Ok written
unfolding word.is_word front.any_at front.name_at front.number_at front.more front.all items.is_among brackets.close_at ddl.names_at ddl.size_at ddl.type_word_at ddl.type_at ddl.references_at ddl.not_null_at ddl.primary_key_at ddl.rule_at ddl.rules_at ddl.column_at ddl.primary_at ddl.unique_at ddl.foreign_at ddl.table_rule_at ddl.label_at ddl.constraint_at ddl.item_at ddl.table_at ddl.behind_rule ddl.behind_within ddl.behind_end ddl.inclusion_at ddl.statement_at ddl.text_at
parsed = refl

checked : check.checked (meaning.draft_of written.tables) ≡ Ok schema
unfolding check.first_fault check.checked meaning.draft_of
checked = refl

ruled : inclusions.with_rules schema written.inclusions ≡ Ok schema
unfolding inclusions.heads_match inclusions.rule_of inclusions.rules_of inclusions.with_rules
ruled = refl

pub schema_reads : SchemaReadsBack
unfolding reading.schema_of reading.text_of
schema_reads = rw (tokens_are, scanned, parsed, checked, ruled) refl
