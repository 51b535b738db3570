-- The policy's text reads as the policy: its tokens, its statements, its views.
use Rattle.std.proofs.Common.{◌≡◌, ℕ, List, [], ◌∷◌, false, true, length, nat_lt, Ok, refl, codes}
use Rattle.std.specs.Str.{is_utf8}
use Rattle.std.proofs.lemmas.Str.{is_utf8-from_IsUtf8}
use Rattle.json.proofs.Printed.Utf8.{IsUtf8-are_ascii}
use Rattle.ba_grammar.specs.Front as front
use Rattle.ba_grammar.specs.Items as items
use Rattle.ba_lex.specs.Tokens as lex
use Rattle.ba_lex.specs.Word as word
use Rattle.ba_lex.specs.declared.token.Lexeme.{Lexeme}
use Rattle.ba_lex.specs.declared.token.Lexeme.TheVariants as lexemes
use Rattle.ba_lex.specs.declared.token.Sign.TheVariants as sign
use Rattle.ba_lex.specs.declared.token.Token.{Token}
use Rattle.ba_model.specs.Limits.{most_text_bytes}
use Rattle.ba_model.specs.declared.schema.Kind.TheVariants as kind
use Rattle.ba_policy.specs.Meaning as meaning
use Rattle.ba_policy.specs.Reader as reader
use Rattle.ba_policy.specs.Reading as reading
use Rattle.ba_policy.specs.Statements.{StatementText, param, view}
use Rattle.ba_sql_query.specs.Errors as errors
use Rattle.ba_sql_query.specs.Meaning as means
use Rattle.ba_sql_query.specs.Names as names
use Rattle.ba_sql_query.specs.Parts as parts
use Rattle.ba_sql_query.specs.Resolve as resolve
use Rattle.ba_sql_query.specs.Texts as texts
use Rattle.ba_sql_syntax.specs.Reader as sql
use Rattle.ba_sql_syntax.specs.Scan as scans
use Rattle.ba_sql_syntax.specs.Terminals as terminals
use Rattle.ba_sql_syntax.specs.Written as written
use Rattle.ba_workload_laws.specs.Reads.{PolicyReadsBack, policy}
use Rattle.ba_workload.specs.Standard.{policy_text, schema}

abbrev tok : Lexeme → ℕ → ℕ → Token
tok x a b = record { lexeme = x; start = a; end = b }

abbrev policy_tokens : List Token
policy_tokens =
    tok (lexemes.Word (codes "PARAM")) 0 5
    ∷ tok (lexemes.Word (codes "MyUId")) 6 11
    ∷ tok (lexemes.Word (codes "INT")) 12 15
    ∷ tok (lexemes.Sign sign.Semicolon) 15 16
    ∷ tok (lexemes.Word (codes "CREATE")) 17 23
    ∷ tok (lexemes.Word (codes "VIEW")) 24 28
    ∷ tok (lexemes.Word (codes "V1")) 29 31
    ∷ tok (lexemes.Word (codes "AS")) 32 34
    ∷ tok (lexemes.Word (codes "SELECT")) 35 41
    ∷ tok (lexemes.Word (codes "UId")) 42 45
    ∷ tok (lexemes.Sign sign.Comma) 45 46
    ∷ tok (lexemes.Word (codes "Name")) 47 51
    ∷ tok (lexemes.Word (codes "FROM")) 52 56
    ∷ tok (lexemes.Word (codes "Users")) 57 62
    ∷ tok (lexemes.Sign sign.Semicolon) 62 63
    ∷ tok (lexemes.Word (codes "CREATE")) 64 70
    ∷ tok (lexemes.Word (codes "VIEW")) 71 75
    ∷ tok (lexemes.Word (codes "V2")) 76 78
    ∷ tok (lexemes.Word (codes "AS")) 79 81
    ∷ tok (lexemes.Word (codes "SELECT")) 82 88
    ∷ tok (lexemes.Word (codes "UId")) 89 92
    ∷ tok (lexemes.Sign sign.Comma) 92 93
    ∷ tok (lexemes.Word (codes "EId")) 94 97
    ∷ tok (lexemes.Sign sign.Comma) 97 98
    ∷ tok (lexemes.Word (codes "At")) 99 101
    ∷ tok (lexemes.Word (codes "FROM")) 102 106
    ∷ tok (lexemes.Word (codes "Attendances")) 107 118
    ∷ tok (lexemes.Word (codes "WHERE")) 119 124
    ∷ tok (lexemes.Word (codes "UId")) 125 128
    ∷ tok (lexemes.Sign sign.Equal) 129 130
    ∷ tok (lexemes.Param (codes "MyUId")) 131 137
    ∷ tok (lexemes.Sign sign.Semicolon) 137 138
    ∷ tok (lexemes.Word (codes "CREATE")) 139 145
    ∷ tok (lexemes.Word (codes "VIEW")) 146 150
    ∷ tok (lexemes.Word (codes "V3")) 151 153
    ∷ tok (lexemes.Word (codes "AS")) 154 156
    ∷ tok (lexemes.Word (codes "SELECT")) 157 163
    ∷ tok (lexemes.Word (codes "e")) 164 165
    ∷ tok (lexemes.Sign sign.Dot) 165 166
    ∷ tok (lexemes.Word (codes "EId")) 166 169
    ∷ tok (lexemes.Sign sign.Comma) 169 170
    ∷ tok (lexemes.Word (codes "e")) 171 172
    ∷ tok (lexemes.Sign sign.Dot) 172 173
    ∷ tok (lexemes.Word (codes "Title")) 173 178
    ∷ tok (lexemes.Sign sign.Comma) 178 179
    ∷ tok (lexemes.Word (codes "e")) 180 181
    ∷ tok (lexemes.Sign sign.Dot) 181 182
    ∷ tok (lexemes.Word (codes "Duration")) 182 190
    ∷ tok (lexemes.Word (codes "FROM")) 191 195
    ∷ tok (lexemes.Word (codes "Events")) 196 202
    ∷ tok (lexemes.Word (codes "e")) 203 204
    ∷ tok (lexemes.Word (codes "JOIN")) 207 211
    ∷ tok (lexemes.Word (codes "Attendances")) 212 223
    ∷ tok (lexemes.Word (codes "a")) 224 225
    ∷ tok (lexemes.Word (codes "ON")) 226 228
    ∷ tok (lexemes.Word (codes "a")) 229 230
    ∷ tok (lexemes.Sign sign.Dot) 230 231
    ∷ tok (lexemes.Word (codes "EId")) 231 234
    ∷ tok (lexemes.Sign sign.Equal) 235 236
    ∷ tok (lexemes.Word (codes "e")) 237 238
    ∷ tok (lexemes.Sign sign.Dot) 238 239
    ∷ tok (lexemes.Word (codes "EId")) 239 242
    ∷ tok (lexemes.Word (codes "WHERE")) 243 248
    ∷ tok (lexemes.Word (codes "a")) 249 250
    ∷ tok (lexemes.Sign sign.Dot) 250 251
    ∷ tok (lexemes.Word (codes "UId")) 251 254
    ∷ tok (lexemes.Sign sign.Equal) 255 256
    ∷ tok (lexemes.Param (codes "MyUId")) 257 263
    ∷ tok (lexemes.Sign sign.Semicolon) 263 264
    ∷ []

abbrev words_1 : List Lexeme
words_1 = (lexemes.Word (codes "SELECT")) ∷ (lexemes.Word (codes "UId")) ∷ (lexemes.Sign sign.Comma) ∷ (lexemes.Word (codes "Name")) ∷ (lexemes.Word (codes "FROM")) ∷ (lexemes.Word (codes "Users")) ∷ []

abbrev words_2 : List Lexeme
words_2 = (lexemes.Word (codes "SELECT")) ∷ (lexemes.Word (codes "UId")) ∷ (lexemes.Sign sign.Comma) ∷ (lexemes.Word (codes "EId")) ∷ (lexemes.Sign sign.Comma) ∷ (lexemes.Word (codes "At")) ∷ (lexemes.Word (codes "FROM")) ∷ (lexemes.Word (codes "Attendances")) ∷ (lexemes.Word (codes "WHERE")) ∷ (lexemes.Word (codes "UId")) ∷ (lexemes.Sign sign.Equal) ∷ (lexemes.Param (codes "MyUId")) ∷ []

abbrev words_3 : List Lexeme
words_3 = (lexemes.Word (codes "SELECT")) ∷ (lexemes.Word (codes "e")) ∷ (lexemes.Sign sign.Dot) ∷ (lexemes.Word (codes "EId")) ∷ (lexemes.Sign sign.Comma) ∷ (lexemes.Word (codes "e")) ∷ (lexemes.Sign sign.Dot) ∷ (lexemes.Word (codes "Title")) ∷ (lexemes.Sign sign.Comma) ∷ (lexemes.Word (codes "e")) ∷ (lexemes.Sign sign.Dot) ∷ (lexemes.Word (codes "Duration")) ∷ (lexemes.Word (codes "FROM")) ∷ (lexemes.Word (codes "Events")) ∷ (lexemes.Word (codes "e")) ∷ (lexemes.Word (codes "JOIN")) ∷ (lexemes.Word (codes "Attendances")) ∷ (lexemes.Word (codes "a")) ∷ (lexemes.Word (codes "ON")) ∷ (lexemes.Word (codes "a")) ∷ (lexemes.Sign sign.Dot) ∷ (lexemes.Word (codes "EId")) ∷ (lexemes.Sign sign.Equal) ∷ (lexemes.Word (codes "e")) ∷ (lexemes.Sign sign.Dot) ∷ (lexemes.Word (codes "EId")) ∷ (lexemes.Word (codes "WHERE")) ∷ (lexemes.Word (codes "a")) ∷ (lexemes.Sign sign.Dot) ∷ (lexemes.Word (codes "UId")) ∷ (lexemes.Sign sign.Equal) ∷ (lexemes.Param (codes "MyUId")) ∷ []

abbrev statements : List StatementText
statements = param (codes "MyUId") kind.Int ∷ view (codes "V1") words_1 ∷ view (codes "V2") words_2 ∷ view (codes "V3") words_3 ∷ []

is_text : is_utf8 policy_text ≡ true
unfolding policy_text
is_text = is_utf8-from_IsUtf8 policy_text (IsUtf8-are_ascii policy_text refl)

lexed : lex.tokens_from policy_text 0 0 ≡ Ok policy_tokens
unfolding policy_text lex.front lex.lexeme_of lex.tokens_from
lexed = refl

few_bytes : nat_lt most_text_bytes (length policy_text) ≡ false
unfolding policy_text
few_bytes = refl

tokens_are : lex.file_tokens_of most_text_bytes policy_text ≡ Ok policy_tokens
unfolding lex.file_tokens_of
tokens_are = rw (few_bytes, is_text) lexed

parsed : reader.statements_at (lex.lexemes_of policy_tokens) ≡ Ok statements
unfolding word.is_word front.any_at front.name_at front.number_at front.more front.all items.is_among reader.kind_at reader.up_to_end reader.param_at reader.view_at reader.argument_at reader.some_arguments_at reader.arguments_at reader.parted_from reader.key_at reader.created_at reader.statement_at
parsed = refl

meant : reading.policy_of_statements schema statements ≡ Ok policy
unfolding word.is_word front.any_at front.name_at front.number_at front.more front.all items.is_among meaning.first_repeat meaning.queries_of reading.policy_of_statements errors.rank means.fault_of means.query_of_written names.table_of names.param_of names.source_of names.place_of names.column_at names.meant names.column_of names.constant_of names.operand_of parts.after parts.members parts.select_parts parts.count_after resolve.item_of resolve.heads_of resolve.test_of resolve.node_of resolve.tables_of resolve.select_of resolve.constant_lacks resolve.side_lacks resolve.test_lacks resolve.node_lacks resolve.item_lacks resolve.heads_lack resolve.select_lacks resolve.first_of_names resolve.names_of texts.query_of_words texts.query_of sql.name_at sql.constant_at sql.run sql.alias_at sql.column_at sql.side_at sql.comparison_at sql.compared_at sql.among_at sql.null_at sql.test_at sql.want_step sql.have_step sql.condition_at sql.item_at sql.heads_at sql.source_at sql.free_source sql.on_source sql.cross_source sql.next_source sql.has_source sql.sources_at sql.where_at sql.select_at sql.union_step sql.selects_at sql.text_of scans.begins_null scans.in_null_test scans.is_refused scans.scan terminals.is_unsupported terminals.has_meaning terminals.word_terminal written.written_of
meant = refl

pub policy_reads : PolicyReadsBack
unfolding reading.policy_of
policy_reads = rw (tokens_are, parsed) meant
